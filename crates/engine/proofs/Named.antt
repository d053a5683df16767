-- 2, 3 and 4, with which the kinds begin that name an account and a contract: the tests as the code makes them on the state as it lies
-- are the rules', whatever the areas hold; stated once over a kind's test of 4 and what follows it. Assumes nothing.
use mathlib.Core.Bool.{Bool, true, false}
use mathlib.Core.List.{List, [], ◌∷◌, ◌++◌}
use mathlib.Core.Path.{◌≡◌, refl, sym, ap, ◌∙◌}
use Prim.Native.Nat.{ℕ, ◌<◌, ◌≤◌}
use native.Mathlib.Omega.{arith}
use lib.ListN.{get_or}
use Rattle.laws.specs.Choice.{pick}
use Rattle.rules.specs.Answers.{Refusal, ◌when◌, absent_refusals, first_of, named_refusals}
use Rattle.rules.specs.Bounds.{max_accounts}
use Rattle.rules.specs.Exchange.{absent, is_absent, listing_at, no_contract, place_of}
use Rattle.rules.specs.Memory.{Declared, Memory, exchange_of, listing_in, memory}
use Rattle.rules.specs.declared.Contract.{Contract}
use Rattle.rules.specs.declared.State.{State}
use Rattle.theory.proofs.InUse.{accounts_in_use, contracts_in_use, listing_in_use}
use Rattle.theory.proofs.Refusals.{Failed, first_here}
use Rattle.engine.specs.Outcome.{AbsentIs}
use Rattle.engine.proofs.Tests.{place_below}

-- ---- 2 and 3, and what follows them

module _ {s : State} (d : Declared s) (few : s.accountcount ≤ max_accounts) (buys sells trades : List ℕ) (account contract : ℕ) where
  abbrev m : Memory
  m = memory s buys sells trades

  no_account_lem : absent account (exchange_of m).accounts ≡ is_absent account s.accountcount
  unfolding absent
  no_account_lem = rw (accounts_in_use m (omega (arith, d.accounts))) refl

  no_contract_lem : absent contract (exchange_of m).listings ≡ is_absent contract s.contractcount
  unfolding absent
  no_contract_lem = rw (contracts_in_use m) refl

  module _ (rest : List Refusal) where
    abbrev code : ℕ
    code = first_of (absent_refusals (exchange_of m) account contract ++ rest)

    code_is : code ≡ pick (is_absent account s.accountcount) 2 (pick (is_absent contract s.contractcount) 3 (first_of rest))
    unfolding first_of
    code_is = rw (no_account_lem, no_contract_lem) refl

    pub no_such_account : is_absent account s.accountcount ≡ true → 2 ≡ code
    no_such_account e = sym (code_is ∙ rw e refl)

    module _ (a : is_absent account s.accountcount ≡ false) where
      pub no_such_contract : is_absent contract s.contractcount ≡ true → 3 ≡ code
      no_such_contract e = sym (code_is ∙ rw (a, e) refl)

      pub both_there : is_absent contract s.contractcount ≡ false → code ≡ first_of rest
      both_there e = code_is ∙ rw (a, e) refl

    -- their code as a call gives it
    pub one_absent : {told : ℕ} → AbsentIs s.accountcount s.contractcount account contract told → (told ≡ 0 → ⊥) → told ≡ code
    one_absent is some =
        let e = is.first s refl refl d buys sells trades in
        e ∙ first_here (absent_refusals (exchange_of m) account contract) rest (λ z. some (e ∙ z))

-- the promise of a call that tests them, which has the counts alone
module _ {accounts contracts : ℕ} (few : accounts ≤ max_accounts) (account contract : ℕ) where
  pub account_absent : is_absent account accounts ≡ true → AbsentIs accounts contracts account contract 2
  account_absent e =
      record {
        first = λ s ea ec d buys sells trades. no_such_account d (omega (arith, few, ea)) buys sells trades account contract [] (ap (is_absent account) ea ∙ e);
        account_in_use_lem = λ z. absurd (omega (arith, z));
        contract_in_use_lem = λ z. absurd (omega (arith, z));
      }

  module _ (a : is_absent account accounts ≡ false) where
    pub contract_absent : is_absent contract contracts ≡ true → AbsentIs accounts contracts account contract 3
    contract_absent e =
        record {
          first = λ s ea ec d buys sells trades. no_such_contract d (omega (arith, few, ea)) buys sells trades account contract [] (ap (is_absent account) ea ∙ a) (ap (is_absent contract) ec ∙ e);
          account_in_use_lem = λ z. a;
          contract_in_use_lem = λ z. absurd (omega (arith, z));
        }

    pub none_absent : is_absent contract contracts ≡ false → AbsentIs accounts contracts account contract 0
    unfolding first_of
    none_absent e =
        record {
          first = λ s ea ec d buys sells trades. sym (both_there d (omega (arith, few, ea)) buys sells trades account contract [] (ap (is_absent account) ea ∙ a) (ap (is_absent contract) ec ∙ e));
          account_in_use_lem = λ z. a;
          contract_in_use_lem = λ z. e;
        }

-- ---- 4 after them, and what follows it

module _ {s : State} (d : Declared s) (few : s.accountcount ≤ max_accounts) (buys sells trades : List ℕ) (forbids : Contract → Bool) (account contract : ℕ) where
  abbrev lying : Memory
  lying = memory s buys sells trades

  -- the contract as it lies
  abbrev terms : Contract
  terms = get_or s.contracts (place_of contract) no_contract

  module _ (rest : List Refusal) (a : is_absent account s.accountcount ≡ false) (c : is_absent contract s.contractcount ≡ false) where
    abbrev named : ℕ
    named = first_of (named_refusals (exchange_of lying) forbids account contract ++ rest)

    named_is : named ≡ pick (forbids (listing_at (exchange_of lying) (place_of contract)).contract) 4 (first_of rest)
    unfolding first_of
    named_is = both_there d few buys sells trades account contract ((4 when forbids (listing_at (exchange_of lying) (place_of contract)).contract) ∷ rest) a c

    terms_is : forbids (listing_at (exchange_of lying) (place_of contract)).contract ≡ forbids terms
    unfolding listing_in
    terms_is = rw (listing_in_use lying (place_of contract) (place_below contract s.contractcount c).1)

    pub forbidden : forbids terms ≡ true → 4 ≡ named
    forbidden e = sym (named_is ∙ rw (terms_is, e) refl)

    pub allowed : forbids terms ≡ false → named ≡ first_of rest
    allowed e = named_is ∙ rw (terms_is, e) refl

  -- what code 0 of them says
  module _ (passed : Failed (named_refusals (exchange_of lying) forbids account contract)) where
    pub account_there : (1 ≤ account) × (place_of account < s.accountcount)
    account_there = place_below account s.accountcount (sym (no_account_lem d few buys sells trades account contract) ∙ passed.0)

    pub contract_there : (1 ≤ contract) × (place_of contract < s.contractcount)
    contract_there = place_below contract s.contractcount (sym (no_contract_lem d few buys sells trades account contract) ∙ passed.1.0)
