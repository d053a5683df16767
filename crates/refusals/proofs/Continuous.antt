-- What a quote and a change have passed with 2, 3 and 4: their account and contract are in use, the contract is continuous, and a cancel
-- or a pull there would pass the same tests. Assumes nothing.
use mathlib.Core.Bool.{true, false}
use mathlib.Core.List.{List}
use mathlib.Core.Path.{◌≡◌, refl}
use Prim.Native.Nat.{ℕ, ◌<◌, ◌≤◌}
use native.Mathlib.Omega.{arith}
use borrow.Author.Tests.{eqb-true, not-false}
use lib.ListN.{length, get_or}
use Rattle.rules.specs.Answers.{first_of, named_refusals, not_continuous, pull_refusals}
use Rattle.rules.specs.Bounds.{continuous, max_accounts, max_contracts, terms_in_range}
use Rattle.rules.specs.Exchange.{Exchange, listing_at, no_contract, place_of}
use Rattle.rules.specs.Memory.{Memory, WellFormedState, exchange_of, first_word, memory}
use Rattle.rules.specs.declared.State.{State}
use Rattle.theory.proofs.Refusals.{Failed}
use Rattle.engine.proofs.Formed.{Formed, formed}
use Rattle.engine.proofs.Named.{account_there, contract_there}
use Rattle.engine.proofs.Removals.{in_continuous, side_room}
use Rattle.refusals.proofs.Sides.{contract_terms}

module _ {s : State} {buys sells trades : List ℕ} (w : WellFormedState s buys sells trades) (account contract : ℕ)
    (passed : Failed (named_refusals (exchange_of (memory s buys sells trades)) not_continuous account contract)) where
  abbrev m : Memory
  m = memory s buys sells trades

  abbrev x : Exchange
  x = exchange_of m

  f : Formed m
  f = formed w

  abbrev c : ℕ
  c = place_of contract

  pub contract_here : c < s.contractcount
  contract_here = (contract_there w.declared f.accounts_high buys sells trades not_continuous account contract passed).1

  pub contract_low : 1 ≤ contract
  contract_low = (contract_there w.declared f.accounts_high buys sells trades not_continuous account contract passed).0

  pub account_low : 1 ≤ account
  account_low = (account_there w.declared f.accounts_high buys sells trades not_continuous account contract passed).0

  pub account_here : place_of account < s.accountcount
  account_here = (account_there w.declared f.accounts_high buys sells trades not_continuous account contract passed).1

  pub account_fits : {place : ℕ} → place ≡ place_of account → place < max_accounts
  account_fits e = omega (arith, account_here, f.accounts_high)

  pub contract_fits : {place : ℕ} → place ≡ c → place < max_contracts
  contract_fits e = omega (arith, contract_here, f.contracts_high)

  pub terms_ok : {place : ℕ} → place ≡ c → terms_in_range (get_or s.contracts place no_contract) ≡ true
  terms_ok e = rw e (contract_terms m f c contract_here)

  phase_is : (listing_at x c).contract.phase ≡ continuous
  phase_is = eqb-true _ _ (not-false _ passed.1.1.0)

  -- a cancel passes its first tests too
  pub pulls : first_of (pull_refusals x account contract false) ≡ 0
  unfolding pull_refusals first_of
  pulls = rw (passed.0, passed.1.0, ← in_continuous (listing_at x c).contract false phase_is) refl

  pub rooms : {place : ℕ} → place ≡ c → {buycount sellcount : ℕ} → buycount ≡ get_or s.buycounts place 0 → sellcount ≡ get_or s.sellcounts place 0
      → (first_word place buycount ≤ length buys) × (first_word place sellcount ≤ length sells)
  rooms e eb es = rw (eb, es) (side_room w account contract false pulls e false, side_room w account contract false pulls e true)
