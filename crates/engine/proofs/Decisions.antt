-- From the code's decision to the rules' response: an outcome whose state is the one that the update leaves. Assumes nothing.
use Rattle.std.proofs.Common.{Result}
use Rattle.std.specs.Result.{IsErrAnd}
use Rattle.std.proofs.lemmas.Result.{err_from_is_err_and}
use mathlib.Core.Bool.{true, false, not, ◌&&◌}
use mathlib.Core.List.{List}
use mathlib.Core.Path.{◌≡◌, refl, ap, subst, subst⁻¹}
use Prim.Native.Nat.{ℕ, ◌-◌, ◌<◌}
use borrow.Author.Tests.{eqb-true}
use lib.Dec.{eqb}
use lib.IntN.{ℤ}
use lib.ListN.{get_or, set}
use lib.Seq.{set-get_or}
use Rattle.laws.specs.Choice.{both_true}
use Rattle.rules.specs.Bounds.{continuous, in_auction, max_accounts, max_contracts}
use Rattle.rules.specs.Codes.{code_in, code_number}
use Rattle.rules.specs.Exchange.{is_absent, no_account, no_contract, place_of}
use Rattle.rules.specs.Memory.{WellFormedState, memory, step_in}
use Rattle.rules.specs.Step.{with_phase}
use Rattle.rules.specs.declared.Account.{Account}
use Rattle.rules.specs.declared.Command.{Command}
use Rattle.rules.specs.declared.Command.TheVariants.{Phase}
use Rattle.rules.specs.declared.Contract.{Contract}
use Rattle.rules.specs.declared.State.{State}
use Rattle.rules.specs.declared.codes.Code.{Code}
use Rattle.engine.specs.Decision.{CarriedOut, DecisionIs, HeldBy, accepted_by, counted_as, decided, left_for, listed_in, refused_by, with_listed}
use Rattle.engine.specs.Outcome.{OutcomeIs, accepted_with, is_match, refused_with, with_balance_at, with_counts_in, with_phase_at}
use Rattle.engine.specs.declared.updates.Decision.{Decision}
use Rattle.engine.specs.declared.updates.Listed.{Listed}
use Rattle.engine.specs.declared.updates.Pending.TheVariants.{Matching}
use Rattle.engine.specs.declared.updates.Update.TheVariants.{Balance, Left, Listing, Nothing}

-- the account that is handed over, where it is in use
pub held_here : (s : State) (account : ℕ) {who : Account} → is_absent account s.accountcount ≡ false → HeldBy s account who
    → get_or s.accounts (account - 1) no_account ≡ who
held_here s account present h = rw present at h

-- ---- a code that a call gave, passed on by `?`

pub code_passed : {A : Type 0} (r : Result A Code) (code : Code) → IsErrAnd r (λ y. y ≡ code) → code_in r ≡ code_number code
code_passed r code is = let p = err_from_is_err_and r is in rw (p.1, p.2) refl

pub refusal_passed : (r : Result Decision Code) (code : Code) → IsErrAnd r (λ y. y ≡ code) → decided r ≡ refused_by (code_number code)
refusal_passed r code is = let p = err_from_is_err_and r is in rw (p.1, p.2) refl

-- ---- a contract written back

abbrev pub phased_as : Listed → ℕ → Listed
phased_as l phase =
    record { place = l.place; terms = with_phase l.terms phase; bought = l.bought; sold = l.sold; recorded = l.recorded; next = l.next; nextstamp = l.nextstamp }

module _ (s : State) (c : ℕ) where
  -- with other counts of resting orders: its terms are as they were
  counted_lies : (bought sold : ℕ) → with_listed s (counted_as (listed_in s c) bought sold) ≡ with_counts_in s (set s.buycounts c bought) (set s.sellcounts c sold)
  counted_lies bought sold =
      ap (λ (contracts : List Contract). record {
        contracts = contracts;
        accounts = s.accounts;
        buycounts = set s.buycounts c bought;
        sellcounts = set s.sellcounts c sold;
        contractcount = s.contractcount;
        accountcount = s.accountcount;
        tradecount = s.tradecount;
        next = s.next;
        nextstamp = s.nextstamp;
        settlements = s.settlements;
      })
      (set-get_or s.contracts c no_contract)

  -- with another phase: its counts are as they were
  phased_lies : (phase : ℕ) → with_listed s (phased_as (listed_in s c) phase) ≡ with_phase_at s c phase
  phased_lies phase = rw (set-get_or s.buycounts c 0, set-get_or s.sellcounts c 0)

  -- as it stands
  pub listed_lies : with_listed s (listed_in s c) ≡ s
  listed_lies = rw (set-get_or s.contracts c no_contract, set-get_or s.buycounts c 0, set-get_or s.sellcounts c 0)

-- ---- one law for each update

module _ {s : State} {buys sells trades : List ℕ} {command : Command} {buys' sells' trades' : List ℕ} {d : Decision} where
  as_told : {v : Decision} → d ≡ v → DecisionIs (memory s buys sells trades) command v buys' sells' trades' → DecisionIs (memory s buys sells trades) command d buys' sells' trades'
  as_told e k = subst⁻¹ (λ (v : Decision). DecisionIs (memory s buys sells trades) command v buys' sells' trades') e k

  pub refusal_decided : {code : ℕ} → OutcomeIs (step_in (memory s buys sells trades) command) (refused_with s code) buys' sells' trades' → d ≡ refused_by code
      → DecisionIs (memory s buys sells trades) command d buys' sells' trades'
  refusal_decided k e = as_told e (record { told = k })

  pub nothing_decided : {number lots : ℕ} → OutcomeIs (step_in (memory s buys sells trades) command) (accepted_with s number 0 lots) buys' sells' trades' → d ≡ accepted_by Nothing number lots
      → DecisionIs (memory s buys sells trades) command d buys' sells' trades'
  nothing_decided k e = as_told e (record { told = k })

  pub balance_decided : {place : ℕ} {balance : ℤ} → place < max_accounts
      → OutcomeIs (step_in (memory s buys sells trades) command) (accepted_with (with_balance_at s place balance) 0 0 0) buys' sells' trades'
      → d ≡ accepted_by (Balance place balance) 0 0 → DecisionIs (memory s buys sells trades) command d buys' sells' trades'
  balance_decided h k e = as_told e (record { told = (h, k) })

  module _ {c number lots : ℕ} (h : c < max_contracts) where
    pub counted_decided : {bought sold : ℕ}
        → OutcomeIs (step_in (memory s buys sells trades) command) (accepted_with (with_counts_in s (set s.buycounts c bought) (set s.sellcounts c sold)) number 0 lots) buys' sells' trades'
        → d ≡ accepted_by (Listing (counted_as (listed_in s c) bought sold)) number lots → DecisionIs (memory s buys sells trades) command d buys' sells' trades'
    counted_decided {bought} {sold} k e =
        as_told e (record { told = (h, subst⁻¹ (λ (v : State). OutcomeIs (step_in (memory s buys sells trades) command) (accepted_with v number 0 lots) buys' sells' trades') (counted_lies s c bought sold) k) })

    pub phased_decided : {phase : ℕ} → OutcomeIs (step_in (memory s buys sells trades) command) (accepted_with (with_phase_at s c phase) number 0 lots) buys' sells' trades'
        → d ≡ accepted_by (Listing (phased_as (listed_in s c) phase)) number lots → DecisionIs (memory s buys sells trades) command d buys' sells' trades'
    phased_decided {phase} k e =
        as_told e (record { told = (h, subst⁻¹ (λ (v : State). OutcomeIs (step_in (memory s buys sells trades) command) (accepted_with v number 0 lots) buys' sells' trades') (phased_lies s c phase) k) })

-- ---- a change that makes a match is left

match_phase : (s : State) (contract phase : ℕ) → is_match s contract phase ≡ true → phase ≡ continuous
unfolding is_match
match_phase s contract phase t =
    eqb-true phase continuous (both_true (eqb phase continuous) (not (is_absent contract s.contractcount)) (both_true (eqb phase continuous && not (is_absent contract s.contractcount)) (in_auction (get_or s.contracts (place_of contract) no_contract)) t).0).0

pub match_decided : {s : State} {buys sells trades : List ℕ} → WellFormedState s buys sells trades → (contract phase : ℕ) {d : Decision} → is_match s contract phase ≡ true → d ≡ left_for (Left (Matching contract))
    → DecisionIs (memory s buys sells trades) (Phase contract phase) d buys sells trades
match_decided {s} {buys} {sells} {trades} w contract phase t e =
    let is : phase ≡ continuous = match_phase s contract phase t in
    as_told e
    (record {
      told =
          record {
            ready = record { told = (w, subst (λ (n : ℕ). is_match s contract n ≡ true) is t) };
            gives = λ r buys' sells' trades' k. subst⁻¹ (λ (n : ℕ). CarriedOut (memory s buys sells trades) (Phase contract n) r buys' sells' trades') is k.told;
          };
    })
