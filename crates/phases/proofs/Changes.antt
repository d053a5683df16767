-- Changes of a contract's state: the code's tests are the rules' refusals, and the contract changed is the rules' state. Assumes
-- nothing.
use mathlib.Core.Bool.{Bool, true, false, not, true≢false, ◌||◌}
use mathlib.Core.List.{List, append-nil}
use mathlib.Core.Path.{◌≡◌, refl, sym, ap, ◌∙◌}
use Prim.Native.Nat.{ℕ, ◌+◌, ◌-◌, ◌<◌}
use native.Mathlib.Omega.{arith}
use borrow.Author.Tests.{eqb-true, le-ltb, ne_eqb}
use lib.Dec.{eqb, ltb}
use lib.ListN.{length, get_or}
use Rattle.laws.specs.Choice.{pick}
use Rattle.rules.specs.Answers.{change_listed, first_of, phase_refusals}
use Rattle.rules.specs.Auction.{match_of, unmatched}
use Rattle.rules.specs.Bounds.{in_auction, max_trades, phase_known}
use Rattle.rules.specs.Exchange as exchange
use Rattle.rules.specs.Exchange.{listing_at, no_contract, Exchange, is_absent}
use Rattle.rules.specs.Kinds.{code_of, done, kind_of}
use Rattle.rules.specs.Memory.{Memory, WellFormedState, exchange_of, listing_in, memory, written}
use Rattle.rules.specs.Step.{phase_changed, with_phase, answer_of, exchange_matched, listing_matched, with_contract, with_listing}
use Rattle.rules.specs.declared.Command.TheVariants.{Phase}
use Rattle.rules.specs.declared.State.{State}
use Rattle.engine.specs.Decision.{DecisionIs, accepted_by, listed_in, refused_by}
use Rattle.engine.specs.Outcome.{with_phase_at, is_match}
use Rattle.rules.specs.Holdings.{book_trades}
use Rattle.rules.specs.Matching.{last_price}
use Rattle.theory.proofs.Fillable.{traded_nil}
use Rattle.engine.specs.declared.updates.Decision.{Decision}
use Rattle.engine.specs.declared.updates.Listed.{Listed}
use Rattle.engine.specs.declared.updates.Update.TheVariants.{Listing}
use Rattle.engine.proofs.Decisions.{phased_decided, phased_as, refusal_decided}
use Rattle.engine.proofs.Formed.{Formed, formed, listing_at_lem, no_contract_lem}
use Rattle.engine.proofs.Outcomes.{refusal, acceptance}
use Rattle.engine.proofs.Puts.{put_contract, trades_count}
use Rattle.engine.proofs.Tests.{place_below}
use mathlib.Core.Logic.{◌≢◌}

-- ---- the changes listed, by the state they start from

module _ (to : ℕ) where
  pub from_pre_open : change_listed 0 to ≡ (eqb to 4 || (eqb to 1 || eqb to 3))
  unfolding change_listed
  from_pre_open = by_phase (eqb to 1) (eqb to 3) (eqb to 4)
    where
      by_phase : (a b c : Bool) → (a || b || false || false || false || false || c || false) ≡ (c || (a || b))
      by_phase true b true = refl
      by_phase true b false = refl
      by_phase false true true = refl
      by_phase false true false = refl
      by_phase false false true = refl
      by_phase false false false = refl

  pub from_continuous : change_listed 1 to ≡ (eqb to 2 || eqb to 3)
  unfolding change_listed
  from_continuous = by_phase (eqb to 2) (eqb to 3)
    where
      by_phase : (a b : Bool) → (false || false || a || false || b || false || false || false) ≡ (a || b)
      by_phase true b = refl
      by_phase false true = refl
      by_phase false false = refl

  pub from_no_trading : change_listed 2 to ≡ (eqb to 1 || eqb to 3)
  unfolding change_listed
  from_no_trading = by_phase (eqb to 1) (eqb to 3)
    where
      by_phase : (a b : Bool) → (false || false || false || a || false || b || false || false) ≡ (a || b)
      by_phase true b = refl
      by_phase false true = refl
      by_phase false false = refl

  pub from_auction : change_listed 4 to ≡ eqb to 1
  unfolding change_listed
  from_auction = refl

  pub from_other : (from : ℕ) → from ≢ 0 → from ≢ 1 → from ≢ 2 → from ≢ 4 → change_listed from to ≡ false
  unfolding change_listed
  from_other from p q r u = simp (ne_eqb from 0 p, ne_eqb from 1 q, ne_eqb from 2 r, ne_eqb from 4 u)

-- ---- a change that makes a match

module _ (s : State) (contract phase : ℕ) where
  pub other_phase : phase ≢ 1 → false ≡ is_match s contract phase
  unfolding is_match
  other_phase h = sym (rw (ne_eqb phase 1 h))

  module _ (e : phase ≡ 1) where
    pub no_such_contract : is_absent contract s.contractcount ≡ true → false ≡ is_match s contract phase
    unfolding is_match
    no_such_contract h = sym (rw (e, h))

    pub match_by_phase : is_absent contract s.contractcount ≡ false → {place : ℕ} → place ≡ contract - 1 → eqb (get_or s.contracts place no_contract).phase 4 ≡ is_match s contract phase
    unfolding is_match
    match_by_phase h is = sym (rw (e, h, is))

  -- a contract in auction whose change is listed makes one
  match_listed : is_absent contract s.contractcount ≡ false → in_auction (get_or s.contracts (contract - 1) no_contract) ≡ true
      → change_listed (get_or s.contracts (contract - 1) no_contract).phase phase ≡ true → is_match s contract phase ≡ true
  unfolding is_match
  match_listed h in_auction_lem listed =
      let e : (get_or s.contracts (contract - 1) no_contract).phase ≡ 4 = eqb-true _ _ in_auction_lem in
      let one : eqb phase 1 ≡ true = sym (from_auction phase) ∙ (rw e at listed) in
      rw (h, in_auction_lem, one)

-- a contract that is not in auction is left as it is but for its phase
module _ (x : Exchange) (c : ℕ) (other : in_auction (listing_at x c).contract ≡ false) where
  pub no_match : match_of x c ≡ unmatched (listing_at x c).buys (listing_at x c).sells
  unfolding match_of
  no_match = rw other

  only_phase : (phase : ℕ) → exchange_matched x c phase (match_of x c) ≡ with_listing x c (with_contract (listing_at x c) (with_phase (listing_at x c).contract phase))
  unfolding exchange_matched listing_matched last_price book_trades
  only_phase phase = rw (no_match, append-nil)

module _ {s : State} {buys sells trades : List ℕ} (w : WellFormedState s buys sells trades) (contract phase : ℕ) where
  abbrev m : Memory
  m = memory s buys sells trades

  f : Formed m
  f = formed w

  abbrev ChangeIs : Decision → Type 0
  ChangeIs d = DecisionIs m (Phase contract phase) d buys sells trades

  pub phase_code : code_of (exchange_of m) (Phase contract phase)
      ≡ pick (not (phase_known phase)) 1
      (pick (is_absent contract s.contractcount) 3
      (pick (not (change_listed (listing_at (exchange_of m) (contract - 1)).contract.phase phase)) 17
      (pick (ltb max_trades (s.tradecount + length (match_of (exchange_of m) (contract - 1)).trades)) 12 0)))
  unfolding code_of kind_of phase_refusals first_of
  phase_code = rw (no_contract_lem m f contract, trades_count m f)

  phase_refused : (code : ℕ) {d : Decision} → 0 < code → code_of (exchange_of m) (Phase contract phase) ≡ code → d ≡ refused_by code → ChangeIs d
  phase_refused code h e = refusal_decided (refusal s buys sells trades (Phase contract phase) code h e refl)

  pub phase_unknown : {d : Decision} → phase_known phase ≡ false → d ≡ refused_by 1 → ChangeIs d
  phase_unknown e = phase_refused 1 (omega arith) (rw (phase_code, e))

  pub phase_absent : {d : Decision} → phase_known phase ≡ true → is_absent contract s.contractcount ≡ true → d ≡ refused_by 3 → ChangeIs d
  phase_absent known e = phase_refused 3 (omega arith) (rw (phase_code, known, e))

  module _ (known : phase_known phase ≡ true) (present : is_absent contract s.contractcount ≡ false) {place : ℕ} (is : place ≡ contract - 1) where
    here : contract - 1 < s.contractcount
    here = (place_below contract s.contractcount present).1

    terms_are : (listing_at (exchange_of m) (contract - 1)).contract ≡ get_or s.contracts place no_contract
    unfolding listing_in
    terms_are = rw is (ap (λ (l : exchange.Listing). l.contract) (listing_at_lem m f (contract - 1) here))

    module _ {l : Listed} (stands : l ≡ listed_in s place) {t : Bool} (tested : t ≡ change_listed l.terms.phase phase) where
      listed_is : change_listed (get_or s.contracts place no_contract).phase phase ≡ t
      listed_is = sym (rw stands at tested)

      pub phase_unlisted : {d : Decision} → t ≡ false → d ≡ refused_by 17 → ChangeIs d
      phase_unlisted h = phase_refused 17 (omega arith) (rw (phase_code, known, present, terms_are, listed_is, h))

    module _ (listed : change_listed (get_or s.contracts place no_contract).phase phase ≡ true) (no : is_match s contract phase ≡ false) where
      other : in_auction (listing_at (exchange_of m) (contract - 1)).contract ≡ false
      other = cases (in_auction (listing_at (exchange_of m) (contract - 1)).contract) refl
        where
          cases : (t : Bool) → in_auction (listing_at (exchange_of m) (contract - 1)).contract ≡ t → t ≡ false
          cases false e = refl
          cases true e =
              absurd (true≢false (sym (match_listed s contract phase present (rw (terms_are, is) at e) (rw is at listed)) ∙ no))

      -- the day has room for no trades
      accepted_code : code_of (exchange_of m) (Phase contract phase) ≡ 0
      accepted_code = rw (phase_code, known, present, terms_are, listed, no_match (exchange_of m) (contract - 1) other, le-ltb max_trades (s.tradecount + 0) (omega (arith, f.trades_high)))

      phase_lies : written m (kind_of (exchange_of m) (Phase contract phase)).effect.stages ≡ memory (with_phase_at s place phase) buys sells trades
      unfolding kind_of phase_changed
      phase_lies =
          rw (only_phase (exchange_of m) (contract - 1) other phase)
          (put_contract m f (contract - 1) here (with_phase (listing_at (exchange_of m) (contract - 1)).contract phase) ∙ rw (terms_are, is))

      no_lots : (done (kind_of (exchange_of m) (Phase contract phase)).effect).answer ≡ answer_of 0 0 0 0
      unfolding kind_of phase_changed
      no_lots = rw (no_match (exchange_of m) (contract - 1) other, traded_nil)

    pub phase_accepted : {l : Listed} (stands : l ≡ listed_in s place) {t : Bool} (tested : t ≡ change_listed l.terms.phase phase) {d : Decision} → t ≡ true
        → is_match s contract phase ≡ false → d ≡ accepted_by (Listing (phased_as l phase)) 0 0 → ChangeIs d
    phase_accepted stands tested h none e =
        let listed : change_listed (get_or s.contracts place no_contract).phase phase ≡ true = listed_is stands tested ∙ h in
        phased_decided (omega (arith, is, here, f.contracts_high))
        (acceptance s buys sells trades (Phase contract phase) (accepted_code listed none) (no_lots listed none) (phase_lies listed none) refl)
        (e ∙ ap (λ (v : Listed). accepted_by (Listing (phased_as v phase)) 0 0) stands)
