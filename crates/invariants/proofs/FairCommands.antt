-- LAWS 8 TO 13 (rules, specs/FairCommands) OF EVERY COMMAND on a well-formed state: an insert, both orders of a quote, a change that loses its place,
-- and a change of state that leaves auction; throughout a run, and of the memory that a call leaves. Assumes nothing.
use Rattle.laws.specs.Logic.{Bool, true, false, List, [], ◌∷◌, ◌++◌, ◌≡◌, refl, ap, subst⁻¹, ◌∙◌}
use Rattle.laws.specs.Numbers.{ℕ, ◌+◌, ◌<◌, arith, length, get_or-set_same}
use Rattle.laws.specs.Choice.{pick, pick_true, for_either}
use Rattle.rules.specs.Answers.{phase_refusals}
use Rattle.rules.specs.Auction.{match_of}
use Rattle.rules.specs.Bounds.{in_auction}
use Rattle.rules.specs.Change.{Asked, arriving, changed, gone, loses_place, place_lost, reentered}
use Rattle.rules.specs.Condition3.{run}
use Rattle.rules.specs.Exchange.{Exchange, contract_at, listing_at, no_listing, own, place_of}
use Rattle.rules.specs.AuctionFairness.{left_on}
use Rattle.rules.specs.FairCommands.{AuctionHeld, FairAuction, FairMatching, FairlyEntered, auction_of, entering_anew, entering_buy, entering_next, entering_sell}
use Rattle.rules.specs.Kinds.{code_of, kind_of, last_of, step}
use Rattle.rules.specs.Memory.{Memory, exchange_of, respond, well_formed_memory}
use Rattle.rules.specs.Quote.{Offered, quoted, with_buy, with_sell}
use Rattle.rules.specs.Step.{Effect, exchange_matched, inserted, listing_matched, phase_changed}
use Rattle.rules.specs.WellFormed.{numbers, used_once}
use Rattle.rules.specs.declared.{Command.Command, NewOrder.NewOrder}
use Rattle.rules.specs.declared.Command.TheVariants.{Insert, Phase, Quote, Change}
use Rattle.theory.proofs.Changes.{lost_changed}
use Rattle.theory.proofs.Refusals.{failed, present}
use Rattle.theory.proofs.Stages.{decided}
use Rattle.invariants.specs.Throughout.{Throughout}
use Rattle.invariants.proofs.BestAuction.{best_auction}
use Rattle.invariants.proofs.ChangeKeeps as change
use Rattle.invariants.proofs.Clauses.{Sound}
use Rattle.invariants.proofs.EachKind.{trades_recorded}
use Rattle.invariants.proofs.FairlyEntered.{fairly_entered, once_each}
use Rattle.invariants.proofs.InsertAccepted.{passes}
use Rattle.invariants.proofs.LargestPrice.{largest_volume}
use Rattle.invariants.proofs.QuoteKeeps.{buy_keeps, buy_passes, codes, gone_keeps, holder, listed, maker, sell_passes}
use Rattle.invariants.proofs.Throughout.{of_call, of_run, throughout}

-- ---- laws 8 to 11

module _ (x : Exchange) (k : Sound x) where
  inserted_fairly : (o : NewOrder) → code_of x (Insert o) ≡ 0 → FairlyEntered (entering_next x 0 o) (step x (Insert o))
  unfolding code_of kind_of inserted step
  inserted_fairly o e =
      decided (λ d. FairlyEntered (entering_next x 0 o) (last_of x d.stages)) x (Insert o)
      (λ q. fairly_entered x k.contents x.next 0 o (passes x o e) (x.next + 1)) (λ r. absurd (r e))

  quoted_fairly : (q : Offered) → code_of x (Quote q.account q.contract q.lots q.buy q.sell) ≡ 0
      → FairlyEntered (entering_buy x q) (with_buy x q) × FairlyEntered (entering_sell x q) (step x (Quote q.account q.contract q.lots q.buy q.sell))
  unfolding code_of kind_of quoted with_buy with_sell step
  quoted_fairly q e =
      let w = k.contents in
      let a = holder x w q e in
      let c = listed x w q e in
      let m = maker x w q e in
      let b = codes x w q e in (
        fairly_entered _ (gone_keeps x w q a c) _ 1 _ (buy_passes x w q a c m b.0) _,
        decided (λ d. FairlyEntered (entering_sell x q) (last_of x d.stages)) x (Quote q.account q.contract q.lots q.buy q.sell)
            (λ r. fairly_entered _ (buy_keeps x w q a c m b.0) _ 1 _ (sell_passes x w q a c m b.0 b.1) _) (λ r. absurd (r e)),
      )

  changed_fairly : (q : Asked) → code_of x (Change q.account q.contract q.number q.lots q.price) ≡ 0 → loses_place x q ≡ true
      → FairlyEntered (entering_anew x q) (step x (Change q.account q.contract q.number q.lots q.price))
  unfolding code_of kind_of place_lost reentered step
  changed_fairly q e h =
      decided (λ d. FairlyEntered (entering_anew x q) (last_of x d.stages)) x (Change q.account q.contract q.number q.lots q.price)
      (λ r. ap_lost (fairly_entered (gone x q) (change.gone_keeps x k.contents q e) q.number 0 (arriving x q) (change.passes x k.contents q e h k.counts) x.next))
      (λ r. absurd (r e))
    where
      ap_lost : FairlyEntered (entering_anew x q) (last_of x (place_lost x q).stages) → FairlyEntered (entering_anew x q) (last_of x (changed x q).stages)
      ap_lost = subst⁻¹ (λ (f : Effect). FairlyEntered (entering_anew x q) (last_of x f.stages)) (lost_changed x q h)

-- FAIR AND COMPLETE MATCHING
pub fair_matching : (x : Exchange) (command : Command) → Sound x → FairMatching x command (step x command)
fair_matching x command k =
    record {
      inserts = λ o q e. subst⁻¹ (λ d. FairlyEntered (entering_next x 0 o) (step x d)) q (inserted_fairly x k o (rw q at e));
      quotes = λ o q e.
          let f = quoted_fairly x k o (rw q at e) in
          (f.0, subst⁻¹ (λ d. FairlyEntered (entering_sell x o) (step x d)) q f.1);
      changes = λ o q e h. subst⁻¹ (λ d. FairlyEntered (entering_anew x o) (step x d)) q (changed_fairly x k o (rw q at e) h);
      recorded = trades_recorded x command;
    }

-- ---- laws 12 and 13

module _ (x : Exchange) (k : Sound x) (contract phase : ℕ) (e : code_of x (Phase contract phase) ≡ 0) (a : in_auction (contract_at x (place_of contract)) ≡ true) where
  abbrev c : ℕ
  c = place_of contract

  there : c < length x.listings
  unfolding code_of kind_of phase_refusals
  there = present contract x.listings (failed (kind_of x (Phase contract phase)).refusals (omega arith) e).1.0

  used_once_lem : (sell : Bool) → used_once (numbers (pick sell (listing_at x c).sells (listing_at x c).buys)) ≡ true
  unfolding listing_at
  used_once_lem = once_each x.listings k.contents.once c

  ends_auction : step x (Phase contract phase) ≡ exchange_matched x c phase (auction_of x c)
  unfolding step kind_of phase_changed match_of
  ends_auction =
      decided (λ d. last_of x d.stages ≡ exchange_matched x c phase (auction_of x c)) x (Phase contract phase)
      (λ q. ap (exchange_matched x c phase) (pick_true (in_auction (contract_at x c)) (auction_of x c) _ a)) (λ r. absurd (r e))

  left_listing : listing_at (exchange_matched x c phase (auction_of x c)) c ≡ listing_matched (listing_at x c) phase (auction_of x c)
  unfolding exchange_matched listing_at
  left_listing = get_or-set_same x.listings c (listing_matched (listing_at x c) phase (auction_of x c)) no_listing there

  left_queues : (sell : Bool) → own sell (listing_at (exchange_matched x c phase (auction_of x c)) c) ≡ left_on sell (auction_of x c)
  unfolding listing_matched
  left_queues sell = ap (own sell) left_listing ∙ (for_either (λ s. own s (listing_matched (listing_at x c) phase (auction_of x c)) ≡ left_on s (auction_of x c)) refl refl sell)

  auction_held : AuctionHeld x c phase (step x (Phase contract phase))
  unfolding exchange_matched
  auction_held =
      record {
        price = largest_volume (contract_at x c).last (listing_at x c).buys (listing_at x c).sells;
        trades = best_auction c (contract_at x c).last (listing_at x c).buys (listing_at x c).sells (k.contents.listing c there).order used_once_lem;
        leaves = ends_auction;
        queues = λ sell. ap (λ (y : Exchange). own sell (listing_at y c)) ends_auction ∙ left_queues sell;
        recorded = ap (λ (y : Exchange). y.trades) ends_auction;
      }

-- THE AUCTION
pub fair_auction : (x : Exchange) (command : Command) → Sound x → FairAuction x command (step x command)
fair_auction x command k =
    record {
      held = λ contract phase q e a.
          let f : code_of x (Phase contract phase) ≡ 0 = rw q at e in
          subst⁻¹ (λ d. AuctionHeld x (place_of contract) phase (step x d)) q (auction_held x k contract phase f a);
    }

-- ---- of each command of a run, of the memory that a call leaves and of the last command of a run: from a well-formed state, so from every
-- opening and every loaded one that is (a state that is not is answered 21 throughout)

module _ (m : Memory) (w : well_formed_memory m ≡ true) where
  pub fair_matching_throughout : (cs : List Command) → Throughout FairMatching m cs
  fair_matching_throughout = throughout FairMatching fair_matching m w

  pub fair_auction_throughout : (cs : List Command) → Throughout FairAuction m cs
  fair_auction_throughout = throughout FairAuction fair_auction m w

  -- `m'` is the memory that a call leaves: `ExecutedIs` promises the equation
  pub fair_matching_left : (command : Command) (m' : Memory) → m' ≡ (respond m command).memory → FairMatching (exchange_of m) command (exchange_of m')
  fair_matching_left = of_call FairMatching fair_matching m w

  pub fair_auction_left : (command : Command) (m' : Memory) → m' ≡ (respond m command).memory → FairAuction (exchange_of m) command (exchange_of m')
  fair_auction_left = of_call FairAuction fair_auction m w

  -- and here the memory that a run leaves: `RanIs` promises it
  pub fair_matching_last : (before : List Command) (command : Command) (m' : Memory) → m' ≡ run m (before ++ (command ∷ []))
      → FairMatching (exchange_of (run m before)) command (exchange_of m')
  fair_matching_last = of_run FairMatching fair_matching m w

  pub fair_auction_last : (before : List Command) (command : Command) (m' : Memory) → m' ≡ run m (before ++ (command ∷ []))
      → FairAuction (exchange_of (run m before)) command (exchange_of m')
  fair_auction_last = of_run FairAuction fair_auction m w
