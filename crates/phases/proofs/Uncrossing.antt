-- The change of a contract from auction to continuous: the match is ready to be made, and what it leaves is the rules' state.
-- Assumes nothing.
use mathlib.Core.Bool.{Bool, true, false, not, ◌&&◌}
use mathlib.Core.List.{List}
use mathlib.Core.Path.{◌≡◌, refl, ap, ◌∙◌, subst⁻¹}
use Prim.Native.Nat.{ℕ, ◌+◌, ◌<◌, ◌≤◌}
use native.Mathlib.Omega.{arith}
use borrow.Author.Tests.{eqb-true, le-leb, le-ltb, lt-ltb, not-true}
use lib.Dec.{eqb, leb, ltb}
use lib.ListN.{length, get_or}
use Rattle.laws.specs.Choice.{all_of, all_of_imp, both_true, pick, pick_true, true_both}
use Rattle.rules.specs.Answers.{change_listed}
use Rattle.rules.specs.Auction.{Matched, auction_match, match_of, unmatched}
use Rattle.rules.specs.Bounds.{in_auction, max_lots, max_trades, auction, continuous}
use Rattle.rules.specs.Exchange.{Exchange, Listing, account_at, holding_at, listing_at, no_contract, own, place_of, is_absent}
use Rattle.rules.specs.Kinds.{code_of, done, kind_of}
use Rattle.rules.specs.Memory.{Memory, WellFormedState, exchange_of, listing_in, memory, queue_in, written}
use Rattle.rules.specs.Step.{answer_of, exchange_matched, listing_matched, phase_changed, with_trades}
use Rattle.rules.specs.WellFormed.{order_in_range}
use Rattle.rules.specs.declared.Command.TheVariants.{Phase}
use Rattle.rules.specs.declared.Contract.{Contract}
use Rattle.rules.specs.declared.Order.{Order}
use Rattle.rules.specs.declared.State.{State}
use Rattle.theory.proofs.AuctionOutcome.{auction_count}
use Rattle.theory.proofs.Codecs.{length_queue}
use Rattle.auction.specs.Matched.{MatchReady, MatchedIs, QueuesRoom, fits, level_match}
use Rattle.auction.specs.Price.{FewOrders, chosen_level}
use Rattle.auction.specs.declared.matched.Match.{Match}
use Rattle.auction.specs.declared.price.Level.{Level}
use Rattle.auction.proofs.Chosen.{level_auction}
use Rattle.invariants.proofs.Clauses.{Counted, WellFormed, order_ok}
use Rattle.invariants.proofs.MemoryKeeps.{sound}
use Rattle.invariants.proofs.Phases.{phase_counted, phase_keeps}
use Rattle.engine.specs.Decision.{CarriedOut, listed_in, with_carried}
use Rattle.engine.specs.Outcome.{is_match, refused_with}
use Rattle.engine.specs.declared.updates.Carried.{Carried}
use Rattle.engine.specs.declared.updates.Listed.{Listed}
use Rattle.engine.proofs.Decisions.{listed_lies}
use Rattle.phases.proofs.Changes.{from_auction, phase_code}
use Rattle.engine.proofs.Formed.{Formed, accounts_count, contracts_count, formed, listing_at_lem}
use Rattle.engine.proofs.Margins.{chargeable}
use Rattle.engine.proofs.Outcomes.{acceptance, refusal}
use Rattle.engine.proofs.Tests.{place_below}
use Rattle.engine.proofs.Traded.{put_traded}
use Rattle.phases.specs.AfterMatch.{matched_as, refused_at}

module _ {s : State} {buys sells trades : List ℕ} (w : WellFormedState s buys sells trades) (contract : ℕ) (yes : is_match s contract continuous ≡ true) where
  abbrev m : Memory
  m = memory s buys sells trades

  abbrev x : Exchange
  x = exchange_of m

  f : Formed m
  f = formed w

  abbrev c : ℕ
  c = place_of contract

  abbrev terms : Contract
  terms = get_or s.contracts c no_contract

  -- ---- the contract is there, and in auction

  parts : (is_absent contract s.contractcount ≡ false) × (in_auction terms ≡ true)
  unfolding is_match
  parts =
      let b = both_true (eqb 1 1 && not (is_absent contract s.contractcount)) (in_auction terms) yes in
      (not-true _ (both_true (eqb 1 1) (not (is_absent contract s.contractcount)) b.0).1, b.1)

  here : c < s.contractcount
  here = (place_below contract s.contractcount parts.0).1

  pub contract_low : 1 ≤ contract
  contract_low = (place_below contract s.contractcount parts.0).0

  pub place_fits : {place : ℕ} → place ≡ c → place < 4
  place_fits is = omega (arith, here, f.contracts_high)

  -- ---- its queues as they lie

  abbrev bids : List Order
  bids = queue_in buys c (get_or s.buycounts c 0)

  abbrev asks : List Order
  asks = queue_in sells c (get_or s.sellcounts c 0)

  abbrev matched : Matched
  matched = auction_match c terms.last bids asks

  listing_is : listing_at x c ≡ listing_in m c
  listing_is = listing_at_lem m f c here

  match_is : match_of x c ≡ matched
  unfolding match_of listing_in
  match_is =
      ap (λ l. pick (in_auction l.contract) (auction_match c l.contract.last l.buys l.sells) (unmatched l.buys l.sells)) listing_is
      ∙ pick_true (in_auction terms) matched (unmatched bids asks) parts.1

  room : QueuesRoom buys (get_or s.buycounts c 0) sells (get_or s.sellcounts c 0) c
  room =
      record {
        few_buys = f.buys_high c here;
        few_sells = f.sells_high c here;
        buys_room = omega (arith, here, f.buys_high c here, f.buys_room);
        sells_room = omega (arith, here, f.sells_high c here, f.sells_room);
      }

  pub queues : {place : ℕ} → place ≡ c → QueuesRoom buys (get_or s.buycounts place 0) sells (get_or s.sellcounts place 0) place
  queues is = rw is room

  -- their orders are of accounts in use, of at most 1,000 lots
  orders_fit : (sell : Bool) → all_of (fits s.accountcount) (own sell (listing_in m c)) ≡ true
  orders_fit sell =
      let in_range = order_in_range (length x.accounts) x.next x.nextstamp (listing_in m c).contract in
      all_of_imp in_range (fits s.accountcount) (own sell (listing_in m c))
      (λ o h. let k = order_ok (length x.accounts) x.next x.nextstamp (listing_in m c).contract o h in
      true_both (ltb o.account s.accountcount) (leb o.lots max_lots) (lt-ltb o.account s.accountcount (omega (arith, k.account, accounts_count m f))) (le-leb o.lots max_lots k.lots_high))
      (rw listing_is at ((f.contents.listing c (rw (contracts_count m f) here)).orders sell))

  -- ---- the code

  listed : change_listed (listing_at x c).contract.phase continuous ≡ true
  unfolding listing_in
  listed = rw (listing_is, eqb-true terms.phase auction parts.1) (from_auction continuous)

  code_is : code_of x (Phase contract continuous) ≡ pick (ltb max_trades (s.tradecount + length matched.trades)) 12 0
  code_is = phase_code w contract continuous ∙ rw (parts.0, listed, match_is)

  -- ---- the match at the level that the code has found

  module _ {place : ℕ} (is : place ≡ c) {buying selling : List Order} (eb : buying ≡ queue_in buys place (get_or s.buycounts place 0)) (es : selling ≡ queue_in sells place (get_or s.sellcounts place 0)) where
    pub few : FewOrders buying selling
    few = record {
      few_buys = omega (arith, ap length eb, length_queue buys place (get_or s.buycounts place 0), (queues is).few_buys);
      few_sells = omega (arith, ap length es, length_queue sells place (get_or s.sellcounts place 0), (queues is).few_sells);
    }

  module _ {place : ℕ} (is : place ≡ c) {buying selling : List Order} (eb : buying ≡ queue_in buys place (get_or s.buycounts place 0)) (es : selling ≡ queue_in sells place (get_or s.sellcounts place 0))
      {level : Level} (el : level ≡ chosen_level (get_or s.contracts place no_contract).last buying selling) where
    level_is : level_match c level bids asks ≡ matched
    level_is = level_auction c terms.last bids asks (rw (eb, es, is) at el)

    module _ {needed : ℕ} (en : (n : ℕ) → needed ≡ length (level_match n level buying selling).trades) where
      needed_is : needed ≡ length matched.trades
      needed_is = (rw (eb, es, is) at (en c)) ∙ ap (λ (r : Matched). length r.trades) level_is

      -- no more than orders
      pub needed_few : s.tradecount + needed ≤ 1_152
      needed_few =
          omega (arith, needed_is, auction_count c terms.last bids asks, length_queue buys c (get_or s.buycounts c 0), length_queue sells c (get_or s.sellcounts c 0), room.few_buys, room.few_sells, f.trades_high)

      -- 12
      pub left_full : {r : Carried} → max_trades < s.tradecount + needed → r ≡ refused_at s place 12 → CarriedOut m (Phase contract continuous) r buys sells trades
      left_full h e =
          subst⁻¹ (λ (v : Carried). CarriedOut m (Phase contract continuous) v buys sells trades) e
          (record {
            place = omega (arith, is, here, f.contracts_high);
            outcome =
                refusal s buys sells trades (Phase contract continuous) 12 (omega arith) (code_is ∙ rw (← needed_is, lt-ltb _ _ h))
                (ap (λ (v : State). refused_with v 12) (listed_lies s place));
          })

      module _ (h : s.tradecount + needed ≤ max_trades) where
        accepted : code_of x (Phase contract continuous) ≡ 0
        accepted = code_is ∙ rw (← needed_is, le-ltb _ _ h)

        ready : MatchReady (level_match c level bids asks) c s.accounts buys (get_or s.buycounts c 0) sells (get_or s.sellcounts c 0) trades s.tradecount
        unfolding account_at holding_at listing_in
        ready =
            record {
              contract = omega (arith, here, f.contracts_high);
              queues = room;
              room = rw level_is (omega (arith, needed_is, f.trades_room));
              parties =
                  record {
                    used = s.accountcount;
                    few = f.accounts_high;
                    buyers = orders_fit false;
                    sellers = orders_fit true;
                    holdings =
                        record {
                          each = λ a l. let g = (chargeable m f a l).each c here in record { long = omega (arith, g.long); short = omega (arith, g.short) };
                        };
                  };
            }

        pub left_ready : {word : ℕ} → word ≡ c
            → MatchReady (level_match word level (queue_in buys word (get_or s.buycounts place 0)) (queue_in sells word (get_or s.sellcounts place 0))) word s.accounts buys (get_or s.buycounts place 0) sells (get_or s.sellcounts place 0) trades s.tradecount
        left_ready same = rw (is, same) ready

        -- ---- what it leaves

        abbrev listing : Listing
        listing = listing_matched (listing_at x c) 1 (match_of x c)

        kept : WellFormed (with_trades x c listing (match_of x c).trades x.next x.nextstamp)
        unfolding code_of kind_of phase_changed exchange_matched
        kept = phase_keeps x contract 1 accepted f.contents

        counted : Counted (with_trades x c listing (match_of x c).trades x.next x.nextstamp)
        unfolding code_of kind_of phase_changed exchange_matched
        counted = phase_counted x contract 1 accepted f.contents (sound m w.formed).counts

        module _ {word : ℕ} (same : word ≡ c) {r : Match} {buys' sells' area' : List ℕ}
            (outcome : MatchedIs (level_match word level (queue_in buys word (get_or s.buycounts place 0)) (queue_in sells word (get_or s.sellcounts place 0))) word (get_or s.contracts place no_contract).last s.accounts buys (get_or s.buycounts place 0) sells (get_or s.sellcounts place 0) trades s.tradecount r buys' sells' area') where
          made : MatchedIs matched c terms.last s.accounts buys (get_or s.buycounts c 0) sells (get_or s.sellcounts c 0) trades s.tradecount r buys' sells' area'
          made = rw (is, same, level_is) at outcome

          abbrev carried : Carried
          carried = record { accounts = r.accounts; listed = matched_as (listed_in s place) r; answer = answer_of 0 0 r.traded 0 }

          lies : written m (kind_of x (Phase contract continuous)).effect.stages ≡ memory (with_carried s carried) buys' sells' area'
          unfolding kind_of phase_changed exchange_matched listing_matched exchange_of listing_in
          lies =
              put_traded m f c listing (match_of x c).trades x.next x.nextstamp here kept counted
              ∙ rw (match_is, listing_is, is, made.booked.made, made.booked.last, made.booked.accounts, made.booked.trades, made.bought, made.sold, made.buy_queue, made.sell_queue)

          answer_is : (done (kind_of x (Phase contract continuous)).effect).answer ≡ answer_of 0 0 r.traded 0
          unfolding kind_of phase_changed
          answer_is = rw (match_is, made.booked.traded)

          pub left_accepted : {l : Listed} → l ≡ matched_as (listed_in s place) r
              → CarriedOut m (Phase contract continuous) (record { accounts = r.accounts; listed = l; answer = answer_of 0 0 r.traded 0 }) buys' sells' area'
          left_accepted el =
              rw el
              (record {
                place = omega (arith, is, here, f.contracts_high);
                outcome = acceptance s buys sells trades (Phase contract continuous) accepted answer_is lies refl;
              })
