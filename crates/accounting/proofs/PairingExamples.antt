-- A day of ticket 12 worked out by hand: an account that meets its own order, with the lots of the start of the day closed
-- first, as the house rule has it, and with today's closed first. The parts differ and the total is one. One table, one
-- statement, as in the rules' Examples.antt. Assumes nothing.
use Rattle.std.specs.Prelude.{Bool, true, false, not, ◌&&◌, List, [], ◌∷◌, ◌≡◌, refl, ℕ, suc, ◌<◌, eqb, leb, ltb, pos, length, get_or}
use Rattle.std.proofs.lemmas.Bool.{false≢true}
use Rattle.std.proofs.Common.{sym, ◌∙◌, arith, eq-eqb, leb-true, leb-false, ltb-true}
use Rattle.laws.specs.Choice.{all, all_of, all_at, both_true}
use Rattle.laws.specs.Sums.{sum_of, sum_to}
use Rattle.rules.specs.Answers.{mark}
use Rattle.rules.specs.Bounds.{allowed_today, closed, day_high, day_low, on_tick, terms_in_range, tick_multiple}
use Rattle.rules.specs.Examples.{Row, ◌gives◌, all_right, up, down}
use Rattle.rules.specs.Exchange.{Exchange, account_at, holding_at, listing_at, lots_where, resting}
use Rattle.rules.specs.Holdings.{after_leg, book_leg, book_trade, book_trades, leg_covered, never_below_zero, same_holdings, same_lots, start_of_day}
use Rattle.rules.specs.Matching.{traded_lots}
use Rattle.rules.specs.Settlement.{Leg, after_day_leg, after_legs, closing_profit, day_of, day_start, first_lots, gain, holding_gain, holding_profit, legs, only, other_lots, price_from, settlement_price, traded_value, trades_in, weighted_price}
use Rattle.rules.specs.WellFormed.{all_listed, balance_in_range, contract_in_range, counters_in_range, held_in_range, holding_in_range, holdings_in_range, listed, listing_quoted, mark_allowed, mark_in_range, orders_in_range, queue_quoted, queues_sorted, quotes, ranges_kept, replays, resting_in_range, sorted, trade_in_range, uncrossed, used_once, well_formed_contents}
use Rattle.rules.specs.declared.Trade.{Trade}
use Rattle.accounting.specs.Pairing.{Side, long, short, Lot, no_lot, Pairing, PairsDay, closed_lots, closed_of, closes, closing_by, day_closing, day_holding, gained, held_at_start, holding_by, in_order, lots_of_legs, open_lots, open_of, opens, paired_closing, paired_holding, unpaired}

-- ---- a pairing as a test, for lists that are written out

-- closed lot i is paired with an earlier lot, which none of those before it uses
paired_well : List Lot → List Lot → (ℕ → ℕ) → ℕ → Bool
paired_well open' closed of i =
    ltb (of i) (length open')
    && ltb (get_or open' (of i) no_lot).time (get_or closed i no_lot).time
    && all (λ j. not (eqb (of j) (of i))) i

is_pairing : List Lot → List Lot → (ℕ → ℕ) → Bool
is_pairing open' closed of = all (paired_well open' closed of) (length closed)

tested : (open' closed : List Lot) (of : ℕ → ℕ) → is_pairing open' closed of ≡ true → Pairing open' closed of
unfolding is_pairing paired_well
tested open' closed of t =
    record {
      among = λ i h. ltb-true _ _ (parts i h).0.0;
      earlier = λ i h. ltb-true _ _ (parts i h).0.1;
      once = λ i j h k e. omega (arith, by_comparison i j (leb i j) (leb j i) refl refl h k e);
    }
  where
    parts : (i : ℕ) → i < length closed →
        ((ltb (of i) (length open') ≡ true) × (ltb (get_or open' (of i) no_lot).time (get_or closed i no_lot).time ≡ true))
        × (all (λ j. not (eqb (of j) (of i))) i ≡ true)
    parts i h =
        let b = both_true _ (all (λ j. not (eqb (of j) (of i))) i) (all_at (paired_well open' closed of) i (length closed) t h) in
        (both_true (ltb (of i) (length open')) _ b.0, b.1)

    apart : (i j : ℕ) → i < j → j < length closed → of i ≡ of j → ⊥
    apart i j l h e =
        false≢true (sym (rw (eq-eqb (of i) (of j) e)) ∙ all_at (λ k. not (eqb (of k) (of j))) i j (parts j h).1 l)

    by_comparison : (i j : ℕ) (s t : Bool) → leb i j ≡ s → leb j i ≡ t → i < length closed → j < length closed → of i ≡ of j → i ≡ j
    by_comparison i j true true u v h k e = let p = leb-true i j u in let q = leb-true j i v in omega arith
    by_comparison i j true false u v h k e = absurd (apart i j (leb-false j i v) k e)
    by_comparison i j false t u v h k e = absurd (apart j i (leb-false i j u) h (sym e))

-- ---- the day: account 1 holds 2 long and 1 short, account 2 holds 1 short, reference 100, multiplier 10

trade : ℕ → ℕ → ℕ → ℕ → ℕ → ℕ → ℕ → Trade
trade price lots number buyer buyclose seller sellclose =
    record {
      contract = 0;
      price = price;
      lots = lots;
      buyorder = number;
      sellorder = suc number;
      buyer = buyer;
      seller = seller;
      buyclose = buyclose;
      sellclose = sellclose;
    }

-- account 1 meets its own order, 2 at 104: it opens 2 long as the buyer, then closes 2 long as the seller; it closes 1 more at
-- 107; sells 1 short at 106; buys 1 short back at 103. Weighted, 104 and four fifths: the settlement price is 104
pub day : Exchange
day =
    record {
      listings = record {
        contract = record { multiplier = 10; tick = 1; reference = 100; band = 10; limit = 10; rate = 1_000; method = 0; phase = closed; last = 103 };
        buys = [];
        sells = [];
      } ∷ [];
      accounts =
          record { balance = pos 1_000; maker = 0; holdings = record { long = 1; short = 1; startlong = 2; startshort = 1 } ∷ [] }
          ∷ record { balance = pos 1_000; maker = 0; holdings = record { long = 1; short = 1; startlong = 0; startshort = 1 } ∷ [] }
          ∷ [];
      trades = trade 104 2 1 0 0 0 1 ∷ trade 107 1 3 1 0 0 1 ∷ trade 106 1 5 1 0 0 0 ∷ trade 103 1 7 0 1 1 1 ∷ [];
      next = 9;
      nextstamp = 1;
      settlements = 1;
    }

-- today's lots first: the own order's two long lots stand at places 2 and 3, behind those of the start, the short one at 1
pub today_first : Side → ℕ → ℕ
today_first long i = get_or (2 ∷ 3 ∷ 0 ∷ []) i 0
today_first short i = 1

pairs : Side → (ℕ → ℕ) → ℕ
pairs side of = mark (is_pairing (open_of day 0 0 side) (closed_of day 0 0 side) of)

-- another account that meets its own order, with 1 short held: it closes 1 short as the buyer, and opens 1 as the seller. Its
-- lots stand at places 0 and 1
pairs_own : ℕ → ℕ
pairs_own place = mark (is_pairing (open_lots short 100 1 own) (closed_lots short own) (λ i. place))
  where
    own : List Leg
    own = legs 0 0 (trade 105 1 1 0 1 0 0 ∷ [])

pub table : List Row
table =
    (mark (well_formed_contents day) gives 1)
    ∷ (settlement_price day 0 gives 104)
    -- the house rule: two long lots gain 4 each and one 3, the short lot loses 3; then the long lot left gains 0, the short one 2
    ∷ (up (closing_profit day 0) gives 80)
    ∷ (up (holding_profit day 0) gives 20)
    ∷ (up (paired_closing day 0 (λ c. in_order)) gives 80)
    ∷ (up (paired_holding day 0 (λ c. in_order)) gives 20)
    -- today's first: the own order's lots gain nothing, one of the start 7, the short lot 3; then the long lot left gains 4, the
    -- short one loses 4
    ∷ (up (paired_closing day 0 (λ c. today_first)) gives 100)
    ∷ (up (paired_holding day 0 (λ c. today_first)) gives 0)
    ∷ (down (paired_holding day 0 (λ c. today_first)) gives 0)
    -- both are pairings; one that uses a lot twice is none, nor one with a lot that is not there
    ∷ (pairs long (in_order long) gives 1)
    ∷ (pairs short (in_order short) gives 1)
    ∷ (pairs long (today_first long) gives 1)
    ∷ (pairs short (today_first short) gives 1)
    ∷ (pairs long (λ i. 2) gives 0)
    ∷ (pairs long (λ i. suc (suc i)) gives 0)
    -- nor one with a lot opened later, in the seller's leg of the same trade
    ∷ (pairs_own 0 gives 1)
    ∷ (pairs_own 1 gives 0)
    ∷ []

pub pairing_examples : all_right table ≡ true
unfolding all_right table day trade pairs pairs_own is_pairing paired_well today_first up down all all_of sum_of sum_to allowed_today day_high day_low on_tick terms_in_range tick_multiple account_at holding_at listing_at lots_where resting after_leg book_leg book_trade book_trades leg_covered never_below_zero same_holdings same_lots start_of_day traded_lots after_day_leg after_legs closing_profit day_of day_start first_lots gain holding_gain holding_profit legs only other_lots price_from settlement_price traded_value trades_in weighted_price all_listed balance_in_range contract_in_range counters_in_range held_in_range holding_in_range holdings_in_range ranges_kept queues_sorted orders_in_range resting_in_range listed replays sorted trade_in_range uncrossed used_once well_formed_contents quotes mark_allowed queue_quoted listing_quoted mark_in_range closed_lots closed_of closes closing_by day_closing day_holding gained held_at_start holding_by lots_of_legs open_lots open_of opens paired_closing paired_holding unpaired
pairing_examples = refl

-- so the theorem speaks of today's lots first
pub today_first_lem : PairsDay day 0 0 today_first
unfolding PairsDay day trade is_pairing paired_well today_first all account_at holding_at listing_at legs only closed_lots closed_of closes held_at_start lots_of_legs open_lots open_of opens
today_first_lem long = tested _ _ _ refl
today_first_lem short = tested _ _ _ refl
