-- Days whose profit by Article 32 is worked out by hand. One table, one statement, as
-- in Examples.antt. Assumes nothing.
use Rattle.std.specs.Prelude.{true, false, List, [], ◌∷◌, ◌≡◌, refl, ℕ, length}
use Rattle.laws.specs.Sums.{sum_of}
use Rattle.rules.specs.Article32.{Figures, closed_history, closed_today, figures, held_history, held_today, those_that, Σover}
use Rattle.rules.specs.Examples.{Row, ◌gives◌, all_right, up, down}
use Rattle.rules.specs.Settlement.{Day, Leg, leg, after_day_leg, after_legs, day_start, first_lots, gain, holding_gain, legs, only, other_lots}
use Rattle.rules.specs.declared.Trade.{Trade}

-- 2 long and 1 short at the start, reference 100; 3 bought at 104 to open; 4 long sold at 105 to close: the two old ones
-- gain 5 each, two of today's 1 each; the short one bought back at 103 loses 3; 2 sold at 106 to open
day_legs : List Leg
day_legs = leg false false 104 3 ∷ leg true true 105 4 ∷ leg false true 103 1 ∷ leg true false 106 2 ∷ []

day : Day
day = after_legs (day_start 100 2 1) day_legs

-- the day as Article 32's four sums read it, with a settlement price
at : ℕ → Figures
at price = figures 100 price 2 1 day_legs

-- the day without the buy back
profit : Day
profit = after_legs (day_start 100 2 1) (leg false false 104 3 ∷ leg true true 105 4 ∷ [])

-- account 1 sells to account 2 in the first contract, and to itself in the second
trades : List Trade
trades = trade 0 1 0 ∷ trade 1 0 0 ∷ []
  where
    trade : ℕ → ℕ → ℕ → Trade
    trade contract buyer seller =
        record { contract = contract; price = 100; lots = 1; buyorder = 2; sellorder = 1; buyer = buyer; seller = seller; buyclose = 0; sellclose = 0 }

pub table : List Row
table =
    -- an account's legs are those of its own trades in the contract
    (length (legs 0 0 trades) gives 1)
    ∷ (length (legs 1 0 trades) gives 1)
    ∷ (length (legs 2 0 trades) gives 0)
    ∷ (length (legs 0 1 trades) gives 2)
    ∷ (length (legs 1 1 trades) gives 0)
    ∷ (up profit.closing gives 12)
    ∷ (up day.closing gives 9)
    -- at 107 one long lot of today's gains 3, two short ones lose 1 each
    ∷ (up (holding_gain 107 day) gives 1)
    -- at 120 the long lot gains 16, the short ones lose 14 each
    ∷ (down (holding_gain 120 day) gives 12)
    -- at 100 the long lot loses 4, the short ones gain 6 each
    ∷ (up (holding_gain 100 day) gives 8)
    -- the short lot of the start, still open, against the reference
    ∷ (down (holding_gain 104 profit) gives 4)
    -- Article 32's sums: of the 9, the two old long lots gain 10 and the old short one loses 3; today's two gain 2
    ∷ (up (closed_history (at 107)) gives 7)
    ∷ (up (closed_today (at 107)) gives 2)
    -- of the 1 at 107, all is on lots opened today; no lot of the start is left
    ∷ (up (held_history (at 107)) gives 0)
    ∷ (down (held_history (at 107)) gives 0)
    ∷ (up (held_today (at 107)) gives 1)
    ∷ (down (held_today (at 120)) gives 12)
    -- without the legs after the first two the short lot of the start is left: at 104 it loses 4, today's one long lot nothing
    ∷ (down (held_history (figures 100 104 2 1 (leg false false 104 3 ∷ leg true true 105 4 ∷ []))) gives 4)
    -- account 1 of the paper's day sells 3 at 102 to open and buys 2 back at 103: times 10, its loss of 20
    ∷ (down (closed_today (figures 100 102 0 0 (leg true false 102 3 ∷ leg false true 103 2 ∷ []))) gives 2)
    ∷ []

pub profit_examples : all_right table ≡ true
unfolding all_right table day_legs day at profit trades legs only up down after_day_leg after_legs day_start first_lots gain holding_gain other_lots closed_history closed_today figures held_history held_today those_that Σover sum_of
profit_examples = refl
