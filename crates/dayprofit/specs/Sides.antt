-- Article 32 without a queue of batches: on each side of a holding closes take the first lots, so what they took and what is
-- left follow from how many lots were closed. Assumes nothing.
use Rattle.std.specs.Prelude.{Bool, true, false, not, ◌&&◌, List, [], ◌∷◌, ◌++◌, ◌≡◌, ℕ, ◌+◌, ◌-◌, ◌*◌, ◌^◌, ◌≤◌, min, ℤ, pos, ◌-ℤ◌}
use Rattle.laws.specs.Bound.{Within}
use Rattle.laws.specs.Choice.{pick}
use Rattle.laws.specs.Sums.{sum_of}
use Rattle.rules.specs.Bounds.{max_trades, max_lots, max_price, max_limit}
use Rattle.rules.specs.Memory.{recorded_trades}
use Rattle.rules.specs.Settlement.{Leg, leg, Batch, day_start, legs}
use Rattle.rules.specs.declared.Holding.{Holding}
use Rattle.accounting.specs.DayLegs.{AllCovered}
use Rattle.dayprofit.specs.Day.{SizedTrades}
use Rattle.dayprofit.specs.declared.profit.Profit.{Profit}
use Rattle.dayprofit.specs.declared.profit.Side.{Side}
use Rattle.dayprofit.specs.declared.profit.Sums.{Sums}

-- ---- legs of one kind: those that buy or sell, open or close, as asked

abbrev pub same : Bool → Bool → Bool
same true b = b
same false b = not b

unfoldable pub lots_if : Bool → Bool → Leg → ℕ
lots_if sell close (leg s k p n) = pick (same sell s && same close k) n 0

unfoldable pub value_if : Bool → Bool → Leg → ℕ
value_if sell close (leg s k p n) = pick (same sell s && same close k) (p * n) 0

unfoldable pub batch_if : Bool → Bool → Leg → List Batch
batch_if sell close (leg s k p n) = pick (same sell s && same close k) (record { price = p; lots = n } ∷ []) []

-- ---- one side of a holding, `short` or long: sells close long lots and open short ones, buys the other way round

unfoldable pub closed_lots : Bool → List Leg → ℕ
closed_lots short ls = sum_of (lots_if (not short) true) ls

unfoldable pub closed_value : Bool → List Leg → ℕ
closed_value short ls = sum_of (value_if (not short) true) ls

-- the lots of legs of one kind, in order
unfoldable pub batches_of : Bool → Bool → List Leg → List Batch
batches_of sell close [] = []
batches_of sell close (l ∷ ls) = batch_if sell close l ++ batches_of sell close ls

abbrev pub opened_today : Bool → List Leg → List Batch
opened_today short ls = batches_of short false ls

-- what batches were opened for
unfoldable pub cost : List Batch → ℕ
cost bs = sum_of (λ b. b.price * b.lots) bs

-- "Closes use start-of-day lots first, then today's in trade order": all lots of a side, in that order
abbrev pub ever_open : ℕ → ℕ → Bool → List Leg → List Batch
ever_open reference start short ls = record { price = reference; lots = start } ∷ opened_today short ls

-- what an account's profit in a contract asks for: values in range, and closes that find their lots
pub record Profitable (ref : ℕ) (h : Holding) (a c : ℕ) (area : List ℕ) (count p : ℕ) : Type 0 where
  pub trades : SizedTrades area count
  pub reference : ref ≤ max_price
  pub long : h.startlong ≤ max_limit
  pub short : h.startshort ≤ max_limit
  pub price : p ≤ max_price
  pub covered : AllCovered (day_start ref h.startlong h.startshort) (legs a c (recorded_trades area count))

-- ---- the profit from sums of legs

-- a side's day: start-of-day lots at the reference go first
abbrev pub side_from : ℕ → ℕ → Sums → Side
side_from reference start s =
    record {
      closes = s.closes;
      closed = reference * min s.closed start + s.used;
      lots = start + s.opened - s.closed;
      opened = reference * start + s.opens - (reference * min s.closed start + s.used);
    }

-- "start-of-day lots against the reference, today's against their opening price"
abbrev pub closing_from : Side → Side → ℤ
closing_from long short = pos (long.closes + short.closed) -ℤ pos (long.closed + short.closes)

-- the open lots at a price
abbrev pub holding_from : ℕ → Side → Side → ℤ
holding_from price long short = pos (price * long.lots + short.opened) -ℤ pos (long.opened + price * short.lots)

-- the lots of a day, 1,024 trades of at most 1,000, and of a side with what it held at the start; each at most at the largest price
abbrev pub day_lots_most : ℕ
day_lots_most = max_trades * max_lots

abbrev pub day_value_most : ℕ
day_value_most = max_price * day_lots_most

abbrev pub side_lots_most : ℕ
side_lots_most = max_limit + day_lots_most

abbrev pub side_value_most : ℕ
side_value_most = max_price * side_lots_most

-- sums of a day's trades, whose closes found their lots
pub record SumsSmall (ref start : ℕ) (s : Sums) : Type 0 where
  pub reference : ref ≤ max_price
  pub first : start ≤ max_limit
  pub covered : s.closed ≤ start + s.opened
  pub opened : s.opened ≤ day_lots_most
  pub closes : s.closes ≤ day_value_most
  pub opens : s.opens ≤ day_value_most
  pub used : s.used ≤ s.opens

pub record SideSmall (r : Side) : Type 0 where
  pub closes : r.closes ≤ side_value_most
  pub closed : r.closed ≤ side_value_most
  pub lots : r.lots ≤ side_lots_most
  pub opened : r.opened ≤ side_value_most

-- a part of an account's profit in a contract, before the multiplier: two sides' values (`side_value_most`) rounded up
abbrev pub profit_most : ℕ
profit_most = 4 * 10 ^ 12

pub record ProfitFrom (long short : Side) (price : ℕ) (r : Profit) : Type 0 where
  pub closing : r.closing ≡ closing_from long short
  pub holding : r.holding ≡ holding_from price long short
  pub closing_small : Within profit_most r.closing
  pub holding_small : Within profit_most r.holding
