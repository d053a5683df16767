-- One account's profit in one contract from its sums of legs, side by side, with the bounds of those sums. Assumes nothing.
use lib.IntN.{ℤ}
use mir.Facts.{to_z-of_z, Fits-below}
use mir.Syntax.{w64}
use mir.Val.{SFits, to_z, of_z, Fits}
use Rattle.laws.specs.Logic.{Bool, true, false, not, List, ◌∷◌, ◌≡◌, refl, sym, ap, ◌∙◌, subst}
use Rattle.laws.specs.Numbers.{ℕ, ◌+◌, ◌-◌, ◌*◌, ◌<◌, ◌≤◌, min, le_trans, mul-le-mul_left, mul-le-mul_right, arith, get_or}
use Rattle.laws.specs.Bound.{within_diff}
use Rattle.laws.specs.Sums.{sum_of}
use Rattle.rules.specs.Article32.{lots_in}
use Rattle.rules.specs.Exchange.{Exchange, contract_at, held_at}
use Rattle.rules.specs.Memory.{recorded_trades}
use Rattle.rules.specs.Settlement.{Leg, Batch, day_start, after_legs, day_of, legs, first_lots, other_lots, holding_gain}
use Rattle.rules.specs.declared.{Holding.Holding, Trade.Trade}
use Rattle.accounting.proofs.DayProfit.{lots_other}
use Rattle.dayprofit.specs.Sides.{closed_lots, closed_value, opened_today, ever_open, cost, Profitable, side_from, closing_from, holding_from, SumsSmall, SideSmall, ProfitFrom}
use Rattle.dayprofit.specs.Slots.{slot_of, SumsAre, UsedAre, Rooms, sums_at, DaySmall}
use Rattle.dayprofit.specs.declared.profit.Side.{Side}
use Rattle.dayprofit.specs.declared.profit.Sums.{Sums}
use Rattle.dayprofit.proofs.FirstIn.{SideIs, day_sides, closing_by_sides, holding_by_sides, first_other}
use Rattle.dayprofit.proofs.Legs.{batches_lots, batches_cost}
use Rattle.dayprofit.proofs.Passes.{lots_reach, value_reach}
use Rattle.dayprofit.proofs.Trading.{sized_day}
use Rattle.dayprofit.specs.declared.profit.Profit.{Profit}

-- ---- a side's sums, by its legs: start-of-day lots go first

pub record SideSummed (start : ℕ) (short : Bool) (ls : List Leg) (s : Sums) : Type 0 where
  pub closed : s.closed ≡ closed_lots short ls
  pub closes : s.closes ≡ closed_value short ls
  pub opened : s.opened ≡ lots_in (opened_today short ls)
  pub opens : s.opens ≡ cost (opened_today short ls)
  pub used : s.used ≡ cost (first_lots (closed_lots short ls - start) (opened_today short ls))

module _ (reference start closed : ℕ) (bs : List Batch) where
  abbrev start_and : List Batch
  start_and = record { price = reference; lots = start } ∷ bs

  start_lots : lots_in start_and ≡ start + lots_in bs
  unfolding sum_of
  start_lots = refl

  start_cost : cost start_and ≡ reference * start + cost bs
  unfolding cost sum_of
  start_cost = refl

  start_taken : cost (first_lots closed start_and) ≡ reference * min closed start + cost (first_lots (closed - start) bs)
  unfolding cost first_lots sum_of
  start_taken = refl

module _ (reference start : ℕ) (short : Bool) (ls : List Leg) (s : Sums) (q : SideSummed start short ls s) where
  abbrev ever : List Batch
  ever = ever_open reference start short ls

  side_closed : reference * min s.closed start + s.used ≡ cost (first_lots (closed_lots short ls) ever)
  side_closed = rw (q.closed, q.used) (sym (start_taken reference start (closed_lots short ls) (opened_today short ls)))

  side_lots : start + s.opened - s.closed ≡ lots_in (other_lots (closed_lots short ls) ever)
  side_lots =
      rw (lots_other (closed_lots short ls) ever, start_lots reference start (closed_lots short ls) (opened_today short ls), q.opened, q.closed)

  side_opened : reference * start + s.opens - (reference * min s.closed start + s.used) ≡ cost (other_lots (closed_lots short ls) ever)
  side_opened =
      rw (side_closed, q.opens)
      (omega (arith, first_other (closed_lots short ls) ever, start_cost reference start (closed_lots short ls) (opened_today short ls)))

  pub side_is : SideIs reference start short ls (side_from reference start s)
  side_is = record { closes = q.closes; closed = side_closed; lots = side_lots; opened = side_opened }

-- ---- how far they reach

priced_small : (p k : ℕ) → p ≤ 1_000_000 → k ≤ 100_000 → p * k ≤ 100_000_000_000
priced_small p k h j = le_trans (mul-le-mul_right k h) (mul-le-mul_left 1_000_000 j)

module _ (reference start : ℕ) (s : Sums) (g : SumsSmall reference start s) where
  first_small : reference * min s.closed start ≤ reference * start
  first_small = mul-le-mul_left reference (omega arith)

  start_small : reference * start ≤ 100_000_000_000
  start_small = priced_small reference start g.reference g.first

  pub first_fits : (f : ℕ) → f ≡ min s.closed start → Fits w64 (reference * f)
  first_fits f e = rw e (Fits-below {n = 100_000_000_000} tt (omega (arith, first_small, start_small)))

  pub closed_fits : (f : ℕ) → f ≡ min s.closed start → Fits w64 (reference * f + s.used)
  closed_fits f e = rw e (Fits-below {n = 1_124_000_000_000} tt (omega (arith, first_small, start_small, g.used, g.opens)))

  pub start_fits : Fits w64 (reference * start)
  start_fits = Fits-below {n = 100_000_000_000} tt start_small

  pub opened_fits : Fits w64 (reference * start + s.opens)
  opened_fits = Fits-below {n = 1_124_000_000_000} tt (omega (arith, start_small, g.opens))

  pub closed_below : (f : ℕ) → f ≡ min s.closed start → reference * f + s.used ≤ reference * start + s.opens
  closed_below f e = rw e (omega (arith, first_small, g.used))

  pub side_small : SideSmall (side_from reference start s)
  side_small =
      record {
        closes = omega (arith, g.closes);
        closed = omega (arith, first_small, start_small, g.used, g.opens);
        lots = omega (arith, g.first, g.opened);
        opened = omega (arith, start_small, g.opens);
      }

-- ---- both sides at a price

marked_small : (p k : ℕ) → p ≤ 1_000_000 → k ≤ 1_124_000 → p * k ≤ 1_124_000_000_000
marked_small p k h j = le_trans (mul-le-mul_right k h) (mul-le-mul_left 1_000_000 j)

pub marked_fits : (r : Side) → SideSmall r → (price : ℕ) → price ≤ 1_000_000 → Fits w64 (price * r.lots)
marked_fits r g price h = Fits-below {n = 1_124_000_000_000} tt (marked_small price r.lots h g.lots)

module _ (l s : Side) (p : SideSmall l) (q : SideSmall s) (price : ℕ) (h : price ≤ 1_000_000) where
  pub gains_small : price * l.lots + s.opened ≤ 4_000_000_000_000
  gains_small = omega (arith, marked_small price l.lots h p.lots, q.opened)

  pub losses_small : l.opened + price * s.lots ≤ 4_000_000_000_000
  losses_small = omega (arith, marked_small price s.lots h q.lots, p.opened)

  closes_small : l.closes + s.closed ≤ 4_000_000_000_000
  closes_small = omega (arith, p.closes, q.closed)

  closed_small : l.closed + s.closes ≤ 4_000_000_000_000
  closed_small = omega (arith, p.closed, q.closes)

  pub gains_fit : Fits w64 (price * l.lots + s.opened)
  gains_fit = Fits-below {n = 4_000_000_000_000} tt gains_small

  pub losses_fit : Fits w64 (l.opened + price * s.lots)
  losses_fit = Fits-below {n = 4_000_000_000_000} tt losses_small

  pub profit_is : (x y : ℤ) → SFits w64 x → SFits w64 y → x ≡ closing_from l s → y ≡ holding_from price l s
      → ProfitFrom l s price (record { closing = to_z w64 (of_z w64 x); holding = to_z w64 (of_z w64 y) })
  profit_is x y f g e k =
      let b : to_z w64 (of_z w64 x) ≡ closing_from l s = to_z-of_z {w = w64} f ∙ e in
      let c : to_z w64 (of_z w64 y) ≡ holding_from price l s = to_z-of_z {w = w64} g ∙ k in
      record {
        closing = b;
        holding = c;
        closing_small = rw b (within_diff closes_small closed_small);
        holding_small = rw c (within_diff gains_small losses_small);
      }

-- ---- from the slots: a side's sums s that stand there, and its day r

module _ (reference start : ℕ) (s t : Sums) (e : s ≡ t) (g : SumsSmall reference start t) where
  pub sums_small : SumsSmall reference start s
  sums_small = subst (SumsSmall reference start) (sym e) g

  module _ (r : Side) (f : r ≡ side_from reference start s) where
    pub side_from_lem : r ≡ side_from reference start t
    side_from_lem = f ∙ ap (side_from reference start) e

    pub side_known : SideSmall r
    side_known = subst SideSmall (sym side_from_lem) (side_small reference start t g)

pub profit_from : (l l' s s' : Side) (price : ℕ) (r : Profit) → l ≡ l' → s ≡ s' → ProfitFrom l s price r → ProfitFrom l' s' price r
profit_from l l' s s' price r e f w = subst (λ (x : Side). ProfitFrom x s' price r) e (subst (λ (x : Side). ProfitFrom l x price r) f w)

-- ---- THE DAY'S PROFIT from the slots that the passes leave is Article 32's

-- the lots of today's that closes took on a side
abbrev pub Due : List ℕ → List ℕ → ℕ → ℕ → Bool → ℕ → Type 0
Due closed left a c short start = get_or left (slot_of a c short) 0 ≡ get_or closed (slot_of a c (not short)) 0 - start

-- all that the passes leave of a day's trades
pub record Summed (ts : List Trade) (closed closes opened opens left used : List ℕ) : Type 0 where
  pub closing : SumsAre true ts closed closes
  pub opening : SumsAre false ts opened opens
  pub taken : UsedAre ts left used

module _ (area : List ℕ) (count : ℕ) (closed closes opened opens left used : List ℕ) (q : Summed (recorded_trades area count) closed closes opened opens left used)
    (a c : ℕ) (la : a < 32) (lc : c < 4) where
  abbrev ls : List Leg
  ls = legs a c (recorded_trades area count)

  side_summed : (short : Bool) (start : ℕ) → Due closed left a c short start → SideSummed start short ls (sums_at closed closes opened opens used a c short)
  unfolding closed_lots closed_value
  side_summed short start d =
      let lots = q.closing.lots_are a c (not short) la lc in
      record {
        closed = lots;
        closes = q.closing.value_is a c (not short) la lc;
        opened = q.opening.lots_are a c short la lc ∙ sym (batches_lots short false ls);
        opens = q.opening.value_is a c short la lc ∙ sym (batches_cost short false ls);
        used = q.taken.each a c short la lc ∙ ap (λ (n : ℕ). cost (first_lots n (opened_today short ls))) (d ∙ ap (λ (n : ℕ). n - start) lots);
      }

  module _ (ref : ℕ) (h : Holding) (p : ℕ) (g : Profitable ref h a c area count p) (dl : Due closed left a c false h.startlong) (ds : Due closed left a c true h.startshort) where
    in_reach : (short : Bool) (start : ℕ) → start ≤ 100_000 → closed_lots short ls ≤ lots_in (ever_open ref start short ls) → Due closed left a c short start
        → SumsSmall ref start (sums_at closed closes opened opens used a c short)
    in_reach short start few covered d =
        let w = side_summed short start d in
        record {
          reference = g.reference;
          first = few;
          covered = omega (arith, w.closed, w.opened, covered, start_lots ref start 0 (opened_today short ls));
          opened = omega (arith, q.opening.lots_are a c short la lc, lots_reach _ (sized_day _ _ g.trades) a c short false);
          closes = omega (arith, q.closing.value_is a c (not short) la lc, value_reach _ (sized_day _ _ g.trades) a c (not short) true);
          opens = omega (arith, q.opening.value_is a c short la lc, value_reach _ (sized_day _ _ g.trades) a c short false);
          used = omega (arith, w.used, w.opens, first_other (closed_lots short ls - start) (opened_today short ls));
        }

    pub day_small : Rooms closed closes opened opens used → DaySmall closed closes opened opens used a c ref h p
    day_small rooms =
        let sides = day_sides ref h.startlong h.startshort ls g.covered in
        record {
          account = la;
          contract = lc;
          rooms = rooms;
          long = in_reach false h.startlong g.long sides.long.few dl;
          short = in_reach true h.startshort g.short sides.short.few ds;
          marked = g.price;
        }

    abbrev long_side : Side
    long_side = side_from ref h.startlong (sums_at closed closes opened opens used a c false)

    abbrev short_side : Side
    short_side = side_from ref h.startshort (sums_at closed closes opened opens used a c true)

    long_is : SideIs ref h.startlong false ls long_side
    long_is = side_is ref h.startlong false ls _ (side_summed false h.startlong dl)

    short_is : SideIs ref h.startshort true ls short_side
    short_is = side_is ref h.startshort true ls _ (side_summed true h.startshort ds)

    -- in any exchange with this reference, this holding and these trades
    module _ (x : Exchange) (terms : (contract_at x c).reference ≡ ref) (start : held_at x a c ≡ h) (day : x.trades ≡ recorded_trades area count) where
      its_day : day_of x a c ≡ after_legs (day_start ref h.startlong h.startshort) ls
      unfolding day_of
      its_day = rw (terms, start, day)

      pub closing_by_slots : closing_from long_side short_side ≡ (day_of x a c).closing
      closing_by_slots = rw its_day (sym (closing_by_sides ref h.startlong h.startshort ls g.covered long_side short_side long_is short_is))

      pub holding_by_slots : holding_from p long_side short_side ≡ holding_gain p (day_of x a c)
      holding_by_slots = rw its_day (sym (holding_by_sides ref h.startlong h.startshort ls g.covered long_side short_side long_is short_is p))
