-- The day's trades one after the other, as loops over them add up their value and lots, with the bounds of those sums.
-- Assumes nothing.
use mir.Facts.{Fits-below}
use mir.Syntax.{w64}
use mir.Val.{Fits}
use Rattle.laws.specs.Logic.{Bool, true, false, List, [], ◌∷◌, ◌++◌, ◌≡◌, refl, ap, ◌∙◌}
use Rattle.laws.specs.Numbers.{ℕ, suc, ◌+◌, ◌*◌, ◌<◌, ◌≤◌, add-one, mul-le-mul_right, arith, eq-eqb, ne_eqb, eqb, length, length-take, get_or, take, drop, le_trans, mul-le-mul_left}
use Rattle.laws.specs.Numbers.{take-append-drop, take-suc, take_all}
use Rattle.laws.specs.Choice.{pick}
use Rattle.laws.specs.Sums.{sum_of, sum_of_append}
use Rattle.rules.specs.Bounds.{max_trades}
use Rattle.rules.specs.Exchange.{no_trade}
use Rattle.rules.specs.Matching.{traded_lots}
use Rattle.rules.specs.Memory.{recorded_trades}
use Rattle.rules.specs.Settlement.{trades_in, traded_value}
use Rattle.rules.specs.declared.Trade.{Trade}
use Rattle.theory.proofs.Codecs.{length_trades}
use Rattle.dayprofit.specs.Day.{Sized, AllSized, SizedDay, SizedTrades, TurnoverIs}
use Rattle.dayprofit.specs.Slots.{PlacedDay, PlacedTrades}
use Rattle.dayprofit.specs.declared.price.Turnover.{Turnover}

-- ---- one more trade

pub more_trades : (ts : List Trade) (i : ℕ) (t : Trade) → i < length ts → t ≡ get_or ts i no_trade → take (i + 1) ts ≡ take i ts ++ (t ∷ [])
more_trades ts i t h e = rw (e, add-one i) (take-suc ts i no_trade h)

few_first : (ts : List Trade) (i : ℕ) → length (take i ts) ≤ length ts
few_first ts i = omega (arith, length-take i ts)

-- ---- trades in their ranges

sized_append : (ts us : List Trade) → AllSized (ts ++ us) → AllSized ts × AllSized us
unfolding AllSized
sized_append [] us s = (tt, s)
sized_append (t ∷ ts) us s = let r = sized_append ts us s.1 in ((s.0, r.0), r.1)

-- those of an area
pub sized_day : (area : List ℕ) (count : ℕ) → SizedTrades area count → SizedDay (recorded_trades area count)
sized_day area count s = record { few = rw length_trades s.few; sized = s.sized }

pub placed_day : {area : List ℕ} {count : ℕ} → PlacedTrades area count → PlacedDay (recorded_trades area count)
placed_day {area} {count} p =
    record { day = sized_day area count p.trades; placed = λ i l. p.placed i (rw (length_trades area count) at l) }

module _ (ts : List Trade) (s : SizedDay ts) where
  -- the first trades, and one of them
  pub sized_first : (i : ℕ) → SizedDay (take i ts)
  sized_first i =
      record {
        few = omega (arith, few_first ts i, s.few);
        sized = (sized_append (take i ts) (drop i ts) (rw (take-append-drop i ts) s.sized)).0;
      }

  pub sized_at : (i : ℕ) (t : Trade) → i < length ts → t ≡ get_or ts i no_trade → Sized t
  unfolding AllSized
  sized_at i t h e = (sized_append (take i ts) (t ∷ []) (rw (more_trades ts i t h e) at (sized_first (i + 1)).sized)).1.0

-- ---- value and lots

trades_in_append : (c : ℕ) (ts us : List Trade) → trades_in c (ts ++ us) ≡ trades_in c ts ++ trades_in c us
unfolding trades_in
trades_in_append c [] us = refl
trades_in_append c (t ∷ ts) us = by_contract (eqb t.contract c) (trades_in_append c ts us)
  where
    by_contract : (here : Bool) → trades_in c (ts ++ us) ≡ trades_in c ts ++ trades_in c us
        → pick here (t ∷ trades_in c (ts ++ us)) (trades_in c (ts ++ us)) ≡ pick here (t ∷ trades_in c ts) (trades_in c ts) ++ trades_in c us
    by_contract true e = rw e
    by_contract false e = e

trades_in_sized : (c : ℕ) (ts : List Trade) → AllSized ts → AllSized (trades_in c ts)
unfolding trades_in AllSized
trades_in_sized c [] s = tt
trades_in_sized c (t ∷ ts) s = by_contract (eqb t.contract c) (trades_in_sized c ts s.1)
  where
    by_contract : (here : Bool) → AllSized (trades_in c ts) → AllSized (pick here (t ∷ trades_in c ts) (trades_in c ts))
    by_contract true r = (s.0, r)
    by_contract false r = r

trades_in_few : (c : ℕ) (ts : List Trade) → length (trades_in c ts) ≤ length ts
unfolding trades_in
trades_in_few c [] = omega arith
trades_in_few c (t ∷ ts) = by_contract (eqb t.contract c) (trades_in_few c ts)
  where
    by_contract : (here : Bool) → length (trades_in c ts) ≤ length ts → length (pick here (t ∷ trades_in c ts) (trades_in c ts)) ≤ suc (length ts)
    by_contract true h = omega arith
    by_contract false h = omega arith

-- "Prices: 1 to 1,000,000", "Lots per order: 1 to 1,000"
pub value_small : (ts : List Trade) → AllSized ts → traded_value ts ≤ 1_000_000 * traded_lots ts
unfolding AllSized traded_value traded_lots sum_of
value_small [] s = omega arith
value_small (t ∷ ts) s = omega (arith, mul-le-mul_right t.lots s.0.price, value_small ts s.1)

lots_small : (ts : List Trade) → AllSized ts → traded_lots ts ≤ 1_000 * length ts
unfolding AllSized traded_lots sum_of
lots_small [] s = omega arith
lots_small (t ∷ ts) s = omega (arith, s.0.lots, lots_small ts s.1)

-- a contract without lots traded has no trade
pub some_lots : (t : Trade) (ts : List Trade) → AllSized (t ∷ ts) → 0 < traded_lots (t ∷ ts)
unfolding AllSized traded_lots sum_of
some_lots t ts s = omega (arith, s.0.some)

-- one trade's part
module _ (c : ℕ) (t : Trade) where
  pub part_none : (t.contract ≡ c → ⊥) → TurnoverIs (trades_in c (t ∷ [])) (record { value = 0; lots = 0 })
  unfolding trades_in traded_value traded_lots sum_of
  part_none apart = record { value = rw (ne_eqb t.contract c apart); lots = rw (ne_eqb t.contract c apart) }

  pub part_all : t.contract ≡ c → TurnoverIs (trades_in c (t ∷ [])) (record { value = t.price * t.lots; lots = t.lots })
  unfolding trades_in traded_value traded_lots sum_of
  part_all here = record { value = rw (eq-eqb t.contract c here) (omega arith); lots = rw (eq-eqb t.contract c here) (omega arith) }

  pub part_fits : Sized t → Fits w64 (t.price * t.lots)
  part_fits s = Fits-below {n = 1_000_000_000} tt (le_trans (mul-le-mul_right t.lots s.price) (mul-le-mul_left 1_000_000 s.lots))

-- ---- the loop over the day's trades: value and lots of the first i, as far as they are the contract's

pub record Trading (ts : List Trade) (c v l i : ℕ) : Type 0 where
  pub value : v ≡ traded_value (trades_in c (take i ts))
  pub lots : l ≡ traded_lots (trades_in c (take i ts))

pub trading_none : (ts : List Trade) (c : ℕ) → Trading ts c 0 0 0
unfolding trades_in traded_value traded_lots sum_of
trading_none ts c = record { value = refl; lots = refl }

pub trading_all : (ts : List Trade) (c value lots i : ℕ) → length ts ≤ i → Trading ts c value lots i → TurnoverIs (trades_in c ts) (record { value = value; lots = lots })
trading_all ts c value lots i h w =
    let e : take i ts ≡ ts = take_all i ts h in
    record { value = rw e at w.value; lots = rw e at w.lots }

module _ (ts : List Trade) (c : ℕ) (s : SizedDay ts) where
  turnover_small : (value lots i : ℕ) → Trading ts c value lots i → (value ≤ 1_024_000_000_000) × (lots ≤ 1_024_000)
  turnover_small value lots i w =
      let us : List Trade = trades_in c (take i ts) in
      let z : AllSized us = trades_in_sized c (take i ts) (sized_first ts s i).sized in
      let n : length us ≤ max_trades = omega (arith, trades_in_few c (take i ts), (sized_first ts s i).few) in
      let l : traded_lots us ≤ 1_024_000 = omega (arith, lots_small us z) in
      (omega (arith, value_small us z, w.value), omega (arith, w.lots))

  pub trading_more : (value lots i : ℕ) (t : Trade) (p : Turnover) → i < length ts → Trading ts c value lots i → t ≡ get_or ts i no_trade
      → TurnoverIs (trades_in c (t ∷ [])) p → Trading ts c (value + p.value) (lots + p.lots) (i + 1)
  unfolding traded_value traded_lots
  trading_more value lots i t p h w e q =
      let f : trades_in c (take (i + 1) ts) ≡ trades_in c (take i ts) ++ trades_in c (t ∷ []) =
      ap (trades_in c) (more_trades ts i t h e) ∙ trades_in_append c (take i ts) (t ∷ []) in
      record { value = rw (f, sum_of_append, w.value, q.value); lots = rw (f, sum_of_append, w.lots, q.lots) }

  module _ (value lots i : ℕ) (t : Trade) (p : Turnover) (h : i < length ts) (w : Trading ts c value lots i) (e : t ≡ get_or ts i no_trade)
      (q : TurnoverIs (trades_in c (t ∷ [])) p) where
    pub value_fits : Fits w64 (value + p.value)
    value_fits = Fits-below {n = 1_024_000_000_000} tt (turnover_small _ _ _ (trading_more value lots i t p h w e q)).0

    pub lots_fits : Fits w64 (lots + p.lots)
    lots_fits = Fits-below {n = 1_024_000} tt (turnover_small _ _ _ (trading_more value lots i t p h w e q)).1

  pub contract_sized : AllSized (trades_in c ts)
  contract_sized = trades_in_sized c ts s.sized
