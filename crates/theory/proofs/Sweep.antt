-- The sweep turn by turn: what it makes of the first order of a queue, for the loop that walks it, and an induction by which
-- a theorem about every sweep is three short cases. Assumes nothing.
use Rattle.laws.specs.Logic.{Bool, true, false, ◌&&◌, List, [], ◌∷◌, ◌⊎◌, inl, inr, ◌≡◌, refl, ◌∙◌}
use Rattle.laws.specs.Numbers.{ℕ, zero, suc, ◌-◌, ◌<◌, ◌≤◌, min, arith, ltb-true, ltb-false, eq-eqb, lt-ltb, eqb, ltb}
use Rattle.laws.specs.Choice.{pick_true, pick_false, all_of, both_true, true_both, both_false}
use Rattle.rules.specs.Matching.{counterpart, trade_price, trade_with, with_lots, stays, Swept, untouched, after_trade, sweep}
use Rattle.rules.specs.declared.{Order.Order, Taker.Taker, Trade.Trade}

-- ---- a trade's lots and price

pub trade_lots : (t : Taker) (o : Order) (left last : ℕ) → (trade_with t o left last).lots ≡ min left o.lots
unfolding trade_with
trade_lots t o left last = refl

pub trade_price_lem : (t : Taker) (o : Order) (left last : ℕ) → (trade_with t o left last).price ≡ trade_price t.method t.condition o.price last
unfolding trade_with
trade_price_lem t o left last = refl

-- ---- what stays of an order

pub stays_none : (o : Order) (n : ℕ) → n ≡ 0 → stays o n ≡ []
unfolding stays
stays_none o n e = rw e

pub stays_some : (o : Order) (n : ℕ) → 0 < n → stays o n ≡ with_lots o n ∷ []
unfolding stays
stays_some o zero h = absurd (omega arith)
stays_some o (suc n) h = refl

-- ---- one turn

-- the trade that fills the taker: the order keeps the rest of its lots, and nothing behind it is touched
abbrev pub part_filled : Taker → Order → ℕ → ℕ → List Order → Swept
part_filled t o left last os = record { trades = trade_with t o left last ∷ []; rest = with_lots o (o.lots - left) ∷ os }

-- the trade that fills the order: it leaves, and the sweep goes on behind it
abbrev pub filled : Taker → Order → ℕ → ℕ → Swept → Swept
filled t o left last s = record { trades = trade_with t o left last ∷ s.trades; rest = s.rest }

pub sweep_end : (t : Taker) (left last : ℕ) → sweep t left last [] ≡ untouched []
unfolding sweep
sweep_end t left last = refl

-- "or when the lots are used up"
pub sweep_used : (t : Taker) (last : ℕ) (os : List Order) → sweep t 0 last os ≡ untouched os
unfolding sweep
sweep_used t last [] = refl
sweep_used t last (o ∷ os) = refl

module _ (t : Taker) (left last : ℕ) (o : Order) (os : List Order) where
  pub sweep_none_left : left ≡ 0 → sweep t left last (o ∷ os) ≡ untouched (o ∷ os)
  sweep_none_left e = rw e (sweep_used t last (o ∷ os))

  -- "The sweep stops at the first order that is no counterpart"
  pub sweep_unmet : counterpart t o ≡ false → sweep t left last (o ∷ os) ≡ untouched (o ∷ os)
  unfolding sweep
  sweep_unmet e = pick_false (ltb 0 left && counterpart t o) _ _ (both_false (ltb 0 left) (counterpart t o) e)

  met_turn : 0 < left → counterpart t o ≡ true → sweep t left last (o ∷ os)
      ≡ after_trade (trade_with t o left last) (stays o (o.lots - min left o.lots)) (sweep t (left - min left o.lots) (trade_price t.method t.condition o.price last) os)
  unfolding sweep
  met_turn some met = pick_true (ltb 0 left && counterpart t o) _ _ (true_both (ltb 0 left) (counterpart t o) (lt-ltb 0 left some) met)

  pub sweep_part : 0 < left → counterpart t o ≡ true → left < o.lots → sweep t left last (o ∷ os) ≡ part_filled t o left last os
  sweep_part some met short =
      let m : min left o.lots ≡ left = omega arith in
      let z : left - left ≡ 0 = omega arith in
      met_turn some met ∙ rw (m, z, stays_some o (o.lots - left) (omega arith), sweep_used)

  pub sweep_full : 0 < left → counterpart t o ≡ true → o.lots ≤ left
      → sweep t left last (o ∷ os) ≡ filled t o left last (sweep t (left - o.lots) (trade_price t.method t.condition o.price last) os)
  sweep_full some met enough =
      let m : min left o.lots ≡ o.lots = omega arith in
      met_turn some met ∙ rw (m, stays_none o (o.lots - o.lots) (omega arith))

-- ---- induction over a sweep

-- the first of these orders, if there is one, is no counterpart
abbrev pub Unmet : Taker → List Order → Type 0
Unmet t [] = Unit {0}
Unmet t (o ∷ os) = counterpart t o ≡ false

-- What holds of a queue that is left as it is, with the reason why; of one whose first order fills the taker; and of one whose
-- first order is filled, given that it holds of the rest: holds of every sweep.
module _ (t : Taker) (P : ℕ → ℕ → List Order → Swept → Type 0)
    (stop : (left last : ℕ) (os : List Order) → (left ≡ 0) ⊎ Unmet t os → P left last os (untouched os))
    (part : (left last : ℕ) (o : Order) (os : List Order) → 0 < left → counterpart t o ≡ true → left < o.lots
    → P left last (o ∷ os) (part_filled t o left last os))
    (full : (left last : ℕ) (o : Order) (os : List Order) (s : Swept) → 0 < left → counterpart t o ≡ true → o.lots ≤ left
    → P (left - o.lots) (trade_price t.method t.condition o.price last) os s → P left last (o ∷ os) (filled t o left last s)) where
  turn : (left last : ℕ) (o : Order) (os : List Order) (some met short : Bool) → ltb 0 left ≡ some → counterpart t o ≡ met
      → ltb left o.lots ≡ short → ((k p : ℕ) → P k p os (sweep t k p os)) → P left last (o ∷ os) (sweep t left last (o ∷ os))
  turn left last o os false met short a b c ih =
      let z : left ≡ 0 = omega (arith, ltb-false 0 left a) in
      rw (sweep_none_left t left last o os z) (stop left last (o ∷ os) (inl z))
  turn left last o os true false short a b c ih = rw (sweep_unmet t left last o os b) (stop left last (o ∷ os) (inr b))
  turn left last o os true true true a b c ih =
      let h = ltb-true 0 left a in
      let l = ltb-true left o.lots c in
      rw (sweep_part t left last o os h b l) (part left last o os h b l)
  turn left last o os true true false a b c ih =
      let h = ltb-true 0 left a in
      let l = ltb-false left o.lots c in
      rw (sweep_full t left last o os h b l) (full left last o os _ h b l (ih _ _))

  pub sweep_ind : (left last : ℕ) (os : List Order) → P left last os (sweep t left last os)
  sweep_ind left last [] = rw (sweep_end t left last) (stop left last [] (inr tt))
  sweep_ind left last (o ∷ os) = turn left last o os _ _ _ refl refl refl (λ k p. sweep_ind k p os)

-- What holds of every trade with an order of the queue, at a last price of which something holds that every trade's price keeps:
-- holds of every trade of the sweep.
pub swept_each : (t : Taker) (test : Trade → Bool) (fit : Order → Bool) (Last : ℕ → Type 0)
    → ((o : Order) (left last : ℕ) → 0 < left → counterpart t o ≡ true → fit o ≡ true → Last last → (test (trade_with t o left last) ≡ true) × Last (trade_price t.method t.condition o.price last))
    → (left last : ℕ) (os : List Order) → Last last → all_of fit os ≡ true → all_of test (sweep t left last os).trades ≡ true
unfolding all_of
swept_each t test fit Last each =
    sweep_ind t (λ left last os s. Last last → all_of fit os ≡ true → all_of test s.trades ≡ true)
    (λ left last os w l h. refl)
    (λ left last o os some met short l h.
    true_both (test (trade_with t o left last)) true (each o left last some met (both_true (fit o) (all_of fit os) h).0 l).0 refl)
    (λ left last o os s some met enough ih l h.
    let b = both_true (fit o) (all_of fit os) h in
    let e = each o left last some met b.0 l in
    true_both (test (trade_with t o left last)) (all_of test s.trades) e.0 (ih e.1 b.1))

-- all of one contract
abbrev pub of_contract : ℕ → Trade → Bool
of_contract c t = eqb t.contract c

pub swept_contract : (t : Taker) (left last : ℕ) (os : List Order) → all_of (of_contract t.contract) (sweep t left last os).trades ≡ true
unfolding all_of trade_with
swept_contract t =
    sweep_ind t (λ left last os s. all_of (of_contract t.contract) s.trades ≡ true)
    (λ left last os w. refl)
    (λ left last o os some met short. true_both (eqb t.contract t.contract) true (eq-eqb t.contract t.contract refl) refl)
    (λ left last o os s some met enough ih. true_both (eqb t.contract t.contract) (all_of (of_contract t.contract) s.trades)
    (eq-eqb t.contract t.contract refl) ih)
