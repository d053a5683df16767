-- Readers that stop at the first order that is no counterpart: their turns, the number of trades that a sweep makes, and that on a
-- sorted queue they find what the rules say of the whole. Assumes nothing.
use Rattle.laws.specs.Logic.{Bool, true, false, not, ◌&&◌, List, [], ◌∷◌, ◌⊎◌, inl, inr, ◌≡◌, refl, sym, ◌∙◌}
use Rattle.laws.specs.Numbers.{ℕ, ◌+◌, ◌-◌, ◌<◌, arith, lt-ltb, ltb, length}
use Rattle.laws.specs.Choice.{pick_true, pick_false, true_both, both_false}
use Rattle.rules.specs.Exchange.{lots_where, best_price}
use Rattle.rules.specs.Matching.{counterpart, fillable, sweep}
use Rattle.rules.specs.WellFormed.{sorted}
use Rattle.rules.specs.declared.{Order.Order, Taker.Taker}
use Rattle.theory.proofs.Fillable.{none_met}
use Rattle.theory.proofs.Queue.{lots_nil, lots_met, lots_unmet}
use Rattle.theory.proofs.Sorted.{AllBehind, sorted_tail, sorted_behind, best_first}
use Rattle.theory.proofs.Sweep.{Unmet, sweep_ind}
use Rattle.book.specs.EarlyStop.{fillable_front, count_trades}

-- ---- turns of the early-stop readers

pub front_end : (t : Taker) → fillable_front t [] ≡ 0
unfolding fillable_front
front_end t = refl

pub front_met : (t : Taker) (o : Order) (os : List Order) → counterpart t o ≡ true → fillable_front t (o ∷ os) ≡ o.lots + fillable_front t os
unfolding fillable_front
front_met t o os e = rw e

pub front_unmet : (t : Taker) (o : Order) (os : List Order) → counterpart t o ≡ false → fillable_front t (o ∷ os) ≡ 0
unfolding fillable_front
front_unmet t o os e = rw e

pub count_end : (t : Taker) (left : ℕ) → count_trades t left [] ≡ 0
unfolding count_trades
count_end t left = refl

pub count_used : (t : Taker) (os : List Order) → count_trades t 0 os ≡ 0
unfolding count_trades
count_used t [] = refl
count_used t (o ∷ os) = refl

pub count_unmet : (t : Taker) (left : ℕ) (o : Order) (os : List Order) → counterpart t o ≡ false → count_trades t left (o ∷ os) ≡ 0
unfolding count_trades
count_unmet t left o os e = pick_false (ltb 0 left && counterpart t o) _ _ (both_false (ltb 0 left) (counterpart t o) e)

pub count_met : (t : Taker) (left : ℕ) (o : Order) (os : List Order) → 0 < left → counterpart t o ≡ true
    → count_trades t left (o ∷ os) ≡ 1 + count_trades t (left - o.lots) os
unfolding count_trades
count_met t left o os some met = pick_true (ltb 0 left && counterpart t o) _ _ (true_both (ltb 0 left) (counterpart t o) (lt-ltb 0 left some) met)

count_stop : (t : Taker) (left : ℕ) (os : List Order) → (left ≡ 0) ⊎ Unmet t os → count_trades t left os ≡ 0
count_stop t left os (inl e) = rw e (count_used t os)
count_stop t left [] (inr u) = count_end t left
count_stop t left (o ∷ os) (inr u) = count_unmet t left o os u

-- ---- the trades that a sweep makes, whatever the orders' lots

pub trades_counted : (t : Taker) (left last : ℕ) (os : List Order) → length (sweep t left last os).trades ≡ count_trades t left os
trades_counted t =
    sweep_ind t (λ left last os s. length s.trades ≡ count_trades t left os)
    (λ left last os w. sym (count_stop t left os w))
    (λ left last o os some met short.
    let z : left - o.lots ≡ 0 = omega arith in sym (count_met t left o os some met ∙ rw (z, count_used t os)))
    (λ left last o os s some met enough ih. omega (arith, count_met t left o os some met))

-- ---- the lots that fill an order

front_fillable_from : (t : Taker) (os : List Order) → sorted (not t.sell) os ≡ true → AllBehind (not t.sell) t.best os
    → fillable_front t os ≡ fillable t os
unfolding fillable
front_fillable_from t [] s b = rw (front_end, lots_nil)
front_fillable_from t (o ∷ os) s (b, r) = by_counterpart (counterpart t o) refl (front_fillable_from t os (sorted_tail (not t.sell) o os s) r)
  where
    by_counterpart : (met : Bool) → counterpart t o ≡ met → fillable_front t os ≡ fillable t os → fillable_front t (o ∷ os) ≡ lots_where (counterpart t) (o ∷ os)
    by_counterpart true e ih = omega (arith, front_met t o os e, lots_met (counterpart t) o os e)
    by_counterpart false e ih = omega (arith, front_unmet t o os e, lots_unmet (counterpart t) o os e, none_met t o.price os b (sorted_behind (not t.sell) o os s) e)

-- "Fillable lots are the counterparts' lots added up", read as far as the first order that is no counterpart
pub front_fillable : (t : Taker) (os : List Order) → sorted (not t.sell) os ≡ true → t.best ≡ best_price os → fillable_front t os ≡ fillable t os
front_fillable t os s e = front_fillable_from t os s (rw e (best_first (not t.sell) os s))
