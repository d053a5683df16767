-- How many lots a sweep trades, and that behind the first order of a sorted queue that is no counterpart there is none. Assumes
-- nothing.
use Rattle.laws.specs.Logic.{Bool, true, false, not, true≢false, List, [], ◌∷◌, ⊎_elim, ◌≡◌, refl, ◌∙◌}
use Rattle.laws.specs.Numbers.{ℕ, ◌+◌, ◌≤◌, min, arith, eqb-false, leb-false, ne_eqb, lt-leb}
use Rattle.laws.specs.Sums.{sum_of}
use Rattle.rules.specs.Exchange.{best_price}
use Rattle.rules.specs.Matching.{meets, counterpart, fillable, trade_with, sweep, traded_lots}
use Rattle.rules.specs.WellFormed.{sorted}
use Rattle.rules.specs.declared.{Order.Order, PriceCondition.PriceCondition, Taker.Taker, Trade.Trade}
use Rattle.rules.specs.declared.PriceCondition.TheVariants.{Limit, Market, Best}
use Rattle.theory.proofs.Queue.{lots_nil, lots_met, lots_unmet}
use Rattle.theory.proofs.Sorted.{Behind, AllBehind, behind_antisym, sorted_tail, sorted_behind, best_first}
use Rattle.theory.proofs.Sweep.{Unmet, trade_lots, sweep_ind}

-- ---- the lots that a sweep trades

pub traded_nil : traded_lots [] ≡ 0
unfolding traded_lots sum_of
traded_nil = refl

pub traded_cons : (t : Trade) (ts : List Trade) → traded_lots (t ∷ ts) ≡ t.lots + traded_lots ts
unfolding traded_lots sum_of
traded_cons t ts = refl

pub swept_at_most : (t : Taker) (left last : ℕ) (os : List Order) → traded_lots (sweep t left last os).trades ≤ left
swept_at_most t =
    sweep_ind t (λ left last os s. traded_lots s.trades ≤ left)
    (λ left last os w. omega (arith, traded_nil))
    (λ left last o os some met short. omega (arith, traded_cons (trade_with t o left last) [], traded_nil, trade_lots t o left last))
    (λ left last o os s some met enough ih. omega (arith, traded_cons (trade_with t o left last) s.trades, trade_lots t o left last))

-- ---- on a sorted queue, no order behind one that is no counterpart is one

pub unmet_behind : (condition : PriceCondition) (sell : Bool) (best price other : ℕ) → Behind (not sell) price best → Behind (not sell) other price
    → meets condition sell best price ≡ false → meets condition sell best other ≡ false
unfolding meets
unmet_behind (Limit limit) true best price other b h e = lt-leb limit other (omega (arith, leb-false limit price e))
unmet_behind (Limit limit) false best price other b h e = lt-leb other limit (omega (arith, leb-false price limit e))
unmet_behind Market sell best price other b h e = absurd (true≢false e)
unmet_behind Best sell best price other b h e = ne_eqb other best (λ k. eqb-false price best e (behind_antisym (not sell) price best b (rw k at h)))

pub none_met : (t : Taker) (price : ℕ) (os : List Order) → Behind (not t.sell) price t.best → AllBehind (not t.sell) price os
    → meets t.condition t.sell t.best price ≡ false → fillable t os ≡ 0
unfolding fillable
none_met t price [] b h e = lots_nil (counterpart t)
none_met t price (o ∷ os) b (h, r) e =
    rw (lots_unmet (counterpart t) o os (unmet_behind t.condition t.sell t.best price o.price b h e)) (none_met t price os b r e)

-- the first order is no counterpart, or there is none: nothing fills
unmet_fillable : (t : Taker) (os : List Order) → Unmet t os → sorted (not t.sell) os ≡ true → AllBehind (not t.sell) t.best os → fillable t os ≡ 0
unfolding fillable
unmet_fillable t [] u s b = lots_nil (counterpart t)
unmet_fillable t (o ∷ os) u s (b, r) = lots_unmet (counterpart t) o os u ∙ none_met t o.price os b (sorted_behind (not t.sell) o os s) u

swept_fillable_from : (t : Taker) (left last : ℕ) (os : List Order) → sorted (not t.sell) os ≡ true → AllBehind (not t.sell) t.best os
    → traded_lots (sweep t left last os).trades ≡ min left (fillable t os)
unfolding fillable
swept_fillable_from t =
    sweep_ind t (λ left last os s. sorted (not t.sell) os ≡ true → AllBehind (not t.sell) t.best os → traded_lots s.trades ≡ min left (fillable t os))
    (λ left last os w k b. ⊎_elim (λ (e : left ≡ 0). omega (arith, traded_nil)) (λ u. omega (arith, traded_nil, unmet_fillable t os u k b)) w)
    (λ left last o os some met short k b. omega (arith, traded_cons (trade_with t o left last) [], traded_nil, trade_lots t o left last, lots_met (counterpart t) o os met))
    (λ left last o os s some met enough ih k b.
    omega (arith, traded_cons (trade_with t o left last) s.trades, trade_lots t o left last, lots_met (counterpart t) o os met, ih (sorted_tail (not t.sell) o os k) b.1))

-- a sweep of a sorted queue trades the smaller of its lots and the lots that can fill it
pub swept_fillable : (t : Taker) (left last : ℕ) (os : List Order) → sorted (not t.sell) os ≡ true → t.best ≡ best_price os
    → traded_lots (sweep t left last os).trades ≡ min left (fillable t os)
swept_fillable t left last os s e = swept_fillable_from t left last os s (rw e (best_first (not t.sell) os s))
