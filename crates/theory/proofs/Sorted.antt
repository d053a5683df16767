-- What the order of a queue says of its prices: each stands at or behind the one before. Assumes nothing.
use Rattle.laws.specs.Logic.{Bool, true, false, ◌&&◌, ◌||◌, List, [], ◌∷◌, ◌≡◌, refl}
use Rattle.laws.specs.Numbers.{ℕ, ◌≤◌, arith, eqb-true, ltb-true, eqb, ltb}
use Rattle.laws.specs.Choice.{both_true}
use Rattle.rules.specs.Exchange.{worse, best_price}
use Rattle.rules.specs.WellFormed.{ahead, ahead_of_first, sorted}
use Rattle.rules.specs.declared.Order.{Order}

-- a price stands at another or behind it, on a side
abbrev pub Behind : Bool → ℕ → ℕ → Type 0
Behind true price other = other ≤ price
Behind false price other = price ≤ other

pub behind_refl : (sell : Bool) (price : ℕ) → Behind sell price price
behind_refl true price = omega arith
behind_refl false price = omega arith

pub behind_trans : (sell : Bool) (a b c : ℕ) → Behind sell a b → Behind sell b c → Behind sell a c
behind_trans true a b c h k = omega arith
behind_trans false a b c h k = omega arith

pub behind_antisym : (sell : Bool) (a b : ℕ) → Behind sell a b → Behind sell b a → a ≡ b
behind_antisym true a b h k = omega arith
behind_antisym false a b h k = omega arith

-- what is not better is behind
pub behind_worse : (sell : Bool) (a b : ℕ) → worse sell a b ≡ true → Behind sell a b
behind_worse true a b e = omega (arith, ltb-true b a e)
behind_worse false a b e = omega (arith, ltb-true a b e)

pub behind_ahead : (sell : Bool) (o p : Order) → ahead sell o p ≡ true → Behind sell p.price o.price
unfolding ahead
behind_ahead sell o p e = by_price (worse sell p.price o.price) refl e
  where
    by_price : (w : Bool) → worse sell p.price o.price ≡ w → (w || eqb o.price p.price && ltb o.stamp p.stamp) ≡ true
        → Behind sell p.price o.price
    by_price true k h = behind_worse sell p.price o.price k
    by_price false k h = rw (eqb-true o.price p.price (both_true (eqb o.price p.price) (ltb o.stamp p.stamp) h).0) (behind_refl sell p.price)

-- every order of a queue stands at a price or behind it
abbrev pub AllBehind : Bool → ℕ → List Order → Type 0
AllBehind sell price [] = Unit {0}
AllBehind sell price (o ∷ os) = Behind sell o.price price × AllBehind sell price os

pub all_behind_trans : (sell : Bool) (a b : ℕ) (os : List Order) → Behind sell a b → AllBehind sell a os → AllBehind sell b os
all_behind_trans sell a b [] h k = tt
all_behind_trans sell a b (o ∷ os) h (k, r) = (behind_trans sell o.price a b k h, all_behind_trans sell a b os h r)

pub sorted_tail : (sell : Bool) (o : Order) (os : List Order) → sorted sell (o ∷ os) ≡ true → sorted sell os ≡ true
unfolding sorted
sorted_tail sell o os e = (both_true (ahead_of_first sell o os) (sorted sell os) e).1

pub sorted_behind : (sell : Bool) (o : Order) (os : List Order) → sorted sell (o ∷ os) ≡ true → AllBehind sell o.price os
unfolding sorted ahead_of_first
sorted_behind sell o [] e = tt
sorted_behind sell o (p ∷ ps) e =
    let b = both_true (ahead sell o p) (sorted sell (p ∷ ps)) e in
    let k = behind_ahead sell o p b.0 in
    (k, all_behind_trans sell p.price o.price ps k (sorted_behind sell p ps b.1))

-- no order of a sorted queue is better than its best price
pub best_first : (sell : Bool) (os : List Order) → sorted sell os ≡ true → AllBehind sell (best_price os) os
unfolding best_price
best_first sell [] e = tt
best_first sell (o ∷ os) e = (behind_refl sell o.price, sorted_behind sell o os e)
