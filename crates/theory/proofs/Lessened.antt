-- A queue in which the order with a number has fewer lots and no quote mark: it keeps its order, its tests and every other field.
-- Assumes nothing.
use Rattle.laws.specs.Logic.{Bool, true, false, List, [], ◌∷◌, ◌≡◌, refl}
use Rattle.laws.specs.Numbers.{ℕ, zero, suc, ◌+◌, ◌<◌, ◌≤◌, le_of_suc-le-suc, arith, leb-true, leb, length, get_or}
use Rattle.laws.specs.Choice.{pick, all_of, both_true, true_both}
use Rattle.laws.specs.Sums.{sum_of}
use Rattle.rules.specs.Change.{lessened, unmarked}
use Rattle.rules.specs.Exchange.{no_order}
use Rattle.rules.specs.Matching.{with_lots}
use Rattle.rules.specs.Step.{has_number}
use Rattle.rules.specs.WellFormed.{ahead, ahead_of_first, sorted, uncrossed}
use Rattle.rules.specs.declared.Order.{Order}

module _ (number lots : ℕ) where
  -- the order with the number, and any order of the queue
  abbrev pub lesser : Order → Order
  lesser o = unmarked (with_lots o lots)

  abbrev pub less_one : Order → Order
  less_one o = pick (has_number number o) (lesser o) o

  -- the order with the number has at least these lots
  abbrev pub fits : Order → Bool
  fits o = pick (has_number number o) (leb lots o.lots) true

  pub less_length : (os : List Order) → length (lessened number lots os) ≡ length os
  unfolding lessened
  less_length [] = refl
  less_length (o ∷ os) = rw (less_length os)

  -- the order with the number has other lots and no quote mark, and every other is as it was
  pub less_at : (os : List Order) (i : ℕ) → i < length os → get_or (lessened number lots os) i no_order ≡ less_one (get_or os i no_order)
  unfolding lessened
  less_at [] i h = absurd (omega arith)
  less_at (o ∷ os) zero h = refl
  less_at (o ∷ os) (suc i) h = less_at os i (le_of_suc-le-suc h)

  -- a queue goes by price and time stamp
  less_ahead : (sell : Bool) (o p : Order) → ahead sell (less_one o) (less_one p) ≡ ahead sell o p
  unfolding ahead
  less_ahead sell o p = by_numbers (has_number number o) (has_number number p)
    where
      by_numbers : (a b : Bool) → ahead sell (pick a (lesser o) o) (pick b (lesser p) p) ≡ ahead sell o p
      by_numbers true true = refl
      by_numbers true false = refl
      by_numbers false true = refl
      by_numbers false false = refl

  pub less_sorted : (sell : Bool) (os : List Order) → sorted sell (lessened number lots os) ≡ sorted sell os
  unfolding lessened sorted ahead_of_first
  less_sorted sell [] = refl
  less_sorted sell (o ∷ []) = refl
  less_sorted sell (o ∷ p ∷ ps) = rw (less_ahead sell o p, less_sorted sell (p ∷ ps))

  pub less_uncrossed : (buys sells : List Order) → uncrossed (lessened number lots buys) (lessened number lots sells) ≡ uncrossed buys sells
  unfolding lessened uncrossed
  less_uncrossed [] sells = refl
  less_uncrossed (b ∷ bs) [] = refl
  less_uncrossed (b ∷ bs) (s ∷ ss) = by_numbers (has_number number b) (has_number number s)
    where
      by_numbers : (x y : Bool) → uncrossed (pick x (lesser b) b ∷ bs) (pick y (lesser s) s ∷ ss) ≡ uncrossed (b ∷ bs) (s ∷ ss)
      by_numbers true true = refl
      by_numbers true false = refl
      by_numbers false true = refl
      by_numbers false false = refl

  -- a function of an order that goes by neither the lots nor the mark adds up to the same
  pub same_sum : (f : Order → ℕ) → ((o : Order) → f (lesser o) ≡ f o) → (os : List Order) → sum_of f (lessened number lots os) ≡ sum_of f os
  unfolding lessened sum_of
  same_sum f same [] = refl
  same_sum f same (o ∷ os) = by_number (has_number number o) (same_sum f same os)
    where
      by_number : (b : Bool) → sum_of f (lessened number lots os) ≡ sum_of f os → f (pick b (lesser o) o) + sum_of f (lessened number lots os) ≡ f o + sum_of f os
      by_number true ih = rw (same o, ih)
      by_number false ih = rw ih

  -- and a test of it is passed as before
  pub same_all : (test : Order → Bool) → ((o : Order) → test (lesser o) ≡ test o) → (os : List Order) → all_of test (lessened number lots os) ≡ all_of test os
  unfolding lessened all_of
  same_all test same [] = refl
  same_all test same (o ∷ os) = by_number (has_number number o) (same_all test same os)
    where
      by_number : (b : Bool) → all_of test (lessened number lots os) ≡ all_of test os → all_of test (pick b (lesser o) o ∷ lessened number lots os) ≡ all_of test (o ∷ os)
      by_number true ih = rw (same o, ih)
      by_number false ih = rw ih

  pub less_all : (test : Order → Bool) → ((o : Order) → lots ≤ o.lots → test o ≡ true → test (lesser o) ≡ true) → (os : List Order) →
      all_of fits os ≡ true → all_of test os ≡ true → all_of test (lessened number lots os) ≡ true
  unfolding lessened all_of
  less_all test kept [] f h = refl
  less_all test kept (o ∷ os) f h = by_number (has_number number o) p.0 (less_all test kept os p.1 q.1)
    where
      p : (fits o ≡ true) × (all_of fits os ≡ true)
      p = both_true (fits o) (all_of fits os) f

      q : (test o ≡ true) × (all_of test os ≡ true)
      q = both_true (test o) (all_of test os) h

      by_number : (b : Bool) → pick b (leb lots o.lots) true ≡ true → all_of test (lessened number lots os) ≡ true → all_of test (pick b (lesser o) o ∷ lessened number lots os) ≡ true
      by_number true e ih = true_both (test (lesser o)) (all_of test (lessened number lots os)) (kept o (leb-true lots o.lots e) q.0) ih
      by_number false e ih = true_both (test o) (all_of test (lessened number lots os)) q.0 ih

  pub less_sum : (f : Order → ℕ) → ((o : Order) → lots ≤ o.lots → f (lesser o) ≤ f o) → (os : List Order) → all_of fits os ≡ true →
      sum_of f (lessened number lots os) ≤ sum_of f os
  unfolding lessened all_of sum_of
  less_sum f less [] h = omega arith
  less_sum f less (o ∷ os) h = by_number (has_number number o) p.0 (less_sum f less os p.1)
    where
      p : (fits o ≡ true) × (all_of fits os ≡ true)
      p = both_true (fits o) (all_of fits os) h

      by_number : (b : Bool) → pick b (leb lots o.lots) true ≡ true → sum_of f (lessened number lots os) ≤ sum_of f os →
          f (pick b (lesser o) o) + sum_of f (lessened number lots os) ≤ f o + sum_of f os
      by_number true e ih = omega (arith, less o (leb-true lots o.lots e))
      by_number false e ih = omega arith
