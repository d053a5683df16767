-- Queues as lists of orders: the lots of those that satisfy a test, the queue without them, an order come to rest, numbers used
-- once. Assumes nothing.
use Rattle.laws.specs.Logic.{Bool, true, false, not, List, [], ◌∷◌, ◌++◌, ◌≡◌, refl, ap}
use Rattle.laws.specs.Numbers.{ℕ, suc, ◌+◌, ◌≤◌, arith, eqb, length}
use Rattle.laws.specs.Choice.{pick_either, all_of, all_of_append, both_true, true_both}
use Rattle.laws.specs.Sums.{sum_of, sum_of_append}
use Rattle.rules.specs.Exchange.{worse, lots_where}
use Rattle.rules.specs.Matching.{rest_in}
use Rattle.rules.specs.Step.{without}
use Rattle.rules.specs.WellFormed.{used_once}
use Rattle.rules.specs.declared.Order.{Order}

module _ (test : Order → Bool) where
  -- ---- the lots of the orders that satisfy a test

  pub lots_nil : lots_where test [] ≡ 0
  unfolding lots_where sum_of
  lots_nil = refl

  pub lots_met : (o : Order) (os : List Order) → test o ≡ true → lots_where test (o ∷ os) ≡ o.lots + lots_where test os
  unfolding lots_where sum_of
  lots_met o os e = rw e

  pub lots_unmet : (o : Order) (os : List Order) → test o ≡ false → lots_where test (o ∷ os) ≡ lots_where test os
  unfolding lots_where sum_of
  lots_unmet o os e = rw e (omega arith)

  pub lots_append : (os ps : List Order) → lots_where test (os ++ ps) ≡ lots_where test os + lots_where test ps
  unfolding lots_where
  lots_append os ps = sum_of_append _ os ps

  -- ---- the queue without them

  pub without_nil : without test [] ≡ []
  unfolding without
  without_nil = refl

  pub without_met : (o : Order) (os : List Order) → test o ≡ true → without test (o ∷ os) ≡ without test os
  unfolding without
  without_met o os e = rw e

  pub without_unmet : (o : Order) (os : List Order) → test o ≡ false → without test (o ∷ os) ≡ o ∷ without test os
  unfolding without
  without_unmet o os e = rw e

  pub without_append : (os ps : List Order) → without test (os ++ ps) ≡ without test os ++ without test ps
  without_append [] ps = rw without_nil
  without_append (o ∷ os) ps = by_test (test o) refl (without_append os ps)
    where
      by_test : (b : Bool) → test o ≡ b → without test (os ++ ps) ≡ without test os ++ without test ps
          → without test (o ∷ (os ++ ps)) ≡ without test (o ∷ os) ++ without test ps
      by_test true e ih = rw (without_met o (os ++ ps) e, without_met o os e) ih
      by_test false e ih = rw (without_unmet o (os ++ ps) e, without_unmet o os e, ih)

  pub length_without : (os : List Order) → length (without test os) ≤ length os
  length_without [] = rw without_nil (omega arith)
  length_without (o ∷ os) = by_test (test o) refl (length_without os)
    where
      by_test : (b : Bool) → test o ≡ b → length (without test os) ≤ length os → length (without test (o ∷ os)) ≤ suc (length os)
      by_test true e ih = rw (without_met o os e) (omega arith)
      by_test false e ih = rw (without_unmet o os e) (omega arith)

-- ---- an order comes to rest

pub length_rest_in : (sell : Bool) (o : Order) (os : List Order) → length (rest_in sell o os) ≡ suc (length os)
unfolding rest_in
length_rest_in sell o [] = refl
length_rest_in sell o (p ∷ ps) =
    pick_either (λ l. length l ≡ suc (suc (length ps))) (worse sell p.price o.price) (o ∷ p ∷ ps) (p ∷ rest_in sell o ps) (λ e. refl) (λ e. ap suc (length_rest_in sell o ps))

-- ---- a number that no order has

abbrev pub not_in : ℕ → List ℕ → Bool
not_in n ks = all_of (λ k. not (eqb n k)) ks

pub not_in_append : (n : ℕ) (xs ys : List ℕ) → not_in n (xs ++ ys) ≡ true → (not_in n xs ≡ true) × (not_in n ys ≡ true)
not_in_append n xs ys h = both_true (not_in n xs) (not_in n ys) (rw all_of_append at h)

-- numbers used once over two lists are so in each, and those of the one are not in the other
pub once_append : (xs ys : List ℕ) → used_once (xs ++ ys) ≡ true → (used_once xs ≡ true) × (used_once ys ≡ true)
unfolding used_once
once_append [] ys u = (refl, u)
once_append (x ∷ xs) ys u =
    let b = both_true (not_in x (xs ++ ys)) (used_once (xs ++ ys)) u in
    let h = not_in_append x xs ys b.0 in
    let ih = once_append xs ys b.1 in
    (true_both (not_in x xs) (used_once xs) h.0 ih.0, ih.1)
