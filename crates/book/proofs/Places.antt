-- The places that the engine looks for in a queue: the first order that satisfies a test, where a new order goes, where a
-- numbered one stands, and what the queue is with such a place known. Assumes nothing.
use Rattle.laws.specs.Logic.{Bool, true, false, not, List, [], ◌∷◌, ◌++◌, ◌≡◌, refl, sym, ap, ◌∙◌}
use Rattle.laws.specs.Numbers.{ℕ, suc, ◌<◌, ◌≤◌, le_of_suc-le-suc, arith, eqb-true, eqb-false, ne_eqb, not-true, eqb, length, get_or}
use Rattle.laws.specs.Choice.{all_of, both_true}
use Rattle.areas.specs.Lists.{insert_at, remove_at}
use Rattle.rules.specs.Answers.{numbered}
use Rattle.rules.specs.Exchange.{worse, lots_where, no_order}
use Rattle.rules.specs.Matching.{rest_in}
use Rattle.rules.specs.Step.{without, has_number}
use Rattle.rules.specs.WellFormed.{numbers, used_once, listed}
use Rattle.rules.specs.declared.Order.{Order}
use Rattle.theory.proofs.Queue.{lots_nil, lots_met, lots_unmet, without_nil, without_met, without_unmet, not_in, not_in_append}
use Rattle.book.specs.Places.{first_where, place_in, index_of}

module _ (test : Order → Bool) where
  -- ---- the first that satisfies a test

  pub first_nil : first_where test [] ≡ 0
  unfolding first_where
  first_nil = refl

  pub first_here : (o : Order) (os : List Order) → test o ≡ true → first_where test (o ∷ os) ≡ 0
  unfolding first_where
  first_here o os e = rw e

  pub first_on : (o : Order) (os : List Order) → test o ≡ false → first_where test (o ∷ os) ≡ suc (first_where test os)
  unfolding first_where
  first_on o os e = rw e

  -- What holds of no order, of a queue whose first order satisfies the test, and of one whose first does not, given that it holds
  -- of the rest: holds of every queue and the place found there.
  module _ (P : List Order → ℕ → Type 0) (none : P [] 0) (here : (o : Order) (os : List Order) → test o ≡ true → P (o ∷ os) 0)
      (on : (o : Order) (os : List Order) (i : ℕ) → test o ≡ false → P os i → P (o ∷ os) (suc i)) where
    pub first_ind : (os : List Order) → P os (first_where test os)
    first_ind [] = rw first_nil none
    first_ind (o ∷ os) = by_test (test o) refl (first_ind os)
      where
        by_test : (b : Bool) → test o ≡ b → P os (first_where test os) → P (o ∷ os) (first_where test (o ∷ os))
        by_test true e ih = rw (first_here o os e) (here o os e)
        by_test false e ih = rw (first_on o os e) (on o os (first_where test os) e ih)

  pub first_within : (os : List Order) → first_where test os ≤ length os
  first_within = first_ind (λ os i. i ≤ length os) (omega arith) (λ o os e. omega arith) (λ o os i e ih. omega arith)

  -- ---- where none satisfies it

  pub without_none : (os : List Order) → first_where test os ≡ length os → without test os ≡ os
  without_none =
      first_ind (λ os i. i ≡ length os → without test os ≡ os) (λ h. without_nil test) (λ o os e h. absurd (omega arith))
      (λ o os i e ih h. without_unmet test o os e ∙ ap (λ (l : List Order). o ∷ l) (ih (omega arith)))

  pub lots_none : (os : List Order) → first_where test os ≡ length os → lots_where test os ≡ 0
  lots_none =
      first_ind (λ os i. i ≡ length os → lots_where test os ≡ 0) (λ h. lots_nil test) (λ o os e h. absurd (omega arith))
      (λ o os i e ih h. lots_unmet test o os e ∙ ih (omega arith))

-- ---- an order comes to rest

pub rest_in_insert_at : (sell : Bool) (o : Order) (os : List Order) → rest_in sell o os ≡ insert_at (place_in sell o.price os) o os
unfolding rest_in insert_at
rest_in_insert_at sell o =
    first_ind (λ p. worse sell p.price o.price) (λ os i. rest_in sell o os ≡ insert_at i o os) refl (λ p ps e. rw e)
    (λ p ps i e ih. rw e (ap (λ (l : List Order). p ∷ l) ih))

-- ---- orders by number

other : (m n : ℕ) → eqb m n ≡ false → eqb n m ≡ false
other m n e = ne_eqb n m (λ k. eqb-false m n e (sym k))

pub index_not_in : (n : ℕ) (os : List Order) → not_in n (numbers os) ≡ true → index_of n os ≡ length os
unfolding all_of listed
index_not_in n [] h = first_nil (has_number n)
index_not_in n (o ∷ os) h =
    let b = both_true (not (eqb n o.number)) (not_in n (numbers os)) h in
    first_on (has_number n) o os (other n o.number (not-true (eqb n o.number) b.0)) ∙ ap suc (index_not_in n os b.1)

once_tail : (o : Order) (os : List Order) → used_once (numbers (o ∷ os)) ≡ true → used_once (numbers os) ≡ true
unfolding listed used_once
once_tail o os u = (both_true (not_in o.number (numbers os)) (used_once (numbers os)) u).1

pub index_apart : (n : ℕ) (os : List Order) (ks : List ℕ) → used_once (numbers os ++ ks) ≡ true → index_of n os < length os → not_in n ks ≡ true
unfolding listed used_once
index_apart n os ks =
    first_ind (has_number n) (λ os i. used_once (numbers os ++ ks) ≡ true → i < length os → not_in n ks ≡ true) (λ u h. absurd (omega arith))
    (λ o os e u h. rw (eqb-true o.number n e) at (not_in_append o.number (numbers os) ks (both_true (not_in o.number (numbers os ++ ks)) (used_once (numbers os ++ ks)) u).0).1)
    (λ o os i e ih u h. ih (both_true (not_in o.number (numbers os ++ ks)) (used_once (numbers os ++ ks)) u).1 (le_of_suc-le-suc h)) os

module _ (n : ℕ) where
  pub numbered_none : (os : List Order) → index_of n os ≡ length os → numbered n os ≡ []
  unfolding numbered
  numbered_none =
      first_ind (has_number n) (λ os i. i ≡ length os → numbered n os ≡ []) (λ h. refl) (λ o os e h. absurd (omega arith)) (λ o os i e ih h. rw e (ih (omega arith)))

  pub numbered_found : (os : List Order) → index_of n os < length os → numbered n os ≡ get_or os (index_of n os) no_order ∷ []
  unfolding numbered
  numbered_found =
      first_ind (has_number n) (λ os i. i < length os → numbered n os ≡ get_or os i no_order ∷ []) (λ h. absurd (omega arith)) (λ o os e h. rw e) (λ o os i e ih h. rw e (ih (le_of_suc-le-suc h)))

  -- "buys first"
  pub numbered_append_none : (os ps : List Order) → index_of n os ≡ length os → numbered n (os ++ ps) ≡ numbered n ps
  unfolding numbered
  numbered_append_none os ps =
      first_ind (has_number n) (λ os i. i ≡ length os → numbered n (os ++ ps) ≡ numbered n ps) (λ h. refl) (λ o os e h. absurd (omega arith)) (λ o os i e ih h. rw e (ih (omega arith))) os

  pub numbered_append_found : (os ps : List Order) → index_of n os < length os → numbered n (os ++ ps) ≡ get_or os (index_of n os) no_order ∷ []
  unfolding numbered
  numbered_append_found os ps =
      first_ind (has_number n) (λ os i. i < length os → numbered n (os ++ ps) ≡ get_or os i no_order ∷ []) (λ h. absurd (omega arith)) (λ o os e h. rw e) (λ o os i e ih h. rw e (ih (le_of_suc-le-suc h))) os

  -- "a number .. used once": the one order that has it
  only : (o : Order) (os : List Order) → has_number n o ≡ true → used_once (numbers (o ∷ os)) ≡ true → index_of n os ≡ length os
  unfolding listed used_once
  only o os e u = index_not_in n os (rw (eqb-true o.number n e) at (both_true (not_in o.number (numbers os)) (used_once (numbers os)) u).0)

  pub without_number : (os : List Order) → used_once (numbers os) ≡ true → index_of n os < length os
      → without (has_number n) os ≡ remove_at (index_of n os) os
  unfolding remove_at
  without_number =
      first_ind (has_number n) (λ os i. used_once (numbers os) ≡ true → i < length os → without (has_number n) os ≡ remove_at i os) (λ u h. absurd (omega arith))
      (λ o os e u h. without_met (has_number n) o os e ∙ without_none (has_number n) os (only o os e u))
      (λ o os i e ih u h. without_unmet (has_number n) o os e ∙ ap (λ (l : List Order). o ∷ l) (ih (once_tail o os u) (le_of_suc-le-suc h)))

  pub lots_number : (os : List Order) → used_once (numbers os) ≡ true → index_of n os < length os
      → lots_where (has_number n) os ≡ (get_or os (index_of n os) no_order).lots
  lots_number =
      first_ind (has_number n) (λ os i. used_once (numbers os) ≡ true → i < length os → lots_where (has_number n) os ≡ (get_or os i no_order).lots) (λ u h. absurd (omega arith))
      (λ o os e u h. omega (arith, lots_met (has_number n) o os e, lots_none (has_number n) os (only o os e u)))
      (λ o os i e ih u h. lots_unmet (has_number n) o os e ∙ ih (once_tail o os u) (le_of_suc-le-suc h))
