-- The orders of a queue that satisfy a test, taken out one by one by their numbers: where numbers are used once, that is the queue without
-- the orders that satisfy it. Assumes nothing.
use Rattle.laws.specs.Logic.{Bool, true, false, not, ◌&&◌, true≢false, List, [], ◌∷◌, ◌++◌, ◌≡◌, refl, sym, ap, ◌∙◌}
use Rattle.laws.specs.Numbers.{ℕ, ◌+◌, ◌≤◌, arith, eqb-true, eqb-false, eq-eqb, ne_eqb, eqb, length}
use Rattle.laws.specs.Choice.{pick, all_of, both_true, true_both}
use Rattle.laws.specs.Sums.{sum_of}
use Rattle.rules.specs.Answers.{no_such_order, numbered, of_another}
use Rattle.rules.specs.Step.{has_number, without}
use Rattle.rules.specs.WellFormed.{number_of}
use Rattle.rules.specs.declared.Order.{Order}
use Rattle.invariants.proofs.Numbers.{uses}

-- the orders that satisfy a test
unfoldable pub only : (Order → Bool) → List Order → List Order
only test [] = []
only test (o ∷ os) = pick (test o) (o ∷ only test os) (only test os)

-- a number that no order has
unused_stay : (n : ℕ) (os : List Order) → uses number_of n os ≡ 0 → without (has_number n) os ≡ os
unfolding uses sum_of without
unused_stay n [] h = refl
unused_stay n (o ∷ os) h = by_number (eqb o.number n) refl (unused_stay n os)
  where
    by_number : (b : Bool) → eqb o.number n ≡ b → (uses number_of n os ≡ 0 → without (has_number n) os ≡ os) → pick b (without (has_number n) os) (o ∷ without (has_number n) os) ≡ o ∷ os
    by_number true e ih =
        let z : eqb n o.number ≡ true = eq-eqb n o.number (sym (eqb-true o.number n e)) in
        let h' : 1 + uses number_of n os ≡ 0 = rw z at h in
        absurd (omega arith)
    by_number false e ih =
        let z : eqb n o.number ≡ false = ne_eqb n o.number (λ k. eqb-false o.number n e (sym k)) in
        let h' : 0 + uses number_of n os ≡ 0 = rw z at h in
        rw (ih (omega arith)) refl

module _ (test : Order → Bool) where
  pub without_append : (os ps : List Order) → without test (os ++ ps) ≡ without test os ++ without test ps
  unfolding without
  without_append [] ps = refl
  without_append (o ∷ os) ps = by_test (test o) (without_append os ps)
    where
      by_test : (b : Bool) → without test (os ++ ps) ≡ without test os ++ without test ps →
          pick b (without test (os ++ ps)) (o ∷ without test (os ++ ps)) ≡ pick b (without test os) (o ∷ without test os) ++ without test ps
      by_test true ih = ih
      by_test false ih = rw ih refl

  -- where none satisfies it, nothing is taken out
  pub without_none : (os : List Order) → only test os ≡ [] → without test os ≡ os
  unfolding without only
  without_none [] e = refl
  without_none (o ∷ os) e = by_test (test o) e (without_none os)
    where
      by_test : (b : Bool) → pick b (o ∷ only test os) (only test os) ≡ [] → (only test os ≡ [] → without test os ≡ os) →
          pick b (without test os) (o ∷ without test os) ≡ o ∷ os
      by_test true e ih = let z : ◌≡◌ {A = ℕ} 0 1 = cc in absurd (omega arith)
      by_test false e ih = rw (ih e) refl

  pub only_append : (os ps : List Order) → only test (os ++ ps) ≡ only test os ++ only test ps
  unfolding only
  only_append [] ps = refl
  only_append (o ∷ os) ps = by_test (test o) (only_append os ps)
    where
      by_test : (b : Bool) → only test (os ++ ps) ≡ only test os ++ only test ps →
          pick b (o ∷ only test (os ++ ps)) (only test (os ++ ps)) ≡ pick b (o ∷ only test os) (only test os) ++ only test ps
      by_test true ih = rw ih refl
      by_test false ih = ih

  pub only_count : (os : List Order) → length (only test os) ≡ sum_of (λ o. pick (test o) 1 0) os
  unfolding only sum_of
  only_count [] = refl
  only_count (o ∷ os) = by_test (test o) (only_count os)
    where
      by_test : (b : Bool) → length (only test os) ≡ sum_of (λ o. pick (test o) 1 0) os → length (pick b (o ∷ only test os) (only test os)) ≡ pick b 1 0 + sum_of (λ o. pick (test o) 1 0) os
      by_test true ih = omega (arith, ih)
      by_test false ih = omega (arith, ih)

  module _ (n : ℕ) where
    only_without : (os : List Order) → only test (without (has_number n) os) ≡ without (has_number n) (only test os)
    unfolding without only
    only_without [] = refl
    only_without (o ∷ os) = by_number_and_test (eqb o.number n) (test o) refl refl (only_without os)
      where
        by_number_and_test : (b c : Bool) → eqb o.number n ≡ b → test o ≡ c → only test (without (has_number n) os) ≡ without (has_number n) (only test os) →
            only test (pick b (without (has_number n) os) (o ∷ without (has_number n) os)) ≡ without (has_number n) (pick c (o ∷ only test os) (only test os))
        by_number_and_test true true e f ih = rw e ih
        by_number_and_test true false e f ih = ih
        by_number_and_test false true e f ih = rw (e, f) (ap (λ (l : List Order). o ∷ l) ih)
        by_number_and_test false false e f ih = rw f ih

    only_uses : (os : List Order) → uses number_of n (only test os) ≤ uses number_of n os
    unfolding only uses sum_of
    only_uses [] = omega arith
    only_uses (o ∷ os) = by_test (test o) (only_uses os)
      where
        by_test : (b : Bool) → uses number_of n (only test os) ≤ uses number_of n os → uses number_of n (pick b (o ∷ only test os) (only test os)) ≤ pick (eqb n o.number) 1 0 + uses number_of n os
        by_test true ih = omega arith
        by_test false ih = omega arith

    -- every order with the number satisfies the test
    abbrev pub satisfies : Order → Bool
    satisfies o = pick (eqb n o.number) (test o) true

    unused_satisfies : (os : List Order) → uses number_of n os ≡ 0 → all_of satisfies os ≡ true
    unfolding uses sum_of all_of
    unused_satisfies [] h = refl
    unused_satisfies (o ∷ os) h = by_number (eqb n o.number) refl (unused_satisfies os)
      where
        by_number : (b : Bool) → eqb n o.number ≡ b → (uses number_of n os ≡ 0 → all_of satisfies os ≡ true) → (pick b (test o) true && all_of satisfies os) ≡ true
        by_number true e ih = let h' : 1 + uses number_of n os ≡ 0 = rw e at h in absurd (omega arith)
        by_number false e ih = let h' : 0 + uses number_of n os ≡ 0 = rw e at h in ih (omega arith)

    -- then taking that order out first makes no difference
    pub twice : (os : List Order) → all_of satisfies os ≡ true → without test (without (has_number n) os) ≡ without test os
    unfolding without all_of
    twice [] h = refl
    twice (o ∷ os) h = by_number_and_test (eqb o.number n) (test o) refl refl (twice os q.1)
      where
        q : (satisfies o ≡ true) × (all_of satisfies os ≡ true)
        q = both_true (satisfies o) (all_of satisfies os) h

        by_number_and_test : (b c : Bool) → eqb o.number n ≡ b → test o ≡ c → without test (without (has_number n) os) ≡ without test os →
            without test (pick b (without (has_number n) os) (o ∷ without (has_number n) os)) ≡ pick c (without test os) (o ∷ without test os)
        by_number_and_test true true e f ih = ih
        by_number_and_test true false e f ih =
            let z : eqb n o.number ≡ true = eq-eqb n o.number (sym (eqb-true o.number n e)) in
            let s : test o ≡ true = rw z at q.0 in
            absurd (true≢false (sym s ∙ f))
        by_number_and_test false true e f ih = rw f ih
        by_number_and_test false false e f ih = rw f (ap (λ (l : List Order). o ∷ l) ih)

    -- an order with the number is there
    pub used_found : (os : List Order) → 1 ≤ uses number_of n os → no_such_order (numbered n os) ≡ false
    unfolding uses sum_of numbered no_such_order
    used_found [] h = absurd (omega arith)
    used_found (o ∷ os) h = by_number (eqb o.number n) refl (used_found os)
      where
        by_number : (b : Bool) → eqb o.number n ≡ b → (1 ≤ uses number_of n os → no_such_order (numbered n os) ≡ false) → no_such_order (pick b (o ∷ []) (numbered n os)) ≡ false
        by_number true e ih = refl
        by_number false e ih =
            let z : eqb n o.number ≡ false = ne_eqb n o.number (λ k. eqb-false o.number n e (sym k)) in
            let h' : 1 ≤ 0 + uses number_of n os = rw z at h in
            ih (omega arith)

    -- and it is the account's, if the test says so
    pub own_found : (a : ℕ) → ((o : Order) → test o ≡ true → eqb o.account a ≡ true) → (os : List Order) → all_of satisfies os ≡ true → of_another a (numbered n os) ≡ false
    unfolding numbered of_another all_of
    own_found a says [] h = refl
    own_found a says (o ∷ os) h = by_number (eqb o.number n) refl (own_found a says os q.1)
      where
        q : (satisfies o ≡ true) × (all_of satisfies os ≡ true)
        q = both_true (satisfies o) (all_of satisfies os) h

        by_number : (b : Bool) → eqb o.number n ≡ b → of_another a (numbered n os) ≡ false → of_another a (pick b (o ∷ []) (numbered n os)) ≡ false
        by_number true e ih =
            let z : eqb n o.number ≡ true = eq-eqb n o.number (sym (eqb-true o.number n e)) in
            let s : test o ≡ true = rw z at q.0 in
            ap not (says o s)
        by_number false e ih = ih

  -- ---- the first of them, where its number is used once

  pub first_used : (o : Order) (os L : List Order) → only test L ≡ o ∷ os → 1 ≤ uses number_of o.number L
  unfolding uses sum_of
  first_used o os L e =
      let h : 1 + uses number_of o.number os ≤ uses number_of o.number L = rw (e, eq-eqb o.number o.number refl) at (only_uses o.number L) in
      omega arith

  module _ (o : Order) (os : List Order) where
    pub first_satisfies : (L : List Order) → only test L ≡ o ∷ os → uses number_of o.number L ≤ 1 → all_of (satisfies o.number) L ≡ true
    unfolding uses sum_of all_of only
    first_satisfies [] e h = refl
    first_satisfies (p ∷ ps) e h = by_test (test p) refl e (first_satisfies ps)
      where
        by_test : (b : Bool) → test p ≡ b → pick b (p ∷ only test ps) (only test ps) ≡ o ∷ os → (only test ps ≡ o ∷ os → uses number_of o.number ps ≤ 1 → all_of (satisfies o.number) ps ≡ true) →
            (satisfies o.number p && all_of (satisfies o.number) ps) ≡ true
        by_test true t f ih =
            let same : p ≡ o = cc in
            let m : eqb o.number p.number ≡ true = eq-eqb o.number p.number (ap number_of (sym same)) in
            let h' : 1 + uses number_of o.number ps ≤ 1 = rw m at h in
            true_both (satisfies o.number p) _ (rw (m, t) refl) (unused_satisfies o.number ps (omega arith))
        by_test false t f ih =
            let u = first_used o os ps f in
            other (eqb o.number p.number) refl u (ih f)
          where
            other : (b : Bool) → eqb o.number p.number ≡ b → 1 ≤ uses number_of o.number ps → (uses number_of o.number ps ≤ 1 → all_of (satisfies o.number) ps ≡ true) →
                (pick b (test p) true && all_of (satisfies o.number) ps) ≡ true
            other true m u ih = let h' : 1 + uses number_of o.number ps ≤ 1 = rw m at h in absurd (omega arith)
            other false m u ih = let h' : 0 + uses number_of o.number ps ≤ 1 = rw m at h in ih (omega arith)

    -- without it the others are left
    pub others_left : (L : List Order) → only test L ≡ o ∷ os → uses number_of o.number L ≤ 1 → only test (without (has_number o.number) L) ≡ os
    unfolding without
    others_left L e h =
        only_without o.number L ∙ ap (without (has_number o.number)) e
        ∙ rw (eq-eqb o.number o.number refl) (unused_stay o.number os none)
      where
        none : uses number_of o.number os ≡ 0
        none =
            unfold uses sum_of in
            let k : 1 + uses number_of o.number os ≤ uses number_of o.number L = rw (e, eq-eqb o.number o.number refl) at (only_uses o.number L) in
            omega arith
