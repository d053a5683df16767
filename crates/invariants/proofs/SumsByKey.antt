-- Sums by key: what is no more for each key is no more in all. Of any two lists; keys may be used more than once. Assumes nothing.
use Rattle.laws.specs.Logic.{Bool, true, false, List, [], ◌∷◌, ◌≡◌, refl}
use Rattle.laws.specs.Numbers.{ℕ, zero, suc, ◌+◌, ◌<◌, ◌≤◌, arith, eqb-true, eqb-false, ltb-true, ltb-false, lt-ltb, le-ltb, eqb, ltb}
use Rattle.laws.specs.Choice.{pick}
use Rattle.laws.specs.Sums.{sum_of}

below_one : (key n w : ℕ) → pick (ltb key (suc n)) w 0 ≡ pick (ltb key n) w 0 + pick (eqb key n) w 0
below_one key n w = by_key (ltb key n) refl (eqb key n) refl
  where
    apart : key < n → key ≡ n → ⊥
    apart h e = omega arith

    above : (key ≡ n → ⊥) → n ≤ key → suc n ≤ key
    above d h = omega arith

    by_key : (less : Bool) → ltb key n ≡ less → (same : Bool) → eqb key n ≡ same → pick (ltb key (suc n)) w 0 ≡ pick less w 0 + pick same w 0
    by_key true a true b = absurd (apart (ltb-true key n a) (eqb-true key n b))
    by_key true a false b = let h = ltb-true key n a in rw (lt-ltb key (suc n) (omega arith)) (omega arith)
    by_key false a true b = let h = eqb-true key n b in rw (lt-ltb key (suc n) (omega arith)) (omega arith)
    by_key false a false b = rw (le-ltb key (suc n) (above (eqb-false key n b) (ltb-false key n a))) (omega arith)

module _ {A : Type 0} (key w : A → ℕ) where
  -- the sum over the keys below a number
  abbrev below : ℕ → List A → ℕ
  below n xs = sum_of (λ x. pick (ltb (key x) n) (w x) 0) xs

  below_none : (xs : List A) → below 0 xs ≡ 0
  unfolding sum_of
  below_none [] = refl
  below_none (x ∷ xs) = rw (le-ltb (key x) 0 (omega arith)) (omega (arith, below_none xs))

  below_more : (n : ℕ) (xs : List A) → below (suc n) xs ≡ below n xs + sum_of (λ x. pick (eqb (key x) n) (w x) 0) xs
  unfolding sum_of
  below_more n [] = refl
  below_more n (x ∷ xs) = omega (arith, below_one (key x) n (w x), below_more n xs)

  below_most : (n : ℕ) (xs : List A) → below n xs ≤ sum_of w xs
  unfolding sum_of
  below_most n [] = omega arith
  below_most n (x ∷ xs) = by_key (ltb (key x) n) (below_most n xs)
    where
      by_key : (less : Bool) → below n xs ≤ sum_of w xs → pick less (w x) 0 + below n xs ≤ w x + sum_of w xs
      by_key true ih = omega arith
      by_key false ih = omega arith

  below_all : (n : ℕ) (xs : List A) → sum_of key xs < n → below n xs ≡ sum_of w xs
  unfolding sum_of
  below_all n [] h = refl
  below_all n (x ∷ xs) h = rw (lt-ltb (key x) n (omega arith)) (omega (arith, below_all n xs (omega arith)))

module _ {A B : Type 0} (f w : A → ℕ) (g v : B → ℕ) (xs : List A) (ys : List B)
    (each : (n : ℕ) → sum_of (λ x. pick (eqb (f x) n) (w x) 0) xs ≤ sum_of (λ y. pick (eqb (g y) n) (v y) 0) ys) where
  below_each : (n : ℕ) → below f w n xs ≤ below g v n ys
  below_each zero = omega (arith, below_none f w xs)
  below_each (suc n) = omega (arith, below_more f w n xs, below_more g v n ys, each n, below_each n)

  -- WHAT IS NO MORE FOR EACH KEY IS NO MORE IN ALL
  pub sums_by_key : sum_of w xs ≤ sum_of v ys
  sums_by_key =
      let n = suc (sum_of f xs) in
      omega (arith, below_all f w n xs (omega arith), below_each n, below_most g v n ys)
