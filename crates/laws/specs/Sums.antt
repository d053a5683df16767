-- Sums: of a natural measure over a list (`sum_of`), and of integers over an index (`sum_to`). Assumes nothing.
use Rattle.std.specs.Prelude.{◌≡◌, eqb, ℤ, pos, ◌+ℤ◌, ◌*ℤ◌, length, get_or, set, take, drop, replicate}
use Rattle.std.proofs.Math.Path.{refl}
use Rattle.std.proofs.Common.{sym, ◌∙◌, ap, ⊎_elim, le_of_suc-le-suc, not-suc-le-zero, eq-or-lt_of_le, add-one, eq-eqb, ne_eqb, take-append-drop}
use mathlib.Core.List.{List, [], ◌∷◌, ◌++◌}
use Prim.Native.Nat.{ℕ, zero, suc, ◌+◌, ◌*◌, ◌<◌, ◌≤◌}
use Rattle.std.proofs.Math.Nat.{mul-suc}
use native.Mathlib.Omega.{arith}
use Rattle.std.proofs.Math.IntN.{+ℤ_idr, +ℤ_idl, +ℤ_assoc, *ℤ-zero}
use Rattle.std.proofs.Math.Seq.{take-suc}
use Rattle.laws.specs.Choice.{pick}
use Rattle.laws.specs.Ring.{split, d_eq, ring}

-- the sum of a measure over a list
unfoldable pub sum_of : {A : Type 0} → (A → ℕ) → List A → ℕ
sum_of f [] = 0
sum_of f (x ∷ xs) = f x + sum_of f xs

-- the sum of f over the numbers below n
unfoldable pub sum_to : ℕ → (ℕ → ℤ) → ℤ
sum_to zero f = pos 0
sum_to (suc n) f = sum_to n f +ℤ f n

-- ---- a measure over a list

module _ {A : Type 0} (f : A → ℕ) where
  pub sum_of_cons : (x : A) (xs : List A) → sum_of f (x ∷ xs) ≡ f x + sum_of f xs
  unfolding sum_of
  sum_of_cons x xs = refl

  pub sum_of_append : (xs ys : List A) → sum_of f (xs ++ ys) ≡ sum_of f xs + sum_of f ys
  unfolding sum_of
  sum_of_append [] ys = omega arith
  sum_of_append (x ∷ xs) ys = omega (arith, sum_of_append xs ys)

  pub sum_of_split : (n : ℕ) (l : List A) → sum_of f (take n l) + sum_of f (drop n l) ≡ sum_of f l
  sum_of_split n l = sym (sum_of_append (take n l) (drop n l)) ∙ ap (sum_of f) (take-append-drop n l)

  -- one more element, for a loop that sums
  pub sum_of_more : (l : List A) (i : ℕ) (d : A) → i < length l → sum_of f (take (i + 1) l) ≡ sum_of f (take i l) + f (get_or l i d)
  unfolding sum_of
  sum_of_more l i d h = rw (add-one i, take-suc l i d h) (omega (arith, sum_of_append (take i l) (get_or l i d ∷ [])))

  -- one element is replaced
  pub sum_of_set : (l : List A) (i : ℕ) (v d : A) → i < length l → sum_of f (set l i v) + f (get_or l i d) ≡ sum_of f l + f v
  unfolding sum_of
  sum_of_set [] i v d h = absurd (not-suc-le-zero h)
  sum_of_set (x ∷ xs) zero v d h = omega arith
  sum_of_set (x ∷ xs) (suc i) v d h = omega (arith, sum_of_set xs i v d (le_of_suc-le-suc h))

  pub sum_of_at : (l : List A) (i : ℕ) (d : A) → i < length l → f (get_or l i d) ≤ sum_of f l
  unfolding sum_of
  sum_of_at [] i d h = absurd (not-suc-le-zero h)
  sum_of_at (x ∷ xs) zero d h = omega arith
  sum_of_at (x ∷ xs) (suc i) d h = omega (arith, sum_of_at xs i d (le_of_suc-le-suc h))

  pub sum_of_take : (n : ℕ) (l : List A) → sum_of f (take n l) ≤ sum_of f l
  sum_of_take n l = omega (arith, sum_of_split n l)

  -- each element measures at most b
  pub sum_of_bound : (b : ℕ) (l : List A) (d : A) → ((i : ℕ) → i < length l → f (get_or l i d) ≤ b) → sum_of f l ≤ b * length l
  unfolding sum_of
  sum_of_bound b [] d h = omega arith
  sum_of_bound b (x ∷ xs) d h =
      let ih = sum_of_bound b xs d (λ i k. h (suc i) (omega arith)) in
      let e = h 0 (omega arith) in
      omega (arith, mul-suc b (length xs))

  pub sum_of_replicate : (n : ℕ) (x : A) → sum_of f (replicate n x) ≡ f x * n
  unfolding sum_of
  sum_of_replicate zero x = omega arith
  sum_of_replicate (suc n) x = omega (arith, sum_of_replicate n x, mul-suc (f x) n)

  -- two measures
  module _ (g : A → ℕ) where
    pub sum_of_ext : (l : List A) → ((x : A) → f x ≡ g x) → sum_of f l ≡ sum_of g l
    unfolding sum_of
    sum_of_ext [] h = refl
    sum_of_ext (x ∷ xs) h = omega (arith, sum_of_ext xs h, h x)

-- ---- integers over an index

pub sum_to_ext : (n : ℕ) (f g : ℕ → ℤ) → ((i : ℕ) → i < n → f i ≡ g i) → sum_to n f ≡ sum_to n g
unfolding sum_to
sum_to_ext zero f g h = refl
sum_to_ext (suc n) f g h = rw (sum_to_ext n f g (λ i l. h i (omega arith)), h n (omega arith))

pub sum_to_add : (n : ℕ) (f g : ℕ → ℤ) → sum_to n (λ i. f i +ℤ g i) ≡ sum_to n f +ℤ sum_to n g
unfolding sum_to
sum_to_add zero f g = refl
sum_to_add (suc n) f g =
    rw (sum_to_add n f g)
    (rw (split (sum_to n f), split (sum_to n g), split (f n), split (g n)) (simp ring (d_eq _ _ _ _ (omega arith))))

pub sum_to_mul : (n : ℕ) (c : ℤ) (f : ℕ → ℤ) → sum_to n (λ i. c *ℤ f i) ≡ c *ℤ sum_to n f
unfolding sum_to
sum_to_mul zero c f = sym (*ℤ-zero c)
sum_to_mul (suc n) c f =
    rw (sum_to_mul n c f) (rw (split (sum_to n f), split c, split (f n)) (simp ring (d_eq _ _ _ _ (omega arith))))

pub sum_to_zero : (n : ℕ) → sum_to n (λ i. pos 0) ≡ pos 0
unfolding sum_to
sum_to_zero zero = refl
sum_to_zero (suc n) = rw (sum_to_zero n)

pub sum_to_first : (n : ℕ) (f : ℕ → ℤ) → sum_to (suc n) f ≡ f 0 +ℤ sum_to n (λ i. f (suc i))
unfolding sum_to
sum_to_first zero f = +ℤ_idl (f 0) ∙ sym (+ℤ_idr (f 0))
sum_to_first (suc n) f =
    ap (λ (x : ℤ). x +ℤ f (suc n)) (sum_to_first n f) ∙ +ℤ_assoc (f 0) (sum_to n (λ i. f (suc i))) (f (suc n))

-- x at one index and nothing elsewhere
none_at : (n k : ℕ) (x : ℤ) → n ≤ k → sum_to n (λ i. pick (eqb k i) x (pos 0)) ≡ pos 0
none_at n k x h =
    sum_to_ext n (λ i. pick (eqb k i) x (pos 0)) (λ i. pos 0) (λ i l. rw (ne_eqb k i (λ e. apart i l e))) ∙ sum_to_zero n
  where
    apart : (i : ℕ) → i < n → k ≡ i → ⊥
    apart i l e = omega arith

pub sum_to_at : (n k : ℕ) (x : ℤ) → k < n → sum_to n (λ i. pick (eqb k i) x (pos 0)) ≡ x
unfolding sum_to
sum_to_at zero k x h = absurd (not-suc-le-zero h)
sum_to_at (suc n) k x h = ⊎_elim last (λ l. before l (sum_to_at n k x l)) (eq-or-lt_of_le (le_of_suc-le-suc h))
  where
    last : k ≡ n → sum_to n (λ i. pick (eqb k i) x (pos 0)) +ℤ pick (eqb k n) x (pos 0) ≡ x
    last e = rw (none_at n k x (omega arith), eq-eqb k n e) (+ℤ_idl x)

    apart : k < n → k ≡ n → ⊥
    apart l e = omega arith

    before : k < n → sum_to n (λ i. pick (eqb k i) x (pos 0)) ≡ x → sum_to n (λ i. pick (eqb k i) x (pos 0)) +ℤ pick (eqb k n) x (pos 0) ≡ x
    before l e = rw (e, ne_eqb k n (apart l)) (+ℤ_idr x)
