-- Choices by a test, and tests of every index or every element, for the rules that are stated as computed answers.
-- What a test of numbers says is in `borrow.Author.Tests`: `leb-true`, `leb-false`, `ltb-true`, .. from the test to the fact,
-- `le-leb`, `lt-leb`, `lt-ltb`, `le-ltb`, `eq-eqb`, `ne_eqb` from the fact to the test. Assumes nothing.
use Prim.Native.Nat.{ℕ, zero, suc, ◌+◌, ◌<◌}
use Rattle.std.specs.Prelude.{Bool, ◌≡◌, length, get_or}
use Rattle.std.proofs.Math.Bool.{true, false}
use Rattle.std.proofs.Common.{true≢false, ⊎_elim, sym, subst, le_of_suc-le-suc, not-suc-le-zero, eq-or-lt_of_le, add-one, arith}
use Rattle.std.proofs.lemmas.Bool.{false≢true}
use mathlib.Core.List.{List, [], ◌∷◌, ◌++◌, map}
use Rattle.std.proofs.Math.Path.{refl}

-- the first of two values where the test passes, the second where it fails
abbrev pub pick {ℓ} : {A : Type ℓ} → Bool → A → A → A
pick true x y = x
pick false x y = y

abbrev pub both : Bool → Bool → Bool
both true b = b
both false b = false

abbrev pub either : Bool → Bool → Bool
either true b = true
either false b = b

-- p holds of each number below n
unfoldable pub all : (ℕ → Bool) → ℕ → Bool
all p zero = true
all p (suc n) = both (all p n) (p n)

-- p holds of each element
unfoldable pub all_of : {A : Type 0} → (A → Bool) → List A → Bool
all_of p [] = true
all_of p (x ∷ xs) = both (p x) (all_of p xs)

-- ---- a choice whose test is known

pub pick_true {ℓ} : {A : Type ℓ} (t : Bool) (x y : A) → t ≡ true → pick t x y ≡ x
pick_true t x y e = rw e

pub pick_false {ℓ} : {A : Type ℓ} (t : Bool) (x y : A) → t ≡ false → pick t x y ≡ y
pick_false t x y e = rw e

-- either way a test comes out
pub by_test : {P : Type 0} (t : Bool) → (t ≡ true → P) → (t ≡ false → P) → P
by_test true f g = f refl
by_test false f g = g refl

-- what holds at false and at true holds at each
pub for_either : (P : Bool → Type 0) → P false → P true → (b : Bool) → P b
for_either P f t false = f
for_either P f t true = t

-- what holds of either, under its test, holds of the choice
pub pick_either : {A : Type 0} (P : A → Type 0) (t : Bool) (x y : A) → (t ≡ true → P x) → (t ≡ false → P y) → P (pick t x y)
pick_either P true x y f g = f refl
pick_either P false x y f g = g refl

pub pick_same {ℓ} : {A : Type ℓ} (t : Bool) (x : A) → pick t x x ≡ x
pick_same true x = refl
pick_same false x = refl

-- what is done with a choice is done with each of the two
pub ap_pick {ℓ ℓ'} : {A : Type ℓ} {B : Type ℓ'} (f : A → B) (t : Bool) (x y : A) → f (pick t x y) ≡ pick t (f x) (f y)
ap_pick f true x y = refl
ap_pick f false x y = refl

-- ---- two tests

pub both_true : (a b : Bool) → both a b ≡ true → (a ≡ true) × (b ≡ true)
both_true true b e = (refl, e)
both_true false b e = absurd (false≢true e)

pub true_both : (a b : Bool) → a ≡ true → b ≡ true → both a b ≡ true
true_both a b p q = rw (p, q)

pub false_both : (a b : Bool) → a ≡ false → both a b ≡ false
false_both a b p = rw p

pub both_false : (a b : Bool) → b ≡ false → both a b ≡ false
both_false true b q = q
both_false false b q = refl

pub either_false : (a b : Bool) → either a b ≡ false → (a ≡ false) × (b ≡ false)
either_false true b e = absurd (true≢false e)
either_false false b e = (refl, e)

pub true_either : (a b : Bool) → a ≡ true → either a b ≡ true
true_either a b p = rw p

pub either_true : (a b : Bool) → b ≡ true → either a b ≡ true
either_true true b q = refl
either_true false b q = q

-- two tests that pass in the same cases are one
pub same_test : (a b : Bool) → (a ≡ true → b ≡ true) → (b ≡ true → a ≡ true) → a ≡ b
same_test true b f g = sym (f refl)
same_test false true f g = g refl
same_test false false f g = refl

-- ---- every index: for a loop that stops at the first number that fails

pub all_none : (p : ℕ → Bool) → all p 0 ≡ true
unfolding all
all_none p = refl

pub all_more : (p : ℕ → Bool) (i : ℕ) → all p i ≡ true → p i ≡ true → all p (i + 1) ≡ true
unfolding all
all_more p i h e = rw (add-one, h, e)

pub all_stop : (p : ℕ → Bool) (i n : ℕ) → i < n → p i ≡ false → all p n ≡ false
unfolding all
all_stop p i zero l e = absurd (not-suc-le-zero l)
all_stop p i (suc n) l e =
    ⊎_elim (λ q. both_false (all p n) (p n) (subst (λ (k : ℕ). p k ≡ false) q e))
    (λ lt. false_both (all p n) (p n) (all_stop p i n lt e)) (eq-or-lt_of_le (le_of_suc-le-suc l))

pub all_at : (p : ℕ → Bool) (i n : ℕ) → all p n ≡ true → i < n → p i ≡ true
unfolding all
all_at p i zero h l = absurd (not-suc-le-zero l)
all_at p i (suc n) h l =
    ⊎_elim (λ q. subst (λ (k : ℕ). p k ≡ true) (sym q) (both_true (all p n) (p n) h).1)
    (λ lt. all_at p i n (both_true (all p n) (p n) h).0 lt) (eq-or-lt_of_le (le_of_suc-le-suc l))

pub all_true : (p : ℕ → Bool) (n : ℕ) → ((i : ℕ) → i < n → p i ≡ true) → all p n ≡ true
unfolding all
all_true p zero h = refl
all_true p (suc n) h = true_both (all p n) (p n) (all_true p n (λ i l. h i (omega arith))) (h n (omega arith))

pub all_ext : (p q : ℕ → Bool) (n : ℕ) → ((i : ℕ) → i < n → p i ≡ q i) → all p n ≡ all q n
unfolding all
all_ext p q zero h = refl
all_ext p q (suc n) h = rw (all_ext p q n (λ i l. h i (omega arith)), h n (omega arith))

-- ---- every element

module _ {A : Type 0} (p : A → Bool) where
  pub all_of_append : (xs ys : List A) → all_of p (xs ++ ys) ≡ both (all_of p xs) (all_of p ys)
  unfolding all_of
  all_of_append [] ys = refl
  all_of_append (x ∷ xs) ys = rw (all_of_append xs ys) (both_assoc (p x) (all_of p xs) (all_of p ys))
    where
      both_assoc : (a b c : Bool) → both a (both b c) ≡ both (both a b) c
      both_assoc true b c = refl
      both_assoc false b c = refl

  pub all_of_at : (l : List A) (i : ℕ) (d : A) → all_of p l ≡ true → i < length l → p (get_or l i d) ≡ true
  unfolding all_of
  all_of_at [] i d h b = absurd (not-suc-le-zero b)
  all_of_at (x ∷ xs) zero d h b = (both_true (p x) (all_of p xs) h).0
  all_of_at (x ∷ xs) (suc i) d h b = all_of_at xs i d (both_true (p x) (all_of p xs) h).1 (le_of_suc-le-suc b)

  pub all_of_true : (l : List A) (d : A) → ((i : ℕ) → i < length l → p (get_or l i d) ≡ true) → all_of p l ≡ true
  unfolding all_of
  all_of_true [] d h = refl
  all_of_true (x ∷ xs) d h = true_both (p x) (all_of p xs) (h 0 (omega arith)) (all_of_true xs d (λ i b. h (suc i) (omega arith)))

  pub all_of_stop : (l : List A) (i : ℕ) (d : A) → i < length l → p (get_or l i d) ≡ false → all_of p l ≡ false
  unfolding all_of
  all_of_stop [] i d b e = absurd (not-suc-le-zero b)
  all_of_stop (x ∷ xs) zero d b e = false_both (p x) (all_of p xs) e
  all_of_stop (x ∷ xs) (suc i) d b e = both_false (p x) (all_of p xs) (all_of_stop xs i d (le_of_suc-le-suc b) e)

  -- the same test by index, as a loop makes it
  pub all_of_all : (l : List A) (d : A) → all_of p l ≡ all (λ i. p (get_or l i d)) (length l)
  all_of_all l d =
      same_test (all_of p l) (all (λ i. p (get_or l i d)) (length l))
      (λ h. all_true (λ i. p (get_or l i d)) (length l) (λ i b. all_of_at l i d h b))
      (λ h. all_of_true l d (λ i b. all_at (λ i. p (get_or l i d)) i (length l) h b))

-- a weaker test passes where a stronger one does
pub all_of_imp : {A : Type 0} (p q : A → Bool) (l : List A) → ((x : A) → p x ≡ true → q x ≡ true) → all_of p l ≡ true → all_of q l ≡ true
unfolding all_of
all_of_imp p q [] f h = refl
all_of_imp p q (x ∷ xs) f h =
    let b = both_true (p x) (all_of p xs) h in
    true_both (q x) (all_of q xs) (f x b.0) (all_of_imp p q xs f b.1)

pub all_of_ext : {A : Type 0} (p q : A → Bool) (l : List A) → ((x : A) → p x ≡ q x) → all_of p l ≡ all_of q l
unfolding all_of
all_of_ext p q [] e = refl
all_of_ext p q (x ∷ xs) e = rw (e x, all_of_ext p q xs e)

pub all_of_map : {A B : Type 0} (p : B → Bool) (f : A → B) (l : List A) → all_of p (map f l) ≡ all_of (λ a. p (f a)) l
unfolding all_of
all_of_map p f [] = refl
all_of_map p f (x ∷ xs) = rw (all_of_map p f xs)
