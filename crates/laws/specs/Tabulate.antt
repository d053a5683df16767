-- The list of a function's values at 0, 1, .. : for rules that say what stands at each place. Assumes nothing.
use Rattle.std.specs.Prelude.{Bool, ◌≡◌, length, get_or, take}
use Rattle.std.proofs.Math.Path.{refl, ap}
use Rattle.std.proofs.Common.{sym, ◌∙◌, le_of_suc-le-suc, not-suc-le-zero, arith, ext_get_or, get_or-take, length-take-le}
use mathlib.Core.List.{List, [], ◌∷◌, ◌++◌, map}
use Prim.Native.Nat.{ℕ, zero, suc, ◌<◌, ◌≤◌}
use Rattle.laws.specs.Choice.{all, all_ext, all_of, all_of_all}

-- f 0, f 1, .., up to n values
unfoldable pub tabulate : {A : Type 0} → ℕ → (ℕ → A) → List A
tabulate zero f = []
tabulate (suc n) f = f 0 ∷ tabulate n (λ i. f (suc i))

module _ {A : Type 0} where
  pub length_tabulate : (n : ℕ) (f : ℕ → A) → length (tabulate n f) ≡ n
  unfolding tabulate
  length_tabulate zero f = refl
  length_tabulate (suc n) f = ap suc (length_tabulate n (λ i. f (suc i)))

  pub get_d_tabulate : (n i : ℕ) (f : ℕ → A) (d : A) → i < n → get_or (tabulate n f) i d ≡ f i
  unfolding tabulate
  get_d_tabulate zero i f d h = absurd (not-suc-le-zero h)
  get_d_tabulate (suc n) zero f d h = refl
  get_d_tabulate (suc n) (suc i) f d h = get_d_tabulate n i (λ i. f (suc i)) d (le_of_suc-le-suc h)

  -- a list that has f's values at its places is the table of f
  pub tabulate_eq : (n : ℕ) (f : ℕ → A) (l : List A) (d : A) → length l ≡ n → ((i : ℕ) → i < n → get_or l i d ≡ f i) → l ≡ tabulate n f
  tabulate_eq n f l d e h = ext_get_or d l (tabulate n f) (rw length_tabulate e) (λ i k. let k' : i < n = rw e at k in rw (get_d_tabulate n i f d k') (h i k'))

  -- functions that agree on the places have one table
  pub tabulate_below : (n : ℕ) (f g : ℕ → A) → ((i : ℕ) → i < n → f i ≡ g i) → tabulate n f ≡ tabulate n g
  unfolding tabulate
  tabulate_below zero f g e = refl
  tabulate_below (suc n) f g e = rw (e 0 (omega arith), tabulate_below n (λ i. f (suc i)) (λ i. g (suc i)) (λ i l. e (suc i) (omega arith)))

  pub tabulate_ext : (n : ℕ) (f g : ℕ → A) → ((i : ℕ) → f i ≡ g i) → tabulate n f ≡ tabulate n g
  tabulate_ext n f g e = tabulate_below n f g (λ i l. e i)

  pub tabulate_last : (n : ℕ) (f : ℕ → A) → tabulate (suc n) f ≡ tabulate n f ++ (f n ∷ [])
  unfolding tabulate
  tabulate_last zero f = refl
  tabulate_last (suc n) f = ap (λ (l : List A). f 0 ∷ l) (tabulate_last n (λ i. f (suc i)))

  -- the table of a list's own values is its front
  pub tabulate_take : (n : ℕ) (l : List A) (d : A) → n ≤ length l → tabulate n (λ i. get_or l i d) ≡ take n l
  tabulate_take n l d h = sym (tabulate_eq n (λ i. get_or l i d) (take n l) d (length-take-le n l h) (λ i k. get_or-take n l i d k))

-- a function of each value
pub map_tabulate : {A B : Type 0} (f : A → B) (n : ℕ) (g : ℕ → A) → map f (tabulate n g) ≡ tabulate n (λ i. f (g i))
unfolding tabulate
map_tabulate f zero g = refl
map_tabulate {B = B} f (suc n) g = ap (λ (r : List B). f (g 0) ∷ r) (map_tabulate f n (λ i. g (suc i)))

-- a test of every value is one of every index
pub all_of_table : {A : Type 0} (p : A → Bool) (n : ℕ) (f : ℕ → A) → all_of p (tabulate n f) ≡ all (λ i. p (f i)) n
all_of_table p n f =
    all_of_all p (tabulate n f) (f 0)
    ∙ ap (all (λ i. p (get_or (tabulate n f) i (f 0)))) (length_tabulate n f)
    ∙ all_ext (λ i. p (get_or (tabulate n f) i (f 0))) (λ i. p (f i)) n (λ i l. ap p (get_d_tabulate n i f (f 0) l))
