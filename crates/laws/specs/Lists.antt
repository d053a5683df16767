-- A function of each element of a list, at a place and with one element changed; a list of one value. Assumes nothing.
use Rattle.std.specs.Prelude.{List, [], ◌∷◌, map, ◌≢◌, ◌≡◌, refl, ℕ, zero, suc, ◌<◌, length, get_or, set, take, replicate}
use Rattle.std.proofs.Common.{sym, ap, ◌∙◌, subst, le_of_suc-le-suc, not-suc-le-zero, get_or-set_same, get_or-set_other}
use Rattle.std.proofs.Math.Decide.{ℕ_discrete}
use Rattle.std.proofs.lemmas.List.{length-map}

module _ {A B : Type 0} (f : A → B) where
  -- inside the list it does not matter what stands past its end (`List·getD-map` of `lib.ListN` is for an f that keeps that)
  pub get_d_map_lt : (l : List A) (i : ℕ) (d : A) (d' : B) → i < length l → get_or (map f l) i d' ≡ f (get_or l i d)
  get_d_map_lt [] i d d' h = absurd (not-suc-le-zero h)
  get_d_map_lt (a ∷ l) zero d d' h = refl
  get_d_map_lt (a ∷ l) (suc i) d d' h = get_d_map_lt l i d d' (le_of_suc-le-suc h)

  pub map_set : (l : List A) (i : ℕ) (v : A) → map f (set l i v) ≡ set (map f l) i (f v)
  map_set [] i v = refl
  map_set (a ∷ l) zero v = refl
  map_set (a ∷ l) (suc i) v = rw (map_set l i v)

  -- the length of a list, from that of a function of its elements: so the type of an array of structs gives it
  pub unmapped : (l : List A) (n : ℕ) → length (map f l) ≡ n → length l ≡ n
  unmapped l n e = sym (length-map l f) ∙ e

  pub take_map : (k : ℕ) (l : List A) → take k (map f l) ≡ map f (take k l)
  take_map zero l = refl
  take_map (suc k) [] = refl
  take_map (suc k) (x ∷ l) = ap (λ (ys : List B). f x ∷ ys) (take_map k l)

  -- what f tells of the stored element it told before: it tells the same of every place
  pub kept_at : (l : List A) (i : ℕ) (v d : A) → f v ≡ f (get_or l i d) → (j : ℕ) → f (get_or (set l i v) j d) ≡ f (get_or l j d)
  kept_at [] i v d e j = refl
  kept_at (x ∷ xs) zero v d e zero = e
  kept_at (x ∷ xs) zero v d e (suc j) = refl
  kept_at (x ∷ xs) (suc i) v d e zero = refl
  kept_at (x ∷ xs) (suc i) v d e (suc j) = kept_at xs i v d e j

-- what holds of the element stored, and of the others, holds after the store
pub at_set :
    {A : Type 0} (P : ℕ → A → Type 0) (l : List A) (i : ℕ) (v d : A) → i < length l →
    P i v → (j : ℕ) → (j ≢ i → P j (get_or l j d)) → P j (get_or (set l i v) j d)
at_set {A} P l i v d h p j q = by_index (ℕ_discrete j i)
  where
    by_index : Dec (j ≡ i) → P j (get_or (set l i v) j d)
    by_index (yes e) = subst (λ (k : ℕ). P k (get_or (set l i v) k d)) (sym e) (subst (P i) (sym (get_or-set_same l i v d h)) p)
    by_index (no n) = subst (P j) (sym (get_or-set_other l i j v d n)) (q n)

-- a list of one value has it at every place, past its end too
pub get_d_same : {A : Type 0} (n i : ℕ) (z : A) → get_or (replicate n z) i z ≡ z
get_d_same zero i z = refl
get_d_same (suc n) zero z = refl
get_d_same (suc n) (suc i) z = get_d_same n i z
