-- Records of W words each that lie one after the other in an area of words. `words` writes a record, `first` reads the one
-- in front of a list of words. Assumes nothing.
use Rattle.std.specs.Prelude.{ℕ, zero, suc, ◌≤◌, List, [], ◌∷◌, ◌++◌, ◌≡◌, length, take, drop}
use Rattle.areas.specs.Lists.{over}

-- that the two undo one another
pub record Codec (A : Type 0) (W : ℕ) (words : A → List ℕ) (first : List ℕ → A) : Type 0 where
  pub wide : (o : A) → length (words o) ≡ W
  pub back : (o : A) (ys : List ℕ) → first (words o ++ ys) ≡ o
  pub forth : (xs : List ℕ) → W ≤ length xs → words (first xs) ≡ take W xs

-- the first n records of a list of words
unfoldable pub decode : {A : Type 0} → ℕ → (List ℕ → A) → ℕ → List ℕ → List A
decode W first zero xs = []
decode W first (suc n) xs = first xs ∷ decode W first n (drop W xs)

-- the words of a list of records
unfoldable pub encode : {A : Type 0} → (A → List ℕ) → List A → List ℕ
encode words [] = []
encode words (o ∷ os) = words o ++ encode words os

-- the n records from word `base` of an area
unfoldable pub records : {A : Type 0} → ℕ → (List ℕ → A) → List ℕ → ℕ → ℕ → List A
records W first a base n = decode W first n (drop base a)

-- the area with records written over its words, from word `base` on
unfoldable pub store : {A : Type 0} → (A → List ℕ) → List ℕ → ℕ → List A → List ℕ
store words a base os = over a base (encode words os)
