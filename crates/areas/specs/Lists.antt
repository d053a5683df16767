-- Lists with a part replaced, an element put in or taken out, or filled up to a number of places. Assumes nothing.
use Rattle.std.specs.Prelude.{ℕ, suc, ◌+◌, ◌-◌, List, ◌∷◌, ◌++◌, length, take, drop, replicate}

-- ys in the place of as many elements, from place `at` on
unfoldable pub over : {A : Type 0} → List A → ℕ → List A → List A
over l at ys = take at l ++ (ys ++ drop (at + length ys) l)

-- o put in at place i, before what stood there
unfoldable pub insert_at : {A : Type 0} → ℕ → A → List A → List A
insert_at i o os = take i os ++ (o ∷ drop i os)

-- without the element at place i
unfoldable pub remove_at : {A : Type 0} → ℕ → List A → List A
remove_at i os = take i os ++ drop (suc i) os

-- filled up to n places with copies of z
unfoldable pub padded : {A : Type 0} → ℕ → A → List A → List A
padded n z os = os ++ replicate (n - length os) z
