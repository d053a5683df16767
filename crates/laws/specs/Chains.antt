-- A chain of tests `a && b && c`, taken apart and put together in one go. Assumes nothing.
use Rattle.std.specs.Prelude.{Bool, true, ◌&&◌, List, [], ◌∷◌, ◌≡◌}
use Rattle.laws.specs.Choice.{both_true, true_both}

abbrev pub joined : Bool → List Bool → Bool
joined a [] = a
joined a (b ∷ bs) = joined (a && b) bs

abbrev pub Passed : Bool → List Bool → Type 0
Passed a [] = a ≡ true
Passed a (b ∷ bs) = (a ≡ true) × Passed b bs

pub all_passed : (a : Bool) (bs : List Bool) → joined a bs ≡ true → Passed a bs
all_passed a [] h = h
all_passed a (b ∷ bs) h = front a b bs (all_passed (a && b) bs h)
  where
    front : (a b : Bool) (bs : List Bool) → Passed (a && b) bs → Passed a (b ∷ bs)
    front a b [] p = both_true a b p
    front a b (c ∷ cs) p = let q = both_true a b p.0 in (q.0, (q.1, p.1))

pub join : (a : Bool) (bs : List Bool) → Passed a bs → joined a bs ≡ true
join a [] p = p
join a (b ∷ bs) p = join (a && b) bs (front a b bs p)
  where
    front : (a b : Bool) (bs : List Bool) → Passed a (b ∷ bs) → Passed (a && b) bs
    front a b [] p = true_both a b p.0 p.1
    front a b (c ∷ cs) p = (true_both a b p.0 p.1.0, p.1.1)
