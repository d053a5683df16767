-- Tests as code makes them, one after the other and out at the first that fails, and the chain by `◌&&◌` that they decide. Assumes
-- nothing.
use Rattle.std.specs.Prelude.{Bool, true, false, not, ◌&&◌, List, [], ◌∷◌, ◌++◌, ◌≡◌, refl, ℕ, zero, suc, ◌<◌, ◌≤◌, ltb, get_or}
use Rattle.std.proofs.Common.{true≢false, sym, ap, ◌∙◌, arith, lt-ltb, le-ltb}
use Rattle.std.proofs.lemmas.Bool.{not-true, not-false}
use Rattle.laws.specs.Choice.{both_false}
use Rattle.laws.specs.Chains.{joined}

-- ---- what a call answered

-- `if !test(..)` was taken, and was not
pub refused : {r t : Bool} → r ≡ t → not r ≡ true → t ≡ false
refused {r} e h = sym e ∙ not-true r h

pub passed : {r t : Bool} → r ≡ t → not r ≡ false → t ≡ true
passed {r} e h = sym e ∙ not-false r h

-- a place read as a wider number, tested against a count
pub place_in : {w a n : ℕ} → w ≡ a → w < n → ltb a n ≡ true
place_in {w} {a} {n} e h = lt-ltb a n (omega arith)

pub place_past : {w a n : ℕ} → w ≡ a → n ≤ w → ltb a n ≡ false
place_past {w} {a} {n} e h = le-ltb a n (omega arith)

-- tests that passed, one after the other
infixr 5 ◌and◌
pub ◌and◌ : {A B : Type 0} → A → B → A × B
a and b = (a, b)

-- ---- a chain

abbrev pub chain : List Bool → Bool
chain [] = true
chain (t ∷ ts) = joined t ts

-- every test of a list passes
abbrev pub Hold : List Bool → Type 0
Hold [] = Unit {0}
Hold (t ∷ ts) = (t ≡ true) × Hold ts

-- b is made by these tests, and the last of all
pub record Chain (b : Bool) (ts : List Bool) (z : Bool) : Type 0 where
  pub is : b ≡ chain (ts ++ (z ∷ []))

never : (ts : List Bool) → joined false ts ≡ false
never [] = refl
never (t ∷ ts) = never ts

-- one test that fails decides
pub fails : {b : Bool} {ts : List Bool} {z : Bool} → Chain b ts z → (i : ℕ) → get_or ts i true ≡ false → false ≡ b
fails {b} {ts} {z} c i h = sym (c.is ∙ start ts i h)
  where
    joined_fails : (t : Bool) (ts : List Bool) (i : ℕ) → get_or (t ∷ ts) i true ≡ false → joined t (ts ++ (z ∷ [])) ≡ false
    joined_fails t ts zero h = rw h (never (ts ++ (z ∷ [])))
    joined_fails t [] (suc i) h = absurd (true≢false h)
    joined_fails t (u ∷ us) (suc zero) h =
        ap (λ (x : Bool). joined x (us ++ (z ∷ []))) (both_false t u h) ∙ never (us ++ (z ∷ []))
    joined_fails t (u ∷ us) (suc (suc i)) h = joined_fails (t && u) us (suc i) h

    start : (ts : List Bool) (i : ℕ) → get_or ts i true ≡ false → chain (ts ++ (z ∷ [])) ≡ false
    start [] i h = absurd (true≢false h)
    start (t ∷ ts) i h = joined_fails t ts i h

-- where the others pass, the last decides
pub last : {b : Bool} {ts : List Bool} {z : Bool} → Chain b ts z → Hold ts → z ≡ b
last {b} {ts} {z} c p = start ts p ∙ sym c.is
  where
    joined_last : (t : Bool) (ts : List Bool) → Hold (t ∷ ts) → z ≡ joined t (ts ++ (z ∷ []))
    joined_last t [] p = rw p.0
    joined_last t (u ∷ us) p = rw p.0 (joined_last u us p.1)

    start : (ts : List Bool) → Hold ts → z ≡ chain (ts ++ (z ∷ []))
    start [] p = refl
    start (t ∷ ts) p = joined_last t ts p

-- a part of a chain as one test
pub group : (t u : Bool) (us vs : List Bool) → joined t (u ∷ (us ++ vs)) ≡ joined t (joined u us ∷ vs)
group t u [] vs = refl
group t u (w ∷ us) vs = ap (λ (x : Bool). joined x (us ++ vs)) (assoc t u w) ∙ group t (u && w) us vs
  where
    assoc : (a b c : Bool) → ((a && b) && c) ≡ (a && (b && c))
    assoc true b c = refl
    assoc false b c = refl
