-- Lists of refusals: the first that holds of two lists one after the other, and that code 0 says that every one of them failed. Assumes
-- nothing.
use Rattle.laws.specs.Logic.{true, false, List, [], ◌∷◌, ◌++◌, ◌≢◌, ◌≡◌, refl}
use Rattle.laws.specs.Numbers.{ℕ, ◌<◌, arith, eqb-false, ltb-false, ne_eqb, eqb, ltb, length}
use Rattle.laws.specs.Choice.{either_false, pick}
use Rattle.rules.specs.Answers.{Refusal, ◌when◌, first_of}
use Rattle.rules.specs.Exchange.{absent, place_of}

-- the tests of a list of refusals all failed
abbrev pub Failed : List Refusal → Type 0
Failed [] = Unit {0}
Failed ((code when test) ∷ rs) = (test ≡ false) × Failed rs

-- no refusal has code 0
abbrev pub Coded : List Refusal → Type 0
Coded [] = Unit {0}
Coded ((code when test) ∷ rs) = (0 < code) × Coded rs

pub failed : (rs : List Refusal) → Coded rs → first_of rs ≡ 0 → Failed rs
unfolding first_of
failed [] k e = tt
failed ((code when true) ∷ rs) k e = absurd (omega arith)
failed ((code when false) ∷ rs) k e = (refl, failed rs k.1 e)

-- ---- of two lists, one after the other

pub failed_both : (rs ss : List Refusal) → Failed (rs ++ ss) → Failed rs × Failed ss
failed_both [] ss f = (tt, f)
failed_both ((code when test) ∷ rs) ss f = let g = failed_both rs ss f.1 in ((f.0, g.0), g.1)

pub first_append : (rs ss : List Refusal) → Coded rs → first_of (rs ++ ss) ≡ pick (eqb (first_of rs) 0) (first_of ss) (first_of rs)
unfolding first_of
first_append [] ss k = refl
first_append ((code when true) ∷ rs) ss k = rw (ne_eqb code 0 (λ (e : code ≡ 0). omega (arith, k.0))) refl
first_append ((code when false) ∷ rs) ss k = first_append rs ss k.1

-- the first list's where one of it holds, the second's where none does
pub first_here : (rs ss : List Refusal) → (first_of rs ≡ 0 → ⊥) → first_of rs ≡ first_of (rs ++ ss)
unfolding first_of
first_here [] ss some = absurd (some refl)
first_here ((code when true) ∷ rs) ss some = refl
first_here ((code when false) ∷ rs) ss some = first_here rs ss some

pub first_there : (rs ss : List Refusal) → Coded rs → first_of rs ≡ 0 → first_of ss ≡ first_of (rs ++ ss)
unfolding first_of
first_there [] ss k e = refl
first_there ((code when true) ∷ rs) ss k e = absurd (omega arith)
first_there ((code when false) ∷ rs) ss k e = first_there rs ss k.1 e

-- code 0 of both is code 0 of each
pub both_zero : (rs ss : List Refusal) → Coded rs → first_of (rs ++ ss) ≡ 0 → Failed rs × (first_of ss ≡ 0)
unfolding first_of
both_zero [] ss k e = (tt, e)
both_zero ((code when true) ∷ rs) ss k e = absurd (omega arith)
both_zero ((code when false) ∷ rs) ss k e = let g = both_zero rs ss k.1 e in ((refl, g.0), g.1)

-- ---- a number that is not absent is that of a place

pub present : {A : Type 0} (number : ℕ) (places : List A) → absent number places ≡ false → place_of number < length places
unfolding absent
present number places e =
    let p = either_false (eqb number 0) (ltb (length places) number) e in
    let l = ltb-false (length places) number p.1 in
    let n : number ≢ 0 = eqb-false number 0 p.0 in
    omega arith
