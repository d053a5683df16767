-- Tests of numbers as the code makes them. Assumes nothing.
use mathlib.Core.Bool.{false, Bool, true, not}
use mathlib.Core.Logic.{◌≢◌}
use mathlib.Core.Path.{◌≡◌, refl}
use Prim.Native.Nat.{ℕ, ◌-◌, ◌<◌, ◌≤◌}
use native.Mathlib.Omega.{arith}
use borrow.Author.Tests.{eqb-false, ltb-false, leb-true, leb-false, le-ltb, lt-ltb}
use lib.Dec.{eqb, ltb, leb}
use Rattle.rules.specs.Exchange.{is_absent}
use Rattle.laws.specs.Choice.{either_false}

-- a test that the code writes the other way round than the rules
pub ltb_not : (a b : ℕ) → ltb b a ≡ not (leb a b)
ltb_not a b = by_comparison (leb a b) refl
  where
    by_comparison : (t : Bool) → leb a b ≡ t → ltb b a ≡ not t
    by_comparison true e = le-ltb b a (leb-true a b e)
    by_comparison false e = lt-ltb b a (leb-false a b e)

-- a number that is not absent has a place
pub place_below : (number count : ℕ) → is_absent number count ≡ false → (1 ≤ number) × (number - 1 < count)
place_below number count e =
    let p = either_false (eqb number 0) (ltb count number) e in
    let b = ltb-false count number p.1 in
    let z : number ≢ 0 = eqb-false number 0 p.0 in
    omega arith
