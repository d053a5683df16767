-- `prices::middle` meets its contract: in each of the six orderings the price between the other two. Assumes nothing.
use mathlib.Core.Logic.{⊎_map}
use Rattle.std.proofs.Common.{arith, leb-true}
use Rattle.rules.specs.Matching.{middle}
use Rattle.prices.proofs.Middles.{middle_is_b}
use Rattle.prices.proofs.middle.Goals as goal

pub returns-then-b-c : goal.returns-then-b-c
unfolding middle
returns-then-b-c c = omega (arith, leb-true)

pub returns-then-c-b : goal.returns-then-c-b
unfolding middle
returns-then-c-b c = omega (arith, leb-true)

pub returns-then-a-c-2 : goal.returns-then-a-c-2
unfolding middle
returns-then-a-c-2 c = omega (arith, leb-true)

pub returns-then-c-a : goal.returns-then-c-a
unfolding middle
returns-then-c-a c = omega (arith, leb-true)

pub returns-then-a-b-2 : goal.returns-then-a-b-2
unfolding middle
returns-then-a-b-2 c = omega (arith, leb-true)

pub returns : goal.returns
returns c =
    middle_is_b _ _ _
    (⊎_map (λ w. w.1) (λ w. w) c.else-a-c.either)
    (⊎_map (λ w. w.1) (λ w. w) c.else-b-a.either)
    (⊎_map (λ w. w.1) (λ w. w) c.else-b-c-2.either)
    (⊎_map (λ w. w.1) (λ w. w) c.else-c-a-2.either)
