-- Sums over a list that was filled up. Assumes nothing.
use native.Mathlib.Nat.{zero-mul}
use Rattle.laws.specs.Logic.{List, ◌≡◌, ◌∙◌}
use Rattle.laws.specs.Numbers.{ℕ, ◌-◌, arith, length, replicate}
use Rattle.laws.specs.Sums.{sum_of, sum_of_append, sum_of_replicate}
use Rattle.areas.specs.Lists.{padded}

module _ {A : Type 0} (f : A → ℕ) where
  -- copies that measure nothing add nothing
  pub sum_of_padded : (n : ℕ) (z : A) (os : List A) → f z ≡ 0 → sum_of f (padded n z os) ≡ sum_of f os
  unfolding padded
  sum_of_padded n z os e =
      let r : sum_of f (replicate (n - length os) z) ≡ 0 = sum_of_replicate f (n - length os) z ∙ rw e (zero-mul (n - length os)) in
      omega (arith, sum_of_append f os (replicate (n - length os) z))
