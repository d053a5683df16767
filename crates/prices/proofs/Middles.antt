-- The middle of three prices where neither of two others is it. Assumes nothing.
use Rattle.laws.specs.Logic.{◌⊎◌, ⊎_elim, ◌≡◌}
use Rattle.laws.specs.Numbers.{ℕ, ◌<◌, arith}
use Rattle.rules.specs.Matching.{middle}

-- no ordering has a or c between the other two, so b stands there
pub middle_is_b : (a b c : ℕ) → (b < c) ⊎ (c < a) → (c < a) ⊎ (a < b) → (a < c) ⊎ (c < b) → (b < a) ⊎ (a < c) → b ≡ middle a b c
unfolding middle
middle_is_b a b c acb bac bca cab =
    ⊎_elim
    (λ (h : a < c). ⊎_elim (λ (k : c < a). omega arith) (λ (k : a < b). ⊎_elim (λ (l : b < c). omega arith) (λ (l : c < a). omega arith) acb) bac)
    (λ (h : c < b). ⊎_elim (λ (k : b < a). omega arith) (λ (k : a < c). ⊎_elim (λ (l : b < c). omega arith) (λ (l : c < a). omega arith) acb) cab)
    bca
