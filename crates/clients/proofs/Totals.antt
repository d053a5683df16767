-- What is added up, one by one, for the loops that do so. Assumes nothing.
use Rattle.laws.specs.Logic.{List, ⊎_elim, ◌≡◌, refl, ap₂, ◌∙◌}
use Rattle.laws.specs.Numbers.{ℕ, zero, suc, ◌+◌, ◌*◌, ◌<◌, ◌≤◌, le_of_suc-le-suc, eq-or-lt_of_le, mul-suc, add-one, arith, length, length-append}
use Rattle.sections.specs.Sections.{in_row}
use Rattle.clients.specs.Clients.{total}

-- a row of w bytes for each of a number of things
pub length_row_total : (f : ℕ → List ℕ) (g : ℕ → ℕ) (w n : ℕ) → ((i : ℕ) → length (f i) ≡ w * g i) → length (in_row n f) ≡ w * total n g
unfolding in_row total
length_row_total f g w zero h = omega arith
length_row_total f g w (suc n) h =
    length-append (in_row n f) (f n) ∙ ap₂ (λ (x y : ℕ). x + y) (length_row_total f g w n h) (h n) ∙ factored w (total n g) (g n)
  where
    factored : (w x y : ℕ) → w * x + w * y ≡ w * (x + y)
    factored w x y = omega arith

module _ (f : ℕ → ℕ) where
  pub total_none : total 0 f ≡ 0
  unfolding total
  total_none = refl

  pub total_more : (n : ℕ) → total (n + 1) f ≡ total n f + f n
  unfolding total
  total_more n = rw (add-one n)

  pub total_ext : (g : ℕ → ℕ) (n : ℕ) → ((i : ℕ) → i < n → f i ≡ g i) → total n f ≡ total n g
  unfolding total
  total_ext g zero h = refl
  total_ext g (suc n) h = ap₂ (λ (x y : ℕ). x + y) (total_ext g n (λ i l. h i (omega arith))) (h n (omega arith))

  pub total_at : (i n : ℕ) → i < n → f i ≤ total n f
  unfolding total
  total_at i zero l = absurd (omega arith)
  total_at i (suc n) l = ⊎_elim (λ (e : i ≡ n). rw e (omega arith)) (λ (k : i < n). omega (arith, total_at i n k)) (eq-or-lt_of_le (le_of_suc-le-suc l))

  pub total_bound : (b n : ℕ) → ((i : ℕ) → f i ≤ b) → total n f ≤ b * n
  unfolding total
  total_bound b zero h = omega arith
  total_bound b (suc n) h = omega (arith, total_bound b n h, h n, mul-suc b n)
