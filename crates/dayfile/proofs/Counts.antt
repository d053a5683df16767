-- A count as a reader of any bytes takes it: where there is none, and what one says. Assumes nothing.
use Rattle.laws.specs.Logic.{Bool, true, false, ◌&&◌, List, ◌≡◌, refl, sym, subst, ◌∙◌}
use Rattle.laws.specs.Numbers.{ℕ, ◌-◌, ◌<◌, ◌≤◌, arith, not-suc-le-zero, leb-true, le-leb, lt-leb, leb, length}
use Rattle.laws.specs.Choice.{pick_true, pick_false, both_true, both_false, false_both, true_both}
use Rattle.rules.specs.DayFile.{u32_at, count_width}
use Rattle.dayfile.specs.FileHead.{count_before}

-- a count that stands before a place of the file
pub record Counted (file : List ℕ) (end n : ℕ) : Type 0 where
  pub reaches : end ≤ length file
  pub is : n ≡ u32_at file (end - count_width)

module _ (file : List ℕ) (end most : ℕ) where
  abbrev read : ℕ
  read = u32_at file (end - count_width)

  abbrev tests : Bool
  tests = leb end (length file) && leb read most

  -- ---- as the code reads it

  pub ends_before : length file < end → count_before file end most ≡ 0
  unfolding count_before
  ends_before h = pick_false tests read 0 (false_both (leb end (length file)) (leb read most) (lt-leb end (length file) h))

  pub too_many : most < read → count_before file end most ≡ 0
  unfolding count_before
  too_many h = pick_false tests read 0 (both_false (leb end (length file)) (leb read most) (lt-leb read most h))

  pub as_read : end ≤ length file → read ≤ most → read ≡ count_before file end most
  unfolding count_before
  as_read h k = sym (pick_true tests read 0 (true_both (leb end (length file)) (leb read most) (le-leb end (length file) h) (le-leb read most k)))

  pub none_read : read ≡ 0 → end ≤ length file → count_before file end most ≡ 0
  none_read z h = sym (as_read h (omega arith)) ∙ z

  -- ---- what it says

  pub counted : {n : ℕ} → n ≡ count_before file end most → 1 ≤ n → Counted file end n
  unfolding count_before
  counted {n} e some = by_tests tests refl
    where
      by_tests : (t : Bool) → tests ≡ t → Counted file end n
      by_tests true h = record { reaches = leb-true end (length file) (both_true (leb end (length file)) (leb read most) h).0; is = e ∙ pick_true tests read 0 h }
      by_tests false h = absurd (not-suc-le-zero (subst (λ (k : ℕ). 1 ≤ k) (e ∙ pick_false tests read 0 h) some))

  pub uncounted : count_before file end most ≡ 0 → end ≤ length file → 1 ≤ read → read ≤ most → ⊥
  uncounted z h low high = omega (arith, as_read h high)
