-- What stands in a row, and a row written one thing after the other. Assumes nothing.
use mathlib.Core.List.{List, ◌++◌}
use mathlib.Core.Path.{◌≡◌, refl, ap, ap₂, ◌∙◌}
use Prim.Native.Nat.{ℕ, zero, suc, ◌+◌, ◌-◌, ◌*◌, ◌<◌, ◌≤◌}
use native.Mathlib.Nat.{le_refl, mul-suc}
use native.Mathlib.Numerals.{add-one}
use native.Mathlib.Omega.{arith}
use lib.ListN.{length, length-append}
use Rattle.endian.specs.Written.{Written}
use Rattle.endian.proofs.Writes.{then, no_byte}
use Rattle.sections.specs.Sections.{in_row}

module _ (f : ℕ → List ℕ) where
  pub row_more : (n : ℕ) → in_row (n + 1) f ≡ in_row n f ++ f n
  unfolding in_row
  row_more n = rw (add-one n)

  -- rows of what agrees
  pub row_ext : (g : ℕ → List ℕ) (n : ℕ) → ((i : ℕ) → i < n → f i ≡ g i) → in_row n f ≡ in_row n g
  unfolding in_row
  row_ext g zero h = refl
  row_ext g (suc n) h = ap₂ (λ (xs ys : List ℕ). xs ++ ys) (row_ext g n (λ i l. h i (omega arith))) (h n (omega arith))

  -- w bytes for each
  pub length_row : (w n : ℕ) → ((i : ℕ) → i < n → length (f i) ≡ w) → length (in_row n f) ≡ w * n
  unfolding in_row
  length_row w zero h = omega arith
  length_row w (suc n) h =
      length-append (in_row n f) (f n) ∙ omega (arith, length_row w n (λ i l. h i (omega arith)), h n (omega arith), mul-suc w n)

-- what is written, with no looser bound than its own length
pub exact : {before bytes after : List ℕ} {most at next : ℕ} → Written most before at bytes after next → Written (length bytes) before at bytes after next
exact w = record { content = w.content; ends = w.ends; short = le_refl _; kept = w.kept; inside = w.inside }

-- ---- n things in a row: the first k are written

module _ (f : ℕ → List ℕ) (n : ℕ) (out₀ : List ℕ) (at : ℕ) where
  pub record Telling (k next : ℕ) (out : List ℕ) : Type 0 where
    pub within : k ≤ n
    pub row : Written (length (in_row k f)) out₀ at (in_row k f) out next

  pub telling_none : at ≤ length out₀ → Telling 0 at out₀
  unfolding in_row
  telling_none h = record { within = omega arith; row = no_byte out₀ at h }

  -- a shorter row is no longer
  row_up : (k m : ℕ) → length (in_row k f) ≤ length (in_row (k + m) f)
  row_up k zero = let e : k + 0 ≡ k = omega arith in rw e (le_refl _)
  row_up k (suc m) =
      let e : k + suc m ≡ k + m + 1 = omega arith in
      rw (e, row_more f (k + m), length-append (in_row (k + m) f) (f (k + m))) (omega (arith, row_up k m))

  module _ (k next : ℕ) (out : List ℕ) (l : k < n) (t : Telling k next out) where
    pub telling_room : at + length (in_row n f) ≤ length out₀ → next + length (f k) ≤ length out
    telling_room h =
        let e : k + 1 + (n - (k + 1)) ≡ n = omega arith in
        let u : length (in_row (k + 1) f) ≤ length (in_row n f) = rw e at (row_up (k + 1) (n - (k + 1))) in
        let v : length (in_row (k + 1) f) ≡ length (in_row k f) + length (f k) = ap length (row_more f k) ∙ length-append (in_row k f) (f k) in
        omega (arith, t.row.ends, t.row.kept)

    -- .. of w bytes
    pub telling_fits : {w : ℕ} → length (f k) ≡ w → at + length (in_row n f) ≤ length out₀ → next + w ≤ length out
    telling_fits e h = let r = telling_room h in omega arith

    pub telling_more : {most next' : ℕ} {out' : List ℕ} → Written most out next (f k) out' next' → Telling (k + 1) next' out'
    telling_more w = record { within = omega arith; row = rw (row_more f k) (exact (then t.row w)) }

  pub telling_done : (k next : ℕ) (out : List ℕ) → n ≤ k → Telling k next out → Written (length (in_row n f)) out₀ at (in_row n f) out next
  telling_done k next out h t =
      let e : k ≡ n = omega (arith, t.within) in
      rw e at t.row
