-- Lines printed one for each place below a count, one more a turn. Assumes nothing.
use mathlib.Core.List.{List}
use mathlib.Core.Path.{◌≡◌, refl}
use Prim.Native.Nat.{ℕ, zero, suc, ◌+◌, ◌≤◌, ◌<◌}
use native.Mathlib.Nat.{le_refl}
use native.Mathlib.Numerals.{add-one}
use native.Mathlib.Omega.{arith}
use lib.ListN.{length}
use Rattle.endian.specs.Written.{Written}
use Rattle.endian.proofs.Writes.{no_byte, looser, then}
use Rattle.runner.specs.Rows.{rows}

-- two tables whose lines are the same
pub rows_ext : (f g : ℕ → List ℕ) (n : ℕ) → ((i : ℕ) → i < n → f i ≡ g i) → rows f n ≡ rows g n
unfolding rows
rows_ext f g zero e = refl
rows_ext f g (suc n) e = rw (rows_ext f g n (λ i h. e i (omega arith)), e n (le_refl (suc n)))

module _ (line : ℕ → List ℕ) {before : List ℕ} {at : ℕ} where
  pub rows_none : at ≤ length before → Written 0 before at (rows line 0) before at
  unfolding rows
  rows_none room = no_byte before at room

  pub rows_more : (n most each more : ℕ) {middle after : List ℕ} {next end : ℕ} → most + each ≤ more → Written most before at (rows line n) middle next
      → Written each middle next (line n) after end → Written more before at (rows line (n + 1)) after end
  unfolding rows
  rows_more n most each more h w v = rw (add-one n) (looser (then w v) more h)
