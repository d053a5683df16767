-- A SOUND FILE HAS AT MOST 48,348 BYTES, so one byte more is room enough to tell. Assumes nothing.
use mathlib.Core.Bool.{Bool, true, false}
use mathlib.Core.List.{List}
use mathlib.Core.Path.{◌≡◌, refl, sym, ap, ◌∙◌}
use Prim.Native.Nat.{ℕ, ◌<◌}
use native.Mathlib.Omega.{arith}
use borrow.Author.Tests.{leb-true, leb-false}
use lib.Dec.{leb}
use lib.ListN.{length, take, replicate, length-replicate}
use lib.Seq.{take_all, length-take-le}
use Rattle.rules.specs.DayFile.{file_most, sound}
use Rattle.rules.specs.Lines.{broken_line, output}
use Rattle.dayfile.proofs.Places.{sound_layout}
use Rattle.runner.specs.Output.{Enough}

too_long : (file : List ℕ) → file_most < length file → sound file ≡ false
too_long file h = by_sound (sound file) refl
  where
    by_sound : (t : Bool) → sound file ≡ t → sound file ≡ false
    by_sound true e = let l = sound_layout file e in absurd (omega arith)
    by_sound false e = e

broken_prints : (file : List ℕ) → sound file ≡ false → output file ≡ broken_line
unfolding output
broken_prints file e = rw e

pub enough : (room : ℕ) → file_most < room → Enough room
enough room h input = by_length (leb (length input) room) refl
  where
    by_length : (t : Bool) → leb (length input) room ≡ t → output (take room input) ≡ output input
    by_length true e = ap output (take_all room input (leb-true (length input) room e))
    by_length false e =
        let l = leb-false (length input) room e in
        broken_prints (take room input) (too_long (take room input) (omega (arith, length-take-le room input (omega arith))))
        ∙ sym (broken_prints input (too_long input (omega arith)))

-- zeros for room
pub room_enough : (n : ℕ) → file_most < n → (replicate {A = ℕ} n 0 ≡ replicate {A = ℕ} (length (replicate {A = ℕ} n 0)) 0) × Enough (length (replicate {A = ℕ} n 0))
room_enough n h = rw (length-replicate {A = ℕ} n 0) (refl, enough n h)
