-- The marks before a are 0 or 1. Assumes nothing.
use Rattle.std.proofs.Common.{◌≡◌, true}
use Rattle.laws.specs.Choice.{all}
use Rattle.statefile.specs.StateFile.{mark_sound}
use Rattle.saving.proofs.shape.marks_sound.Given as goal

abbrev pub invariant-loop-a : goal.invariant-loop-a
invariant-loop-a l = all (mark_sound l.file.bytes.now) l.a ≡ true
