-- The part copied is the one that is told. Assumes nothing.
use native.Mathlib.Nat.{add-sub_cancel_left}
use Rattle.laws.specs.Logic.{◌∙◌}
use Rattle.endian.proofs.Writes.{copied, length_part}
use Rattle.endian.proofs.writing.put_part.Goals as goal

pub returns : goal.returns
returns c =
    copied _ _ _ _ _ c.requires.0 (length_part c.args.file.now c.args.from c.args.n c.requires.1) (c.copy_from_slice.ensures.after ∙ rw add-sub_cancel_left)
