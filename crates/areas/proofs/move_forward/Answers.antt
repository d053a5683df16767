-- The words that were moved are all those behind the first w. Assumes nothing.
use lib.Seq.{take_all}
use native.Mathlib.Nat.{zero-add}
use Rattle.laws.specs.Logic.{◌∙◌}
use Rattle.laws.specs.Numbers.{◌-◌, length, arith, drop, length-drop}
use Rattle.areas.specs.Moves.{moved_forward}
use Rattle.areas.proofs.move_forward.Goals as goal

pub returns : goal.returns
unfolding moved_forward
returns c =
    let p = c.args.part.now in let w = c.args.w in
    c.copy_within.ensures.after ∙ rw (zero-add (length p - w), take_all (length p - w) (drop w p) (rw length-drop (omega arith)))
