-- Behind the words that were moved nothing stands. Assumes nothing.
use lib.ListN.{drop_of_length-le}
use native.Mathlib.Nat.{sub-zero}
use Rattle.laws.specs.Logic.{append-nil, ◌∙◌}
use Rattle.laws.specs.Numbers.{◌+◌, ◌-◌, length, arith}
use Rattle.areas.specs.Moves.{moved_back}
use Rattle.areas.proofs.move_back.Goals as goal

pub returns : goal.returns
unfolding moved_back
returns c =
    let p = c.args.part.now in let w = c.args.w in
    c.copy_within.ensures.after ∙ rw (sub-zero (length p - w), drop_of_length-le p {i = w + (length p - w)} (omega arith), append-nil)
