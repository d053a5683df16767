-- Nothing where all is played, otherwise a part. Assumes nothing.
use Rattle.std.proofs.Common.{arith}
use Rattle.runner.proofs.WholeOutput.{can_go_on, nothing_more, part_printed}
use Rattle.runner.proofs.output.print_sound.Goals as goal

pub returns-then-n-next : goal.returns-then-n-next
returns-then-n-next c = rw c.nothing.ensures (nothing_more _ _ c.requires c.commands_in-n.ensures (omega (arith, c.if-n-next.true)))

pub play-p-requires : goal.play-p-requires
play-p-requires c = search can_go_on

pub returns : goal.returns
returns c = search part_printed
