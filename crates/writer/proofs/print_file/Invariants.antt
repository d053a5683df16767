-- Behind a part that has more fewer commands are left. Assumes nothing.
use Rattle.std.proofs.Common.{◌-◌}
use Rattle.rules.specs.DayFile.{commands_in}
use Rattle.writer.proofs.print_file.Given as goal

abbrev pub decreases-loop-buys : goal.decreases-loop-buys
decreases-loop-buys l = commands_in l.file - l.next
