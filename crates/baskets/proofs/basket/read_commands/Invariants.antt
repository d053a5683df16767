-- The loop of `basket::read_commands`: the places below k hold the commands of the first k records. Assumes nothing.
use Rattle.std.proofs.Common.{◌*◌}
use Rattle.laws.specs.Written.{Writing}
use Rattle.rules.specs.DayFile.{command_from, command_width}
use Rattle.baskets.proofs.basket.read_commands.Given as goal

abbrev pub invariant-loop-k : goal.invariant-loop-k
invariant-loop-k l = Writing (λ i. command_from l.bytes (command_width * i)) l.initial.commands l.count l.k l.commands
