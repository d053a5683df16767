-- It has a byte more than a sound file can have. Assumes nothing.
use Rattle.std.proofs.Common.{◌+◌, arith}
use Rattle.rules.specs.DayFile.{file_most}
use Rattle.runner.proofs.ReadEnough.{room_enough}
use Rattle.runner.proofs.reading.room.Goals as goal

pub returns : goal.returns
returns c = room_enough (file_most + 1) (omega arith)
