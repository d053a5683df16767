-- What is charged is small enough to be read as signed. Assumes nothing.
use mir.Facts.{to_z-of_z}
use Rattle.laws.specs.Numbers.{arith}
use Rattle.laws.proofs.Signed.{read_pos}
use Rattle.margin.proofs.too_little.Goals as goal

pub returns : goal.returns
returns c = rw (to_z-of_z c.ranges.balance, read_pos c.args.charged (omega arith))
