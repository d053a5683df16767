-- `payments::lifts_too_high` meets its contract: the sum of a balance and an amount in their ranges fits. Assumes nothing.
use Rattle.std.proofs.Common.{arith}
use Rattle.laws.specs.Bound.{within_pos}
use Rattle.laws.proofs.Signed.{add_fits, add_back}
use Rattle.engine.proofs.payments.lifts_too_high.Goals as goal

pub overflow_add-result : goal.overflow_add-result
overflow_add-result c = add_fits c.requires.0 (within_pos c.requires.1) (omega arith)

pub returns : goal.returns
returns c = rw (add_back c.requires.0 (within_pos c.requires.1) (omega arith))
