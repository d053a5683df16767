-- The answer as a record.
use Rattle.std.proofs.Common.{Ok, Err}
use Rattle.statements.proofs.Refusing.{answered}
use Rattle.statements.proofs.client_statement.Goals as goal

pub returns-in-Ok : goal.returns-in-Ok
returns-in-Ok c = answered _ _ _ _ (Ok c.in-Ok.length) _ c.in-Ok.ensures

pub returns-in-Err : goal.returns-in-Err
returns-in-Err c = rw c.number.ensures (answered _ _ _ _ (Err c.in-Err.code) _ c.in-Err.ensures)
