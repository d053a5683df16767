-- `step::decide` meets its contract, each kind by its own promise, or left. Assumes nothing.
use Rattle.std.proofs.Common.{refl}
use Rattle.exchange.proofs.Decided.{malformed_decided}
use Rattle.exchange.proofs.step.decide.Goals as goal

pub returns-in-Malformed : goal.returns-in-Malformed
returns-in-Malformed c = malformed_decided c.in-Malformed.is refl
