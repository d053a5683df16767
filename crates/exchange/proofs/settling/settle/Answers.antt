-- `settling::settle` meets its contract: a refusal by its code, or the settlement's own promise. Assumes nothing.
use Rattle.std.proofs.Common.{sym}
use Rattle.theory.proofs.Codes.{not_accepted}
use Rattle.exchange.proofs.Responses.{settle_refused, settle_made}
use Rattle.exchange.proofs.settling.settle.Goals as goal

pub returns-in-Err : goal.returns-in-Err
returns-in-Err c = settle_refused c.requires _ _ _ (not_accepted _) (sym c.in-Err.ensures) (rw c.number.ensures at c.refused.ensures) c.plain.ensures

pub returns : goal.returns
returns c = settle_made c.requires c.settle-s.result _ _ _ (sym c.in_default.ensures) c.settle-s.ensures
