-- `execute::respond` meets its contract: code 21 where the state is told to be ill formed, all else by `step`. Assumes nothing.
use Rattle.std.proofs.Common.{sym, ◌∙◌}
use Rattle.engine.proofs.Declared.{declared}
use Rattle.exchange.proofs.Responses.{executed, executed_refused}
use Rattle.exchange.proofs.execute.respond.Goals as goal

pub returns-then-not-formed : goal.returns-then-not-formed
returns-then-not-formed c = executed_refused _ _ _ _ _ c.refused.result (sym c.requires ∙ c.if-not-formed.true) (rw c.number.ensures at c.refused.ensures) c.plain.ensures

pub step-requires : goal.step-requires
step-requires c = record { declared = declared c.well_formed.1.0; formed = sym c.requires ∙ c.if-not-formed.false }

pub returns : goal.returns
returns c = executed _ _ (sym c.requires ∙ c.if-not-formed.false) c.step.ensures
