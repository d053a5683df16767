-- `run::run` meets its contract: refused whole, or the rules' run. Assumes nothing.
use Rattle.std.proofs.Common.{sym, ◌∙◌}
use Rattle.engine.proofs.Declared.{declared}
use Rattle.exchange.proofs.Runs.{ran_is, refused_ran}
use Rattle.exchange.proofs.run.run.Goals as goal

pub returns-then-not-well_formed : goal.returns-then-not-well_formed
returns-then-not-well_formed c = refused_ran _ (declared c.well_formed.0) _ (sym c.well_formed-2.ensures ∙ c.if-not-well_formed.true)

pub run_through-requires : goal.run_through-requires
run_through-requires c = record { declared = declared c.well_formed.0; formed = sym c.well_formed-2.ensures ∙ c.if-not-well_formed.false }

pub returns : goal.returns
returns c = ran_is _ (declared c.well_formed.0) _ c.run_through.ensures
