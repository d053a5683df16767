-- What `query::asked_of` leaves: code 21 by the audit, code 1 where the record is no insert, all else by `reading_of`. Assumes nothing.
use Rattle.std.proofs.Common.{sym, ap, ◌∙◌}
use Rattle.rules.specs.Command.{is_insert}
use Rattle.engine.proofs.Declared.{declared}
use Rattle.query.proofs.Asking.{an_insert, no_insert, not_formed, other_than_insert}
use Rattle.query.proofs.asked_of.Goals as goal

pub returns-then-not-well_formed : goal.returns-then-not-well_formed
returns-then-not-well_formed c = not_formed _ _ (sym c.well_formed-2.ensures ∙ c.if-not-well_formed.true)

pub returns-in_default : goal.returns-in_default
returns-in_default c =
    no_insert _ _ (sym c.well_formed-2.ensures ∙ c.if-not-well_formed.false)
    (ap is_insert (sym c.command_of.ensures) ∙ other_than_insert c.command_of.result c.in_default.not-Insert)

pub invariant_of-market : goal.invariant_of-market
invariant_of-market c = record { formed = record { declared = declared c.well_formed.0; formed = sym c.well_formed-2.ensures ∙ c.if-not-well_formed.false } }

pub returns : goal.returns
returns c =
    an_insert _ _ (sym c.well_formed-2.ensures ∙ c.if-not-well_formed.false) (sym c.command_of.ensures ∙ c.in-Insert.is) c.reading_of.ensures
