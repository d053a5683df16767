-- The clauses in their order. Assumes nothing.
use Rattle.std.proofs.Common.{sym}
use Rattle.saving.proofs.AddedUp.{next_given, not_empty, not_equal, some_trades, stamp_decides}
use Rattle.saving.proofs.totals.is_writable.Goals as goal

pub returns-then-not-all_empty : goal.returns-then-not-all_empty
returns-then-not-all_empty c = not_empty c.args.state (sym c.if-not-all_empty.ensures)

pub returns-then-not-all_equal : goal.returns-then-not-all_equal
returns-then-not-all_equal c = not_equal c.args.state (sym c.if-not-all_equal.ensures)

pub returns-then-state-ne0 : goal.returns-then-state-ne0
returns-then-state-ne0 c = some_trades c.args.state (sym c.if-not-all_empty.ensures) (sym c.if-not-all_equal.ensures) c.if-state-ne0.true

pub returns-then-state-ne1 : goal.returns-then-state-ne1
returns-then-state-ne1 c =
    next_given c.args.state (sym c.if-not-all_empty.ensures) (sym c.if-not-all_equal.ensures) c.if-state-ne0.false c.if-state-ne1.true

pub returns : goal.returns
returns c =
    stamp_decides c.args.state (sym c.if-not-all_empty.ensures) (sym c.if-not-all_equal.ensures) c.if-state-ne0.false c.if-state-ne1.false
