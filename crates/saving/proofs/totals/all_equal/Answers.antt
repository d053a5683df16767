-- Assumes nothing.
use Rattle.std.proofs.Common.{sym}
use Rattle.laws.specs.Choice.{all_more, all_none, all_stop}
use Rattle.saving.proofs.totals.all_equal.Goals as goal

pub loop-c-init : goal.loop-c-init
loop-c-init c = all_none _

pub returns-then-not-totals_equal : goal.returns-then-not-totals_equal
returns-then-not-totals_equal c = sym (all_stop _ _ _ c.loop-c-test.true (sym c.if-not-totals_equal.ensures))

pub loop-c-preserved : goal.loop-c-preserved
loop-c-preserved c = all_more _ _ c.loop-c.invariant (sym c.if-not-totals_equal.ensures)
