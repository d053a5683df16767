-- A contract whose lots do not add up ends it; any other is one more that does.
use Rattle.std.proofs.Common.{ap, sym}
use Rattle.std.specs.Prelude.{not}
use Rattle.laws.specs.Choice.{all_none, all_more, all_stop}
use Rattle.laws.specs.Tests.{passed, refused}
use Rattle.clients.proofs.starts.add_up.Goals as goal

pub loop-c-init : goal.loop-c-init
loop-c-init c = all_none _

pub returns-then-not-adds_up : goal.returns-then-not-adds_up
returns-then-not-adds_up c = sym (all_stop _ _ _ c.loop-c-test.true (refused c.adds_up.ensures (ap not c.if-not-adds_up.true)))

pub loop-c-preserved : goal.loop-c-preserved
loop-c-preserved c = all_more _ _ c.loop-c.invariant (passed c.adds_up.ensures (ap not c.if-not-adds_up.false))
