-- Each account can be charged, and one more is.
use Rattle.settlement.proofs.Report.{charges_none, charges_more, charges_done}
use Rattle.settlement.proofs.settle.charges.Goals as goal

pub loop-a-init : goal.loop-a-init
loop-a-init c = charges_none _ _ _

pub charged-requires : goal.charged-requires
charged-requires c = c.requires.each _ c.loop-a-test.true

pub loop-a-preserved : goal.loop-a-preserved
loop-a-preserved c = charges_more _ _ _ c.requires _ _ _ c.loop-a-test.true c.charged.ensures c.loop-a.invariant

pub returns : goal.returns
returns c = charges_done _ _ _ _ _ c.loop-a-test.false c.loop-a.invariant
