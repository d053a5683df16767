-- The price of one contract more.
use Rattle.laws.specs.Written.{writing_none, writing_more}
use Rattle.settlement.proofs.Report.{price_in_use, prices_done}
use Rattle.settlement.proofs.settle.prices_due.Goals as goal

pub loop-c-init : goal.loop-c-init
loop-c-init c = writing_none _ _ _

pub loop-c-preserved : goal.loop-c-preserved
loop-c-preserved c =
    writing_more _ _ _ c.requires.few _ _ _ c.loop-c-test.true
    (price_in_use _ _ c.loop-c-test.true _ c.settlement_price.ensures) c.loop-c.invariant

pub returns : goal.returns
returns c = prices_done _ _ _ c.loop-c-test.false c.loop-c.invariant
