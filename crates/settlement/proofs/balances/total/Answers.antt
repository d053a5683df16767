-- Each contract's profit fits, and one more is added.
use Rattle.settlement.proofs.Totals.{totalling_none, closing_bits, holding_bits, closing_fits, holding_fits, totalling_more, totalling_done}
use Rattle.settlement.proofs.balances.total.Goals as goal

pub loop-c-init : goal.loop-c-init
loop-c-init c = totalling_none _ _ _ _ _ _ _ _

pub profit_at-p-requires : goal.profit_at-p-requires
profit_at-p-requires c = c.requires.each _ c.loop-c-test.true

pub multiplied-closing-requires : goal.multiplied-closing-requires
multiplied-closing-requires c = (closing_bits c.requires c.loop-c-test.true c.profit_at-p.ensures, c.requires.multiplier _ c.loop-c-test.true)

pub overflow_add-closing : goal.overflow_add-closing
overflow_add-closing c =
    closing_fits c.requires c.loop-c-test.true c.profit_at-p.ensures _ _ c.loop-c.invariant c.multiplied-closing.ensures

pub multiplied-holding-requires : goal.multiplied-holding-requires
multiplied-holding-requires c = (holding_bits c.requires c.loop-c-test.true c.profit_at-p.ensures, c.requires.multiplier _ c.loop-c-test.true)

pub overflow_add-holding : goal.overflow_add-holding
overflow_add-holding c =
    holding_fits c.requires c.loop-c-test.true c.profit_at-p.ensures _ _ c.loop-c.invariant
    c.multiplied-closing.ensures c.multiplied-holding.ensures

pub loop-c-preserved : goal.loop-c-preserved
loop-c-preserved c =
    totalling_more c.requires c.loop-c-test.true c.profit_at-p.ensures _ _ c.loop-c.invariant
    c.multiplied-closing.ensures c.multiplied-holding.ensures

pub returns : goal.returns
returns c = totalling_done c.requires c.loop-c-test.false c.loop-c.invariant
