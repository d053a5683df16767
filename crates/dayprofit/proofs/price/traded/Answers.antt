-- The sums of a day's trades fit, and one trade more keeps them.
use Rattle.laws.specs.Numbers.{arith}
use Rattle.dayprofit.proofs.Trading.{trading_none, trading_more, trading_all, value_fits, lots_fits, sized_at}
use Rattle.dayprofit.proofs.price.traded.Goals as goal

pub loop-i-init : goal.loop-i-init
loop-i-init c = trading_none _ _

pub part-p-requires : goal.part-p-requires
part-p-requires c = sized_at _ c.requires _ _ (omega arith) c.trade.ensures

pub overflow_add-value : goal.overflow_add-value
overflow_add-value c = value_fits _ _ c.requires _ _ _ _ _ (omega arith) c.loop-i.invariant c.trade.ensures c.part-p.ensures

pub overflow_add-lots : goal.overflow_add-lots
overflow_add-lots c = lots_fits _ _ c.requires _ _ _ _ _ (omega arith) c.loop-i.invariant c.trade.ensures c.part-p.ensures

pub loop-i-preserved : goal.loop-i-preserved
loop-i-preserved c = trading_more _ _ c.requires _ _ _ _ _ (omega arith) c.loop-i.invariant c.trade.ensures c.part-p.ensures

pub returns : goal.returns
returns c = trading_all _ _ _ _ _ (omega arith) c.loop-i.invariant
