-- Each leg has room in its slot, and a trade's two legs keep what is left and what is used.
use Rattle.laws.specs.Numbers.{arith}
use Rattle.dayprofit.proofs.Passes.{TradeRead, taking, taking_none, all_taken, buy_addable, sell_addable, passing_more}
use Rattle.dayprofit.proofs.sums.take_first.Goals as goal

pub loop-i-init : goal.loop-i-init
loop-i-init c = taking_none c.args.day.now _ _ c.requires.1 c.requires.2

pub take_leg-requires : goal.take_leg-requires
take_leg-requires c =
    let read : TradeRead c.args.day.now c.loop-i.i c.trade-t.result = record { placed = c.requires.0; here = omega arith; read = c.trade-t.ensures } in
    buy_addable read (taking c.args.left.now) c.loop-i.invariant

pub take_leg-requires-in-loop-i : goal.take_leg-requires-in-loop-i
take_leg-requires-in-loop-i c =
    let read : TradeRead c.args.day.now c.loop-i.i c.trade-t.result = record { placed = c.requires.0; here = omega arith; read = c.trade-t.ensures } in
    let buy = c.take_leg.ensures in
    sell_addable read (taking c.args.left.now) c.loop-i.invariant buy.0 buy.1

pub loop-i-preserved : goal.loop-i-preserved
loop-i-preserved c =
    let read : TradeRead c.args.day.now c.loop-i.i c.trade-t.result = record { placed = c.requires.0; here = omega arith; read = c.trade-t.ensures } in
    let buy = c.take_leg.ensures in
    let sell = c.take_leg-in-loop-i.ensures in
    passing_more read (taking c.args.left.now) c.loop-i.invariant buy.0 buy.1 sell.0 sell.1

pub returns : goal.returns
returns c = all_taken _ _ _ _ (omega arith) _ c.loop-i.invariant
