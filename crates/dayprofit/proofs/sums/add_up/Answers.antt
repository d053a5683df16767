-- Each leg has room in its slot, and a trade's two legs keep the sums.
use Rattle.laws.specs.Numbers.{arith}
use Rattle.dayprofit.proofs.Passes.{TradeRead, adding, adding_none, all_added, buy_addable, bought, sell_addable, passing_more, buy_lots, sell_lots}
use Rattle.dayprofit.proofs.sums.add_up.Goals as goal

pub loop-i-init : goal.loop-i-init
loop-i-init c = adding_none _ c.args.day.now _ _ c.requires.1 c.requires.2

pub add_leg-requires : goal.add_leg-requires
add_leg-requires c =
    let read : TradeRead c.args.day.now c.loop-i.i c.trade-t.result = record { placed = c.requires.0; here = omega arith; read = c.trade-t.ensures } in
    (buy_addable read (adding _) c.loop-i.invariant, buy_lots read _ c.loop-i.invariant)

pub add_leg-requires-in-loop-i : goal.add_leg-requires-in-loop-i
add_leg-requires-in-loop-i c =
    let read : TradeRead c.args.day.now c.loop-i.i c.trade-t.result = record { placed = c.requires.0; here = omega arith; read = c.trade-t.ensures } in
    let turn = c.loop-i.invariant in
    let buy = c.add_leg.ensures in
    (sell_addable read (adding _) turn buy.0 buy.1, sell_lots read _ turn (bought read (adding _) turn buy.0 buy.1))

pub loop-i-preserved : goal.loop-i-preserved
loop-i-preserved c =
    let read : TradeRead c.args.day.now c.loop-i.i c.trade-t.result = record { placed = c.requires.0; here = omega arith; read = c.trade-t.ensures } in
    let buy = c.add_leg.ensures in
    let sell = c.add_leg-in-loop-i.ensures in
    passing_more read (adding _) c.loop-i.invariant buy.0 buy.1 sell.0 sell.1

pub returns : goal.returns
returns c = all_added _ _ _ _ (omega arith) _ c.loop-i.invariant
