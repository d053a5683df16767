-- The order at k ends the search or not, and past the last none is left. Assumes nothing.
use Rattle.laws.specs.Logic.{sym, ◌∙◌}
use Rattle.laws.specs.Numbers.{arith}
use Rattle.book.proofs.ReadOrders.{looks_on, stands_here, stands_nowhere}
use Rattle.book.proofs.orders.Queue.place.Goals as goal

pub returns-then-worse : goal.returns-then-worse
returns-then-worse c =
    stands_here _ _ _ _ c.loop-k.invariant (omega arith) (rw (← c.order.ensures) (sym c.worse.ensures ∙ c.if-worse.true))

pub loop-k-preserved : goal.loop-k-preserved
loop-k-preserved c =
    looks_on _ _ _ _ c.loop-k.invariant (omega arith) (rw (← c.order.ensures) (sym c.worse.ensures ∙ c.if-worse.false))

pub returns : goal.returns
returns c = omega (arith, stands_nowhere _ _ _ _ c.loop-k.invariant (omega arith))
