-- The order at a place ends the search or not, and past the last none is left. Assumes nothing.
use Rattle.laws.specs.Numbers.{arith, eq-eqb, ne_eqb}
use Rattle.book.proofs.ReadOrders.{looks_on, stands_here, stands_nowhere}
use Rattle.book.proofs.orders.Queue.find.Goals as goal

pub returns-then-order-number : goal.returns-then-order-number
returns-then-order-number c = (
  omega arith,
  stands_here _ _ _ _ c.loop-place.invariant (omega arith) (rw (← c.order-order.ensures) (eq-eqb _ _ c.if-order-number.true)),
  c.order-order.ensures,
)

pub loop-place-preserved : goal.loop-place-preserved
loop-place-preserved c =
    looks_on _ _ _ _ c.loop-place.invariant (omega arith) (rw (← c.order-order.ensures) (ne_eqb _ _ c.if-order-number.false))

pub returns : goal.returns
returns c = omega (arith, stands_nowhere _ _ _ _ c.loop-place.invariant (omega arith))
