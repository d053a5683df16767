-- `insertion::arrive` meets its contract: each side is the order's own in its turn. Assumes nothing.
use Rattle.insertion.proofs.Arriving.{buy_arrived, sell_arrived}
use Rattle.insertion.proofs.arrive.Goals as goal

pub returns-then-a : goal.returns-then-a
returns-then-a c = sell_arrived _ _ c.if-a.true c.arrive_on.ensures

pub returns-else-a : goal.returns-else-a
returns-else-a c = buy_arrived _ _ c.if-a.false c.arrive_on-else-a.ensures
