-- The trades so far, with those of what is left of the queues, are the answer. Every turn fills an order, so what is left of both is
-- the measure.
use Rattle.laws.specs.Numbers.{◌+◌, ◌-◌, length}
use Rattle.auction.proofs.Counting.{Counting}
use Rattle.auction.proofs.matched.count_trades.Given as goal

abbrev pub invariant-loop-i : goal.invariant-loop-i
invariant-loop-i l = Counting l.buys l.sells l.price l.i l.j l.bid l.ask l.made

abbrev pub decreases-loop-i : goal.decreases-loop-i
decreases-loop-i l = length l.buys - l.i + (length l.sells - l.j)
