-- i trades so far, and those of the lots left from order i on, are the answer.
use Rattle.laws.specs.Logic.{◌≡◌}
use Rattle.laws.specs.Numbers.{◌+◌, drop}
use Rattle.book.specs.EarlyStop.{count_trades}
use Rattle.book.proofs.orders.Queue.count_trades.Given as goal

abbrev pub invariant-loop-i : goal.invariant-loop-i
invariant-loop-i l = l.i + count_trades l.t l.left (drop l.i l.self) ≡ count_trades l.t l.lots l.self
