-- The lots so far, and those from order i on, are the answer; and no order adds more than its word holds, so the sum of 64 fits.
use Rattle.laws.specs.Logic.{◌≡◌}
use Rattle.laws.specs.Numbers.{◌+◌, ◌*◌, ◌≤◌, drop}
use Rattle.rules.specs.Exchange.{resting}
use Rattle.book.proofs.orders.Queue.resting.Given as goal

abbrev pub invariant-loop-i : goal.invariant-loop-i
invariant-loop-i l = record {
  small : l.lots ≤ 4294967296 * l.i;
  so_far : l.lots + resting l.close l.account (drop l.i l.self) ≡ resting l.close l.account l.self;
}
