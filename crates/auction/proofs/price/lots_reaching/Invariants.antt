-- The lots so far, and those from order i on, are the answer; and no order adds more than its word holds, so the sum of 64 fits.
use Rattle.laws.specs.Logic.{◌≡◌}
use Rattle.laws.specs.Numbers.{◌+◌, ◌*◌, ◌≤◌, drop}
use Rattle.rules.specs.Auction.{lots_reaching}
use Rattle.auction.proofs.price.lots_reaching.Given as goal

abbrev pub invariant-loop-i : goal.invariant-loop-i
invariant-loop-i l = record {
  small : l.lots ≤ 4294967296 * l.i;
  so_far : l.lots + lots_reaching l.sell l.price (drop l.i l.queue) ≡ lots_reaching l.sell l.price l.queue;
}
