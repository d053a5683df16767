-- The place is k and the search from order k on.
use Rattle.laws.specs.Logic.{◌≡◌}
use Rattle.laws.specs.Numbers.{◌+◌, drop}
use Rattle.book.specs.Places.{place_in}
use Rattle.book.proofs.orders.Queue.place.Given as goal

abbrev pub invariant-loop-k : goal.invariant-loop-k
invariant-loop-k l = l.k + place_in l.sell l.price (drop l.k l.self) ≡ place_in l.sell l.price l.self
