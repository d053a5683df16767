-- The place found is this one and the search from here on.
use Rattle.laws.specs.Logic.{◌≡◌}
use Rattle.laws.specs.Numbers.{◌+◌, drop}
use Rattle.book.specs.Places.{index_of}
use Rattle.book.proofs.orders.Queue.find.Given as goal

abbrev pub invariant-loop-place : goal.invariant-loop-place
invariant-loop-place l = l.place + index_of l.number (drop l.place l.self) ≡ index_of l.number l.self
