-- The prices of the contracts so far.
use Rattle.rules.specs.Memory.{memory}
use Rattle.settlement.proofs.Report.{PricesSoFar}
use Rattle.settlement.proofs.settle.prices_due.Given as goal

abbrev pub invariant-loop-c : goal.invariant-loop-c
invariant-loop-c l = PricesSoFar (memory l.state l.buys l.sells l.trades) l.c l.prices
