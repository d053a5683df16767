-- The charge of the contracts so far.
use Rattle.margin.proofs.Charging.{Charging}
use Rattle.margin.proofs.charged.Given as goal

abbrev pub invariant-loop-c : goal.invariant-loop-c
invariant-loop-c l = Charging l.holdings l.terms l.buys l.buycounts l.sells l.sellcounts l.a l.contracts l.total l.c
