-- The queues of the contracts so far are empty.
use Rattle.settlement.proofs.Clearing.{Clearing}
use Rattle.settlement.proofs.reopen.clear_queues.Given as goal

abbrev pub invariant-loop-c : goal.invariant-loop-c
invariant-loop-c l = Clearing l.initial.area l.counts l.contracts l.c l.area
