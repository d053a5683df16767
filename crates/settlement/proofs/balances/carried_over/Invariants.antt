-- The holdings of the contracts so far are carried over.
use Rattle.settlement.proofs.Carrying.{Carrying}
use Rattle.settlement.proofs.balances.carried_over.Given as goal

abbrev pub invariant-loop-c : goal.invariant-loop-c
invariant-loop-c l = Carrying l.account l.contracts l.c l.next
