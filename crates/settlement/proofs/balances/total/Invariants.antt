-- The sums so far are those of the contracts below c.
use Rattle.settlement.proofs.Totals.{Totalling}
use Rattle.settlement.proofs.balances.total.Given as goal

abbrev pub invariant-loop-c : goal.invariant-loop-c
invariant-loop-c l = Totalling l.holder l.priced l.closed l.closes l.opened l.opens l.used l.a l.closing l.holding l.c
