-- What is due stands at the places of the accounts and contracts so far.
use Rattle.std.proofs.Common.{◌+◌, ◌*◌}
use Rattle.settlement.proofs.Dues.{Dues}
use Rattle.settlement.proofs.balances.put_all_due.Given as goal

abbrev pub invariant-loop-a : goal.invariant-loop-a
invariant-loop-a l = Dues l.state l.closed l.left (4 * l.a)

abbrev pub invariant-loop-c : goal.invariant-loop-c
invariant-loop-c l = Dues l.state l.closed l.left (4 * l.a + l.c)
