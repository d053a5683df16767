use Rattle.audit.proofs.RestingSums.{Summing}
use Rattle.audit.proofs.accounts.resting_lots.Given as goal

-- `lots` has the resting lots of the first i orders
abbrev pub invariant-loop-i : goal.invariant-loop-i
invariant-loop-i l = Summing l.queue l.i l.lots
