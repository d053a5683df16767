use Rattle.audit.proofs.Remainders.{Marked}
use Rattle.audit.proofs.numbers.is_used_once.Given as goal

-- the values from place `at` on are used once, and their remainders are marked
abbrev pub invariant-loop-at : goal.invariant-loop-at
invariant-loop-at l = Marked l.list l.marks l.at
