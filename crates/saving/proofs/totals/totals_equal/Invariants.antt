-- The accounts before the index are added up. Assumes nothing.
use Rattle.saving.proofs.AddedUp.{Adding}
use Rattle.saving.proofs.totals.totals_equal.Given as goal

abbrev pub invariant-loop-a : goal.invariant-loop-a
invariant-loop-a l = Adding l.accounts l.c l.long l.short l.a-index
