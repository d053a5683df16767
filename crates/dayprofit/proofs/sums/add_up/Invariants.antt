-- The sums are those of the trades so far.
use Rattle.dayprofit.proofs.Passes.{Passing, Added}
use Rattle.dayprofit.proofs.sums.add_up.Given as goal

abbrev pub invariant-loop-i : goal.invariant-loop-i
invariant-loop-i l = Passing (Added l.close) l.day l.lots l.value l.i
