-- What is left and what is used are those of the trades so far.
use Rattle.dayprofit.proofs.Passes.{Passing, Taken}
use Rattle.dayprofit.proofs.sums.take_first.Given as goal

abbrev pub invariant-loop-i : goal.invariant-loop-i
invariant-loop-i l = Passing (Taken l.initial.left) l.day l.left l.used l.i
