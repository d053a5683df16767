-- Value and lots are those of the trades so far.
use Rattle.dayprofit.proofs.Trading.{Trading}
use Rattle.dayprofit.proofs.price.traded.Given as goal

abbrev pub invariant-loop-i : goal.invariant-loop-i
invariant-loop-i l = Trading l.day l.contract l.value l.lots l.i
