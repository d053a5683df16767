-- What the trades from i on make of the holdings decides the answer.
use Rattle.replaying.proofs.Turns.{Going}
use Rattle.replaying.proofs.replay.Given as goal

abbrev pub invariant-loop-i : goal.invariant-loop-i
invariant-loop-i l = Going l.initial.held l.contracts l.accountcount l.area l.count l.held l.i
