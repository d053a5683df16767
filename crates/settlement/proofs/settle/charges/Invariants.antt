-- The charges of the accounts so far.
use Rattle.settlement.proofs.Report.{ChargesSoFar}
use Rattle.settlement.proofs.settle.charges.Given as goal

abbrev pub invariant-loop-a : goal.invariant-loop-a
invariant-loop-a l = ChargesSoFar l.state l.buys l.sells l.a l.charged
