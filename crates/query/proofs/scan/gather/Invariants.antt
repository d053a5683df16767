-- The loop of `scan::gather`: at order i, with `left` lots uncovered, what was gathered and read so far makes up the answer with what
-- comes from there on. Assumes nothing.
use Rattle.query.proofs.Gathering.{Gathering}
use Rattle.query.proofs.scan.gather.Given as goal

abbrev pub invariant-loop-i : goal.invariant-loop-i
invariant-loop-i l = Gathering l.t l.lots l.queue l.left l.i
