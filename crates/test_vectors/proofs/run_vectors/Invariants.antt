-- No more vectors differ than were run. Assumes nothing.
use Rattle.std.proofs.Common.{◌≤◌}
use Rattle.test_vectors.proofs.run_vectors.Given as goal

abbrev pub invariant-loop-k : goal.invariant-loop-k
invariant-loop-k l = l.different ≤ l.k
