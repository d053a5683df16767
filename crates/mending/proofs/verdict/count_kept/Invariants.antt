-- The kept ones of the first k records are counted. Assumes nothing.
use Rattle.std.proofs.Common.{◌≡◌}
use Rattle.mending.specs.Mend.{kept}
use Rattle.mending.proofs.verdict.count_kept.Given as goal

abbrev pub invariant-loop-k : goal.invariant-loop-k
invariant-loop-k l = l.kept ≡ kept l.file l.first l.k
