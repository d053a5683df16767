-- Assumes nothing.
use Rattle.std.proofs.Common.{arith}
use Rattle.mending.proofs.Records.{count_drops, count_keeps, kept_most, kept_none, told_none, told_some}
use Rattle.mending.proofs.verdict.count_kept.Goals as goal
use Rattle.mending.proofs.verdict.count_kept.Goals.{then-is_none, else-is_none}

pub loop-k-init : goal.loop-k-init
loop-k-init c = kept_none _ _

pub overflow_add-kept : goal.overflow_add-kept
overflow_add-kept c = omega (arith, kept_most c.args.file.now c.args.first c.loop-k.k)

pub loop-k-preserved : goal.loop-k-preserved
loop-k-preserved c = elim c.if-is_none.branch [
  | then-is_none w ↦ rw w.kept-is (count_keeps _ _ _ _ _ c.loop-k.invariant c.reason.ensures (told_none _ w.if-is_none.ensures))
  | else-is_none w ↦ rw w.kept-is (count_drops _ _ _ _ _ c.loop-k.invariant c.reason.ensures (told_some _ w.if-is_none.ensures))
]
