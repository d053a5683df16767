-- Assumes nothing.
use Rattle.std.proofs.Common.{arith}
use Rattle.mending.proofs.Records.{count_drops, count_keeps, file_drops, file_keeps, file_room, kept_most, kept_none, none_kept, told_none, told_some}
use Rattle.mending.proofs.verdict.put_kept.Goals as goal
use Rattle.mending.proofs.verdict.put_kept.Goals.{then-is_none, else-is_none}

pub loop-k-init : goal.loop-k-init
loop-k-init c = record { counted = kept_none _ _; written = none_kept _ _ (omega arith) }

pub put_part-next-requires : goal.put_part-next-requires
put_part-next-requires c =
    let i = c.loop-k.invariant in
    let z = told_none _ c.if-is_none.ensures in
    (file_room _ _ _ _ _ i.counted c.reason.ensures z _ c.loop-k-test.true c.requires.n_in_bounds c.requires.n_in_bounds_2 i.written, omega (arith, c.requires.n_in_bounds))

pub overflow_add-kept : goal.overflow_add-kept
overflow_add-kept c = omega (arith, kept_most c.args.file.now c.args.first c.loop-k.k)

pub loop-k-preserved : goal.loop-k-preserved
loop-k-preserved c = let i = c.loop-k.invariant in elim c.if-is_none.branch [
  | then-is_none w ↦
      let z = told_none _ w.if-is_none.ensures in
      record {
        counted = rw w.kept-is (count_keeps _ _ _ _ _ i.counted c.reason.ensures z);
        written = rw (w.out-is, w.next-is) (file_keeps _ _ _ _ _ i.counted c.reason.ensures z i.written w.put_part-next.ensures);
      }
  | else-is_none w ↦
      let z = told_some _ w.if-is_none.ensures in
      record {
        counted = rw w.kept-is (count_drops _ _ _ _ _ i.counted c.reason.ensures z);
        written = rw (w.out-is, w.next-is) (file_drops _ _ _ _ _ i.counted c.reason.ensures z i.written);
      }
]
