-- Assumes nothing.
use Rattle.std.proofs.Common.{refl, arith}
use Rattle.mending.proofs.Records.{count_drops, count_keeps, kept_most, kept_none, list_drops, list_keeps, list_room, none_dropped, some_number}
use Rattle.mending.proofs.verdict.put_dropped.Goals as goal
use Rattle.mending.proofs.verdict.put_dropped.Goals.{in-None, in-Some}

pub loop-k-init : goal.loop-k-init
loop-k-init c = record { counted = kept_none _ _; written = none_dropped _ _ (omega arith) }

pub overflow_add-kept : goal.overflow_add-kept
overflow_add-kept c = omega (arith, kept_most c.args.file.now c.args.first c.loop-k.k)

pub put_entry-next-requires : goal.put_entry-next-requires
put_entry-next-requires c =
    let i = c.loop-k.invariant in
    (list_room _ _ _ _ _ i.counted c.in-Some.ensures (some_number c.in-Some.why) _ c.loop-k-test.true c.requires.n_in_bounds_2 i.written, omega (arith, c.ranges))

pub loop-k-preserved : goal.loop-k-preserved
loop-k-preserved c = let i = c.loop-k.invariant in elim c.match-reason.branch [
  | in-None w ↦ record {
    counted = rw w.kept-is (count_keeps _ _ _ _ _ i.counted w.in-None.ensures refl);
    written = rw (w.list-is, w.next-is) (list_keeps _ _ _ _ _ i.counted w.in-None.ensures refl i.written);
  }
  | in-Some w ↦
      let some = some_number w.in-Some.why in
      record {
        counted = rw w.kept-is (count_drops _ _ _ _ _ i.counted w.in-Some.ensures some);
        written = rw (w.list-is, w.next-is) (list_drops _ _ _ _ _ i.counted w.in-Some.ensures some i.written (rw w.number.ensures at w.put_entry-next.ensures));
      }
]
