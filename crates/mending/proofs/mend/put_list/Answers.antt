-- The count, the whole records dropped, the partial one. Assumes nothing.
use Rattle.std.proofs.Common.{arith}
use Rattle.mending.proofs.Whole.{told, entries_room, last_room, list_partial, list_whole, listed_within, number_fits}
use Rattle.mending.proofs.mend.put_list.Goals as goal

pub put_u64-count-requires : goal.put_u64-count-requires
put_u64-count-requires c = omega (arith, number_fits (told c.requires.first_in_bounds) c.requires.first_in_bounds_2)

pub put_dropped-end-requires : goal.put_dropped-end-requires
put_dropped-end-requires c =
    let r = entries_room (told c.requires.first_in_bounds) c.put_u64-count.ensures c.requires.first_in_bounds_2 in
    record { n_in_bounds = r.0; n_in_bounds_2 = r.1 }

pub returns-then-rest-eq0 : goal.returns-then-rest-eq0
returns-then-rest-eq0 c = list_whole (told c.requires.first_in_bounds) c.put_u64-count.ensures c.put_dropped-end.ensures c.if-rest-eq0.true

pub put_entry-requires : goal.put_entry-requires
put_entry-requires c =
    let l = told c.requires.first_in_bounds in
    (last_room l c.put_u64-count.ensures c.put_dropped-end.ensures c.if-rest-eq0.false c.requires.first_in_bounds_2, omega (arith, c.ranges, listed_within l))

pub returns : goal.returns
returns c =
    list_partial (told c.requires.first_in_bounds) c.put_u64-count.ensures c.put_dropped-end.ensures c.if-rest-eq0.false (rw c.number.ensures at c.put_entry.ensures)
