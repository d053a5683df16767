-- The head, the count, the kept records. Assumes nothing.
use Rattle.std.proofs.Common.{arith}
use Rattle.mending.proofs.Whole.{found, count_room, file_written, first_within, head_fits, kept_limit, kept_room}
use Rattle.mending.proofs.mend.put_file.Goals as goal

pub overflow_sub-first : goal.overflow_sub-first
overflow_sub-first c = omega (arith, (first_within (found (c.args.head.now.sound, c.requires.first_place) c.requires.n_value)).0)

pub put_part-part-requires : goal.put_part-part-requires
put_part-part-requires c =
    let f = found (c.args.head.now.sound, c.requires.first_place) c.requires.n_value in
    let w = first_within f in
    (omega (arith, head_fits f c.requires.file_in_bounds), omega arith)

pub overflow_cast-kept : goal.overflow_cast-kept
overflow_cast-kept c = omega (arith, c.requires.n_value.1, kept_limit c.args.head.now.bytes.now c.args.first c.args.n)

pub put_u32-count-requires : goal.put_u32-count-requires
put_u32-count-requires c = count_room (found (c.args.head.now.sound, c.requires.first_place) c.requires.n_value) c.put_part-part.ensures c.requires.file_in_bounds

pub put_kept-requires : goal.put_kept-requires
put_kept-requires c =
    let r = kept_room (found (c.args.head.now.sound, c.requires.first_place) c.requires.n_value) c.put_part-part.ensures c.requires.file_in_bounds c.put_u32-count.ensures in
    record { n_in_bounds = r.0; n_in_bounds_2 = r.1 }

pub returns : goal.returns
returns c = file_written (found (c.args.head.now.sound, c.requires.first_place) c.requires.n_value) c.put_part-part.ensures c.put_u32-count.ensures c.put_kept.ensures
