-- Code 20 by the head, 29 by the lengths, all else by the two writes. Assumes nothing.
use Rattle.std.proofs.Common.{refl, ⊎_elim, arith}
use Rattle.mending.proofs.Whole.{found, of_head, list_fits, list_short, listed, mended, mended_fits, mended_most, out_short, place_within, whole_within}
use Rattle.mending.proofs.mend.mend.Goals as goal

pub overflow_sub-n : goal.overflow_sub-n
overflow_sub-n c = let h = of_head c.in-Some.ensures c.in-Some.head.sound c.head_end-first.ensures in omega (arith, h.1, place_within _ h.0)

pub count_kept-kept-requires : goal.count_kept-kept-requires
count_kept-kept-requires c =
    whole_within _ _ (let h = of_head c.in-Some.ensures c.in-Some.head.sound c.head_end-first.ensures in omega (arith, h.1, place_within _ h.0))

pub count_dropped-dropped-requires : goal.count_dropped-dropped-requires
count_dropped-dropped-requires c =
    (let h = of_head c.in-Some.ensures c.in-Some.head.sound c.head_end-first.ensures in omega (arith, h.1, place_within _ h.0), refl, c.count_kept-kept.ensures)

pub overflow_mul-length : goal.overflow_mul-length
overflow_mul-length c =
    let f = found (of_head c.in-Some.ensures c.in-Some.head.sound c.head_end-first.ensures) (refl, c.count_kept-kept.ensures) in
    omega (arith, mended_most f)

pub overflow_add-length : goal.overflow_add-length
overflow_add-length c =
    let f = found (of_head c.in-Some.ensures c.in-Some.head.sound c.head_end-first.ensures) (refl, c.count_kept-kept.ensures) in
    omega (arith, mended_most f)

pub returns-then-out-length : goal.returns-then-out-length
returns-then-out-length c =
    let f = found (of_head c.in-Some.ensures c.in-Some.head.sound c.head_end-first.ensures) (refl, c.count_kept-kept.ensures) in
    let k = c.count_dropped-dropped.ensures in
    rw c.refused-then-out-length.ensures
    (⊎_elim (out_short f k _ _) (λ w. list_short f k _ _ (omega arith) w.1) c.then-out-length.either)

pub put_file-requires : goal.put_file-requires
put_file-requires c =
    let f = found (of_head c.in-Some.ensures c.in-Some.head.sound c.head_end-first.ensures) (refl, c.count_kept-kept.ensures) in
    record { first_place = c.head_end-first.ensures; n_value = rw c.in-Some.ensures (refl, f.keeps); file_in_bounds = rw c.in-Some.ensures (mended_fits f (omega arith)) }

pub put_list-requires : goal.put_list-requires
put_list-requires c =
    let f = found (of_head c.in-Some.ensures c.in-Some.head.sound c.head_end-first.ensures) (refl, c.count_kept-kept.ensures) in
    let l = listed f c.count_dropped-dropped.ensures in
    record { first_in_bounds = (l.within, refl, l.drops); first_in_bounds_2 = list_fits l (omega arith) }

pub returns : goal.returns
returns c =
    let f = found (of_head c.in-Some.ensures c.in-Some.head.sound c.head_end-first.ensures) (refl, c.count_kept-kept.ensures) in
    mended f c.count_dropped-dropped.ensures _ _ (omega arith) (omega arith) (rw c.in-Some.ensures at c.put_file.ensures) c.put_list.ensures
