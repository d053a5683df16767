-- The order is found and taken out, or there is none and all stay. Assumes nothing.
use Rattle.std.proofs.Common.{arith}
use Rattle.bench_book.proofs.Cancels.{place_within, taken_out, one_fewer, as_many, unchanged}
use Rattle.bench_book.proofs.bench_cancel.Goals as goal

pub returns-in_default-clause-value : goal.returns-in_default-clause-value
returns-in_default-clause-value c = as_many _ _ _ _ (rw c.new.ensures at c.in_default.ensures)

pub returns-in_default-clause-area_after : goal.returns-in_default-clause-area_after
returns-in_default-clause-area_after c = unchanged _ _ _ _ (rw c.new.ensures at c.in_default.ensures) c.requires

pub remove-requires : goal.remove-requires
remove-requires c =
    let f = rw c.new.ensures at c.in-Some.ensures in
    (place_within _ _ _ _ f.0 f.1, c.requires)

pub overflow_sub-result : goal.overflow_sub-result
overflow_sub-result c =
    let f = rw c.new.ensures at c.in-Some.ensures in
    omega (arith, place_within _ _ _ _ f.0 f.1)

pub returns-clause-value : goal.returns-clause-value
returns-clause-value c =
    let f = rw c.new.ensures at c.in-Some.ensures in
    one_fewer _ _ _ _ f.0 f.1

pub returns-clause-area_after : goal.returns-clause-area_after
returns-clause-area_after c =
    let f = rw c.new.ensures at c.in-Some.ensures in
    taken_out _ _ _ _ f.0 f.1 c.remove.ensures
