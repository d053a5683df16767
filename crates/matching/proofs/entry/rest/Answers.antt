-- Nothing rests and the queue is as it was, or the remainder goes in. Assumes nothing.
use Rattle.laws.specs.Numbers.{arith}
use Rattle.matching.proofs.Entries.{none_rests, rest_room, some_rests}
use Rattle.matching.proofs.entry.rest.Goals as goal

pub insert-requires : goal.insert-requires
insert-requires c =
    rest_room c.args.t c.args.price c.args.lots c.args.own.now c.args.c c.args.count c.if-lots-eq0.false c.requires

pub overflow_add-result : goal.overflow_add-result
overflow_add-result c =
    omega (arith, c.well_formed, rest_room c.args.t c.args.price c.args.lots c.args.own.now c.args.c c.args.count c.if-lots-eq0.false c.requires)

pub returns-then-lots-eq0 : goal.returns-then-lots-eq0
returns-then-lots-eq0 c =
    let done = none_rests _ _ _ _ _ _ c.if-lots-eq0.true c.requires in
    record { value = done.0; own_after = done.1 }

pub returns : goal.returns
returns c =
    let done = some_rests _ _ _ _ _ _ c.if-lots-eq0.false c.insert.ensures in
    record { value = done.0; own_after = done.1 }
