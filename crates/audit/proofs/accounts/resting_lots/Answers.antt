use Rattle.std.proofs.Common.{refl, arith}
use Rattle.audit.proofs.RestingSums.{met, summing_all, summing_more, summing_none}
use Rattle.audit.proofs.accounts.resting_lots.Goals as goal

pub loop-i-init : goal.loop-i-init
loop-i-init c = summing_none _

pub overflow_mul-lots : goal.overflow_mul-lots
overflow_mul-lots c = let m = met c.requires.1 (omega arith) c.order-o.ensures in omega (arith, m.place)

pub overflow_add-lots : goal.overflow_add-lots
overflow_add-lots c = let m = met c.requires.1 (omega arith) c.order-o.ensures in omega (arith, m.place)

pub bounds-lots-o : goal.bounds-lots-o
bounds-lots-o c = (met c.requires.1 (omega arith) c.order-o.ensures).place

pub overflow_add-lots-in-loop-i : goal.overflow_add-lots-in-loop-i
overflow_add-lots-in-loop-i c =
    let m = met c.requires.1 (omega arith) c.order-o.ensures in
    omega (arith, c.loop-i.invariant.small _ m.place, m.summable.lots, c.requires.0)

pub bounds-lots-o-in-loop-i : goal.bounds-lots-o-in-loop-i
bounds-lots-o-in-loop-i c = (met c.requires.1 (omega arith) c.order-o.ensures).place

pub loop-i-preserved : goal.loop-i-preserved
loop-i-preserved c =
    let m = met c.requires.1 (omega arith) c.order-o.ensures in
    summing_more c.loop-i.invariant m.there m.it m.summable refl

pub returns : goal.returns
returns c = summing_all c.loop-i.invariant (omega arith)
