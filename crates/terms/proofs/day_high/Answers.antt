-- Terms within their ranges leave the sum within its width and have a tick. Assumes nothing.
use Rattle.laws.specs.Numbers.{arith}
use Rattle.theory.proofs.Terms.{terms}
use Rattle.terms.proofs.day_high.Goals as goal

pub overflow_add-c : goal.overflow_add-c
overflow_add-c c = let t = terms c.args.c c.requires in record { fits = omega (arith, t.reference.high, t.band.high) }

pub nonzero_div-c : goal.nonzero_div-c
nonzero_div-c c = omega (arith, (terms c.args.c c.requires).tick_low)
