-- What the sweep ends with, if it goes on by the rules, is what the whole sweep ends with. The measure is the number of orders not
-- yet reached.
use Rattle.laws.specs.Numbers.{◌-◌}
use Rattle.matching.proofs.Turns.{Going}
use Rattle.matching.proofs.sweep.sweep.Given as goal

abbrev pub invariant-sweep : goal.invariant-sweep
invariant-sweep l = Going l.t l.lots l.last l.fn.accounts l.initial.opposite l.count l.initial.area l.before l.opposite l.area l.held l.price l.made l.filled l.done

abbrev pub decreases-sweep : goal.decreases-sweep
decreases-sweep l = l.count - l.filled
