-- What the match ends with, if it goes on by the rules, is what the whole match ends with. Every turn fills an order, so what is left
-- of both queues is the measure.
use Rattle.laws.specs.Numbers.{◌+◌, ◌-◌}
use Rattle.auction.proofs.Turns.{Going}
use Rattle.auction.proofs.matched.match_at.Given as goal

abbrev pub invariant-turns : goal.invariant-turns
invariant-turns l =
    Going l.contract l.price l.last l.fn.accounts l.initial.buys l.bought l.initial.sells l.sold l.initial.area l.before l.buys l.sells l.area l.held l.latest l.made l.i l.j l.done

abbrev pub decreases-turns : goal.decreases-turns
decreases-turns l = l.bought - l.i + (l.sold - l.j)
