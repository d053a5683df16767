-- A turn looks at one price more. Assumes nothing.
use Rattle.laws.specs.Logic.{refl}
use Rattle.laws.specs.Numbers.{arith}
use Rattle.auction.proofs.Levels.{search_on, search_end}
use Rattle.auction.proofs.price.best_among.Goals as goal

pub loop-i-init : goal.loop-i-init
loop-i-init c = record { is = c.requires.1; so_far = refl }

pub loop-i-preserved : goal.loop-i-preserved
loop-i-preserved c = search_on c.loop-i.invariant (omega arith) (rw (← c.order.ensures) c.level_at-level.ensures) c.better_of-chosen.ensures

pub returns : goal.returns
returns c = search_end c.loop-i.invariant (omega arith)
