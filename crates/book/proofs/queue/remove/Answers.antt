-- The part from the place on comes back closed up. Assumes nothing.
use Rattle.laws.specs.Logic.{refl}
use Rattle.book.proofs.Queues.{removed_order}
use Rattle.book.proofs.queue.remove.Goals as goal

pub returns : goal.returns
returns c =
    removed_order c.args.area.now c.args.c c.args.count c.args.i _ _ _ c.requires.0 refl refl c.requires.1 c.close_up.ensures
