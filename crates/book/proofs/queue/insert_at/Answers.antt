-- The part from the place on comes back shifted. Assumes nothing.
use Rattle.laws.specs.Logic.{refl}
use Rattle.book.proofs.Queues.{inserted_order}
use Rattle.book.proofs.queue.insert_at.Goals as goal

pub returns : goal.returns
returns c =
    inserted_order c.args.area.now c.args.c c.args.count c.args.i c.args.o _ _ _ c.requires.0 refl refl c.requires.1 c.shift.ensures
