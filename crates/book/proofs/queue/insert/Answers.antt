-- The order is put in at its place. Assumes nothing.
use Rattle.book.proofs.Queues.{found_within, rested_order}
use Rattle.book.proofs.queue.insert.Goals as goal

pub insert_at-requires : goal.insert_at-requires
insert_at-requires c = (found_within _ _ _ _ _ (rw c.new.ensures at c.place-i.ensures), c.requires)

pub returns : goal.returns
returns c =
    rested_order c.args.area.now c.args.c c.args.count c.args.sell _ c.args.o (rw c.new.ensures at c.place-i.ensures) c.insert_at.ensures
