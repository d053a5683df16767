-- The two words written are the order's lots and its mark. Assumes nothing.
use Rattle.book.proofs.Queues.{unmarked_lots}
use Rattle.book.proofs.queue.set_lots_unmarked.Goals as goal

pub returns : goal.returns
returns c = unmarked_lots _ _ _ _ _ c.requires.0 c.requires.1
