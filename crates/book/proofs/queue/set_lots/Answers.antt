-- The one word written is the order's lots. Assumes nothing.
use Rattle.book.proofs.Queues.{changed_lots}
use Rattle.book.proofs.queue.set_lots.Goals as goal

pub returns : goal.returns
returns c = changed_lots _ _ _ _ _ c.requires.0 c.requires.1
