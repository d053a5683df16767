use Rattle.theory.proofs.Codecs.{length_queue}
use Rattle.book.proofs.orders.Queue.len.Goals as goal

pub returns : goal.returns
returns c = rw (← c.self.view_is, length_queue)
