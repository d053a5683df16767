-- The order is written over the gap that moving back leaves. Assumes nothing.
use Rattle.laws.specs.Logic.{◌∙◌}
use Rattle.book.proofs.Queues.{shift_in}
use Rattle.book.proofs.queue.shift.Goals as goal

pub returns : goal.returns
returns c = c.put.ensures ∙ shift_in c.args.part.now _ c.args.o c.requires c.move_back.ensures
