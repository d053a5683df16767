-- The queue comes back closed up. Assumes nothing.
use Rattle.laws.specs.Logic.{refl, sym, ap, ◌∙◌}
use Rattle.rules.specs.Memory.{put_queue}
use Rattle.theory.proofs.Codecs.{put_queue_lem}
use Rattle.book.proofs.Queues.{dropped_orders, removed_front}
use Rattle.book.proofs.queue.drop_front.Goals as goal

-- no order
pub returns-then-k-eq0 : goal.returns-then-k-eq0
returns-then-k-eq0 c = rw c.if-k-eq0.true (sym (put_queue_lem c.args.area.now c.args.c c.args.count c.requires.1))

-- one order
pub returns-then-k-eq1 : goal.returns-then-k-eq1
returns-then-k-eq1 c =
    let one = c.if-k-eq1.true in
    c.remove.ensures ∙ rw one (ap (put_queue _ _ _) (removed_front _))

pub returns : goal.returns
returns c =
    dropped_orders c.args.area.now c.args.c c.args.count c.args.k _ _ c.requires.0 refl c.requires.1 c.close_up.ensures
