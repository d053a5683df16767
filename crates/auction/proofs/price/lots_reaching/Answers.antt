-- What an order adds is counted in the answer from there on. Assumes nothing.
use Rattle.laws.specs.Numbers.{arith}
use Rattle.rules.specs.Auction.{lots_reaching}
use Rattle.book.proofs.ReadOrders.{counts, none_left}
use Rattle.theory.proofs.AuctionTaken.{reaching_nil}
use Rattle.auction.proofs.Levels.{reaching_on, reaching_within}
use Rattle.auction.proofs.price.lots_reaching.Goals as goal

pub overflow_add-lots : goal.overflow_add-lots
overflow_add-lots c = omega (arith, reaching_within _ _ _ _ c.lots_of-lots.ensures)

pub loop-i-preserved : goal.loop-i-preserved
loop-i-preserved c = record {
  small = omega (arith, reaching_within _ _ _ _ c.lots_of-lots.ensures);
  so_far = counts (lots_reaching _ _) c.args.queue.now c.loop-i.i _ _ c.loop-i.invariant.so_far (omega arith) (lots_reaching _ _) _
      (λ os. rw (← c.order.ensures) (reaching_on _ _ _ _ c.lots_of-lots.ensures os));
}

pub returns : goal.returns
returns c = none_left (lots_reaching _ _) c.args.queue.now c.loop-i.i _ _ c.loop-i.invariant.so_far (omega arith) (reaching_nil _ _)
