use Rattle.std.proofs.Common.{false, true, arith}
use Rattle.std.proofs.lemmas.Grind.{common_steps}
use Rattle.rules.specs.Memory.{listing_in}
use Rattle.rules.specs.WellFormed.{listing_quoted}
use Rattle.invariants.proofs.MemoryRoom.{counts_ok}
use Rattle.audit.specs.Lent.{listing_of}
use Rattle.audit.proofs.MarkedOrders.{orders_markable}
use Rattle.audit.proofs.quotes.listing_quoted.Goals as goal

pub queue_quoted-requires : goal.queue_quoted-requires
unfolding listing_in
queue_quoted-requires c = (
  (counts_ok _ c.args.queues.now.ready.counts).accounts_high,
  rw c.bids.ensures (orders_markable _ _ _ (listing_of c.args.queues.now c.args.c) c.requires.1 false),
)

pub queue_quoted-requires-then-queue_quoted : goal.queue_quoted-requires-then-queue_quoted
unfolding listing_in
queue_quoted-requires-then-queue_quoted c = (
  (counts_ok _ c.args.queues.now.ready.counts).accounts_high,
  rw c.offers.ensures (orders_markable _ _ _ (listing_of c.args.queues.now c.args.c) c.requires.1 true),
)

pub returns-then-queue_quoted : goal.returns-then-queue_quoted
unfolding listing_in listing_quoted
returns-then-queue_quoted c = grind (arith, common_steps)

pub returns-else-queue_quoted : goal.returns-else-queue_quoted
unfolding listing_in listing_quoted
returns-else-queue_quoted c = grind (arith, common_steps)
