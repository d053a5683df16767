use Rattle.std.proofs.Common.{true, false, ◌<◌, ◌∙◌, arith, rules, tests}
use Rattle.std.proofs.lemmas.Iterator.{serves_from_Range}
use Rattle.laws.specs.Choice.{all_ext}
use Rattle.rules.specs.Exchange.{account_at, holding_at}
use Rattle.rules.specs.Memory.{listing_in}
use Rattle.theory.proofs.Codecs.{length_queue}
use Rattle.invariants.proofs.MemoryRoom.{counts_ok}
use Rattle.audit.specs.Lent.{listing_of}
use Rattle.audit.proofs.Iterated.{count_tested}
use Rattle.audit.proofs.RestingSums.{held_same, orders_summable}
use Rattle.audit.proofs.Rooms.{contract_in, few_buys, few_sells}
use Rattle.audit.proofs.accounts.held_in_range.Goals as goal

pub resting_lots-bought-requires : goal.resting_lots-bought-requires
unfolding listing_in
resting_lots-bought-requires c =
    rw c.bids.ensures (
      rw length_queue (few_buys c.args.queues.now.ready c.requires.0),
      orders_summable _ _ _ (listing_of c.args.queues.now c.args.c) (counts_ok _ c.args.queues.now.ready.counts).accounts_high c.requires.1 false,
    )

pub resting_lots-sold-requires : goal.resting_lots-sold-requires
unfolding listing_in
resting_lots-sold-requires c =
    rw c.offers.ensures (
      rw length_queue (few_sells c.args.queues.now.ready c.requires.0),
      orders_summable _ _ _ (listing_of c.args.queues.now c.args.c) (counts_ok _ c.args.queues.now.ready.counts).accounts_high c.requires.1 true,
    )

pub all-requires-clause-callable : goal.all-requires-clause-callable
all-requires-clause-callable c =
    let place : c.args.c < 4 = contract_in c.args.queues.now.ready c.requires.0 in
    serves_from_Range (λ x q k. search rules)
    (λ a low high. let few : a < 32 = omega (arith, (counts_ok _ c.args.queues.now.ready.counts).accounts_high) in search rules)

pub returns : goal.returns
unfolding listing_in holding_at account_at
returns c =
    count_tested _ _ c.all.ensures.ran (λ x b q k. search (rules, tests))
    ∙ all_ext _ _ _ (λ a h. held_same (listing_of c.args.queues.now c.args.c) _ _ (rw c.bids.ensures at c.resting_lots-bought.ensures)
    (rw c.offers.ensures at c.resting_lots-sold.ensures) (omega (arith, (counts_ok _ c.args.queues.now.ready.counts).accounts_high)))
