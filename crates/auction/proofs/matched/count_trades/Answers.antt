-- A turn fills the buy, the sell or both, and the loop is left where no trade is to come. Assumes nothing.
use Rattle.laws.specs.Logic.{sym, ◌∙◌}
use Rattle.laws.specs.Numbers.{arith}
use Rattle.auction.proofs.Counting.{counting, counted_buys, counted_sells, counted_unmet, count_sell, count_buy, count_both, one_filled}
use Rattle.auction.proofs.matched.count_trades.Goals as goal
use Rattle.auction.proofs.matched.count_trades.Goals.{then-bid-b, else-bid-b}

pub loop-i-init : goal.loop-i-init
loop-i-init c = counting _ _ _

pub loop-i-preserved-then-ask-s : goal.loop-i-preserved-then-ask-s
loop-i-preserved-then-ask-s c =
    let met = sym c.both_reach.ensures ∙ c.if-not-both_reach.false in
    elim c.if-bid-b.branch [
      | then-bid-b w ↦
          rw (w.i-is, w.bid-is) (count_both c.loop-i.invariant (omega arith) (omega arith) c.order-b.ensures c.order-s.ensures met c.min-size.ensures w.if-bid-b.true c.if-ask-s.true)
      | else-bid-b w ↦
          rw (w.i-is, w.bid-is) (count_sell c.loop-i.invariant (omega arith) (omega arith) c.order-b.ensures c.order-s.ensures met c.min-size.ensures w.if-bid-b.false c.if-ask-s.true)
    ]

pub loop-i-preserved : goal.loop-i-preserved
loop-i-preserved c =
    let met = sym c.both_reach.ensures ∙ c.if-not-both_reach.false in
    elim c.if-bid-b.branch [
      | then-bid-b w ↦
          rw (w.i-is, w.bid-is) (count_buy c.loop-i.invariant (omega arith) (omega arith) c.order-b.ensures c.order-s.ensures met c.min-size.ensures w.if-bid-b.true c.if-ask-s.false)
      | else-bid-b w ↦
          absurd (c.if-ask-s.false (one_filled c.loop-i.invariant (omega arith) (omega arith) c.order-b.ensures c.order-s.ensures met c.min-size.ensures w.if-bid-b.false))
    ]

pub returns-else-j-len : goal.returns-else-j-len
returns-else-j-len c = counted_sells c.loop-i.invariant (omega arith)

pub returns-after-loop-i : goal.returns-after-loop-i
returns-after-loop-i c = counted_buys c.loop-i.invariant (omega arith)

pub returns-then-not-both_reach : goal.returns-then-not-both_reach
returns-then-not-both_reach c =
    counted_unmet c.loop-i.invariant (omega arith) (omega arith) c.order-b.ensures c.order-s.ensures (sym c.both_reach.ensures ∙ c.if-not-both_reach.true)
