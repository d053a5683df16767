-- An order that is met counts one trade of the lots left, and one that is not ends the count. Assumes nothing.
use Rattle.laws.specs.Logic.{sym, ◌∙◌}
use Rattle.laws.specs.Numbers.{arith}
use Rattle.book.specs.EarlyStop.{count_trades}
use Rattle.book.proofs.EarlyStop.{count_end, count_used, count_unmet}
use Rattle.book.proofs.Scans.{trades_on}
use Rattle.book.proofs.ReadOrders.{none_left, none_counts, counts}
use Rattle.book.proofs.orders.Queue.count_trades.Goals as goal

pub returns-then-left-eq0 : goal.returns-then-left-eq0
returns-then-left-eq0 c =
    none_counts (count_trades _ _) c.args.self.now c.loop-i.i _ _ c.loop-i.invariant (omega arith) (λ os. rw c.if-left-eq0.true (count_used _ _))

pub returns-then-not-is_counterpart : goal.returns-then-not-is_counterpart
returns-then-not-is_counterpart c =
    none_counts (count_trades _ _) c.args.self.now c.loop-i.i _ _ c.loop-i.invariant (omega arith)
    (λ os. rw (← c.order-o.ensures) (count_unmet _ _ _ os (sym c.is_counterpart.ensures ∙ c.if-not-is_counterpart.true)))

pub loop-i-preserved : goal.loop-i-preserved
loop-i-preserved c =
    counts (count_trades _ _) c.args.self.now c.loop-i.i _ _ c.loop-i.invariant (omega arith) (count_trades _ _) 1
    (λ os. rw (← c.order-o.ensures) (trades_on _ _ _ _ c.if-left-eq0.false c.min-left.ensures (sym c.is_counterpart.ensures ∙ c.if-not-is_counterpart.false) os))

pub returns : goal.returns
returns c = omega (arith, none_left (count_trades _ _) c.args.self.now c.loop-i.i _ _ c.loop-i.invariant (omega arith) (count_end _ _))
