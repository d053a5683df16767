-- An order that is met adds its lots, and one that is not ends the sum. Assumes nothing.
use Rattle.laws.specs.Logic.{sym, ◌∙◌}
use Rattle.laws.specs.Numbers.{arith}
use Rattle.book.specs.EarlyStop.{fillable_front}
use Rattle.book.proofs.EarlyStop.{front_end, front_met, front_unmet}
use Rattle.book.proofs.ReadOrders.{none_left, none_counts, counts}
use Rattle.book.proofs.orders.Queue.fillable_front.Goals as goal

pub loop-i-preserved : goal.loop-i-preserved
loop-i-preserved c = record {
  small = omega arith;
  so_far = counts (fillable_front _) c.args.self.now c.loop-i.i _ _ c.loop-i.invariant.so_far (omega arith) (fillable_front _) _
      (λ os. rw (← c.order-o.ensures, c.from-lots.ensures) (front_met _ _ os (sym c.is_counterpart.ensures ∙ c.if-not-is_counterpart.false)));
}

pub returns-after-loop-i : goal.returns-after-loop-i
returns-after-loop-i c = none_left (fillable_front _) c.args.self.now c.loop-i.i _ _ c.loop-i.invariant.so_far (omega arith) (front_end _)

pub returns-then-not-is_counterpart : goal.returns-then-not-is_counterpart
returns-then-not-is_counterpart c =
    none_counts (fillable_front _) c.args.self.now c.loop-i.i _ _ c.loop-i.invariant.so_far (omega arith)
    (λ os. rw (← c.order-o.ensures) (front_unmet _ _ os (sym c.is_counterpart.ensures ∙ c.if-not-is_counterpart.true)))
