-- What an order adds is counted in the answer from there on; an order of another account or mark adds nothing. Assumes nothing.
use Rattle.laws.specs.Logic.{sym, ◌∙◌}
use Rattle.laws.specs.Numbers.{arith}
use Rattle.rules.specs.Exchange.{resting}
use Rattle.book.proofs.ReadOrders.{none_left, counts}
use Rattle.book.proofs.Scans.{other_account, other_mark, own_lots, resting_nil, resting_on}
use Rattle.book.proofs.orders.Queue.resting.Goals as goal
use Rattle.book.proofs.orders.Queue.resting.Goals.{then-word-account+then-o-close, then-word-account+else-o-close, else-word-account}

pub loop-i-preserved : goal.loop-i-preserved
loop-i-preserved c =
    let on = counts (resting _ _) c.args.self.now c.loop-i.i _ _ c.loop-i.invariant.so_far (omega arith) (resting _ _) in
    elim c.if-word-account.branch [
      | then-word-account+then-o-close w ↦
          rw w.lots-is (record {
            small = omega (arith, w.order-o.type_inv);
            so_far = on _ (resting_on _ _ _ _ (own_lots _ _ _ _ (rw (← w.order-o.ensures) w.from-lots.ensures)
                (sym c.word.ensures ∙ w.if-word-account.true) (rw (← w.order-o.ensures) w.if-o-close.true)));
          })
      | then-word-account+else-o-close w ↦
          let so = on 0 (resting_on _ _ _ _ (other_mark _ _ _ (rw (← w.order-o.ensures) w.if-o-close.false))) in
          rw w.lots-is (record { small = omega arith; so_far = omega (arith, so) })
      | else-word-account w ↦
          let so = on 0 (resting_on _ _ _ _ (other_account _ _ _ (λ e. w.if-word-account.false (c.word.ensures ∙ e)))) in
          rw w.lots-is (record { small = omega arith; so_far = omega (arith, so) })
    ]

pub returns : goal.returns
returns c = none_left (resting _ _) c.args.self.now c.loop-i.i _ _ c.loop-i.invariant.so_far (omega arith) (resting_nil _ _)
