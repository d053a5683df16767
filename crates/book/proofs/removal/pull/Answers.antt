-- The loop keeps `Pulling`, and clearing the freed places ends it. Assumes nothing.
use Rattle.laws.specs.Logic.{refl, sym, ◌∙◌}
use Rattle.laws.specs.Numbers.{arith}
use Rattle.book.proofs.Pulls.{pull_start, pull_out, pull_past, pull_end}
use Rattle.book.proofs.removal.pull.Goals as goal
use Rattle.book.proofs.removal.pull.Goals.{then-is_pulled, else-is_pulled}

pub loop-i-init : goal.loop-i-init
loop-i-init c = pull_start _ _ _ _

pub loop-i-preserved : goal.loop-i-preserved
loop-i-preserved c =
    elim c.if-is_pulled.branch [
      | then-is_pulled w ↦
          rw (w.area-is, w.kept-is, w.lots-is)
          (pull_out _ _ _ _ c.requires.1 _ _ _ _ c.loop-i.invariant _ c.loop-i-test.true c.order_at-o.ensures
          _ w.from-lots.ensures (omega arith) (sym c.is_pulled.ensures ∙ w.if-is_pulled.true))
      | else-is_pulled w ↦
          rw (w.area-is, w.kept-is, w.lots-is)
          (pull_past _ _ _ _ c.requires.1 _ _ _ _ c.loop-i.invariant _ c.loop-i-test.true c.order_at-o.ensures
          _ _ (sym c.is_pulled.ensures ∙ w.if-is_pulled.false) refl w.put.ensures)
    ]

pub returns : goal.returns
returns c =
    pull_end _ _ _ _ c.requires.1 _ _ _ _ c.loop-i.invariant _ _ _ c.loop-i-test.false refl refl c.clear.ensures
