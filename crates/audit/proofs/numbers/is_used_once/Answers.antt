use Rattle.std.proofs.Common.{◌-◌, sym, ◌∙◌, arith}
use Rattle.audit.proofs.Remainders.{marked_again, marked_all, marked_fresh, marked_new, marked_none}
use Rattle.audit.proofs.numbers.is_used_once.Goals as goal
use Rattle.audit.proofs.numbers.is_used_once.Goals.{else-marks-mark-via-then-marks-mark+else-contains, else-marks-mark-via-else-marks-mark}

pub loop-at-init : goal.loop-at-init
loop-at-init c = marked_none _

pub loop-at-preserved : goal.loop-at-preserved
loop-at-preserved c =
    elim c.else-marks-mark.branch [
      | else-marks-mark-via-then-marks-mark+else-contains w ↦
          marked_fresh c.loop-at.invariant (c.loop-at.at - 1) (omega arith) c.loop-at.auto.at (sym w.contains.ensures.value ∙ w.if-contains.false)
      | else-marks-mark-via-else-marks-mark w ↦ marked_new c.loop-at.invariant (c.loop-at.at - 1) (omega arith) c.loop-at.auto.at w.if-marks-mark.false
    ]

pub returns-then-contains : goal.returns-then-contains
returns-then-contains c =
    marked_again c.loop-at.invariant (c.loop-at.at - 1) (omega arith) c.loop-at.auto.at (sym c.contains.ensures.value ∙ c.if-contains.true)

pub returns : goal.returns
returns c = marked_all c.loop-at.invariant (omega arith)
