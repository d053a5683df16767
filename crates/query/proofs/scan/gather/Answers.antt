-- What `scan::gather` leaves: the ways out of the loop, and a turn behind a counterpart. Assumes nothing.
use Rattle.std.proofs.Common.{sym, ◌∙◌, arith}
use Rattle.query.proofs.Gathering.{gather_on, gather_covered, gather_last, gather_end}
use Rattle.query.proofs.scan.gather.Goals as goal

pub returns-then-left-eq0 : goal.returns-then-left-eq0
returns-then-left-eq0 c = gather_covered _ _ _ c.loop-i.invariant c.requires c.if-left-eq0.true

pub returns-then-not-is_counterpart : goal.returns-then-not-is_counterpart
returns-then-not-is_counterpart c =
    gather_last _ _ _ c.loop-i.invariant (omega arith) (omega arith) c.requires
    (rw (← c.order-o.ensures) (sym c.is_counterpart.ensures ∙ c.if-not-is_counterpart.true))

pub loop-i-preserved : goal.loop-i-preserved
loop-i-preserved c =
    rw (c.saturating_sub-left.ensures, c.order-o.ensures) (gather_on _ _ _ c.loop-i.invariant (omega arith) (omega arith)
    (rw (← c.order-o.ensures) (sym c.is_counterpart.ensures ∙ c.if-not-is_counterpart.false)))

pub returns : goal.returns
returns c = gather_end _ _ _ c.loop-i.invariant c.requires (omega arith) (omega arith)
