-- The two tests, then the tables. Assumes nothing.
use Rattle.std.proofs.Common.{ap, arith}
use Rattle.std.specs.Prelude.{not}
use Rattle.laws.specs.Tests.{passed, refused}
use Rattle.endian.proofs.Writes.{looser, no_byte}
use Rattle.runner.specs.Turns.{settlement_most}
use Rattle.runner.proofs.Responded.{report_none, report_refused, report_made}
use Rattle.runner.proofs.turn.put_report.Goals as goal

pub returns-then-not-is_settle : goal.returns-then-not-is_settle
returns-then-not-is_settle c =
    rw (report_none _ _ (refused c.is_settle.ensures (ap not c.if-not-is_settle.true)))
    (looser (no_byte _ _ (omega arith)) settlement_most (omega arith))

pub returns-then-answer-ne0 : goal.returns-then-answer-ne0
returns-then-answer-ne0 c =
    rw (report_refused _ c.args.response (passed c.is_settle.ensures (ap not c.if-not-is_settle.false)) c.if-answer-ne0.true)
    (looser (no_byte _ _ (omega arith)) settlement_most (omega arith))

pub returns : goal.returns
returns c =
    rw (report_made _ c.args.response (passed c.is_settle.ensures (ap not c.if-not-is_settle.false)) c.if-answer-ne0.false)
    c.put_settlement.ensures
