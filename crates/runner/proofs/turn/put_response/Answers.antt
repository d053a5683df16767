-- Its parts in turn. Assumes nothing.
use Rattle.std.proofs.Common.{arith}
use Rattle.endian.proofs.Writes.{looser, then}
use Rattle.runner.specs.Rows.{response_rows}
use Rattle.runner.specs.Turns.{command_most}
use Rattle.runner.proofs.turn.put_response.Goals as goal

pub returns : goal.returns
unfolding response_rows
returns c =
    looser (then c.put_answer-answered.ensures (then c.put_trades-traded.ensures c.put_report.ensures))
    command_most (omega (arith, c.requires.0.count))
