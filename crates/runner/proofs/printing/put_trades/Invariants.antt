-- The trades before place i are printed. Assumes nothing.
use Rattle.std.proofs.Common.{◌+◌, ◌-◌, ◌*◌, ◌≤◌, max, drop}
use Rattle.endian.specs.Written.{Written}
use Rattle.rules.specs.Lines.{trade_lines}
use Rattle.rules.specs.Memory.{recorded_trades}
use Rattle.lines.specs.Tables.{trade_line_most}
use Rattle.runner.proofs.printing.put_trades.Given as goal

abbrev pub invariant-loop-i : goal.invariant-loop-i
invariant-loop-i l = record {
  within : l.i ≤ max l.first l.count;
  printed : Written (trade_line_most * (l.i - l.first)) l.fn.out l.at (trade_lines (l.first + 1) (drop l.first (recorded_trades l.area l.i))) l.out l.next;
}
