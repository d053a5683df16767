-- The accounts before a are printed. Assumes nothing.
use Rattle.std.proofs.Common.{◌*◌}
use Rattle.endian.specs.Written.{Written}
use Rattle.lines.specs.Tables.{account_line_most}
use Rattle.runner.specs.Rows.{rows, account_row}
use Rattle.runner.proofs.printing.put_accounts.Given as goal

abbrev pub invariant-loop-a : goal.invariant-loop-a
invariant-loop-a l =
    Written (account_line_most * l.a) l.fn.out l.at (rows (account_row l.report.closing l.report.holding l.report.charged l.accounts) l.a) l.out l.next
