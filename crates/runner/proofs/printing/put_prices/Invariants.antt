-- The contracts before c are printed. Assumes nothing.
use Rattle.std.proofs.Common.{◌*◌}
use Rattle.endian.specs.Written.{Written}
use Rattle.lines.specs.Tables.{price_line_most}
use Rattle.runner.specs.Rows.{rows, price_row}
use Rattle.runner.proofs.printing.put_prices.Given as goal

abbrev pub invariant-loop-c : goal.invariant-loop-c
invariant-loop-c l = Written (price_line_most * l.c) l.fn.out l.at (rows (price_row l.prices) l.c) l.out l.next
