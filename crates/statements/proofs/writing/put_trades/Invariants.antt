-- The first i trades are written.
use Rattle.std.proofs.Common.{get_or}
use Rattle.rules.specs.Exchange.{no_trade}
use Rattle.rules.specs.Memory.{recorded_trades}
use Rattle.sections.proofs.Rows.{Telling}
use Rattle.statements.specs.Statement.{trade_bytes}
use Rattle.statements.proofs.writing.put_trades.Given as goal

abbrev pub invariant-loop-i : goal.invariant-loop-i
invariant-loop-i l = Telling (λ j. trade_bytes (get_or (recorded_trades l.area l.count) j no_trade)) l.count l.initial.out l.at l.i l.next l.out
