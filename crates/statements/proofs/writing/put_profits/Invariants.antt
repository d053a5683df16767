-- The profit of the clients before k is written.
use lib.IntN.{pos}
use Rattle.std.proofs.Common.{get_or}
use Rattle.sections.proofs.Rows.{Telling}
use Rattle.statements.specs.Statement.{profit_bytes}
use Rattle.statements.proofs.writing.put_profits.Given as goal

abbrev pub invariant-loop-k : goal.invariant-loop-k
invariant-loop-k l = Telling (λ i. profit_bytes (get_or l.closing i (pos 0)) (get_or l.holding i (pos 0))) l.clients l.initial.out l.at l.k l.next l.out
