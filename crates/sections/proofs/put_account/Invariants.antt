-- The holdings before the index are written. Assumes nothing.
use Rattle.std.proofs.Common.{get_or}
use Rattle.rules.specs.Exchange.{no_holding}
use Rattle.sections.specs.Sections.{holding_bytes}
use Rattle.sections.proofs.Rows.{Telling}
use Rattle.sections.proofs.put_account.Given as goal

abbrev pub invariant-loop-h : goal.invariant-loop-h
invariant-loop-h l = Telling (λ i. holding_bytes (get_or l.fn.a.holdings i no_holding)) l.contracts l.fn.out l.at l.h-index l.next l.out
