-- The accounts before the index are written. Assumes nothing.
use Rattle.std.proofs.Common.{get_or, length}
use Rattle.rules.specs.Exchange.{no_account}
use Rattle.sections.proofs.Rows.{Telling}
use Rattle.statefile.specs.StateFile.{account_bytes}
use Rattle.saving.proofs.writing.put_account_section.Given as goal

abbrev pub invariant-loop-a : goal.invariant-loop-a
invariant-loop-a l = Telling (λ i. account_bytes (get_or l.list i no_account)) (length l.list) l.initial.out l.initial.next l.a-index l.next l.out
