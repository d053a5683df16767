-- The contracts before the index are written. Assumes nothing.
use Rattle.std.proofs.Common.{get_or, length}
use Rattle.rules.specs.Exchange.{no_contract}
use Rattle.sections.proofs.Rows.{Telling}
use Rattle.statefile.specs.StateFile.{contract_bytes}
use Rattle.saving.proofs.writing.put_contract_section.Given as goal

abbrev pub invariant-loop-c : goal.invariant-loop-c
invariant-loop-c l = Telling (λ i. contract_bytes (get_or l.list i no_contract)) (length l.list) l.initial.out l.initial.next l.c-index l.next l.out
