-- The places before a are written. Assumes nothing.
use Rattle.std.proofs.Common.{get_or}
use Rattle.laws.specs.Written.{Writing}
use Rattle.rules.specs.Exchange.{no_account}
use Rattle.rules.specs.Memory.{put_account}
use Rattle.statefile.specs.StateFile.{loaded_account}
use Rattle.saving.proofs.loading.accounts_over.Given as goal

abbrev pub invariant-loop-a : goal.invariant-loop-a
invariant-loop-a l = Writing (λ i. put_account (loaded_account l.file.bytes.now i) (get_or l.places i no_account)) l.places l.file.accounts l.a l.list
