-- The contracts below c are sound. Assumes nothing.
use Rattle.std.proofs.Common.{◌≡◌, true}
use Rattle.laws.specs.Choice.{all}
use Rattle.rules.specs.DayFile.{contract_sound}
use Rattle.dayfile.proofs.head.contracts_sound.Given as goal

abbrev pub invariant-loop-c : goal.invariant-loop-c
invariant-loop-c l = all (contract_sound l.file) l.c ≡ true
