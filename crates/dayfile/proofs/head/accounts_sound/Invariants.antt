-- The accounts below a are sound. Assumes nothing.
use Rattle.std.proofs.Common.{◌≡◌, true}
use Rattle.laws.specs.Choice.{all}
use Rattle.rules.specs.DayFile.{account_sound}
use Rattle.dayfile.proofs.head.accounts_sound.Given as goal

abbrev pub invariant-loop-a : goal.invariant-loop-a
invariant-loop-a l = all (account_sound l.file) l.a ≡ true
