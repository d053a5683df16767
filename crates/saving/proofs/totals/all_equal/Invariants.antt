-- What is asked holds of the contracts before c. Assumes nothing.
use Rattle.std.proofs.Common.{◌≡◌, true, take}
use Rattle.laws.specs.Choice.{all}
use Rattle.statefile.specs.StateFile.{totals_equal}
use Rattle.saving.proofs.totals.all_equal.Given as goal

abbrev pub invariant-loop-c : goal.invariant-loop-c
invariant-loop-c l = all (totals_equal (take l.accounts l.list)) l.c ≡ true
