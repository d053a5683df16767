-- What is asked holds of the contracts before c. Assumes nothing.
use Rattle.std.proofs.Common.{◌≡◌, true}
use Rattle.laws.specs.Choice.{all}
use Rattle.saving.specs.Parts.{empty_pre_open_at}
use Rattle.saving.proofs.totals.all_empty.Given as goal

abbrev pub invariant-loop-c : goal.invariant-loop-c
invariant-loop-c l = all (empty_pre_open_at l.state) l.c ≡ true
