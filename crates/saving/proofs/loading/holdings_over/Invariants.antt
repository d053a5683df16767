-- The places before c are written. Assumes nothing.
use Rattle.std.proofs.Common.{◌+◌, ◌*◌}
use Rattle.laws.specs.Written.{Writing}
use Rattle.sections.specs.Sections.{holding_width}
use Rattle.statefile.specs.StateFile.{saved_holding}
use Rattle.saving.proofs.loading.holdings_over.Given as goal

abbrev pub invariant-loop-c : goal.invariant-loop-c
invariant-loop-c l = Writing (λ i. saved_holding l.file (l.row + holding_width * i)) l.fn.places l.n l.c l.list
