-- The places before c are written. Assumes nothing.
use Rattle.laws.specs.Written.{Writing}
use Rattle.statefile.specs.StateFile.{saved_contract, saved_contract_place}
use Rattle.saving.proofs.loading.contracts_over.Given as goal

abbrev pub invariant-loop-c : goal.invariant-loop-c
invariant-loop-c l = Writing (λ i. saved_contract l.file (saved_contract_place i)) l.fn.places l.n l.c l.list
