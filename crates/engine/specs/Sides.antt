-- One side of a contract, as it lies. Assumes nothing.
use Rattle.std.specs.Prelude.{Bool, List, ℕ, get_or}
use Rattle.laws.specs.Choice.{pick}
use Rattle.rules.specs.declared.State.{State}

abbrev pub side_area : Bool → List ℕ → List ℕ → List ℕ
side_area sell buys sells = pick sell sells buys

abbrev pub side_count : Bool → State → ℕ → ℕ
side_count sell s c = get_or (pick sell s.sellcounts s.buycounts) c 0
