-- What a run of a list of commands leaves, and condition 3 of it. Assumes nothing.
use Rattle.std.specs.Prelude.{List, ◌≡◌, ℕ, ◌*◌, ◌/◌, length}
use Rattle.laws.specs.Tabulate.{tabulate}
use Rattle.rules.specs.Condition3.{MoneyKept, run}
use Rattle.rules.specs.DayFile.{command_from, command_width}
use Rattle.rules.specs.Memory.{Memory}
use Rattle.rules.specs.declared.Command.{Command}

-- the commands of the first k records of a list of bytes, and of all whole ones
unfoldable pub first_commands : List ℕ → ℕ → List Command
first_commands bytes k = tabulate k (λ i. command_from bytes (command_width * i))

abbrev pub whole_commands : List ℕ → List Command
whole_commands bytes = first_commands bytes (length bytes / command_width)

-- the state and all areas are those of the rules' run, and condition 3 holds of them
pub record RanIs (m : Memory) (cs : List Command) (m' : Memory) : Type 0 where
  pub memory : m' ≡ run m cs
  pub money : MoneyKept m cs m'
