-- A list of commands with an area for their answers: as many are carried out as there are places for answers. Assumes nothing.
use Rattle.std.specs.Prelude.{List, ◌≡◌, ℕ, ◌/◌, min, length}
use Rattle.areas.specs.Records.{store}
use Rattle.rules.specs.Condition3.{MoneyKept, run}
use Rattle.rules.specs.DayFile.{command_width}
use Rattle.rules.specs.Memory.{Memory}
use Rattle.rules.specs.declared.Command.{Command}
use Rattle.exchange.specs.Run.{first_commands}
use Rattle.baskets.specs.Bundle.{answer_stride, answers_to, answer_words}
use Rattle.baskets.specs.declared.list.Ran.{Ran}

-- the whole records of a list of bytes, or the places of an area where these are fewer
unfoldable pub played_of : List ℕ → List ℕ → ℕ
played_of bytes area = min (length bytes / command_width) (length area / answer_stride)

abbrev pub played_commands : List ℕ → List ℕ → List Command
played_commands bytes area = first_commands bytes (played_of bytes area)

-- How many; the state and its areas, and the answers, which are those of the commands given singly, in order; the rest of the answer
-- area stays. And condition 3 holds of the commands carried out.
pub record AnsweredIs (m : Memory) (bytes area : List ℕ) (r : Ran) (m' : Memory) (answers : List ℕ) : Type 0 where
  pub played : r.played ≡ played_of bytes area
  pub memory : m' ≡ run m (played_commands bytes area)
  pub answers_are : answers ≡ store answer_words area 0 (answers_to m (played_commands bytes area))
  pub money : MoneyKept m (played_commands bytes area) m'
