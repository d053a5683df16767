-- What playing a part of a day gives and leaves. Assumes nothing.
use Rattle.std.specs.Prelude.{true, List, ◌≡◌, ℕ, ◌+◌, ◌<◌, ◌≤◌, length}
use Rattle.std.proofs.Math.Seq.{slice}
use Rattle.rules.specs.Condition3.{run}
use Rattle.rules.specs.DayFile.{sound, commands_in, commands_of}
use Rattle.rules.specs.Lines.{run_lines}
use Rattle.rules.specs.Memory.{Memory, exchange_of, WellFormedState}
use Rattle.rules.specs.declared.Command.{Command}
use Rattle.rules.specs.declared.State.{State}
use Rattle.endian.specs.Written.{Written}
use Rattle.runner.specs.Turns.{command_most}
use Rattle.runner.specs.declared.play.Played.{Played}

-- a file's commands from place k up to place n
abbrev pub part : List ℕ → ℕ → ℕ → List Command
part file k n = slice k n (commands_of file)

-- what is asked for: a sound file, one of its places or its end, a well-formed state, room for one command's lines
pub record Playable (file : List ℕ) (k : ℕ) (state : State) (buys sells trades out : List ℕ) : Type 0 where
  pub whole : sound file ≡ true
  pub within : k ≤ commands_in file
  pub formed : WellFormedState state buys sells trades
  pub room : command_most ≤ length out

-- The memory is the rules' run of the commands from k up to `next`, and the buffer has their lines from its start. How many
-- they are the rules leave open: at least one, where there is one.
pub record PlayedIs (file : List ℕ) (k : ℕ) (m : Memory) (before : List ℕ) (p : Played) (m' : Memory) (after : List ℕ) : Type 0 where
  pub onward : k ≤ p.next
  pub further : k < commands_in file → k < p.next
  pub within : p.next ≤ commands_in file
  pub memory : m' ≡ run m (part file k p.next)
  pub lines : Written (length before) before 0 (run_lines (k + 1) (exchange_of m) (part file k p.next)) after p.end
