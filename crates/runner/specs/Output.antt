-- A day file's output part by part: what is still to be printed, what a part prints and leaves, and that the parts together are the
-- whole. Assumes nothing.
use Rattle.std.specs.Prelude.{Bool, true, false, not, ◌&&◌, List, [], ◌∷◌, ◌++◌, ◌≡◌, ℕ, ◌+◌, ◌<◌, ◌≤◌, eqb, ltb, length, take, drop}
use Rattle.laws.specs.Choice.{pick}
use Rattle.areas.specs.Lists.{over}
use Rattle.rules.specs.Answers.{Refusal, ◌when◌, first_of}
use Rattle.rules.specs.Condition3.{MoneyKept, run}
use Rattle.rules.specs.DayFile.{sound, commands_in, commands_of}
use Rattle.rules.specs.Lines.{broken_line, newline, output, run_lines}
use Rattle.rules.specs.Memory.{Memory, exchange_of, well_formed_memory, queues_words, trades_words}
use Rattle.rules.specs.declared.Command.{Command}
use Rattle.rules.specs.declared.State.{State}
use Rattle.runner.specs.Parts.{part}
use Rattle.runner.specs.Turns.{command_most}
use Rattle.runner.specs.declared.output.Printed.{Printed}

-- ---- what is still to be printed

-- Where command k is next, places counted from 0, on this memory: the lines of the commands from there on. "A broken file prints `X 20`":
-- one line, which stands before any command.
unfoldable pub output_from : List ℕ → ℕ → Memory → List ℕ
output_from file k m = pick (sound file) (run_lines (k + 1) (exchange_of m) (drop k (commands_of file))) (pick (eqb k 0) broken_line [])

-- ---- one part

-- 21: a sound file's commands are played on a well-formed state alone; 29: the buffer cannot hold the longest lines of one command
abbrev pub lines_refusals : List ℕ → Memory → List ℕ → List Refusal
lines_refusals file m out = (21 when (sound file && not (well_formed_memory m))) ∷ (29 when ltb (length out) command_most) ∷ []

-- the commands that a part plays: those from k up to `next`, and none of a broken file
abbrev pub played_in : List ℕ → ℕ → ℕ → List Command
played_in file k next = pick (sound file) (part file k next) []

-- a call that was refused played nothing and printed nothing
abbrev pub untouched : ℕ → ℕ → State → Printed
untouched code next state = record { code = code; length = 0; next = next; more = false; state = state }

-- What one part is. How many commands it has the rules leave open: at least one, where there is more behind it.
pub record PartIs (file : List ℕ) (k : ℕ) (m : Memory) (out : List ℕ) (r : Printed) (m' : Memory) (out' : List ℕ) : Type 0 where
  pub accepted : r.code ≡ 0
  -- what was still to be printed is this part, and behind it what is then still to be printed
  pub lines : output_from file k m ≡ take r.length out' ++ output_from file r.next m'
  -- the part stands at the buffer's start, and bytes behind it stay
  pub within : r.length ≤ length out
  pub buffer : out' ≡ over out 0 (take r.length out')
  -- the memory is the rules' run of the commands played, and condition 3 holds of it
  pub memory : m' ≡ run m (played_in file k r.next)
  pub money : MoneyKept m (played_in file k r.next) m'
  -- whether there is more, and that there is none where it says so
  pub more : r.more ≡ (sound file && ltb r.next (commands_in file))
  pub onward : r.more ≡ true → k < r.next
  pub last : r.more ≡ false → output_from file r.next m' ≡ []

pub record LinesIs (file : List ℕ) (k : ℕ) (m : Memory) (out : List ℕ) (r : Printed) (m' : Memory) (out' : List ℕ) : Type 0 where
  pub code : r.code ≡ first_of (lines_refusals file m out)
  pub printed : r.code ≡ 0 → PartIs file k m out r m' out'
  pub refused : (r.code ≡ 0 → ⊥) → (r ≡ untouched r.code k m.state) × (m' ≡ m) × (out' ≡ out)

-- ---- all parts

-- one call: what it gave, the memory and the buffer at its end, and the buffer at its start
pub record Call : Type 0 where
  pub given : Printed
  pub after : Memory
  pub lent : List ℕ
  pub written : List ℕ

-- a caller asks until there is no more, and hands to each call what the last one gave
unfoldable pub Asked : List ℕ → ℕ → Memory → List Call → Type 0
Asked file k m [] = ⊥
Asked file k m (c ∷ []) = PartIs file k m c.lent c.given c.after c.written × (c.given.more ≡ false)
Asked file k m (c ∷ d ∷ cs) =
    PartIs file k m c.lent c.given c.after c.written × (c.given.more ≡ true) × Asked file c.given.next c.after (d ∷ cs)

-- the parts one after the other
unfoldable pub together : List Call → List ℕ
together [] = []
together (c ∷ cs) = take c.given.length c.written ++ together cs

-- a sound file, room for the queues of four contracts and for a day's trades; what stands in that room plays no part
pub record FileReady (file buys sells trades : List ℕ) : Type 0 where
  pub whole : sound file ≡ true
  pub buys_room : queues_words ≤ length buys
  pub sells_room : queues_words ≤ length sells
  pub trades_room : trades_words ≤ length trades

-- ---- around the parts

-- room for all that an answer can depend on: whatever the input, what its first `room` bytes print is what all of it prints
abbrev pub Enough : ℕ → Type 0
Enough room = (input : List ℕ) → output (take room input) ≡ output input

-- what is said of the last write: nothing where all was written, and otherwise that it failed, as a line of text
abbrev pub failed_note : List ℕ
failed_note = 119 ∷ 114 ∷ 105 ∷ 116 ∷ 101 ∷ 32 ∷ 102 ∷ 97 ∷ 105 ∷ 108 ∷ 101 ∷ 100 ∷ newline ∷ []

unfoldable pub note_of : Bool → List ℕ
note_of written = pick written [] failed_note
