-- A day of calls: commands given singly, lists and bundles, in any order. Assumes nothing.
use Rattle.std.specs.Prelude.{List, [], ◌∷◌, ◌++◌, ℕ}
use Rattle.rules.specs.Condition3.{run}
use Rattle.rules.specs.Memory.{Memory, respond}
use Rattle.rules.specs.declared.Command.{Command}
use Rattle.baskets.specs.Bundle.{carried}

-- a command given singly, a list of them, or a bundle: its commands, how many of them it has, and how many words are lent for its
-- answers
pub data Call : Type 0 where
  single : Command → Call
  list : List Command → Call
  bundle : List Command → ℕ → ℕ → Call

-- each call gets the state that the last one left
unfoldable pub after_calls : Memory → List Call → Memory
after_calls m [] = m
after_calls m (single c ∷ calls) = after_calls (respond m c).memory calls
after_calls m (list cs ∷ calls) = after_calls (run m cs) calls
after_calls m (bundle cs count words ∷ calls) = after_calls (run m (carried m cs count words)) calls

-- "Condition 3 reads the commands of a bundle one after the other, and a refused bundle as none."
unfoldable pub commands_read : Memory → List Call → List Command
commands_read m [] = []
commands_read m (single c ∷ calls) = c ∷ commands_read (respond m c).memory calls
commands_read m (list cs ∷ calls) = cs ++ commands_read (run m cs) calls
commands_read m (bundle cs count words ∷ calls) = carried m cs count words ++ commands_read (run m (carried m cs count words)) calls
