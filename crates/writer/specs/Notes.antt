-- What is said of a write. Assumes nothing.
use Rattle.std.specs.Prelude.{Bool, List, ◌≡◌, ℕ}
use Rattle.runner.specs.Output.{note_of}

-- one of the two notes; which of them the rules leave open, since no promise tells what a write does
pub record ANote (note : List ℕ) : Type 0 where
  pub written : Bool
  pub is : note ≡ note_of written
