-- A law of one command, said of every command of a list: each gets the state that the last one left (document 01, condition 3). Assumes
-- nothing.
use Rattle.std.specs.Prelude.{List, [], ◌∷◌}
use Rattle.rules.specs.Exchange.{Exchange}
use Rattle.rules.specs.Memory.{Memory, exchange_of, respond}
use Rattle.rules.specs.declared.Command.{Command}

-- a law of the state that a command meets, the command, and the state that it leaves
abbrev pub Law : Type 1
Law = Exchange → Command → Exchange → Type 0

-- the law holds of each command of a run from this memory
abbrev pub Throughout : Law → Memory → List Command → Type 0
Throughout law m [] = Unit {0}
Throughout law m (c ∷ cs) = law (exchange_of m) c (exchange_of (respond m c).memory) × Throughout law (respond m c).memory cs
