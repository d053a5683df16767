-- WHAT HOLDS OF EVERY COMMAND ON A WELL-FORMED STATE holds of the memory that a call leaves, and of each command of a run. Assumes nothing.
use Rattle.laws.specs.Logic.{true, List, [], ◌∷◌, ◌++◌, ◌≡◌, subst⁻¹, ◌∙◌}
use Rattle.rules.specs.Condition3.{run}
use Rattle.rules.specs.Exchange.{Exchange}
use Rattle.rules.specs.Kinds.{step}
use Rattle.rules.specs.Memory.{Memory, exchange_of, respond, well_formed_memory}
use Rattle.rules.specs.declared.Command.{Command}
use Rattle.accounting.proofs.Runs.{run_last}
use Rattle.invariants.specs.Throughout.{Law, Throughout}
use Rattle.invariants.proofs.Clauses.{Sound}
use Rattle.invariants.proofs.MemoryKeeps.{memory_keeps, read_back, run_keeps, sound}

module _ (law : Law) (holds : (x : Exchange) (c : Command) → Sound x → law x c (step x c)) where
  -- of one command, and the memory that it leaves
  pub of_memory : (m : Memory) → well_formed_memory m ≡ true → (c : Command) → law (exchange_of m) c (exchange_of (respond m c).memory)
  of_memory m w c = subst⁻¹ (law (exchange_of m) c) (read_back m c w) (holds (exchange_of m) c (sound m w))

  -- of each command of a list
  pub throughout : (m : Memory) → well_formed_memory m ≡ true → (cs : List Command) → Throughout law m cs
  throughout m w [] = tt
  throughout m w (c ∷ cs) = (of_memory m w c, throughout (respond m c).memory (memory_keeps m c w) cs)

  -- of the memory that a call leaves, where it is the rules'
  pub of_call : (m : Memory) → well_formed_memory m ≡ true → (c : Command) (m' : Memory) → m' ≡ (respond m c).memory → law (exchange_of m) c (exchange_of m')
  of_call m w c m' e = subst⁻¹ (λ n. law (exchange_of m) c (exchange_of n)) e (of_memory m w c)

  -- of the memory that a run leaves, where it is the rules': its last command
  pub of_run : (m : Memory) → well_formed_memory m ≡ true → (before : List Command) (c : Command) (m' : Memory) → m' ≡ run m (before ++ (c ∷ []))
      → law (exchange_of (run m before)) c (exchange_of m')
  of_run m w before c m' e = of_call (run m before) (run_keeps m before w) c m' (e ∙ run_last m before c)
