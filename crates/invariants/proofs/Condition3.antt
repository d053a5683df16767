-- CONDITION 3 OF THE RULES, and of every memory that a call leaves: for every list of commands, from every memory whose arrays
-- have the places of their types. Accounting proves it from two facts about one command, which stand in `MemoryKeeps.antt`.
-- Assumes nothing.
use Rattle.laws.specs.Logic.{true, List, ◌++◌, ◌≡◌, subst⁻¹}
use Rattle.rules.specs.Condition3.{run, Condition3, Loaded, MoneyKept, loaded}
use Rattle.rules.specs.Memory.{Memory, Declared, exchange_of, well_formed_memory}
use Rattle.rules.specs.declared.Command.{Command}
use Rattle.accounting.proofs.Condition3.{condition3}
use Rattle.accounting.proofs.Joined.{joined}
use Rattle.accounting.proofs.Runs.{formed_sound}
use Rattle.invariants.proofs.MemoryKeeps.{memory_keeps, read_back}

pub money_is_kept : (m : Memory) → Declared m.state → (cs : List Command) → MoneyKept m cs (run m cs)
money_is_kept = condition3 memory_keeps read_back

-- of the memory that is left, where it is that of the run
pub money_left : (m : Memory) → Declared m.state → (cs : List Command) (m' : Memory) → m' ≡ run m cs → MoneyKept m cs m'
money_left m d cs m' e = subst⁻¹ (MoneyKept m cs) e (money_is_kept m d cs)

-- TWO LISTS, the second from what the first leaves, which is a loaded state: their claims give that of the list joined, of any memory that
-- holds what is left in the end
pub claims_joined : (m : Memory) → Declared m.state → well_formed_memory m ≡ true → Loaded m → (as' bs : List Command) → Loaded (run m as') →
    (m' : Memory) → exchange_of m' ≡ exchange_of (run (run m as') bs) → Condition3 (loaded m) m as' (run m as') →
    Condition3 (loaded (run m as')) (run m as') bs m' → Condition3 (loaded m) m (as' ++ bs) m'
claims_joined m d w o as' bs o₁ m' e = joined memory_keeps read_back m d o (formed_sound m d w) as' o₁ bs m' e
