-- The lots that the closes of every account took of today's, slot by slot, as a loop writes them. Assumes nothing.
use Rattle.laws.specs.Logic.{Bool, List, ◌≡◌}
use Rattle.laws.specs.Numbers.{ℕ, ◌+◌, ◌*◌, ◌<◌, length, ◌/◌, ◌%◌, ◌≤◌, div-add-mod', arith}
use Rattle.laws.specs.Choice.{pick}
use Rattle.rules.specs.declared.{Holding.Holding, State.State}
use Rattle.dayprofit.proofs.Gains.{Due}
use Rattle.settlement.specs.Settling.{account_in, held_by}

abbrev start_of : Bool → Holding → ℕ
start_of short h = pick short h.startshort h.startlong

abbrev DueIn : State → List ℕ → List ℕ → ℕ → ℕ → Bool → Type 0
DueIn s closed left a c short = Due closed left a c short (start_of short (held_by (account_in s a) c))

-- ---- the loops: contract c of account a at 4 a + c

pub turn_at : (k : ℕ) → 4 * (k / 4) + k % 4 ≡ k
turn_at k = omega (arith, div-add-mod' k 4)

pub account_at_lem : (k n : ℕ) → k < 4 * n → n ≤ 32 → k / 4 < 32
account_at_lem k n l few = omega (arith, turn_at k)

pub record Dues (s : State) (closed left : List ℕ) (k : ℕ) : Type 0 where
  pub room : length left ≡ 256
  pub each : (a c : ℕ) (short : Bool) → c < 4 → 4 * a + c < k → DueIn s closed left a c short
