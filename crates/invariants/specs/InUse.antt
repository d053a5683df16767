-- What a caller may rely on whatever lies in the memory past the counts: the words of two theorems, `refusal_changes_nothing` and
-- `room_affects_no_answer` (proofs/RoomBeyond). Assumes nothing.
use Rattle.std.specs.Prelude.{◌≡◌, ℕ}
use Rattle.rules.specs.Memory.{Memory, AfterCommand, exchange_of, has_room}
use Rattle.rules.specs.Step.{answer_of}

-- ---- "a refusal gives three zeros and changes nothing"

-- the answer with a code and three zeros, and the memory as it was
abbrev pub refusal_in : Memory → ℕ → AfterCommand
refusal_in m code = record { answer = answer_of code 0 0 0; memory = m }

-- ---- "Room beyond a count affects no answer"

-- Two memories that agree in every place in use, and whose areas both have the room that a well-formed state needs or both lack it. How
-- many contracts, orders and trades are in use shows in the contents.
pub record AgreeInUse (m n : Memory) : Type 0 where
  pub accounts : m.state.accountcount ≡ n.state.accountcount
  pub contents : exchange_of m ≡ exchange_of n
  pub room : has_room m ≡ has_room n
