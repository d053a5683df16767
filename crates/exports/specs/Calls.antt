-- What the library's calls give that no proved call gives as it stands: one side's orders as a part of an area. Assumes nothing.
use Rattle.std.specs.Prelude.{Bool, List, ◌≡◌, ℕ, ◌*◌, eqb, length, take, drop}
use Rattle.laws.specs.Choice.{pick}
use Rattle.rules.specs.Bounds.{max_contracts, within}
use Rattle.rules.specs.Exchange.{place_of}
use Rattle.rules.specs.Memory.{queue_stride}
use Rattle.rules.specs.declared.State.{State}
use Rattle.rules.specs.Side.{side_words}
use Rattle.engine.specs.Sides.{side_count}
use Rattle.exports.specs.declared.side.Part.{Part}

-- the state's count of that side's orders; a contract that no state has a place for has none
unfoldable pub asked_count : State → Bool → ℕ → ℕ
asked_count state sell contract =
    pick (within 1 max_contracts contract) (side_count sell state (place_of contract)) 0

-- "the answer is the queue asked for"
abbrev pub asked_words : State → List ℕ → List ℕ → Bool → ℕ → List ℕ
asked_words state buys sells sell contract = side_words buys sells sell contract state.contractcount (asked_count state sell contract)

-- ".. as a part of whichever lent area holds it": where the part begins and how many words it has; an empty one begins at 0
pub record SideIs (state : State) (buys sells : List ℕ) (sell : Bool) (contract : ℕ) (r : Part) : Type 0 where
  pub first : r.first ≡ pick (eqb (length (asked_words state buys sells sell contract)) 0) 0 (queue_stride * place_of contract)
  pub words : r.words ≡ length (asked_words state buys sells sell contract)
  pub part : take r.words (drop r.first (pick sell sells buys)) ≡ asked_words state buys sells sell contract
