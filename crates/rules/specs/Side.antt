-- The queue asked for, as words of the area that holds it (document 01, "Matching"). Assumes nothing.
use Rattle.std.specs.Prelude.{Bool, ◌||◌, List, [], ℕ, ◌*◌, ltb, eqb, length, take, drop}
use Rattle.laws.specs.Choice.{pick}
use Rattle.rules.specs.Bounds.{max_contracts, max_resting}
use Rattle.rules.specs.Exchange.{place_of}
use Rattle.rules.specs.Memory.{queue_stride, order_stride, first_word}

-- "Absent contract, count above 64 or area too short for it: an empty part." A contract above the fourth is absent whatever the
-- count of contracts says: no state has a place for it.
unfoldable pub no_queue : List ℕ → ℕ → ℕ → ℕ → Bool
no_queue area contract contracts count =
    eqb contract 0
    || ltb contracts contract
    || ltb max_contracts contract
    || ltb max_resting count
    || ltb (length area) (first_word (place_of contract) count)

unfoldable pub queue_words : List ℕ → ℕ → ℕ → ℕ → List ℕ
queue_words area contract contracts count =
    pick (no_queue area contract contracts count) [] (take (order_stride * count) (drop (queue_stride * place_of contract) area))

-- "a part of whichever lent area holds it"
unfoldable pub side_words : List ℕ → List ℕ → Bool → ℕ → ℕ → ℕ → List ℕ
side_words buys sells sell contract contracts count = queue_words (pick sell sells buys) contract contracts count
