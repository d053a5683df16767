-- The queue asked for, and what gives an empty part, worked out by hand. One table, one statement, as in Examples.antt. Assumes nothing.
use Rattle.std.specs.Prelude.{Bool, true, false, List, [], ◌∷◌, ◌++◌, ◌≡◌, refl, ℕ, length, get_or, replicate}
use Rattle.rules.specs.Examples.{Row, ◌gives◌, all_right}
use Rattle.rules.specs.Side.{no_queue, queue_words, side_words}

-- areas of so many words, 110 in each word of the buys and 112 in each of the sells, asked for one of two contracts
asked : ℕ → ℕ → Bool → ℕ → ℕ → List ℕ
asked buys sells sell contract count = side_words (replicate buys 110) (replicate sells 112) sell contract 2 count

-- behind the 64 places of the first contract one order of the second, its words numbered from 5
second : List ℕ
second = replicate 448 112 ++ (5 ∷ 6 ∷ 7 ∷ 8 ∷ 9 ∷ 10 ∷ 11 ∷ [])

pub table : List Row
table =
    -- seven words an order, of the side asked for
    (length (asked 28 28 false 1 3) gives 21)
    ∷ (get_or (asked 28 28 false 1 3) 0 0 gives 110)
    ∷ (get_or (asked 28 28 true 1 3) 0 0 gives 112)
    -- the second contract's queue begins behind the 64 places of the first
    ∷ (get_or (side_words [] second true 2 2 1) 0 0 gives 5)
    -- there is room for it, whatever the other side's area has, and none a word less
    ∷ (length (asked 0 455 true 2 1) gives 7)
    ∷ (length (asked 455 454 true 2 1) gives 0)
    -- 64 orders, and one more than a queue has
    ∷ (length (asked 0 455 true 1 64) gives 448)
    ∷ (length (asked 0 455 true 1 65) gives 0)
    -- an absent contract
    ∷ (length (asked 0 455 true 0 1) gives 0)
    ∷ (length (asked 0 910 true 3 1) gives 0)
    -- a state has places for four contracts, whatever its count says
    ∷ (length (side_words [] (replicate 2_300 0) true 4 5 1) gives 7)
    ∷ (length (side_words [] (replicate 2_300 0) true 5 5 1) gives 0)
    ∷ []

pub side_examples : all_right table ≡ true
unfolding all_right table asked second no_queue queue_words side_words
side_examples = refl
