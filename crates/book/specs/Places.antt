-- Where in a queue a new order goes, and where an order with a given number stands: what the engine looks for before it moves
-- orders. The laws are in proofs/Places.antt. Assumes nothing.
use Rattle.std.specs.Prelude.{Bool, List, [], ◌∷◌, ◌≡◌, ℕ, ◌<◌, suc, eqb, length, get_or, Option, Some, None}
use Rattle.laws.specs.Choice.{pick}
use Rattle.rules.specs.Exchange.{no_order, worse}
use Rattle.rules.specs.declared.Order.{Order}
use Rattle.book.specs.declared.orders.Found.{Found}

-- the place of the first order that satisfies a test, or past the last
unfoldable pub first_where : (Order → Bool) → List Order → ℕ
first_where test [] = 0
first_where test (o ∷ os) = pick (test o) 0 (suc (first_where test os))

-- "A good-for-day remainder rests, and every later order moves one place back": it rests before the first order at a worse price
abbrev pub place_in : Bool → ℕ → List Order → ℕ
place_in sell price queue = first_where (λ o. worse sell o.price price) queue

-- the place of an order by its number
abbrev pub index_of : ℕ → List Order → ℕ
index_of number queue = first_where (λ o. eqb o.number number) queue

-- the order with a number, found at its place, or nowhere
abbrev pub FoundIs : ℕ → List Order → Option Found → Type 0
FoundIs number queue None = index_of number queue ≡ length queue
FoundIs number queue (Some f) = (f.place < length queue) × (f.place ≡ index_of number queue) × (f.order ≡ get_or queue f.place no_order)

-- the best order of a queue
abbrev pub front : List Order → Option Order
front [] = None
front (o ∷ os) = Some o
