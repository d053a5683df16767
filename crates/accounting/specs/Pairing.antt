-- Ticket 12: every way to pair the lots that an account closes in a day with lots that it held or opened before, and profit by
-- Article 32 under such a pairing. Lots are single: a trade of three lots has three of them, each paired on its own.
-- Assumes nothing.
use Rattle.std.specs.Prelude.{Bool, not, ◌&&◌, List, [], ◌∷◌, ◌++◌, ◌≡◌, ℕ, suc, ◌<◌, eqb, ℤ, pos, ◌+ℤ◌, ◌-ℤ◌, ◌*ℤ◌, length, get_or, replicate}
use Rattle.laws.specs.Choice.{pick, all}
use Rattle.laws.specs.Sums.{sum_to}
use Rattle.rules.specs.Exchange.{Exchange, listing_at, holding_at}
use Rattle.rules.specs.Settlement.{Leg, leg, legs, settlement_price, closing_profit, holding_profit}

-- ---- an account's single lots

pub data Side : Type 0 where
  long : Side
  short : Side

-- "Buy open adds long, sell open adds short"
unfoldable pub opens : Side → Leg → Bool
opens long (leg sell close p n) = not sell && not close
opens short (leg sell close p n) = sell && not close

-- "sell close lowers long, buy close lowers short"
unfoldable pub closes : Side → Leg → Bool
closes long (leg sell close p n) = sell && close
closes short (leg sell close p n) = not sell && close

-- one lot: the price that Article 32 reads for it, and when it was opened or closed
pub record Lot : Type 0 where
  pub price : ℕ
  pub time : ℕ

abbrev pub no_lot : Lot
no_lot = record { price = 0; time = 0 }

-- the lots of the legs that pass a test, one by one. A leg's time is its place among the account's legs in the contract, in
-- trade order; `legs` puts the buyer's leg of a trade of the account with itself before the seller's
unfoldable pub lots_of_legs : (Leg → Bool) → ℕ → List Leg → List Lot
lots_of_legs test time [] = []
lots_of_legs test time (leg sell close p n ∷ ls) =
    replicate (pick (test (leg sell close p n)) n 0) (record { price = p; time = time }) ++ lots_of_legs test (suc time) ls

-- the lots that can be closed: those held at the start of the day, at the reference and at time 0, and those opened that day
unfoldable pub open_lots : Side → ℕ → ℕ → List Leg → List Lot
open_lots side reference held ls = replicate held (record { price = reference; time = 0 }) ++ lots_of_legs (opens side) 1 ls

unfoldable pub closed_lots : Side → List Leg → List Lot
closed_lots side ls = lots_of_legs (closes side) 1 ls

-- ---- a pairing

-- closed lot i is paired with open lot `of i`, by their places in the two lists
pub record Pairing (open' closed : List Lot) (of : ℕ → ℕ) : Type 0 where
  -- "each closed lot of an account is paired with a lot of the contract and side it closes"
  pub among : (i : ℕ) → i < length closed → of i < length open'
  -- "held at the start of the day or opened earlier that day"
  pub earlier : (i : ℕ) → i < length closed → (get_or open' (of i) no_lot).time < (get_or closed i no_lot).time
  -- "no lot is used twice"
  pub once : (i j : ℕ) → i < length closed → j < length closed → of i ≡ of j → i ≡ j

-- the house rule's: "Closes use start-of-day lots first, then today's in trade order", which is the order of the open lots
abbrev pub in_order : Side → ℕ → ℕ
in_order side i = i

-- ---- profit by Article 32 under a pairing

-- what one lot gains from its price to another: a long lot by a rise, a short lot by a fall
unfoldable pub gained : Side → ℕ → ℕ → ℤ
gained long from to = pos to -ℤ pos from
gained short from to = pos from -ℤ pos to

-- each closed lot, from the price of the lot that it is paired with to its own
unfoldable pub closing_by : Side → List Lot → List Lot → (ℕ → ℕ) → ℤ
closing_by side open' closed of =
    sum_to (length closed) (λ i. gained side (get_or open' (of i) no_lot).price (get_or closed i no_lot).price)

-- none of the first n closed lots is paired with open lot j
unfoldable pub unpaired : (ℕ → ℕ) → ℕ → ℕ → Bool
unpaired of n j = all (λ i. not (eqb (of i) j)) n

-- each lot with which no closed lot is paired, from its own price to the settlement price
unfoldable pub holding_by : Side → ℕ → List Lot → List Lot → (ℕ → ℕ) → ℤ
holding_by side price open' closed of =
    sum_to (length open') (λ j. pick (unpaired of (length closed) j) (gained side (get_or open' j no_lot).price price) (pos 0))

-- ---- an account's day

unfoldable pub held_at_start : Exchange → ℕ → ℕ → Side → ℕ
held_at_start x a c long = (holding_at x.accounts a c).startlong
held_at_start x a c short = (holding_at x.accounts a c).startshort

unfoldable pub open_of : Exchange → ℕ → ℕ → Side → List Lot
open_of x a c side = open_lots side (listing_at x c).contract.reference (held_at_start x a c side) (legs a c x.trades)

unfoldable pub closed_of : Exchange → ℕ → ℕ → Side → List Lot
closed_of x a c side = closed_lots side (legs a c x.trades)

-- a pairing of account a's lots in contract c, side by side
unfoldable pub PairsDay : Exchange → ℕ → ℕ → (Side → ℕ → ℕ) → Type 0
PairsDay x a c of = (side : Side) → Pairing (open_of x a c side) (closed_of x a c side) (of side)

-- its closing and its holding profit, before the multiplier
unfoldable pub day_closing : Exchange → ℕ → ℕ → (Side → ℕ → ℕ) → ℤ
day_closing x a c of =
    closing_by long (open_of x a c long) (closed_of x a c long) (of long)
    +ℤ closing_by short (open_of x a c short) (closed_of x a c short) (of short)

unfoldable pub day_holding : Exchange → ℕ → ℕ → (Side → ℕ → ℕ) → ℤ
day_holding x a c of =
    holding_by long (settlement_price x c) (open_of x a c long) (closed_of x a c long) (of long)
    +ℤ holding_by short (settlement_price x c) (open_of x a c short) (closed_of x a c short) (of short)

-- over all contracts, each with a pairing of its own
unfoldable pub paired_closing : Exchange → ℕ → (ℕ → Side → ℕ → ℕ) → ℤ
paired_closing x a of = sum_to (length x.listings) (λ c. pos (listing_at x c).contract.multiplier *ℤ day_closing x a c (of c))

unfoldable pub paired_holding : Exchange → ℕ → (ℕ → Side → ℕ → ℕ) → ℤ
paired_holding x a of = sum_to (length x.listings) (λ c. pos (listing_at x c).contract.multiplier *ℤ day_holding x a c (of c))

-- "closing plus holding profit by Article 32 is the same as by document 01's rule", whatever the pairings
unfoldable pub SameDayProfit : Exchange → ℕ → Type 0
SameDayProfit x a =
    (of : ℕ → Side → ℕ → ℕ) → ((c : ℕ) → c < length x.listings → PairsDay x a c (of c)) →
    paired_closing x a of +ℤ paired_holding x a of ≡ closing_profit x a +ℤ holding_profit x a
