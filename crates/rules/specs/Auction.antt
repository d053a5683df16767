-- The opening auction: the one price at which it trades, and what it trades (document 02, ticket 4; 001, 4.3.1; 000, its
-- example of an opening price). Assumes nothing.
use Rattle.std.specs.Prelude.{Bool, true, false, ◌&&◌, List, [], ◌∷◌, ◌++◌, ℕ, zero, suc, ◌+◌, ◌-◌, min, leb, ltb, eqb, length}
use Rattle.laws.specs.Choice.{pick}
use Rattle.rules.specs.Bounds.{in_auction}
use Rattle.rules.specs.Exchange.{Exchange, listing_at, contract_at, lots_where}
use Rattle.rules.specs.Matching.{stays}
use Rattle.rules.specs.declared.Order.{Order}
use Rattle.rules.specs.declared.Trade.{Trade}

-- ---- "The price is chosen among the resting prices"

unfoldable pub prices : List Order → List ℕ
prices [] = []
prices (o ∷ os) = o.price ∷ prices os

abbrev pub resting_prices : List Order → List Order → List ℕ
resting_prices buys sells = prices buys ++ prices sells

-- ---- volume and surplus

-- a resting order trades at a price: a buy "at or above it", a sell "at or below it"
abbrev pub reaches : Bool → ℕ → Order → Bool
reaches sell price o = pick sell (leb o.price price) (leb price o.price)

-- "buy lots at or above it and sell lots at or below it"
unfoldable pub lots_reaching : Bool → ℕ → List Order → ℕ
lots_reaching sell price queue = lots_where (reaches sell price) queue

-- "volume (the smaller of buy lots at or above it and sell lots at or below it)"
unfoldable pub volume : List Order → List Order → ℕ → ℕ
volume buys sells price = min (lots_reaching false price buys) (lots_reaching true price sells)

-- how far two numbers lie apart, whichever is the larger
abbrev pub apart : ℕ → ℕ → ℕ
apart a b = (a - b) + (b - a)

-- "surplus (their difference) whichever its sign"
unfoldable pub surplus : List Order → List Order → ℕ → ℕ
surplus buys sells price = apart (lots_reaching false price buys) (lots_reaching true price sells)

-- ---- the four steps

-- a step prefers the smaller of two numbers, or the larger; where they are equal, the next step decides
abbrev pub smaller : ℕ → ℕ → Bool → Bool
smaller a b next = pick (eqb a b) next (ltb a b)

abbrev pub larger : ℕ → ℕ → Bool → Bool
larger a b next = smaller b a next

-- a price is preferred to another: "largest volume .., then smallest surplus .., then nearest to the last price, then the
-- higher (the last step is ours)"
unfoldable pub better : ℕ → List Order → List Order → ℕ → ℕ → Bool
better last buys sells price other =
    larger (volume buys sells price) (volume buys sells other)
    (smaller (surplus buys sells price) (surplus buys sells other)
    (smaller (apart price last) (apart other last)
    (ltb other price)))

-- the first of the prices, unless a later one is better
unfoldable pub best_from : (ℕ → ℕ → Bool) → ℕ → List ℕ → ℕ
best_from preferred first [] = first
best_from preferred first (p ∷ ps) = best_from preferred (pick (preferred p first) p first) ps

-- the best of them, 0 where there is none
unfoldable pub best_of : (ℕ → ℕ → Bool) → List ℕ → ℕ
best_of preferred [] = 0
best_of preferred (p ∷ ps) = best_from preferred p ps

-- the resting price to which none is preferred: there is one, wherever any order rests, and the order of the prices plays no
-- part (proofs/AuctionPrice.antt)
unfoldable pub chosen_price : ℕ → List Order → List Order → ℕ
chosen_price last buys sells = best_of (better last buys sells) (resting_prices buys sells)

-- "No volume, no price": 0, which is no contract's price
unfoldable pub auction_price : ℕ → List Order → List Order → ℕ
auction_price last buys sells =
    pick (ltb 0 (volume buys sells (chosen_price last buys sells))) (chosen_price last buys sells) 0

-- ---- the match

-- the trades in turn, and the two queues that they leave
pub record Matched : Type 0 where
  pub trades : List Trade
  pub buys : List Order
  pub sells : List Order

abbrev pub unmatched : List Order → List Order → Matched
unmatched buys sells = record { trades = []; buys = buys; sells = sells }

abbrev pub after_match : Trade → Matched → Matched
after_match t m = record { trades = t ∷ m.trades; buys = m.buys; sells = m.sells }

-- "All trades are at it"
unfoldable pub trade_at : ℕ → ℕ → ℕ → Order → Order → Trade
trade_at contract price lots b s =
    record {
      contract = contract;
      price = price;
      lots = lots;
      buyorder = b.number;
      sellorder = s.number;
      buyer = b.account;
      seller = s.account;
      buyclose = b.close;
      sellclose = s.close;
    }

-- the best buy and the best sell trade the smaller remainder
abbrev pub paired : Order → Order → ℕ
paired b s = min b.lots s.lots

-- a queue whose first order has traded so many lots: a filled order leaves
abbrev pub less_first : ℕ → Order → List Order → List Order
less_first lots o os = stays o (o.lots - lots) ++ os

-- "best buy with best sell by price and number", as long as both reach the price. The queues are best price first, then lower
-- time stamp (02, ticket 8): each is taken from its front, and nothing else is asked of its order. Every turn fills an order, so
-- there are no more turns than orders.
unfoldable pub match_in : ℕ → ℕ → ℕ → List Order → List Order → Matched
match_in zero contract price buys sells = unmatched buys sells
match_in (suc turns) contract price [] sells = unmatched [] sells
match_in (suc turns) contract price (b ∷ bs) [] = unmatched (b ∷ bs) []
match_in (suc turns) contract price (b ∷ bs) (s ∷ ss) =
    pick (reaches false price b && reaches true price s)
    (after_match
    (trade_at contract price (paired b s) b s)
    (match_in turns contract price (less_first (paired b s) b bs) (less_first (paired b s) s ss)))
    (unmatched (b ∷ bs) (s ∷ ss))

unfoldable pub match_at : ℕ → ℕ → List Order → List Order → Matched
match_at contract price buys sells = match_in (length buys + length sells) contract price buys sells

-- the match of a contract's queues: "No volume, no price, no trades."
unfoldable pub auction_match : ℕ → ℕ → List Order → List Order → Matched
auction_match contract last buys sells =
    pick (ltb 0 (volume buys sells (chosen_price last buys sells)))
    (match_at contract (chosen_price last buys sells) buys sells)
    (unmatched buys sells)

-- the match that a change of a contract's state makes: auction is "left only to continuous, when the match happens"; no other
-- change makes one. The new state need not be tested: from auction every change but that to continuous is refused (17) before this
-- is asked (12).
unfoldable pub match_of : Exchange → ℕ → Matched
match_of x c =
    pick (in_auction (contract_at x c))
    (auction_match c (contract_at x c).last (listing_at x c).buys (listing_at x c).sells)
    (unmatched (listing_at x c).buys (listing_at x c).sells)
