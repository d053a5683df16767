-- THE AUCTION: laws 12 and 13, of two queues and their match; in FairCommands of every command. Worked cases in FairnessExamples. Assumes
-- nothing.
use Rattle.std.specs.Prelude.{Bool, true, false, ◌&&◌, ◌||◌, List, [], ◌∷◌, ◌≡◌, ℕ, ◌<◌, ◌≤◌, eqb, length}
use Rattle.laws.specs.Choice.{pick, all_of}
use Rattle.rules.specs.Auction.{Matched, apart, best_of, better, chosen_price, reaches, resting_prices, surplus, volume}
use Rattle.rules.specs.Exchange.{lots_where}
use Rattle.rules.specs.Fairness.{LotsAccounted, PriceThenTime, lots_traded, order_at}
use Rattle.rules.specs.Matching.{traded_lots}
use Rattle.rules.specs.declared.Order.{Order}
use Rattle.rules.specs.declared.Trade.{Trade}

-- ---- 12. THE PRICE HAS THE LARGEST VOLUME OF ALL PRICES THERE ARE, resting or not; among the resting ones of that volume the ticket's steps
-- choose one, whichever order they are looked at.

-- a price is one of a list
unfoldable pub one_of : List ℕ → ℕ → Bool
one_of [] price = false
one_of (p ∷ ps) price = eqb p price || one_of ps price

pub record LargestVolume (last : ℕ) (buys sells : List Order) : Type 0 where
  -- no price at all has a larger volume
  pub largest : (price : ℕ) → volume buys sells price ≤ volume buys sells (chosen_price last buys sells)
  -- it is a resting price, wherever an order rests
  pub rests : 0 < length (resting_prices buys sells) → one_of (resting_prices buys sells) (chosen_price last buys sells) ≡ true
  -- "then smallest surplus": of the resting prices of that volume none has a smaller one
  pub least_surplus : (price : ℕ) → one_of (resting_prices buys sells) price ≡ true → volume buys sells price ≡ volume buys sells (chosen_price last buys sells)
      → surplus buys sells (chosen_price last buys sells) ≤ surplus buys sells price
  -- "then nearest to the last price": of those of that surplus none is nearer
  pub nearest : (price : ℕ) → one_of (resting_prices buys sells) price ≡ true → volume buys sells price ≡ volume buys sells (chosen_price last buys sells)
      → surplus buys sells price ≡ surplus buys sells (chosen_price last buys sells)
      → apart (chosen_price last buys sells) last ≤ apart price last
  -- "then the higher": of those as near none is higher
  pub highest : (price : ℕ) → one_of (resting_prices buys sells) price ≡ true → volume buys sells price ≡ volume buys sells (chosen_price last buys sells)
      → surplus buys sells price ≡ surplus buys sells (chosen_price last buys sells)
      → apart price last ≡ apart (chosen_price last buys sells) last → price ≤ chosen_price last buys sells
  -- the steps choose it out of any list of the same prices, in whatever order
  pub any_order : (ps : List ℕ) → ((price : ℕ) → one_of ps price ≡ one_of (resting_prices buys sells) price)
      → best_of (better last buys sells) ps ≡ chosen_price last buys sells

-- ---- 13. NO SET OF TRADES AT ONE PRICE THAT RESPECTS LIMITS AND LOTS TRADES MORE THAN THE AUCTION DOES (maximum), all are at one price
-- (uniform), each within both limits (individually rational), and on each side price then time holds (fair).

-- the lots that the order with this number may trade at a price: none, if it does not reach the price
abbrev pub lots_allowed : Bool → ℕ → ℕ → List Order → ℕ
lots_allowed sell price number queue = lots_where (λ o. eqb o.number number && reaches sell price o) queue

-- trades at one price that respect limits and lots
pub record RespectsLimits (price : ℕ) (buys sells : List Order) (trades : List Trade) : Type 0 where
  -- all are at the price
  pub uniform : all_of (λ trade. eqb trade.price price) trades ≡ true
  -- an order trades no more than it has, and nothing beyond its limit
  pub within : (sell : Bool) (number : ℕ) → lots_traded sell number trades ≤ lots_allowed sell price number (pick sell sells buys)

-- the queue of a side that a match leaves
abbrev pub left_on : Bool → Matched → List Order
left_on sell m = pick sell m.sells m.buys

pub record BestAuction (last : ℕ) (buys sells : List Order) (m : Matched) : Type 0 where
  -- its trades are such, at its one price
  pub allowed : RespectsLimits (chosen_price last buys sells) buys sells m.trades
  -- each within both limits: an order that has traded reaches the price
  pub rational : (sell : Bool) (i : ℕ) → i < length (pick sell sells buys) → 0 < lots_traded sell (order_at (pick sell sells buys) i).number m.trades
      → reaches sell (chosen_price last buys sells) (order_at (pick sell sells buys) i) ≡ true
  -- no such trades, at whatever price, trade more lots
  pub maximum : (price : ℕ) (trades : List Trade) → RespectsLimits price buys sells trades → traded_lots trades ≤ traded_lots m.trades
  -- on each side price then time holds
  pub fair : (sell : Bool) → PriceThenTime sell (pick sell sells buys) (left_on sell m) m.trades
  -- and every lot is accounted for
  pub accounted : (sell : Bool) → LotsAccounted sell (pick sell sells buys) (left_on sell m) m.trades
