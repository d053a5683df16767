-- FAIR AND COMPLETE MATCHING: laws 8 to 11, which follow from the rules and which a trader may quote. A sentence, then the record that says it:
-- here of an order that meets a queue, in FairCommands of every command. Worked cases in FairnessExamples. Assumes nothing.
use Rattle.std.specs.Prelude.{Bool, true, false, not, List, ◌≡◌, ℕ, ◌+◌, ◌<◌, ◌≤◌, min, eqb, length, get_or}
use Rattle.laws.specs.Choice.{pick, all_of}
use Rattle.laws.specs.Sums.{sum_of}
use Rattle.rules.specs.Answers.{is_good_for_day, is_limit}
use Rattle.rules.specs.Exchange.{best_price, lots_where, no_order, no_trade, worse}
use Rattle.rules.specs.Matching.{Entered, counterpart, fillable, traded_lots}
use Rattle.rules.specs.WellFormed.{ahead}
use Rattle.rules.specs.declared.NewOrder.{NewOrder}
use Rattle.rules.specs.declared.Order.{Order}
use Rattle.rules.specs.declared.PriceCondition.TheVariants.{Limit, Best}
use Rattle.rules.specs.declared.Taker.{Taker}
use Rattle.rules.specs.declared.TimeCondition.TheVariants.{FillOrKill}
use Rattle.rules.specs.declared.Trade.{Trade}

-- ---- words

-- order i of a queue, trade i of a list, from 0
abbrev pub order_at : List Order → ℕ → Order
order_at queue i = get_or queue i no_order

abbrev pub trade_of : List Trade → ℕ → Trade
trade_of trades i = get_or trades i no_trade

-- the order of a trade on a side, and its account
abbrev pub order_on : Bool → Trade → ℕ
order_on sell trade = pick sell trade.sellorder trade.buyorder

abbrev pub account_on : Bool → Trade → ℕ
account_on sell trade = pick sell trade.seller trade.buyer

-- the lots that the order with this number has traded on a side
abbrev pub lots_traded : Bool → ℕ → List Trade → ℕ
lots_traded sell number trades = sum_of (λ trade. pick (eqb (order_on sell trade) number) trade.lots 0) trades

-- the lots of the order with this number in a queue, and the lots of all its orders
abbrev pub lots_numbered : ℕ → List Order → ℕ
lots_numbered number queue = lots_where (λ o. eqb o.number number) queue

abbrev pub all_lots : List Order → ℕ
all_lots queue = sum_of (λ o. o.lots) queue

-- no order of the queue has this number
abbrev pub is_gone : ℕ → List Order → Bool
is_gone number queue = all_of (λ o. not (eqb number o.number)) queue

-- ---- 8. PRICE THEN TIME. If an order of a queue trades, every order ahead of it (better price, or the same price and an earlier stamp) has
-- been filled. `before` is the queue that the trades meet, `after` what they leave, `sell` its side.

pub record PriceThenTime (sell : Bool) (before after : List Order) (trades : List Trade) : Type 0 where
  -- order i is ahead of order j, which has traded: it has traded all its lots
  pub filled : (i j : ℕ) → i < length before → j < length before → ahead sell (order_at before i) (order_at before j) ≡ true
      → 0 < lots_traded sell (order_at before j).number trades → lots_traded sell (order_at before i).number trades ≡ (order_at before i).lots
  -- and it has left the queue
  pub leaves : (i j : ℕ) → i < length before → j < length before → ahead sell (order_at before i) (order_at before j) ≡ true
      → 0 < lots_traded sell (order_at before j).number trades → is_gone (order_at before i).number after ≡ true

-- ---- 9. NOTHING BETTER IS LEFT. An order that is not filled whole leaves no counterpart in the book; no resting order is traded through.

pub record NothingBetterLeft (t : Taker) (lots : ℕ) (before after : List Order) (trades : List Trade) : Type 0 where
  -- lots are left: no order that is left is a counterpart
  pub complete : traded_lots trades < lots → all_of (λ o. not (counterpart t o)) after ≡ true
  -- no order that is left has a better price than one that has traded
  pub not_through : (i : ℕ) → i < length before → 0 < lots_traded (not t.sell) (order_at before i).number trades
      → all_of (λ o. not (worse (not t.sell) (order_at before i).price o.price)) after ≡ true

-- ---- 10. EACH TRADES AT ITS LIMIT OR BETTER, both sides, by every method; market and best at the resting price, best at one price alone.

-- "All three lie between sell and buy" (document 02, ticket 6): not below the sell price and not above the buy price. Of a sell order's
-- limit and a resting price the limit is the sell price.
pub record BetweenSellAndBuy (sell : Bool) (limit resting price : ℕ) : Type 0 where
  pub sell_price : pick sell limit resting ≤ price
  pub buy_price : price ≤ pick sell resting limit

-- trade i is with order i: it has that order's number and account
pub record TradedInTurn (sell : Bool) (os : List Order) (ts : List Trade) : Type 0 where
  pub order : (i : ℕ) → i < length ts → order_on (not sell) (trade_of ts i) ≡ (order_at os i).number
  pub account : (i : ℕ) → i < length ts → account_on (not sell) (trade_of ts i) ≡ (order_at os i).account

-- trade i of a limit order is with order i, at a price between that order's and the limit
pub record AllBetween (sell : Bool) (limit : ℕ) (os : List Order) (ts : List Trade) : Type 0 where
  pub turns : TradedInTurn sell os ts
  pub each : (i : ℕ) → i < length ts → BetweenSellAndBuy sell limit (order_at os i).price (trade_of ts i).price

pub record AtLimitOrBetter (t : Taker) (queue : List Order) (trades : List Trade) : Type 0 where
  -- trade i is with order i
  pub turns : TradedInTurn t.sell queue trades
  -- a limit order trades between its limit and the resting order's: at the limit or better for both
  pub limited : (limit : ℕ) → t.condition ≡ Limit limit → AllBetween t.sell limit queue trades
  -- market and best trade at the resting order's price
  pub resting : is_limit t.condition ≡ false → (i : ℕ) → i < length trades → (trade_of trades i).price ≡ (order_at queue i).price
  -- best makes all its trades at the best price standing on arrival
  pub single : t.condition ≡ Best → all_of (λ trade. eqb trade.price (best_price queue)) trades ≡ true

-- ---- 11. EVERY LOT IS ACCOUNTED FOR: traded and left together are what was there, order by order and in all.

pub record LotsAccounted (sell : Bool) (before after : List Order) (trades : List Trade) : Type 0 where
  -- what an order has traded and what is left of it are what it had
  pub each : (number : ℕ) → lots_traded sell number trades + lots_numbered number after ≡ lots_numbered number before
  -- and in all
  pub together : traded_lots trades + all_lots after ≡ all_lots before

-- The order that arrives, in its own words
pub record OrderAccounted (t : Taker) (auctioned : Bool) (o : NewOrder) (own opposite : List Order) (e : Entered) : Type 0 where
  -- all lots that are traded are its own
  pub its : lots_traded t.sell t.number e.trades ≡ traded_lots e.trades
  -- it trades the smaller of its lots and its fillable lots; in auction it rests without matching
  pub most : auctioned ≡ false → traded_lots e.trades ≡ min o.lots (fillable t opposite)
  -- fill or kill, where it is not refused, trades all
  pub whole : o.time ≡ FillOrKill → traded_lots e.trades ≡ o.lots
  -- good for day: what it has traded and what rests of it are its lots
  pub rests : is_good_for_day o.time ≡ true → traded_lots e.trades + e.rested ≡ o.lots
  -- not good for day, so immediate or cancel too: nothing rests, and its own queue is what it was
  pub vanishes : is_good_for_day o.time ≡ false → (e.rested ≡ 0) × (e.own ≡ own)
  -- in its own queue what rests of it is added, and no other order's lots change
  pub added : (number : ℕ) → lots_numbered number e.own ≡ pick (eqb t.number number) e.rested 0 + lots_numbered number own
