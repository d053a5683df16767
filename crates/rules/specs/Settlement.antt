-- Settlement: its price, profit by Article 32 of document 002, and what it leaves (document 01, "Margin and settlement").
-- Money is a whole number of any size. Assumes nothing.
use Rattle.std.specs.Prelude.{Bool, true, false, not, ◌&&◌, List, [], ◌∷◌, ◌++◌, map, ℕ, ◌+◌, ◌-◌, ◌*◌, ◌/◌, min, eqb, ℤ, pos, ◌+ℤ◌, ◌-ℤ◌, ◌*ℤ◌, length}
use Rattle.laws.specs.Choice.{pick}
use Rattle.laws.specs.Sums.{sum_to, sum_of}
use Rattle.laws.specs.Tabulate.{tabulate}
use Rattle.rules.specs.Bounds.{pre_open}
use Rattle.rules.specs.Exchange.{Exchange, Listing, listing_at, contract_at, holder_at, held_at}
use Rattle.rules.specs.Matching.{middle, traded_lots}
use Rattle.rules.specs.declared.Account.{Account}
use Rattle.rules.specs.declared.Contract.{Contract}
use Rattle.rules.specs.declared.Holding.{Holding}
use Rattle.rules.specs.declared.Order.{Order}
use Rattle.rules.specs.declared.Trade.{Trade}

-- ---- the settlement price

-- the day's trades of one contract
unfoldable pub trades_in : ℕ → List Trade → List Trade
trades_in c [] = []
trades_in c (t ∷ ts) = pick (eqb t.contract c) (t ∷ trades_in c ts) (trades_in c ts)

unfoldable pub traded_value : List Trade → ℕ
traded_value ts = sum_of (λ t. t.price * t.lots) ts

-- "the day's trades weighted by lots, rounded down, then down to a tick (house)"
unfoldable pub weighted_price : ℕ → List Trade → ℕ
weighted_price tick ts = traded_value ts / traded_lots ts / tick * tick

-- "No trade: with both sides quoted, the middle of best buy, best sell and reference; otherwise the reference (house)."
unfoldable pub quoted_price : ℕ → List Order → List Order → ℕ
quoted_price reference [] sells = reference
quoted_price reference (b ∷ bs) [] = reference
quoted_price reference (b ∷ bs) (s ∷ ss) = middle b.price s.price reference

-- the price by the contract's own trades and quotes
unfoldable pub price_from : ℕ → ℕ → List Trade → List Order → List Order → ℕ
price_from tick reference [] buys sells = quoted_price reference buys sells
price_from tick reference (t ∷ ts) buys sells = weighted_price tick (t ∷ ts)

unfoldable pub settlement_price : Exchange → ℕ → ℕ
settlement_price x c =
    price_from (contract_at x c).tick (contract_at x c).reference (trades_in c x.trades) (listing_at x c).buys (listing_at x c).sells

-- ---- profit: Article 32. Its four sums, as the article writes them, stand in Article32.antt.

-- a trade as one of its two accounts sees it
pub data Leg : Type 0 where
  leg : (sell close : Bool) (price lots : ℕ) → Leg

abbrev pub buy_leg : Trade → Leg
buy_leg t = leg false (not (eqb t.buyclose 0)) t.price t.lots

abbrev pub sell_leg : Trade → Leg
sell_leg t = leg true (not (eqb t.sellclose 0)) t.price t.lots

unfoldable pub only : Bool → Leg → List Leg
only true l = l ∷ []
only false l = []

-- an account's legs in a contract, in trade order; of a trade with itself the buyer's first
unfoldable pub legs : ℕ → ℕ → List Trade → List Leg
legs a c [] = []
legs a c (t ∷ ts) =
    only (eqb t.contract c && eqb t.buyer a) (buy_leg t)
    ++ (only (eqb t.contract c && eqb t.seller a) (sell_leg t) ++ legs a c ts)

-- lots that came at one price
pub record Batch : Type 0 where
  pub price : ℕ
  pub lots : ℕ

-- an account's day in a contract: the lots open on each side, in the order in which closes use them, and the closing
-- profit so far
pub record Day : Type 0 where
  pub long : List Batch
  pub short : List Batch
  pub closing : ℤ

-- "start-of-day lots against the reference, today's against their opening price"
unfoldable pub day_start : ℕ → ℕ → ℕ → Day
day_start reference long short =
    record {
      long = record { price = reference; lots = long } ∷ [];
      short = record { price = reference; lots = short } ∷ [];
      closing = pos 0;
    }

-- what batches gain from their own prices to a price p
unfoldable pub gain : ℕ → List Batch → ℤ
gain p [] = pos 0
gain p (b ∷ bs) = (pos p -ℤ pos b.price) *ℤ pos b.lots +ℤ gain p bs

-- the first n lots, and those behind them: "Closes use start-of-day lots first, then today's in trade order (house)."
unfoldable pub first_lots : ℕ → List Batch → List Batch
first_lots n [] = []
first_lots n (b ∷ bs) = record { price = b.price; lots = min n b.lots } ∷ first_lots (n - b.lots) bs

unfoldable pub other_lots : ℕ → List Batch → List Batch
other_lots n [] = []
other_lots n (b ∷ bs) = record { price = b.price; lots = b.lots - n } ∷ other_lots (n - b.lots) bs

abbrev pub with_batch : List Batch → ℕ → ℕ → List Batch
with_batch bs p n = bs ++ (record { price = p; lots = n } ∷ [])

-- an open adds lots at its price; a sell close pays its price less theirs for the long lots that it takes, a buy close
-- theirs less its price for the short lots
unfoldable pub after_day_leg : Day → Leg → Day
after_day_leg d (leg false false p n) = record { long = with_batch d.long p n; short = d.short; closing = d.closing }
after_day_leg d (leg true false p n) = record { long = d.long; short = with_batch d.short p n; closing = d.closing }
after_day_leg d (leg true true p n) =
    record { long = other_lots n d.long; short = d.short; closing = d.closing +ℤ gain p (first_lots n d.long) }
after_day_leg d (leg false true p n) =
    record { long = d.long; short = other_lots n d.short; closing = d.closing -ℤ gain p (first_lots n d.short) }

unfoldable pub after_legs : Day → List Leg → Day
after_legs d [] = d
after_legs d (l ∷ ls) = after_legs (after_day_leg d l) ls

unfoldable pub day_of : Exchange → ℕ → ℕ → Day
day_of x a c =
    after_legs
    (day_start (contract_at x c).reference (held_at x a c).startlong (held_at x a c).startshort)
    (legs a c x.trades)

-- the lots still open, against the settlement price
unfoldable pub holding_gain : ℕ → Day → ℤ
holding_gain price d = gain price d.long -ℤ gain price d.short

-- "times multiplier", over all contracts
unfoldable pub closing_profit : Exchange → ℕ → ℤ
closing_profit x a = sum_to (length x.listings) (λ c. pos (contract_at x c).multiplier *ℤ (day_of x a c).closing)

unfoldable pub holding_profit : Exchange → ℕ → ℤ
holding_profit x a =
    sum_to (length x.listings) (λ c. pos (contract_at x c).multiplier *ℤ holding_gain (settlement_price x c) (day_of x a c))

-- ---- what a settlement leaves

-- "holdings become start-of-day"
abbrev pub carried_holding : Holding → Holding
carried_holding h = record { long = h.long; short = h.short; startlong = h.long; startshort = h.short }

-- "The balance takes both."
unfoldable pub settled_account : Exchange → ℕ → Account
settled_account x a =
    record {
      balance = (holder_at x a).balance +ℤ (closing_profit x a +ℤ holding_profit x a);
      maker = (holder_at x a).maker;
      holdings = map carried_holding (holder_at x a).holdings;
    }

-- "the settlement price becomes the reference, contracts return to pre-open"; the last price "passes from day to day"
unfoldable pub settled_contract : Contract → ℕ → Contract
settled_contract c price =
    record {
      multiplier = c.multiplier;
      tick = c.tick;
      reference = price;
      band = c.band;
      limit = c.limit;
      rate = c.rate;
      method = c.method;
      phase = pre_open;
      last = c.last;
    }

-- "resting orders go"
unfoldable pub settled_listing : Exchange → ℕ → Listing
settled_listing x c = record { contract = settled_contract (contract_at x c) (settlement_price x c); buys = []; sells = [] }

-- "trades and order numbers start afresh", and time stamps, "given in turn from 1 each day" (02, ticket 8)
unfoldable pub settled : Exchange → Exchange
settled x =
    record {
      listings = tabulate (length x.listings) (settled_listing x);
      accounts = tabulate (length x.accounts) (settled_account x);
      trades = [];
      next = 1;
      nextstamp = 1;
      settlements = x.settlements + 1;
    }
