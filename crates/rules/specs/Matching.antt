-- What an arriving order trades, with whom and at what price (document 01, "Matching"; 001, 4.3.2; document 02, tickets 4 and 6).
-- Assumes nothing.
use Rattle.std.specs.Prelude.{Bool, true, ◌&&◌, List, [], ◌∷◌, ◌++◌, ℕ, zero, suc, ◌+◌, ◌-◌, ◌*◌, ◌/◌, min, max, leb, ltb, eqb}
use Rattle.laws.specs.Choice.{pick}
use Rattle.laws.specs.Sums.{sum_of}
use Rattle.rules.specs.Exchange.{lots_where, worse}
use Rattle.rules.specs.declared.Contract.{Contract}
use Rattle.rules.specs.declared.Order.{Order}
use Rattle.rules.specs.declared.PairingMethod.{PairingMethod}
use Rattle.rules.specs.declared.PairingMethod.TheVariants.{Middle, Average, FirstIn}
use Rattle.rules.specs.declared.PriceCondition.{PriceCondition}
use Rattle.rules.specs.declared.PriceCondition.TheVariants.{Limit, Market, Best}
use Rattle.rules.specs.declared.Taker.{Taker}
use Rattle.rules.specs.declared.Trade.{Trade}

-- "Counterparts are opposite orders: for a limit order those at its price or better; for market all; for best those at the
-- best price standing on arrival."
unfoldable pub meets : PriceCondition → Bool → ℕ → ℕ → Bool
meets (Limit limit) sell best price = pick sell (leb limit price) (leb price limit)
meets Market sell best price = true
meets Best sell best price = eqb price best

abbrev pub counterpart : Taker → Order → Bool
counterpart t o = meets t.condition t.sell t.best o.price

-- "Fillable lots are the counterparts' lots added up."
unfoldable pub fillable : Taker → List Order → ℕ
fillable t queue = lots_where (counterpart t) queue

-- the middle of three prices
unfoldable pub middle : ℕ → ℕ → ℕ → ℕ
middle a b c = max (min a b) (min (max a b) c)

-- "Average is half the sum of both prices, rounded down to a tick."
unfoldable pub average : ℕ → ℕ → ℕ → ℕ
average tick a b = (a + b) / 2 / tick * tick

-- "a pairing method: 0 middle price, 1 average, 2 first-in price"
unfoldable pub method_of : Contract → PairingMethod
method_of c = pick (eqb c.method 0) Middle (pick (eqb c.method 1) (Average c.tick) FirstIn)

-- The price at which a limit order trades with a resting one: "the middle of buy price, sell price and last price, worked out
-- again for each trade"; the average of the two; "First-in is the resting price."
unfoldable pub paired_price : PairingMethod → ℕ → ℕ → ℕ → ℕ
paired_price Middle limit price last = middle limit price last
paired_price (Average tick) limit price last = average tick limit price
paired_price FirstIn limit price last = price

-- The method "concerns limit orders only". "Market and best trade at the resting price."
unfoldable pub trade_price : PairingMethod → PriceCondition → ℕ → ℕ → ℕ
trade_price method (Limit limit) price last = paired_price method limit price last
trade_price method Market price last = price
trade_price method Best price last = price

-- "each trades the smaller remainder"
unfoldable pub trade_with : Taker → Order → ℕ → ℕ → Trade
trade_with t o left last =
    record {
      contract = t.contract;
      price = trade_price t.method t.condition o.price last;
      lots = min left o.lots;
      buyorder = pick t.sell o.number t.number;
      sellorder = pick t.sell t.number o.number;
      buyer = pick t.sell o.account t.account;
      seller = pick t.sell t.account o.account;
      buyclose = pick t.sell o.close t.close;
      sellclose = pick t.sell t.close o.close;
    }

abbrev pub with_lots : Order → ℕ → Order
with_lots o lots =
    record { price = o.price; number = o.number; account = o.account; lots = lots; close = o.close; stamp = o.stamp; quote = o.quote }

-- "filled orders leave": what stays in the queue of an order with this remainder
unfoldable pub stays : Order → ℕ → List Order
stays o zero = []
stays o (suc n) = with_lots o (suc n) ∷ []

-- the trades of a sweep, in turn, and the opposite queue that it leaves
pub record Swept : Type 0 where
  pub trades : List Trade
  pub rest : List Order

abbrev pub untouched : List Order → Swept
untouched queue = record { trades = []; rest = queue }

abbrev pub after_trade : Trade → List Order → Swept → Swept
after_trade tr kept s = record { trades = tr ∷ s.trades; rest = kept ++ s.rest }

-- "Taken by price, then number, each trades the smaller remainder. The sweep stops at the first order that is no
-- counterpart, or when the lots are used up." "An account may meet its own order". The queue is best price first, then lower time
-- stamp (02, ticket 8): it is taken from its front. Each trade's price is the last price of the next.
unfoldable pub sweep : Taker → ℕ → ℕ → List Order → Swept
sweep t left last [] = untouched []
sweep t left last (o ∷ os) =
    pick (ltb 0 left && counterpart t o)
    (after_trade
    (trade_with t o left last)
    (stays o (o.lots - min left o.lots))
    (sweep t (left - min left o.lots) (trade_price t.method t.condition o.price last) os))
    (untouched (o ∷ os))

unfoldable pub traded_lots : List Trade → ℕ
traded_lots ts = sum_of (λ t. t.lots) ts

-- "The last price .. becomes each trade's price"
unfoldable pub last_price : ℕ → List Trade → ℕ
last_price last [] = last
last_price last (t ∷ ts) = last_price t.price ts

-- "A good-for-day remainder rests, and every later order moves one place back." It goes behind every order at its price or
-- better, and before the first at a worse one.
unfoldable pub rest_in : Bool → Order → List Order → List Order
rest_in sell o [] = o ∷ []
rest_in sell o (p ∷ ps) = pick (worse sell p.price o.price) (o ∷ p ∷ ps) (p ∷ rest_in sell o ps)

-- ---- an order entered: its trades, the lots that rest, its own queue and the opposite one after it

pub record Entered : Type 0 where
  pub trades : List Trade
  pub rested : ℕ
  pub own : List Order
  pub opposite : List Order

-- the order that rests, at its limit, with its time stamp and quote mark
unfoldable pub remainder : Taker → ℕ → ℕ → Order
remainder t price lots =
    record { price = price; number = t.number; account = t.account; lots = lots; close = t.close; stamp = t.stamp; quote = t.quote }

unfoldable pub rest_lots : Taker → ℕ → ℕ → List Order → List Order
rest_lots t price zero queue = queue
rest_lots t price (suc n) queue = rest_in t.sell (remainder t price (suc n)) queue

-- "A good-for-day remainder rests .. Other remainders vanish"
unfoldable pub rested_lots : Bool → ℕ → List Trade → ℕ
rested_lots goodForDay lots trades = pick goodForDay (lots - traded_lots trades) 0

-- "rest without matching" (document 02, ticket 4): the order rests with all its lots, whatever it crosses
unfoldable pub rest_whole : Taker → ℕ → ℕ → List Order → List Order → Entered
rest_whole t lots price own opposite = record { trades = []; rested = lots; own = rest_lots t price lots own; opposite = opposite }

unfoldable pub enter : Taker → ℕ → ℕ → Bool → ℕ → List Order → List Order → Entered
enter t lots price goodForDay last own opposite =
    record {
      trades = (sweep t lots last opposite).trades;
      rested = rested_lots goodForDay lots (sweep t lots last opposite).trades;
      own = rest_lots t price (rested_lots goodForDay lots (sweep t lots last opposite).trades) own;
      opposite = (sweep t lots last opposite).rest;
    }
