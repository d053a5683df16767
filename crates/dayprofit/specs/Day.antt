-- What the functions that read the day's trades and quotes ask for, in the ranges of a well-formed state, and what they give
-- back. Assumes nothing.
use Rattle.std.specs.Prelude.{List, [], ◌∷◌, ◌≡◌, ℕ, ◌*◌, ◌<◌, ◌≤◌, length}
use Rattle.rules.specs.Bounds.{max_price, max_lots, max_trades, max_contracts}
use Rattle.rules.specs.Exchange.{Exchange, listing_at}
use Rattle.rules.specs.Matching.{traded_lots}
use Rattle.rules.specs.Memory.{queue_in, recorded_trades, trade_stride, first_word}
use Rattle.rules.specs.Settlement.{traded_value, settlement_price}
use Rattle.rules.specs.declared.Contract.{Contract}
use Rattle.rules.specs.declared.Trade.{Trade}
use Rattle.dayprofit.specs.declared.price.Turnover.{Turnover}

pub record Sized (t : Trade) : Type 0 where
  pub price : t.price ≤ max_price
  pub some : 1 ≤ t.lots
  pub lots : t.lots ≤ max_lots

unfoldable pub AllSized : List Trade → Type 0
AllSized [] = Unit {0}
AllSized (t ∷ ts) = Sized t × AllSized ts

-- a day's trades
pub record SizedDay (ts : List Trade) : Type 0 where
  pub few : length ts ≤ max_trades
  pub sized : AllSized ts

-- the trades recorded in an area
pub record SizedTrades (area : List ℕ) (count : ℕ) : Type 0 where
  pub few : count ≤ max_trades
  pub room : trade_stride * count ≤ length area
  pub sized : AllSized (recorded_trades area count)

pub record TurnoverIs (ts : List Trade) (r : Turnover) : Type 0 where
  pub value : r.value ≡ traded_value ts
  pub lots : r.lots ≡ traded_lots ts

-- room for the orders of both queues
pub record Quotes (buys : List ℕ) (buycount : ℕ) (sells : List ℕ) (sellcount c : ℕ) : Type 0 where
  pub buyroom : first_word c buycount ≤ length buys
  pub sellroom : first_word c sellcount ≤ length sells

-- all that the settlement price of contract c is worked out from
pub record Priceable (contract : Contract) (buys : List ℕ) (buycount : ℕ) (sells : List ℕ) (sellcount : ℕ) (area : List ℕ) (count c : ℕ) : Type 0 where
  pub tick : 0 < contract.tick
  pub place : c < max_contracts
  pub trades : SizedTrades area count
  pub quotes : Quotes buys buycount sells sellcount c

-- that price, in any exchange with this listing and these trades
abbrev pub PriceIs : Contract → List ℕ → ℕ → List ℕ → ℕ → List ℕ → ℕ → ℕ → ℕ → Type 0
PriceIs contract buys buycount sells sellcount area count c r =
    (x : Exchange) → listing_at x c ≡ record { contract = contract; buys = queue_in buys c buycount; sells = queue_in sells c sellcount }
    → x.trades ≡ recorded_trades area count → r ≡ settlement_price x c
