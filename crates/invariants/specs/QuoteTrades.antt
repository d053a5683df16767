-- Which of a quote's two orders trade (document 02, ticket 7): the words of `one_order_trades` (proofs/QuoteTrades). Assumes nothing.
use Rattle.std.specs.Prelude.{List, [], ◌++◌, ◌⊎◌, ◌≡◌}
use Rattle.rules.specs.Exchange.{Exchange}
use Rattle.rules.specs.Quote.{Offered, buy_entered, sell_entered}

-- the buy enters a book whose best buy is below its best sell, and the sell stands above the buy; y is the state that the quote leaves of x
pub record OneOrderTrades (x : Exchange) (q : Offered) (y : Exchange) : Type 0 where
  -- At most one of the two orders of a quote trades.
  pub one : ((buy_entered x q).trades ≡ []) ⊎ ((sell_entered x q).trades ≡ [])
  -- So the trades that it records are its buy's alone, or its sell's alone.
  pub recorded : (y.trades ≡ x.trades ++ (buy_entered x q).trades) ⊎ (y.trades ≡ x.trades ++ (sell_entered x q).trades)
