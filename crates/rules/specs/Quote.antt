-- Quotes from market makers (document 02, ticket 7). Assumes nothing.
use Rattle.std.specs.Prelude.{Bool, true, false, not, List, [], ◌∷◌, ◌++◌, ℕ, ◌+◌, ltb, eqb}
use Rattle.laws.specs.Choice.{pick}
use Rattle.rules.specs.Answers.{Refusal, ◌when◌, day_limit_order, named_refusals, not_continuous, order_refusals}
use Rattle.rules.specs.Exchange.{Exchange, listing_named, holder_of, place_of}
use Rattle.rules.specs.Matching.{Entered, traded_lots}
use Rattle.rules.specs.Step.{Effect, with_listing, listing_without, entered_of, exchange_after}
use Rattle.rules.specs.WellFormed.{is_quote_of}
use Rattle.rules.specs.declared.Account.{Account}
use Rattle.rules.specs.declared.NewOrder.{NewOrder}
use Rattle.rules.specs.declared.Trade.{Trade}

-- account, contract, "equal lots", the buy price and the sell price
pub record Offered : Type 0 where
  pub account : ℕ
  pub contract : ℕ
  pub lots : ℕ
  pub buy : ℕ
  pub sell : ℕ

abbrev pub offered : ℕ → ℕ → ℕ → ℕ → ℕ → Offered
offered account contract lots buy sell = record { account = account; contract = contract; lots = lots; buy = buy; sell = sell }

-- "a buy and a sell good-for-day limit open with equal lots"
unfoldable pub half : Offered → Bool → NewOrder
half q sell = day_limit_order q.account q.contract sell false q.lots (pick sell q.sell q.buy)

abbrev pub buy_of : Offered → NewOrder
buy_of q = half q false

abbrev pub sell_of : Offered → NewOrder
sell_of q = half q true

-- ---- the steps

-- "The account's earlier quote in that contract .. is removed first": whatever is still marked
abbrev pub without_quote_of : Exchange → ℕ → ℕ → Exchange
without_quote_of x account contract =
    with_listing x (place_of contract) (listing_without (is_quote_of (place_of account)) (listing_named x contract))

unfoldable pub without_quote : Exchange → Offered → Exchange
without_quote x q = without_quote_of x q.account q.contract

-- an order of a quote entered, marked, with the next number
abbrev pub entered_marked : Exchange → NewOrder → Entered
entered_marked x o = entered_of x x.next 1 o

abbrev pub after_marked : Exchange → NewOrder → Exchange
after_marked x o = exchange_after x o (entered_marked x o) (x.next + 1)

-- "then the buy is inserted, then the sell, on the state each step leaves"
unfoldable pub with_buy : Exchange → Offered → Exchange
with_buy x q = after_marked (without_quote x q) (buy_of q)

unfoldable pub with_sell : Exchange → Offered → Exchange
with_sell x q = after_marked (with_buy x q) (sell_of q)

abbrev pub buy_entered : Exchange → Offered → Entered
buy_entered x q = entered_marked (without_quote x q) (buy_of q)

abbrev pub sell_entered : Exchange → Offered → Entered
sell_entered x q = entered_marked (with_buy x q) (sell_of q)

-- ---- "Refusals: after 4, code 23 if not a maker, then 24 if buy is not below sell, then the buy's code from 5 on, then the sell's."

-- 23 and 24, before its orders are looked at
abbrev pub offer_refusals : Account → ℕ → ℕ → List Refusal
offer_refusals a buy sell =
    (23 when not (eqb a.maker 1))
    ∷ (24 when not (ltb buy sell))
    ∷ []

unfoldable pub quote_refusals : Exchange → Offered → List Refusal
quote_refusals x q =
    named_refusals x not_continuous q.account q.contract
    ++ offer_refusals (holder_of x q.account) q.buy q.sell
    ++ order_refusals (without_quote x q) (buy_of q)
    ++ order_refusals (with_buy x q) (sell_of q)

-- ---- "The C line gives the buy's number; its lots are summed over both." "a place in use only between the steps is set to zero":
-- each state is written over the last

unfoldable pub quoted : Exchange → Offered → Effect
quoted x q =
    record {
      number = x.next;
      traded = traded_lots (buy_entered x q).trades + traded_lots (sell_entered x q).trades;
      lots = (buy_entered x q).rested + (sell_entered x q).rested;
      stages = without_quote x q ∷ with_buy x q ∷ with_sell x q ∷ [];
    }

-- the trades that it makes, the buy's before the sell's
unfoldable pub quote_trades : Exchange → Offered → List Trade
quote_trades x q = (buy_entered x q).trades ++ (sell_entered x q).trades
