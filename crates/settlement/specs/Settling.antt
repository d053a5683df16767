-- What a settlement asks for, what it gives back, and its parts as the code makes them, on the state as it lies. Assumes nothing.
use Rattle.std.specs.Prelude.{true, false, List, [], map, ◌≡◌, ℕ, ◌+◌, ◌-◌, ◌*◌, ◌<◌, ◌≤◌, ℤ, pos, ◌*ℤ◌, length, get_or, take}
use Rattle.laws.specs.Bound.{Within}
use Rattle.laws.specs.Sums.{sum_to}
use Rattle.laws.specs.Tabulate.{tabulate}
use Rattle.areas.specs.Lists.{padded}
use Rattle.rules.specs.Kinds.{code_of}
use Rattle.rules.specs.Bounds.{max_contracts, max_accounts, max_resting, max_trades, max_multiplier, balance_most}
use Rattle.rules.specs.Exchange.{Exchange, contract_at, holder_at, held_at, no_account, no_contract, no_holding}
use Rattle.rules.specs.Margin as margin
use Rattle.rules.specs.Memory.{Declared, Memory, exchange_of, in_use, put, put_accounts, put_first, put_queues, put_trades, recorded_trades, memory, WellFormedState, queue_stride, trade_stride}
use Rattle.rules.specs.Settlement.{settlement_price, closing_profit, holding_profit, carried_holding, settled_account, settled_contract, settled}
use Rattle.rules.specs.declared.Account.{Account}
use Rattle.rules.specs.declared.Command.TheVariants.{Settle}
use Rattle.rules.specs.declared.Contract.{Contract}
use Rattle.rules.specs.declared.Holding.{Holding}
use Rattle.rules.specs.declared.State.{State}
use Rattle.margin.specs.Charge.{ChargeableAt}
use Rattle.dayprofit.specs.Day.{Priceable}
use Rattle.dayprofit.specs.Sides.{Profitable, side_from, closing_from, holding_from, profit_most}
use Rattle.dayprofit.specs.Slots.{slot_of, PlacedTrades, sums_at, DaySmall}
use Rattle.dayprofit.specs.declared.profit.Profit.{Profit}
use Rattle.dayprofit.specs.declared.profit.Side.{Side}
use Rattle.settlement.specs.declared.balances.Books.{Books}
use Rattle.settlement.specs.declared.balances.Priced.{Priced}
use Rattle.settlement.specs.declared.settle.Settled.{Settled}

-- ---- THE SETTLEMENT: asked for on a well-formed state whose answer is code 0

pub record Settleable (s : State) (buys sells trades : List ℕ) : Type 0 where
  pub state : WellFormedState s buys sells trades
  pub accepted : code_of (exchange_of (memory s buys sells trades)) Settle ≡ 0

-- the state and all three areas; the prices, each account's closing and holding profit, and its charged margin afterwards,
-- with zeros past the counts
pub record SettledIs (m : Memory) (r : Settled) (buys sells trades : List ℕ) : Type 0 where
  pub memory : memory r.state buys sells trades ≡ put m (settled (exchange_of m))
  pub prices : r.prices ≡ padded max_contracts 0 (tabulate m.state.contractcount (settlement_price (exchange_of m)))
  pub closing : r.closing ≡ padded max_accounts (pos 0) (tabulate m.state.accountcount (closing_profit (exchange_of m)))
  pub holding : r.holding ≡ padded max_accounts (pos 0) (tabulate m.state.accountcount (holding_profit (exchange_of m)))
  pub charged : r.charged ≡ padded max_accounts 0 (tabulate m.state.accountcount (margin.charged (settled (exchange_of m))))

-- ---- its parts, on the state as it lies

abbrev pub account_in : State → ℕ → Account
account_in s a = get_or s.accounts a no_account

-- the settlement prices of the contracts in use, with zeros past their count
abbrev pub prices_due : State → List ℕ → List ℕ → List ℕ → List ℕ
prices_due s buys sells trades = padded max_contracts 0 (tabulate s.contractcount (settlement_price (exchange_of (memory s buys sells trades))))

-- every contract in use can be priced
pub record AllPriceable (s : State) (buys sells trades : List ℕ) : Type 0 where
  pub few : s.contractcount ≤ max_contracts
  pub each : (c : ℕ) → c < s.contractcount
      → Priceable (get_or s.contracts c no_contract) buys (get_or s.buycounts c 0) sells (get_or s.sellcounts c 0) trades s.tradecount c

-- an exchange whose contracts and accounts in use, trades and settlement prices are these
pub record HasDay (x : Exchange) (s : State) (trades prices : List ℕ) : Type 0 where
  pub count : length x.listings ≡ s.contractcount
  pub terms : (c : ℕ) → c < s.contractcount → contract_at x c ≡ get_or s.contracts c no_contract
  pub price : (c : ℕ) → c < s.contractcount → settlement_price x c ≡ get_or prices c 0
  pub holder : (a : ℕ) → a < s.accountcount → holder_at x a ≡ in_use s.contractcount (account_in s a)
  pub day : x.trades ≡ recorded_trades trades s.tradecount

-- the contracts in use as they are settled: their terms and settlement prices
abbrev pub priced_in : State → List ℕ → Priced
priced_in s prices = record { contracts = s.contracts; prices = prices; count = s.contractcount }

abbrev pub terms_of : Priced → ℕ → Contract
terms_of p c = get_or p.contracts c no_contract

abbrev pub price_of : Priced → ℕ → ℕ
price_of p c = get_or p.prices c 0

abbrev pub held_by : Account → ℕ → Holding
held_by holder c = get_or holder.holdings c no_holding

-- an account's closing and holding part in a contract, from the sums of the day's legs
abbrev pub long_in : Account → Priced → List ℕ → List ℕ → List ℕ → List ℕ → List ℕ → ℕ → ℕ → Side
long_in holder p closed closes opened opens used a c = side_from (terms_of p c).reference (held_by holder c).startlong (sums_at closed closes opened opens used a c false)

abbrev pub short_in : Account → Priced → List ℕ → List ℕ → List ℕ → List ℕ → List ℕ → ℕ → ℕ → Side
short_in holder p closed closes opened opens used a c = side_from (terms_of p c).reference (held_by holder c).startshort (sums_at closed closes opened opens used a c true)

abbrev pub closing_in : Account → Priced → List ℕ → List ℕ → List ℕ → List ℕ → List ℕ → ℕ → ℕ → ℤ
closing_in holder p closed closes opened opens used a c = closing_from (long_in holder p closed closes opened opens used a c) (short_in holder p closed closes opened opens used a c)

abbrev pub holding_part : Account → Priced → List ℕ → List ℕ → List ℕ → List ℕ → List ℕ → ℕ → ℕ → ℤ
holding_part holder p closed closes opened opens used a c = holding_from (price_of p c) (long_in holder p closed closes opened opens used a c) (short_in holder p closed closes opened opens used a c)

pub record Totallable (holder : Account) (p : Priced) (closed closes opened opens used : List ℕ) (a : ℕ) : Type 0 where
  pub account : a < max_accounts
  pub contracts : p.count ≤ max_contracts
  pub multiplier : (c : ℕ) → c < p.count → (terms_of p c).multiplier ≤ max_multiplier
  pub each : (c : ℕ) → c < p.count → DaySmall closed closes opened opens used a c (terms_of p c).reference (held_by holder c) (price_of p c)

-- a part of an account's profit over all contracts
abbrev pub account_profit_most : ℕ
account_profit_most = max_contracts * max_multiplier * profit_most

pub record TotalFrom (holder : Account) (p : Priced) (closed closes opened opens used : List ℕ) (a : ℕ) (r : Profit) : Type 0 where
  pub closing : r.closing ≡ sum_to p.count (λ c. pos (terms_of p c).multiplier *ℤ closing_in holder p closed closes opened opens used a c)
  pub holding : r.holding ≡ sum_to p.count (λ c. pos (terms_of p c).multiplier *ℤ holding_part holder p closed closes opened opens used a c)
  pub closing_small : Within account_profit_most r.closing
  pub holding_small : Within account_profit_most r.holding

-- the lots that the closes of each account in use took of today's: start-of-day lots go first
pub record AllDue (s : State) (closed left : List ℕ) : Type 0 where
  pub long : (a c : ℕ) → a < s.accountcount → c < max_contracts → get_or left (slot_of a c false) 0 ≡ get_or closed (slot_of a c true) 0 - (held_by (account_in s a) c).startlong
  pub short : (a c : ℕ) → a < s.accountcount → c < max_contracts → get_or left (slot_of a c true) 0 ≡ get_or closed (slot_of a c false) 0 - (held_by (account_in s a) c).startshort

-- an account with a new balance: "holdings become start-of-day"
abbrev pub carried_account : Account → ℕ → ℤ → Account
carried_account a contracts balance = record { balance = balance; maker = a.maker; holdings = map carried_holding (take contracts a.holdings) }

-- all that the accounts' profit is worked out from: an exchange with this day, its values in range
pub record AllPayable (s : State) (trades prices : List ℕ) : Type 0 where
  pub declared : Declared s
  pub accounts : s.accountcount ≤ max_accounts
  pub contracts : s.contractcount ≤ max_contracts
  pub placed : PlacedTrades trades s.tradecount
  pub exchange : Exchange
  pub has : HasDay exchange s trades prices
  pub balance : (a : ℕ) → a < s.accountcount → Within balance_most (holder_at exchange a).balance
  pub multiplier : (c : ℕ) → c < s.contractcount → (contract_at exchange c).multiplier ≤ max_multiplier
  pub each : (a c : ℕ) → a < s.accountcount → c < s.contractcount
      → Profitable (contract_at exchange c).reference (held_at exchange a c) a c trades s.tradecount (settlement_price exchange c)

-- the accounts after a settlement of the exchange, and each one's profit
pub record BooksOf (x : Exchange) (s : State) (r : Books) : Type 0 where
  pub accounts : r.accounts ≡ put_accounts (tabulate s.accountcount (settled_account x)) s.accounts
  pub closing : r.closing ≡ padded max_accounts (pos 0) (tabulate s.accountcount (closing_profit x))
  pub holding : r.holding ≡ padded max_accounts (pos 0) (tabulate s.accountcount (holding_profit x))

-- of any exchange with this day
pub record BooksIs (s : State) (trades prices : List ℕ) (r : Books) : Type 0 where
  pub books : (x : Exchange) → HasDay x s trades prices → BooksOf x s r

-- the queues of the contracts in use, in room for them
pub record Clearable (area cs : List ℕ) (n : ℕ) : Type 0 where
  pub few : n ≤ max_contracts
  pub counts : (c : ℕ) → c < n → get_or cs c 0 ≤ max_resting
  pub room : queue_stride * n ≤ length area

pub record AllClearable (s : State) (bids offers day : List ℕ) : Type 0 where
  pub buys : Clearable bids s.buycounts s.contractcount
  pub sells : Clearable offers s.sellcounts s.contractcount
  pub few : s.tradecount ≤ max_trades
  pub trades : trade_stride * s.tradecount ≤ length day

-- no order and no trade left
pub record ClearedAre (s : State) (bids offers day bids' offers' day' : List ℕ) : Type 0 where
  pub buys : bids' ≡ put_queues bids s.buycounts (λ c. []) s.contractcount
  pub sells : offers' ≡ put_queues offers s.sellcounts (λ c. []) s.contractcount
  pub trades : day' ≡ put_trades day s.tradecount []

-- every account in use can be charged
pub record AllChargeable (s : State) (buys sells : List ℕ) : Type 0 where
  pub accounts : s.accountcount ≤ max_accounts
  pub each : (a : ℕ) → a < s.accountcount → ChargeableAt s buys sells a

pub record ChargesAre (s : State) (buys sells : List ℕ) (r : List ℕ) : Type 0 where
  pub charged : (trades : List ℕ) → r ≡ padded max_accounts 0 (tabulate s.accountcount (margin.charged (exchange_of (memory s buys sells trades))))

-- the state of the next day, its accounts and prices given
abbrev pub next_day : State → List Account → List ℕ → State
next_day s accounts prices =
    record {
      contracts = put_first (tabulate s.contractcount (λ c. settled_contract (get_or s.contracts c no_contract) (get_or prices c 0))) s.contracts;
      accounts = accounts;
      buycounts = put_first (tabulate s.contractcount (λ c. 0)) s.buycounts;
      sellcounts = put_first (tabulate s.contractcount (λ c. 0)) s.sellcounts;
      contractcount = s.contractcount;
      accountcount = s.accountcount;
      tradecount = 0;
      next = 1;
      nextstamp = 1;
      settlements = s.settlements + 1;
    }
