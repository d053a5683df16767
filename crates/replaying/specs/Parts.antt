-- What a replay asks for and gives back. Assumes nothing.
use Rattle.std.specs.Prelude.{List, Option, is_some, IfSome, ◌≡◌, ℕ, ◌*◌, ◌<◌, ◌≤◌, length, get_or}
use Rattle.rules.specs.Bounds.{max_trades, max_contracts, max_accounts, max_lots, max_limit}
use Rattle.rules.specs.Exchange.{holding_at, no_trade}
use Rattle.rules.specs.Holdings.{book_trades, never_below_zero}
use Rattle.rules.specs.Memory.{recorded_trades, used, trade_stride}
use Rattle.rules.specs.declared.Account.{Account}
use Rattle.rules.specs.declared.Trade.{Trade}

-- a trade of contracts and accounts in use, of no more lots than an order has
pub record Booked (contracts accounts : ℕ) (t : Trade) : Type 0 where
  pub contract : t.contract < contracts
  pub buyer : t.buyer < accounts
  pub seller : t.seller < accounts
  pub lots : t.lots ≤ max_lots

-- accounts as they stand before the first of the trades, the first `accountcount` of them in use
pub record Replayable (accounts : List Account) (contracts accountcount : ℕ) (area : List ℕ) (count : ℕ) : Type 0 where
  pub few : contracts ≤ max_contracts
  pub fit : accountcount ≤ max_accounts
  pub trades : count ≤ max_trades
  pub room : trade_stride * count ≤ length area
  pub each : (i : ℕ) → i < count → Booked contracts accountcount (get_or (recorded_trades area count) i no_trade)
  pub held : (a c : ℕ) → a < accountcount → c < contracts → ((holding_at accounts a c).long ≤ max_limit) × ((holding_at accounts a c).short ≤ max_limit)

-- All accounts after the trades, and none where a close is of more than is held. Of the accounts and the contracts in use that is the
-- rules' replay.
pub record ReplayIs (accounts : List Account) (contracts accountcount : ℕ) (area : List ℕ) (count : ℕ) (r : Option (List Account)) : Type 0 where
  pub covered : is_some r ≡ never_below_zero (used contracts accountcount accounts) (recorded_trades area count)
  pub accounts_are : IfSome r (λ l. l ≡ book_trades accounts (recorded_trades area count))
  pub held : IfSome r (λ l. used contracts accountcount l ≡ book_trades (used contracts accountcount accounts) (recorded_trades area count))
