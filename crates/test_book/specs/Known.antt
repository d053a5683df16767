-- What the examples know of the accounts. Assumes nothing.
use Rattle.std.specs.Prelude.{List, ℕ, ◌<◌, pos, length, get_or, replicate}
use Rattle.rules.specs.Bounds.{max_accounts, max_contracts}
use Rattle.rules.specs.Exchange.{no_holding, no_order}
use Rattle.rules.specs.declared.Account.{Account}
use Rattle.rules.specs.declared.Order.{Order}

-- the accounts of a queue's orders
pub record AccountsKnown (queue : List Order) : Type 0 where
  pub each : (i : ℕ) → i < length queue → (get_or queue i no_order).account < max_accounts

-- 32 accounts that hold nothing
unfoldable pub no_holdings : List Account
no_holdings = replicate max_accounts (record { balance = pos 0; maker = 0; holdings = replicate max_contracts no_holding })
