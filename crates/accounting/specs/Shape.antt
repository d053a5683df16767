-- "The state keeps, for each account and each contract, long and short holdings": that each account has a place for each
-- contract. The declared arrays have four places, no fewer than a well-formed state has contracts, but a list in a definition
-- has any length. Assumes nothing.
use Rattle.std.specs.Prelude.{ℕ, ◌<◌, List, ◌≡◌, length}
use Rattle.rules.specs.Exchange.{Exchange, account_at}
use Rattle.rules.specs.declared.Account.{Account}

-- account a is in use, and holds contract c
pub record Placed (accounts : List Account) (a c : ℕ) : Type 0 where
  pub account : a < length accounts
  pub contract : c < length (account_at accounts a).holdings

unfoldable pub Shaped : Exchange → Type 0
Shaped x = (a : ℕ) → a < length x.accounts → length (account_at x.accounts a).holdings ≡ length x.listings
