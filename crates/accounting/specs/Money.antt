-- What the theorems on money speak of beside Condition3.antt: what trades bring in, and that they are between accounts in use.
-- Assumes nothing.
use Rattle.std.specs.Prelude.{List, [], ◌∷◌, ℕ, ◌<◌, ℤ, pos, ◌-ℤ◌}
use Rattle.rules.specs.Condition3.{sales, costs}
use Rattle.rules.specs.Exchange.{Exchange, holding_at}
use Rattle.rules.specs.declared.Trade.{Trade}

-- what an account's trades in a contract sold for less what they cost, before the multiplier
unfoldable pub proceeds : ℕ → ℕ → List Trade → ℤ
proceeds a c ts = pos (sales a c ts) -ℤ pos (costs a c ts)

-- long less short, at the start of the day and now
unfoldable pub net_at_start : Exchange → ℕ → ℕ → ℤ
net_at_start x a c = pos (holding_at x.accounts a c).startlong -ℤ pos (holding_at x.accounts a c).startshort

unfoldable pub net_now : Exchange → ℕ → ℕ → ℤ
net_now x a c = pos (holding_at x.accounts a c).long -ℤ pos (holding_at x.accounts a c).short

-- buyer and seller of each trade are among so many accounts
unfoldable pub AllKnown : ℕ → List Trade → Type 0
AllKnown accounts [] = Unit {0}
AllKnown accounts (t ∷ ts) = ((t.buyer < accounts) × (t.seller < accounts)) × AllKnown accounts ts
