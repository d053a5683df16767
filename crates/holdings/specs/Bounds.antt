-- Bounds on holdings, so that no sum of lots passes its width. Assumes nothing.
use Rattle.std.specs.Prelude.{List, ℕ, ◌*◌, ◌<◌, ◌≤◌}
use Rattle.rules.specs.Bounds.{max_limit}
use Rattle.rules.specs.Exchange.{holding_at}
use Rattle.rules.specs.declared.Account.{Account}
use Rattle.rules.specs.declared.Holding.{Holding}

-- What a match may find held, on either side: ten times the holding limit. What it books on top, and what the day's trades booked on the
-- limit come to (1,024 of 1,000 lots), stays below twice that, far from 32 bits.
abbrev pub held_most : ℕ
held_most = 10 * max_limit

abbrev pub booked_most : ℕ
booked_most = 2 * held_most

pub record HoldingWithin (b : ℕ) (h : Holding) : Type 0 where
  pub long : h.long ≤ b
  pub short : h.short ≤ b

-- in one contract, of the accounts in use: other places may hold anything
pub record HeldWithin (b used c : ℕ) (accounts : List Account) : Type 0 where
  pub each : (a : ℕ) → a < used → HoldingWithin b (holding_at accounts a c)
