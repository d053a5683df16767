-- What of one queue is taken out, and what that leaves, for the contract. Assumes nothing.
use Rattle.std.specs.Prelude.{Bool, true, false, List, ◌≡◌, ℕ, length}
use Rattle.rules.specs.Exchange.{lots_where}
use Rattle.rules.specs.Memory.{queue_in, put_queue}
use Rattle.rules.specs.Step.{without, is_of}
use Rattle.rules.specs.WellFormed.{is_quote_of}
use Rattle.rules.specs.declared.Order.{Order}

-- the orders of an account, or those of its quote alone
abbrev pub is_pulled : Bool → ℕ → Order → Bool
is_pulled true account = is_quote_of account
is_pulled false account = is_of account

-- contract c's queue of n orders without those that satisfy a test: the area, the orders that stay, the lots taken out
pub record RemovedIs (test : Order → Bool) (area : List ℕ) (c n stay gone : ℕ) (area' : List ℕ) : Type 0 where
  pub queue : area' ≡ put_queue area c n (without test (queue_in area c n))
  pub count : stay ≡ length (without test (queue_in area c n))
  pub lots : gone ≡ lots_where test (queue_in area c n)
