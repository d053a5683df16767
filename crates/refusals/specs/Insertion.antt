-- An arriving order as the code reads it: the queue that it meets, its account and contract in use. Assumes nothing.
use Rattle.std.specs.Prelude.{true, false, not, List, ◌≡◌, ℕ, ◌<◌, ◌≤◌, length}
use Rattle.rules.specs.Answers.{listing_of, named_refusals, not_continuous, opposite_queue, own_queue, taker_of}
use Rattle.rules.specs.Bounds.{max_resting}
use Rattle.rules.specs.Exchange.{Exchange, best_price, is_absent, place_of}
use Rattle.rules.specs.WellFormed.{sorted}
use Rattle.rules.specs.declared.Contract.{Contract}
use Rattle.rules.specs.declared.NewOrder.{NewOrder}
use Rattle.rules.specs.declared.Order.{Order}
use Rattle.rules.specs.declared.State.{State}
use Rattle.rules.specs.declared.Taker.{Taker}
use Rattle.engine.specs.Outcome.{CodeIn}
use Rattle.engine.specs.declared.updates.Listed.{Listed}

-- an arriving order and the opposite queue, best price first
pub record Facing (t : Taker) (queue : List Order) : Type 0 where
  pub few : length queue ≤ max_resting
  pub order : sorted (not t.sell) queue ≡ true
  pub best : t.best ≡ best_price queue

-- an exchange in which the order meets that queue so: what 10 to 13 read of it
pub record MeetsQueue (x : Exchange) (o : NewOrder) (l : Listed) (terms : Contract) (own : ℕ) (t : Taker) (queue : List Order) : Type 0 where
  pub next : x.next ≡ l.next
  pub nextstamp : x.nextstamp ≡ l.nextstamp
  pub recorded : length x.trades ≡ l.recorded
  pub contract : (listing_of x o).contract ≡ terms
  pub own_side : length (own_queue x o) ≡ own
  pub opposite_side : opposite_queue x o ≡ queue
  pub taker : taker_of x x.next 0 o ≡ t

-- an order whose account and contract are in use
pub record Present (s : State) (o : NewOrder) : Type 0 where
  pub account_low : 1 ≤ o.account
  pub account : place_of o.account < s.accountcount
  pub contract_low : 1 ≤ o.contract
  pub contract : place_of o.contract < s.contractcount

-- 2, 3 and 4 of a kind "in continuous only"; code 0 says that its account is in use
pub record ContinuousIs (s : State) (account contract code : ℕ) : Type 0 where
  pub first : CodeIn s (λ x. named_refusals x not_continuous account contract) code
  pub account_in_use_lem : code ≡ 0 → is_absent account s.accountcount ≡ false
