-- A clause carried from one state to the next where what it depends on has not changed. Assumes nothing.
use borrow.Author.Rules.{rules}
use Rattle.laws.specs.Logic.{true, List, ◌≡◌}
use Rattle.laws.specs.Numbers.{ℕ, ◌≤◌, length}
use Rattle.laws.specs.Choice.{all_of, all_of_imp}
use Rattle.rules.specs.Bounds.{allowed_today}
use Rattle.rules.specs.Exchange.{Exchange, listing_at}
use Rattle.rules.specs.WellFormed.{order_in_range, trade_in_range}
use Rattle.rules.specs.declared.{Contract.Contract, Order.Order, Trade.Trade}
use Rattle.invariants.proofs.Clauses.{order_ok, order_test_lem, trade_ok, trade_test}

-- the same prices are allowed
abbrev pub Allows : Contract → Contract → Type 0
Allows c d = (price : ℕ) → allowed_today c price ≡ true → allowed_today d price ≡ true

-- resting orders, for the same accounts, a later number, a later time stamp and a contract that allows their prices
pub orders_carried : (accounts next next' stamp stamp' : ℕ) (c d : Contract) → next ≤ next' → stamp ≤ stamp' → Allows c d →
    (queue : List Order) → all_of (order_in_range accounts next stamp c) queue ≡ true → all_of (order_in_range accounts next' stamp' d) queue ≡ true
orders_carried accounts next next' stamp stamp' c d later stamped allows queue =
    all_of_imp (order_in_range accounts next stamp c) (order_in_range accounts next' stamp' d) queue
    (λ o h.
    let k = order_ok accounts next stamp c o h in
    order_test_lem accounts next' stamp' d o
    (search rules depth 12))

-- recorded trades
module _ (x y : Exchange) (listings : length x.listings ≡ length y.listings) (accounts : length x.accounts ≡ length y.accounts)
    (later : x.next ≤ y.next) (allows : (c : ℕ) → Allows (listing_at x c).contract (listing_at y c).contract) where
  pub trades_carried : (ts : List Trade) → all_of (trade_in_range x) ts ≡ true → all_of (trade_in_range y) ts ≡ true
  trades_carried ts =
      all_of_imp (trade_in_range x) (trade_in_range y) ts
      (λ t h.
      let k = trade_ok x t h in
      trade_test y t
      (search rules depth 12))
