-- WHAT MAY HAPPEN TO A RESTING ORDER: the words of laws of every command on a well-formed state (`x` before, `y` after). The theorems stand
-- in proofs/RestingOrders.antt. Assumes nothing.
use Rattle.std.specs.Prelude.{Bool, true, false, not, ◌&&◌, ◌||◌, List, [], ◌∷◌, ◌++◌, ◌⊎◌, ◌≡◌, ℕ, ◌+◌, ◌≤◌, eqb, ltb}
use Rattle.laws.specs.Choice.{all_of, pick}
use Rattle.laws.specs.Sums.{sum_of}
use Rattle.rules.specs.Auction.{reaches}
use Rattle.rules.specs.Exchange.{Exchange, listing_at, listing_named, own, place_of}
use Rattle.rules.specs.Fairness.{account_on, order_on}
use Rattle.rules.specs.Matching.{with_lots}
use Rattle.rules.specs.Step.{has_number, is_of}
use Rattle.rules.specs.Touches.{QueuesAlone, orders_of}
use Rattle.rules.specs.declared.Order.{Order}
use Rattle.rules.specs.declared.Trade.{Trade}

-- ---- 4. A CANCEL TAKES OUT EXACTLY ONE ORDER, the account's own with that number, and changes nothing else.

-- a queue from which one order went: what stood before it and behind it stands there still
pub record OneGone (account number : ℕ) (before after : List Order) : Type 0 where
  pub front : List Order
  pub order : Order
  pub back : List Order
  pub was : before ≡ front ++ order ∷ back
  pub left : after ≡ front ++ back
  pub itsnumber : order.number ≡ number
  pub itsaccount : order.account ≡ place_of account

pub record CancelTakesOne (x : Exchange) (account contract number : ℕ) (y : Exchange) : Type 0 where
  -- the side on which it rested, the queue there, the other side's queue, and all else
  pub sell : Bool
  pub gone : OneGone account number (own sell (listing_named x contract)) (own sell (listing_named y contract))
  pub opposite : own (not sell) (listing_named y contract) ≡ own (not sell) (listing_named x contract)
  pub otherwise : QueuesAlone x (place_of contract) y

-- ---- 5. NOBODY REMOVES ANOTHER'S ORDER: whatever the command, settle aside, each order of an account that it does not name rests afterwards
-- as it did, or has lost exactly the lots that it traded in this command, at its limit or better for it. It stays ahead of every later order
-- at its price.

-- it is a trade of the account at place a, on this side of the contract at place c; and with its order of this number
abbrev pub is_of_account : ℕ → Bool → ℕ → Trade → Bool
is_of_account c sell a t = eqb t.contract c && eqb (account_on sell t) a

abbrev pub is_of_order : ℕ → Bool → ℕ → ℕ → Trade → Bool
is_of_order c sell a number t = is_of_account c sell a t && eqb (order_on sell t) number

-- the lots that the order has traded
unfoldable pub lots_traded_by : ℕ → Bool → ℕ → ℕ → List Trade → ℕ
lots_traded_by c sell a number ts = sum_of (λ t. pick (is_of_order c sell a number t) t.lots 0) ts

-- An account's orders before and after some trades, one by one in their order: an order is filled and gone, or rests with the lots that were
-- not traded, at least one, and is otherwise what it was: price, number, account, open or close, time stamp, quote mark. None is new.
abbrev pub Kept : (ℕ → ℕ) → List Order → List Order → Type 0
Kept traded [] after = after ≡ []
Kept traded (o ∷ os) after =
    ((traded o.number ≡ o.lots) × Kept traded os after)
    ⊎ ((lots : ℕ) × (ps : List Order) × (1 ≤ lots) × (lots + traded o.number ≡ o.lots) × (after ≡ with_lots o lots ∷ ps) × Kept traded os ps)

-- one of the orders satisfies a test
unfoldable pub some_order : (Order → Bool) → List Order → Bool
some_order test [] = false
some_order test (o ∷ os) = test o || some_order test os

-- a trade is with this order, at its limit or better for it
abbrev pub within_limit : Bool → Trade → Order → Bool
within_limit sell t o = has_number (order_on sell t) o && reaches sell t.price o

-- .. or, where it is one of the account, with one of these
abbrev pub at_its_limit : ℕ → Bool → ℕ → List Order → Trade → Bool
at_its_limit c sell a orders t = not (is_of_account c sell a t) || some_order (within_limit sell t) orders

pub record OrdersStay (a : ℕ) (x y : Exchange) : Type 0 where
  -- the trades made, recorded behind the day's earlier ones
  pub made : List Trade
  pub recorded : y.trades ≡ x.trades ++ made
  -- each order rests as it did or has lost the lots that it traded, in every contract and on each side
  pub kept : (c : ℕ) (sell : Bool) →
      Kept (λ number. lots_traded_by c sell a number made) (orders_of a (own sell (listing_at x c))) (orders_of a (own sell (listing_at y c)))
  -- at its limit or better for it
  pub limits : (c : ℕ) (sell : Bool) → all_of (at_its_limit c sell a (orders_of a (own sell (listing_at x c)))) made ≡ true
  -- and no order that came later, with a time stamp not below the next of before, stands ahead of it at its price
  pub ahead : (c : ℕ) (sell : Bool) (front : List Order) (o : Order) (back : List Order) → own sell (listing_at y c) ≡ front ++ o ∷ back → is_of a o ≡ true →
      all_of (λ p. not (eqb p.price o.price) || ltb p.stamp x.nextstamp) front ≡ true
