-- The contract after an order is entered, by an insert or by a change that loses its place: its last price is a tick multiple and its queues are in order. Assumes nothing.
use Rattle.laws.specs.Logic.{Bool, true, false, not, true≢false, false≢true, List, [], ◌∷◌, ◌≡◌, refl, sym, ◌∙◌}
use Rattle.laws.specs.Numbers.{ℕ, ◌+◌, ◌-◌, ◌<◌, ◌≤◌, arith, lt-ltb, ltb, length}
use Rattle.laws.specs.Choice.{all_of, all_of_imp}
use Rattle.laws.specs.Chains.{all_passed, join}
use Rattle.rules.specs.Answers.{is_good_for_day, is_limit, mark, listing_of, taker_of}
use Rattle.rules.specs.Bounds.{in_auction, phase_known, on_tick, tick_multiple, terms_in_range, allowed_today, day_low, day_high}
use Rattle.rules.specs.Exchange.{Exchange, place_of, own, opposite}
use Rattle.rules.specs.Matching.{Swept, traded_lots, last_price, remainder, rest_lots, rest_whole, rested_lots, enter}
use Rattle.rules.specs.Step.{with_last, limit_of, entered_of, listing_after}
use Rattle.rules.specs.WellFormed.{contract_in_range, order_in_range, sorted}
use Rattle.rules.specs.declared.{Contract.Contract, NewOrder.NewOrder, Order.Order, PriceCondition.PriceCondition, Trade.Trade}
use Rattle.rules.specs.declared.PriceCondition.TheVariants.{Limit, Market, Best}
use Rattle.theory.proofs.AuctionSteps.{entered_either}
use Rattle.theory.proofs.Fillable.{traded_nil}
use Rattle.theory.proofs.Prices.{swept_allowed, last_test, method_rounds}
use Rattle.theory.proofs.Rest.{rest_sorted, uncrossed_from, entered_uncrossed}
use Rattle.theory.proofs.Terms.{contract_terms, multiple, multiple_test}
use Rattle.invariants.proofs.Carry.{Allows, orders_carried}
use Rattle.invariants.proofs.Clauses.{order_ok, order_test_lem, ListingOk, WellFormed}
use Rattle.invariants.proofs.InsertAccepted.{Given, Passes}
use Rattle.invariants.proofs.InsertQueues.{SidesOk, listing_sides, sides_listing, rested_all, rested_sorted, rest_orders}
use Rattle.invariants.proofs.Marks.{Marks}
use Rattle.invariants.proofs.Ticks.{allowed_multiple}

-- ---- the contract with another last price

pub allows_last : (c : Contract) (last : ℕ) → Allows c (with_last c last)
unfolding allowed_today day_low day_high
allows_last c last price h = h

contract_last : (c : Contract) (last : ℕ) → contract_in_range c ≡ true → tick_multiple c.tick last ≡ true → contract_in_range (with_last c last) ≡ true
unfolding contract_in_range terms_in_range
contract_last c last h m =
    let p = all_passed (terms_in_range c) (phase_known c.phase ∷ tick_multiple c.tick c.last ∷ []) h in
    join (terms_in_range c) (phase_known c.phase ∷ tick_multiple c.tick last ∷ []) (p.0, (p.1.0, m))

pub last_multiple : (c : Contract) → contract_in_range c ≡ true → tick_multiple c.tick c.last ≡ true
unfolding contract_in_range
last_multiple c h = (all_passed (terms_in_range c) (phase_known c.phase ∷ tick_multiple c.tick c.last ∷ []) h).1.1

-- after trades at prices allowed today
pub contract_traded : (c : Contract) (ts : List Trade) → contract_in_range c ≡ true → all_of (λ t. allowed_today c t.price) ts ≡ true →
    contract_in_range (with_last c (last_price c.last ts)) ≡ true
contract_traded c ts h allowed =
    contract_last c (last_price c.last ts) h
    (last_test (tick_multiple c.tick) c.last ts (last_multiple c h)
    (all_of_imp (λ t. allowed_today c t.price) (λ t. tick_multiple c.tick t.price) ts
    (λ t k. multiple_test c.tick t.price (allowed_multiple c t.price k)) allowed))

-- ---- what rests

is_limit_lem : (condition : PriceCondition) → is_limit condition ≡ true → condition ≡ Limit (limit_of condition)
is_limit_lem (Limit limit) e = refl
is_limit_lem Market e = absurd (false≢true e)
is_limit_lem Best e = absurd (false≢true e)

rested_most : (gfd : Bool) (lots : ℕ) (ts : List Trade) → rested_lots gfd lots ts ≤ lots - traded_lots ts
unfolding rested_lots
rested_most true lots ts = omega arith
rested_most false lots ts = omega arith

rested_day : (gfd : Bool) (lots : ℕ) (ts : List Trade) → 0 < rested_lots gfd lots ts → gfd ≡ true
unfolding rested_lots
rested_day true lots ts h = refl
rested_day false lots ts h = absurd (omega arith)

pub mark_low : (close : Bool) → mark close ≤ 1
mark_low true = omega arith
mark_low false = omega arith

-- an order that may be entered in a well-formed state: with a number, the next one then, and a quote mark or none
pub record Enterable (x : Exchange) (number quote next : ℕ) (o : NewOrder) : Type 0 where
  pub formed : WellFormed x
  pub given : Given x number next
  pub passes : Passes x number o
  pub marks : Marks x quote o

module _ {x : Exchange} {number quote next : ℕ} {o : NewOrder} (entry : Enterable x number quote next o) where
  abbrev pub contract_of : Contract
  contract_of = (listing_of x o).contract

  abbrev pub mine : List Order
  mine = own o.sell (listing_of x o)

  abbrev pub others : List Order
  others = opposite o.sell (listing_of x o)

  -- its trades, the opposite queue after them, and the lots that rest
  abbrev pub swept : Swept
  swept = record { trades = (entered_of x number quote o).trades; rest = (entered_of x number quote o).opposite }

  abbrev pub rested : ℕ
  rested = (entered_of x number quote o).rested

  -- its own queue: in auction too, what rests does so at its place
  pub own_is : (entered_of x number quote o).own ≡ rest_lots (taker_of x number quote o) (limit_of o.condition) rested mine
  unfolding rest_whole enter
  own_is = entered_either x number quote o (λ e. e.own ≡ rest_lots (taker_of x number quote o) (limit_of o.condition) e.rested mine) (λ a. refl) (λ a. refl)

  pub listing_ok : ListingOk (length x.accounts) x.next x.nextstamp (listing_of x o)
  unfolding listing_of
  listing_ok = entry.formed.listing (place_of o.contract) entry.passes.contract

  pub sides : SidesOk (length x.accounts) x.next x.nextstamp contract_of o.sell mine others
  sides = listing_sides (length x.accounts) x.next x.nextstamp o.sell (listing_of x o) listing_ok

  pub last_on_tick : on_tick contract_of.tick contract_of.last ≡ true
  last_on_tick = (multiple contract_of.tick contract_of.last (last_multiple contract_of listing_ok.contract)).on_tick_lem

  pub tick_low : 1 ≤ contract_of.tick
  tick_low = (contract_terms contract_of listing_ok.contract).tick_low

  trade_prices : all_of (λ t. allowed_today contract_of t.price) swept.trades ≡ true
  unfolding rest_whole enter all_of taker_of
  trade_prices =
      entered_either x number quote o (λ e. all_of (λ t. allowed_today contract_of t.price) e.trades ≡ true) (λ a. refl)
      (λ a. swept_allowed contract_of tick_low (taker_of x number quote o) (method_rounds contract_of) o.lots contract_of.last others entry.passes.price last_on_tick
      (all_of_imp (order_in_range (length x.accounts) x.next x.nextstamp contract_of) (λ r. allowed_today contract_of r.price) others
      (λ r h. (order_ok (length x.accounts) x.next x.nextstamp contract_of r h).price) sides.others_orders))

  abbrev pub contract_after : Contract
  contract_after = with_last contract_of (last_price contract_of.last swept.trades)

  contract_ok : contract_in_range contract_after ≡ true
  contract_ok = contract_traded contract_of swept.trades listing_ok.contract trade_prices

  -- a remainder rests only at a limit, and only where the sweep stopped short of its lots
  limit_rests : 0 < rested → o.condition ≡ Limit (limit_of o.condition)
  unfolding rest_whole enter
  limit_rests =
      entered_either x number quote o (λ e. 0 < e.rested → o.condition ≡ Limit (limit_of o.condition))
      (λ a some. is_limit_lem o.condition (entry.passes.limited (entry.passes.rests a)))
      (λ a some. is_limit_lem o.condition (entry.passes.limited (rested_day (is_good_for_day o.time) o.lots _ some)))

  pub rested_left : rested ≤ o.lots - traded_lots swept.trades
  unfolding rest_whole enter
  rested_left =
      entered_either x number quote o (λ e. e.rested ≤ o.lots - traded_lots e.trades) (λ a. omega (arith, traded_nil))
      (λ a. rested_most (is_good_for_day o.time) o.lots _)

  remainder_ok : 0 < rested →
      order_in_range (length x.accounts) next (x.nextstamp + 1) contract_after (remainder (taker_of x number quote o) (limit_of o.condition) rested) ≡ true
  unfolding taker_of remainder
  remainder_ok some =
      order_test_lem (length x.accounts) next (x.nextstamp + 1) contract_after (remainder (taker_of x number quote o) (limit_of o.condition) rested)
      (record {
        lots_low = some;
        lots_high = omega (arith, rested_left, entry.passes.lots_high);
        account = entry.passes.account;
        price =
            allows_last contract_of (last_price contract_of.last swept.trades) (limit_of o.condition)
            (entry.passes.price (limit_of o.condition) (limit_rests some));
        number_low = entry.given.low;
        number_high = entry.given.below;
        close = mark_low o.close;
        stamp_low = entry.formed.nextstamp_low;
        stamp_high = omega arith;
        quote = entry.marks.low;
      })

  carried : (queue : List Order) → all_of (order_in_range (length x.accounts) x.next x.nextstamp contract_of) queue ≡ true →
      all_of (order_in_range (length x.accounts) next (x.nextstamp + 1) contract_after) queue ≡ true
  carried =
      orders_carried (length x.accounts) x.next next x.nextstamp (x.nextstamp + 1) contract_of contract_after entry.given.later (omega arith)
      (allows_last contract_of (last_price contract_of.last swept.trades))

  uncrossed_after : in_auction contract_of ≡ false → uncrossed_from o.sell (rest_lots (taker_of x number quote o) (limit_of o.condition) rested mine) swept.rest ≡ true
  unfolding taker_of rest_whole enter
  uncrossed_after =
      entered_either x number quote o
      (λ e. in_auction contract_of ≡ false → uncrossed_from o.sell (rest_lots (taker_of x number quote o) (limit_of o.condition) e.rested mine) e.opposite ≡ true)
      (λ a b. absurd (true≢false (sym a ∙ b)))
      (λ a b. entered_uncrossed (taker_of x number quote o) o.lots (limit_of o.condition) (is_good_for_day o.time) contract_of.last mine others
      (λ day. is_limit_lem o.condition (entry.passes.limited day)) sides.others_sorted (sides.sides_uncrossed b))

  left_sorted : sorted (not o.sell) swept.rest ≡ true
  unfolding rest_whole enter
  left_sorted =
      entered_either x number quote o (λ e. sorted (not o.sell) e.opposite ≡ true) (λ a. sides.others_sorted)
      (λ a. rest_sorted (not o.sell) (taker_of x number quote o) o.lots contract_of.last others sides.others_sorted)

  left_orders : all_of (order_in_range (length x.accounts) x.next x.nextstamp contract_of) swept.rest ≡ true
  unfolding rest_whole enter
  left_orders =
      entered_either x number quote o (λ e. all_of (order_in_range (length x.accounts) x.next x.nextstamp contract_of) e.opposite ≡ true) (λ a. sides.others_orders)
      (λ a. rest_orders (length x.accounts) x.next x.nextstamp contract_of (taker_of x number quote o) o.lots contract_of.last others sides.others_orders)

  sides_after : SidesOk (length x.accounts) next (x.nextstamp + 1) contract_after o.sell (rest_lots (taker_of x number quote o) (limit_of o.condition) rested mine) swept.rest
  unfolding taker_of
  sides_after =
      record {
        mine_sorted = rested_sorted (taker_of x number quote o) (limit_of o.condition) rested mine sides.mine_sorted
            (all_of_imp (order_in_range (length x.accounts) x.next x.nextstamp contract_of) (λ r. ltb r.stamp x.nextstamp) mine
            (λ r h. lt-ltb r.stamp x.nextstamp (order_ok (length x.accounts) x.next x.nextstamp contract_of r h).stamp_high) sides.mine_orders);
        others_sorted = left_sorted;
        sides_uncrossed = uncrossed_after;
        mine_orders =
            rested_all (taker_of x number quote o) (limit_of o.condition) _ rested mine remainder_ok
            (carried mine sides.mine_orders);
        others_orders = carried swept.rest left_orders;
      }

  pub listing_after_lem : ListingOk (length x.accounts) next (x.nextstamp + 1) (listing_after (listing_of x o) o.sell (entered_of x number quote o))
  unfolding listing_after
  listing_after_lem = rw own_is (sides_listing (length x.accounts) next (x.nextstamp + 1) o.sell contract_after _ _ contract_ok sides_after)
