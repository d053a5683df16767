-- An order that is entered keeps a state well formed: its trades, what rests of it, the number it has and the time stamp it took; in
-- auction it rests whole. An accepted insert enters its order with the next number.
-- Assumes nothing.
use Rattle.laws.specs.Logic.{Bool, true, false, not, ◌&&◌, true≢false, List, [], ◌∷◌, ◌≡◌, refl, sym, ap, subst, ◌∙◌}
use Rattle.laws.specs.Numbers.{ℕ, ◌+◌, ◌-◌, ◌<◌, ◌≤◌, le_refl, arith, eqb-true, leb-true, leb-false, eqb, leb, length}
use Rattle.laws.specs.Choice.{pick, all_of, by_test, for_either}
use Rattle.laws.specs.Sums.{sum_of, sum_of_at}
use Rattle.rules.specs.Answers.{first_of, insert_refusals, is_good_for_day, mark, listing_of, taker_of, fillable_lots}
use Rattle.rules.specs.Bounds.{in_auction, max_resting}
use Rattle.rules.specs.Exchange.{Exchange, Listing, listing_at, holding_at, no_listing, place_of, own, opposite, with_queues, resting_opens, resting_closes}
use Rattle.rules.specs.Holdings.{book_trades}
use Rattle.rules.specs.Kinds.{last_of}
use Rattle.rules.specs.Matching.{Swept, fillable, traded_lots, remainder, rest_lots, rest_whole, rested_lots, enter}
use Rattle.rules.specs.Step.{with_trades, limit_of, entered_of, listing_after, exchange_after, inserted}
use Rattle.rules.specs.WellFormed.{all_listed, order_in_range, trade_in_range, number_of, stamp_of, used_once}
use Rattle.rules.specs.declared.{Account.Account, Contract.Contract, Holding.Holding, NewOrder.NewOrder, Order.Order}
use Rattle.theory.proofs.AuctionSteps.{entered_either, entered_elsewhere, trades_needed_lem}
use Rattle.theory.proofs.Fillable.{swept_fillable}
use Rattle.theory.proofs.Holdings.{booked_start_holding}
use Rattle.theory.proofs.Prices.{method_rounds}
use Rattle.theory.proofs.Rest.{rest_sum, length_rest}
use Rattle.theory.proofs.Sweep.{of_contract, swept_contract}
use Rattle.invariants.proofs.Carry.{Allows}
use Rattle.invariants.proofs.Clauses.{held, HoldingOk, MarksOk, WellFormed, Counted}
use Rattle.invariants.proofs.InsertAccepted.{Given, Passes, next_given, numbered, passes}
use Rattle.invariants.proofs.InsertListing.{Enterable, allows_last, mark_low, contract_of, swept, rested, own_is, sides, last_on_tick, tick_low, contract_after, rested_left, listing_after_lem}
use Rattle.invariants.proofs.InsertQueues.{rested_sum, rested_length, rested_length_one, rested_fewer}
use Rattle.invariants.proofs.Legs.{resting_cons, KeptAt}
use Rattle.invariants.proofs.Marks.{Marks, no_mark, rested_marks, swept_marks}
use Rattle.invariants.proofs.Numbers.{KeptByLots, occurs, uses, uses_in, all_uses, once_count, given_unused}
use Rattle.invariants.proofs.SweptHoldings.{KeptBy, SweptKept, swept_kept, untouched_kept, fewer_by}
use Rattle.invariants.proofs.SweptTrades.{swept_in_range}
use Rattle.invariants.proofs.Traded.{TradesOk, traded_listings, traded_accounts, traded_allows, traded_counted, traded_keeps}

-- ---- limits and coverage with the arriving lots in front of the own side's queue

-- from the clauses of the state, if the arriving lots keep them for their own account
kept_by : (sell : Bool) (m : Listing) (c : ℕ) (accounts : List Account) (a : ℕ) (r : Order) → HoldingOk m a (holding_at accounts a c) →
    held sell (holding_at accounts a c) + resting_opens a (r ∷ own sell m) ≤ m.contract.limit → resting_closes a (r ∷ own sell m) ≤ held
    (not sell) (holding_at accounts a c) →
    KeptAt m.contract.limit c accounts (pick sell (opposite sell m) (r ∷ own sell m)) (pick sell (r ∷ own sell m) (opposite sell m)) a
kept_by false m c accounts a r k p q = record { buy_opens_lem = p; sell_opens_lem = k.opens true; buy_closes_lem = q; sell_closes_lem = k.closes true }
kept_by true m c accounts a r k p q = record { buy_opens_lem = k.opens false; sell_opens_lem = p; buy_closes_lem = k.closes false; sell_closes_lem = q }

-- and back, for the queues after it
holding_by_lem : (sell : Bool) (c : Contract) (mine others : List Order) (d : ℕ) (accounts : List Account) (a : ℕ) →
    (holding_at accounts a d).startlong ≤ c.limit → (holding_at accounts a d).startshort ≤ c.limit →
    KeptAt c.limit d accounts (pick sell others mine) (pick sell mine others) a → HoldingOk (with_queues sell c mine others) a
    (holding_at accounts a d)
holding_by_lem sell c mine others d accounts a l s k =
    record {
      startlong = l;
      startshort = s;
      opens = for_either _ k.buy_opens_lem k.sell_opens_lem;
      closes = for_either _ k.buy_closes_lem k.sell_closes_lem;
    }

-- what holds of its own queue and of the other holds of the queues of both sides
each_side : (P : List Order → Type 0) (own-sell : Bool) (mine others : List Order) → P mine → P others → (sell : Bool) → P (pick sell (pick own-sell mine others) (pick own-sell others mine))
each_side P true mine others p q true = p
each_side P true mine others p q false = q
each_side P false mine others p q true = q
each_side P false mine others p q false = p

-- the arriving lots count for one account, as an open or as a close
own_opens : (b close : Bool) (lots h r limit : ℕ) → h + r ≤ limit → (b ≡ true → close ≡ false → h + r + lots ≤ limit) →
    h + (pick (b && eqb (mark close) 0) lots 0 + r) ≤ limit
own_opens false close lots h r limit p q = omega arith
own_opens true true lots h r limit p q = omega arith
own_opens true false lots h r limit p q = omega (arith, q refl refl)

own_closes : (b close : Bool) (lots h r : ℕ) → r ≤ h → (b ≡ true → close ≡ true → r + lots ≤ h) → pick (b && eqb (mark close) 1) lots 0 + r ≤ h
own_closes false close lots h r p q = omega arith
own_closes true false lots h r p q = omega arith
own_closes true true lots h r p q = omega (arith, q refl refl)

-- a number that is used in neither queue is no order's
unused_all : (number : ℕ) (queue : List Order) → uses number_of number queue ≡ 0 → all_of (λ r. not (eqb number r.number)) queue ≡ true
unfolding uses sum_of all_of
unused_all number [] h = refl
unused_all number (r ∷ rs) h =
    by_test (eqb number r.number) (λ e. let h' : 1 + uses number_of number rs ≡ 0 = rw e at h in absurd (omega arith))
    (λ e. let h' : 0 + uses number_of number rs ≡ 0 = rw e at h in rw e (unused_all number rs (omega arith)))

unused_others : (number : ℕ) (sell : Bool) (m : Listing) → uses_in number_of number m ≡ 0 → all_of (λ r. not (eqb number r.number)) (opposite sell m) ≡ true
unfolding uses_in
unused_others number true m h = unused_all number m.buys (omega arith)
unused_others number false m h = unused_all number m.sells (omega arith)

-- ---- the values of a field that are used, by side, and with one more that was not

uses_by : (field : Order → ℕ) (n : ℕ) (sell : Bool) (us vs : List Order) → uses field n (pick sell vs us) + uses field n (pick sell us vs) ≡ uses field n us + uses field n vs
uses_by field n true us vs = omega arith
uses_by field n false us vs = refl

own_uses : (field : Order → ℕ) (n : ℕ) (sell : Bool) (m : Listing) → uses field n (own sell m) + uses field n (opposite sell m) ≡ uses field n m.buys + uses field n m.sells
own_uses field n true m = omega arith
own_uses field n false m = refl

one_more : (used : List ℕ) (value : ℕ) → used_once used ≡ true → occurs value used ≡ 0 → (n : ℕ) → occurs n used + pick (eqb n value) 1 0 ≤ 1
one_more used value once unused n =
    by_test (eqb n value)
    (λ e. let z : occurs n used ≡ 0 = rw (eqb-true n value e) unused in
    rw e (omega arith))
    (λ e. rw e (omega (arith, once_count used once n)))

module _ {x : Exchange} {number quote next : ℕ} {o : NewOrder} (entry : Enterable x number quote next o) where
  abbrev pub lots_swept : Swept
  lots_swept = swept entry

  abbrev pub arrived : Order
  arrived = remainder (taker_of x number quote o) (limit_of o.condition) o.lots

  abbrev pub account : ℕ
  account = place_of o.account

  abbrev pub place : ℕ
  place = place_of o.contract

  abbrev pub mine : List Order
  mine = own o.sell (listing_of x o)

  abbrev pub others : List Order
  others = opposite o.sell (listing_of x o)

  holding_before : (a : ℕ) → a < length x.accounts → HoldingOk (listing_of x o) a (holding_at x.accounts a place)
  unfolding listing_of
  holding_before a l = entry.formed.holding a place l entry.passes.contract

  opens_start : (a : ℕ) → a < length x.accounts →
      held o.sell (holding_at x.accounts a place) + resting_opens a (arrived ∷ mine) ≤ (contract_of entry).limit
  unfolding taker_of remainder
  opens_start a l =
      rw (resting_cons 0 a arrived mine)
      (own_opens (eqb account a) o.close o.lots (held o.sell (holding_at x.accounts a place)) (resting_opens a mine)
      (contract_of entry).limit ((holding_before a l).opens o.sell)
      (λ e q. rw (← eqb-true account a e) (entry.passes.opens q)))

  closes_start : (a : ℕ) → a < length x.accounts → resting_closes a (arrived ∷ mine) ≤ held (not o.sell) (holding_at x.accounts a place)
  unfolding taker_of remainder
  closes_start a l =
      rw (resting_cons 1 a arrived mine)
      (own_closes (eqb account a) o.close o.lots (held (not o.sell) (holding_at x.accounts a place)) (resting_closes a mine)
      ((holding_before a l).closes o.sell)
      (λ e q. rw (← eqb-true account a e) (entry.passes.closes q)))

  -- each account's lots, the arriving ones included, are within a bound of its own
  abbrev pub Before : (ℕ → ℕ) → Type 0
  Before limit = KeptBy o.sell (length x.accounts) limit place x.accounts (arrived ∷ mine) others

  abbrev pub contract_limit : ℕ → ℕ
  contract_limit a = (contract_of entry).limit

  pub kept_before : Before contract_limit
  kept_before a l = kept_by o.sell (listing_of x o) place x.accounts a arrived (holding_before a l) (opens_start a l) (closes_start a l)

  -- so the order entered keeps them, and its trades close nothing that is not held
  swept_holdings : (limit : ℕ → ℕ) → Before limit → SweptKept (length x.accounts) limit (limit_of o.condition) (taker_of x number quote o) mine x.accounts o.lots lots_swept
  unfolding taker_of rest_whole enter
  swept_holdings limit kept =
      entered_either x number quote o
      (λ e. SweptKept (length x.accounts) limit (limit_of o.condition) (taker_of x number quote o) mine x.accounts o.lots
      (record { trades = e.trades; rest = e.opposite }))
      (λ e. untouched_kept (length x.accounts) limit (limit_of o.condition) (taker_of x number quote o) mine x.accounts o.lots others kept)
      (λ e. swept_kept (length x.accounts) limit (limit_of o.condition) x.next x.nextstamp (contract_of entry) (taker_of x number quote o) mine
      entry.passes.account (mark_low o.close)
      o.lots (contract_of entry).last others x.accounts (sides entry).others_orders kept)

  -- ---- the parts of the state after it

  abbrev pub after : Listing
  after = listing_after (listing_of x o) o.sell (entered_of x number quote o)

  abbrev pub accounts_after : List Account
  accounts_after = book_trades x.accounts lots_swept.trades

  abbrev pub mine_after : List Order
  mine_after = rest_lots (taker_of x number quote o) (limit_of o.condition) (rested entry) mine

  pub kept_after : (limit : ℕ → ℕ) → Before limit → KeptBy o.sell (length x.accounts) limit place accounts_after mine_after lots_swept.rest
  unfolding taker_of
  kept_after limit kept =
      fewer_by o.sell (length x.accounts) limit place accounts_after
      (remainder (taker_of x number quote o) (limit_of o.condition) (o.lots - traded_lots lots_swept.trades) ∷ mine) mine_after lots_swept.rest lots_swept.rest
      (rested_fewer (taker_of x number quote o) (limit_of o.condition) (rested entry) (o.lots - traded_lots lots_swept.trades) mine
      (rested_left entry)) (λ close b. omega arith) (swept_holdings limit kept).kept

  holding_after : (a : ℕ) → a < length x.accounts → HoldingOk after a (holding_at accounts_after a place)
  unfolding listing_after
  holding_after a l =
      let s = booked_start_holding x.accounts lots_swept.trades a place in
      let q = holding_before a l in
      rw (own_is entry)
      (holding_by_lem o.sell (contract_after entry) mine_after lots_swept.rest place accounts_after a
      (rw (ap (λ (h : Holding). h.startlong) s) q.startlong) (rw (ap (λ (h : Holding). h.startshort) s) q.startshort)
      (kept_after contract_limit kept_before a l))

  -- the quote marks: one more, if it is marked
  marks_before : (sell : Bool) → MarksOk x.accounts (own sell (listing_of x o))
  unfolding listing_of
  marks_before = entry.formed.marks place entry.passes.contract

  others_marks : MarksOk x.accounts lots_swept.rest
  unfolding rest_whole enter
  others_marks =
      entered_either x number quote o (λ e. MarksOk x.accounts e.opposite) (λ a. other o.sell)
      (λ a. swept_marks x.accounts (taker_of x number quote o) o.lots (contract_of entry).last others (other o.sell))
    where
      other : (b : Bool) → MarksOk x.accounts (opposite b (listing_of x o))
      other true = marks_before false
      other false = marks_before true

  mine_marks : MarksOk x.accounts mine_after
  unfolding taker_of
  mine_marks =
      rested_marks x.accounts (taker_of x number quote o) (limit_of o.condition) (rested entry) mine entry.marks.allowed entry.marks.single (marks_before o.sell)

  -- the values of a field: one more, that of the order entered, if a remainder rests
  module _ (field : Order → ℕ) (kept : KeptByLots field) where
    mine_uses : (n : ℕ) → uses field n mine_after ≤ pick (eqb n (field arrived)) 1 0 + uses field n mine
    unfolding uses remainder
    mine_uses n =
        rw (← (kept arrived (rested entry)).0)
        (rested_sum (taker_of x number quote o) (limit_of o.condition) (λ r. pick (eqb n (field r)) 1 0) (rested entry) mine)

    others_uses : (n : ℕ) → uses field n lots_swept.rest ≤ uses field n others
    unfolding uses rest_whole enter
    others_uses n =
        entered_either x number quote o (λ e. uses field n e.opposite ≤ uses field n others) (λ e. omega arith)
        (λ e. rest_sum (λ r. pick (eqb n (field r)) 1 0) (λ r m low high. rw (kept r m).0 (le_refl _)) (taker_of x number quote o) o.lots (contract_of entry).last others)

    uses_after : (n : ℕ) → uses_in field n after ≤ uses_in field n (listing_of x o) + pick (eqb n (field arrived)) 1 0
    unfolding uses_in listing_after
    uses_after n =
        rw (own_is entry)
        (omega (
          arith,
          uses_by field n o.sell mine_after lots_swept.rest,
          own_uses field n o.sell (listing_of x o),
          mine_uses n,
          others_uses n,
        ))

    once_more : used_once (all_listed field x.listings) ≡ true → occurs (field arrived) (all_listed field x.listings) ≡ 0 →
        (n : ℕ) → occurs n (all_listed field x.listings) + uses_in field n after ≤ 1 + uses_in field n (listing_of x o)
    once_more once unused n = omega (arith, uses_after n, one_more (all_listed field x.listings) (field arrived) once unused n)

  -- ---- the state after it

  abbrev afterwards : Exchange
  afterwards = with_trades x place after lots_swept.trades next (x.nextstamp + 1)

  allows_here : Allows (contract_of entry) after.contract
  unfolding listing_after
  allows_here = allows_last (contract_of entry) _

  -- the orders that it meets have other numbers
  others_numbers : all_of (λ r. not (eqb number r.number)) others ≡ true
  unfolding listing_of listing_at
  others_numbers =
      unused_others number o.sell (listing_of x o)
      (omega (arith, entry.given.unused, all_uses number_of number x.listings, sum_of_at (uses_in number_of number) x.listings place no_listing entry.passes.contract))

  new_trades_lem : all_of (trade_in_range afterwards) lots_swept.trades ≡ true
  unfolding taker_of listing_of rest_whole enter all_of
  new_trades_lem =
      let listings = traded_listings x place after lots_swept.trades next (x.nextstamp + 1) in
      let accounts = traded_accounts x place after lots_swept.trades next (x.nextstamp + 1) in
      entered_either x number quote o (λ e. all_of (trade_in_range afterwards) e.trades ≡ true) (λ e. refl)
      (λ e. swept_in_range afterwards (taker_of x number quote o) (contract_of entry) (omega (arith, entry.passes.contract))
      (omega (arith, entry.passes.account)) entry.given.low entry.given.below (mark_low o.close) entry.passes.price
      (tick_low entry) (method_rounds (contract_of entry)) (traded_allows x place after lots_swept.trades next (x.nextstamp + 1) entry.passes.contract allows_here place)
      x.next x.nextstamp entry.given.later
      o.lots (contract_of entry).last others (last_on_tick entry)
      (subst (λ (n : ℕ). all_of (order_in_range n x.next x.nextstamp (contract_of entry)) others ≡ true) (sym accounts) (sides entry).others_orders) others_numbers)

  pub its_trades : all_of (of_contract place) lots_swept.trades ≡ true
  unfolding taker_of rest_whole enter all_of
  its_trades =
      entered_either x number quote o (λ e. all_of (of_contract place) e.trades ≡ true) (λ e. refl)
      (λ e. swept_contract (taker_of x number quote o) o.lots (contract_of entry).last others)

  trades_ok : TradesOk x place after lots_swept.trades next (x.nextstamp + 1)
  unfolding listing_of listing_at taker_of remainder listing_after
  trades_ok =
      record {
        there = entry.passes.contract;
        later = entry.given.later;
        high = entry.given.high;
        stamped = omega arith;
        stamps_high = omega (arith, entry.passes.stamp);
        listing = listing_after_lem entry;
        allows = allows_here;
        numbers = once_more number_of (λ r lots. (refl, refl)) entry.formed.once entry.given.unused;
        stamps = once_more stamp_of (λ r lots. (refl, refl)) entry.formed.stamps_once (given_unused stamp_of x.nextstamp (length x.accounts) x.next x.nextstamp (λ c r q. q.stamp_high) x.listings entry.formed.listing);
        ranges = new_trades_lem;
        here = its_trades;
        never = (swept_holdings contract_limit kept_before).never;
        holding = holding_after;
        marks = rw (own_is entry) (each_side (MarksOk x.accounts) o.sell _ _ mine_marks others_marks);
      }

  -- ---- the counts

  -- fillable lots do not go by the number
  fillable_is : fillable (taker_of x number quote o) others ≡ fillable_lots x o
  unfolding fillable taker_of fillable_lots
  fillable_is = refl

  filled : in_auction (contract_of entry) ≡ false → o.lots ≤ fillable_lots x o → traded_lots lots_swept.trades ≡ o.lots
  unfolding taker_of enter
  filled a h =
      rw (entered_elsewhere x number quote o a)
      (omega (arith, swept_fillable (taker_of x number quote o) o.lots (contract_of entry).last others (sides entry).others_sorted refl, fillable_is))

  none_rested : is_good_for_day o.time ≡ false → rested entry ≡ 0
  unfolding rest_whole enter rested_lots
  none_rested e = entered_either x number quote o (λ r. r.rested ≡ 0) (λ a. absurd (true≢false (sym (entry.passes.rests a) ∙ e))) (λ a. rw e)

  -- code 13: with 64 on its own side nothing rests
  none_rests : max_resting ≤ length mine → rested entry ≡ 0
  none_rests full =
      by_test (is_good_for_day o.time) (λ e. let r = entry.passes.room e full in omega (arith, rested_left entry, filled r.0 r.1))
      (λ e. none_rested e)

  mine_length : length mine ≤ max_resting → length mine_after ≤ max_resting
  mine_length h =
      by_test (leb max_resting (length mine))
      (λ e. omega (arith, rested_length (taker_of x number quote o) (limit_of o.condition) (rested entry) mine, none_rests (leb-true _ _ e)))
      (λ e. omega (arith, rested_length_one (taker_of x number quote o) (limit_of o.condition) (rested entry) mine, leb-false max_resting (length mine) e))

  others_length : length lots_swept.rest ≤ length others
  unfolding rest_whole enter
  others_length =
      entered_either x number quote o (λ e. length e.opposite ≤ length others) (λ e. omega arith)
      (λ e. length_rest (taker_of x number quote o) o.lots (contract_of entry).last others)

  queue_after : ((sell : Bool) → length (own sell (listing_of x o)) ≤ max_resting) → (sell : Bool) → length (own sell after) ≤ max_resting
  unfolding listing_after
  queue_after h =
      rw (own_is entry)
      (each_side (λ (queue : List Order). length queue ≤ max_resting) o.sell _ _ (mine_length (h o.sell)) (omega (arith, others_length, either o.sell)))
    where
      either : (s : Bool) → length (opposite s (listing_of x o)) ≤ max_resting
      either true = h false
      either false = h true

  pub entry_keeps : WellFormed (exchange_after x o (entered_of x number quote o) next)
  unfolding exchange_after
  entry_keeps = traded_keeps x entry.formed place after lots_swept.trades next (x.nextstamp + 1) trades_ok

  pub entry_counted : Counted x → Counted (exchange_after x o (entered_of x number quote o) next)
  unfolding exchange_after listing_of
  entry_counted n =
      traded_counted x place after lots_swept.trades next (x.nextstamp + 1) entry.passes.contract (queue_after (λ s. n.queues place s entry.passes.contract))
      (omega (arith, entry.passes.trades, trades_needed_lem x number quote o)) n

-- the same, from its parts
module _ (x : Exchange) (k : WellFormed x) (number quote next : ℕ) (g : Given x number next) (o : NewOrder) (p : Passes x number o) (z : Marks x quote o) where
  pub entered_keeps : WellFormed (exchange_after x o (entered_of x number quote o) next)
  entered_keeps = entry_keeps (record { formed = k; given = g; passes = p; marks = z })

  pub entered_counted : Counted x → Counted (exchange_after x o (entered_of x number quote o) next)
  entered_counted = entry_counted (record { formed = k; given = g; passes = p; marks = z })

module _ (x : Exchange) (o : NewOrder) (e : first_of (insert_refusals x o) ≡ 0) (k : WellFormed x) where
  pub insert_enters : Enterable x x.next 0 (x.next + 1) o
  insert_enters =
      let p = passes x o e in
      record { formed = k; given = next_given x k (numbered x o e); passes = p; marks = no_mark x k o p.account p.contract }

  pub insert_keeps : WellFormed (last_of x (inserted x o).stages)
  unfolding inserted
  insert_keeps = entry_keeps insert_enters

  pub insert_counted : Counted x → Counted (last_of x (inserted x o).stages)
  unfolding inserted
  insert_counted = entry_counted insert_enters
