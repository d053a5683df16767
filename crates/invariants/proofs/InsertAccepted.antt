-- What an order that is entered has passed, and the number that it has, as facts with names: an accepted insert. Assumes nothing.
use Rattle.laws.specs.Logic.{Bool, true, false, not, ◌&&◌, ◌||◌, true≢false, false≢true, List, ◌≡◌, refl, sym, ap, ◌∙◌}
use Rattle.laws.specs.Numbers.{ℕ, ◌+◌, ◌<◌, ◌≤◌, arith, leb-true, leb-false, ltb-false, le-leb, not-false, leb, ltb, length}
use Rattle.laws.specs.Choice.{pick, pick_true, pick_false, both_true, true_both, either_false}
use Rattle.rules.specs.Answers.{first_of, insert_refusals, order_refusals, is_fill_or_kill, is_good_for_day, is_limit, listing_of, price_refused_by, holding_refused, lots_refused, mark, fillable_lots, trades_needed, trades_refused, numbers_used_up, stamps_used_up, conditions_refused, day_without_limit}
use Rattle.rules.specs.Bounds.{within, allowed_today, numbers_end, max_lots, max_trades, max_resting, in_auction}
use Rattle.rules.specs.Exchange.{Exchange, listing_at, place_of, own, holding_at, resting_opens, resting_closes}
use Rattle.rules.specs.WellFormed.{all_numbers, number_of}
use Rattle.rules.specs.declared.{Contract.Contract, Holding.Holding, NewOrder.NewOrder, Order.Order, PriceCondition.PriceCondition}
use Rattle.rules.specs.declared.PriceCondition.TheVariants.{Limit}
use Rattle.theory.proofs.Refusals.{Failed, failed, present}
use Rattle.invariants.proofs.Clauses.{held, WellFormed}
use Rattle.invariants.proofs.Numbers.{occurs, given_unused}

abbrev pub its_holding : Exchange → NewOrder → Holding
its_holding x o = holding_at x.accounts (place_of o.account) (place_of o.contract)

abbrev pub its_queue : Exchange → NewOrder → List Order
its_queue x o = own o.sell (listing_of x o)

-- what an order has passed that is entered with a number
pub record Passes (x : Exchange) (number : ℕ) (o : NewOrder) : Type 0 where
  pub account : place_of o.account < length x.accounts
  pub contract : place_of o.contract < length x.listings
  pub lots_low : 1 ≤ o.lots
  pub lots_high : o.lots ≤ max_lots
  -- only a limit order rests
  pub limited : is_good_for_day o.time ≡ true → is_limit o.condition ≡ true
  -- in auction every order is to rest
  pub rests : in_auction (listing_of x o).contract ≡ true → is_good_for_day o.time ≡ true
  pub price : (limit : ℕ) → o.condition ≡ Limit limit → allowed_today (listing_of x o).contract limit ≡ true
  pub opens : o.close ≡ false →
      held o.sell (its_holding x o) + resting_opens (place_of o.account) (its_queue x o) + o.lots ≤ (listing_of x o).contract.limit
  pub closes : o.close ≡ true → resting_closes (place_of o.account) (its_queue x o) + o.lots ≤ held (not o.sell) (its_holding x o)
  pub stamp : x.nextstamp < numbers_end
  pub kill : is_fill_or_kill o.time ≡ true → o.lots ≤ fillable_lots x o
  pub trades : length x.trades + trades_needed x number o ≤ max_trades
  pub room : is_good_for_day o.time ≡ true → max_resting ≤ length (its_queue x o) →
      (in_auction (listing_of x o).contract ≡ false) × (o.lots ≤ fillable_lots x o)

-- the number, which no resting order has, and the next one then
pub record Given (x : Exchange) (number next : ℕ) : Type 0 where
  pub low : 1 ≤ number
  pub below : number < next
  pub later : x.next ≤ next
  pub high : next ≤ numbers_end
  pub unused : occurs number (all_numbers x.listings) ≡ 0

-- an insert is given the next number
pub next_given : (x : Exchange) → WellFormed x → x.next < numbers_end → Given x x.next (x.next + 1)
unfolding listing_at
next_given x k h =
    record {
      low = k.next_low;
      below = omega arith;
      later = omega arith;
      high = omega arith;
      unused = given_unused number_of x.next (length x.accounts) x.next x.nextstamp (λ c o r. r.number_high) x.listings k.listing;
    }

pub both_failed : (a b : Bool) → (a && b) ≡ false → a ≡ true → b ≡ false
both_failed true b e h = e
both_failed false b e h = absurd (false≢true h)

limit_allowed : (c : Contract) (condition : PriceCondition) (price limit : ℕ) → price_refused_by c condition price ≡ false →
    condition ≡ Limit limit → allowed_today c limit ≡ true
unfolding price_refused_by
limit_allowed c condition price limit e q = not-false (allowed_today c limit) (rw q at e)

other_side : (sell : Bool) (h : Holding) → pick sell h.long h.short ≡ held (not sell) h
other_side true h = refl
other_side false h = refl

not_first : (a b : Bool) → (not a && b) ≡ false → b ≡ true → a ≡ true
not_first true b e h = refl
not_first false b e h = absurd (true≢false (sym h ∙ e))

module _ (c : Contract) (o : NewOrder) (e : conditions_refused c o ≡ false) where
  conditions : (day_without_limit o.condition o.time ≡ false) × ((in_auction c && not (is_limit o.condition && is_good_for_day o.time)) ≡ false)
  unfolding conditions_refused
  conditions = either_false (day_without_limit o.condition o.time) (in_auction c && not (is_limit o.condition && is_good_for_day o.time)) e

  day_limit : is_good_for_day o.time ≡ true → is_limit o.condition ≡ true
  day_limit = not_first (is_limit o.condition) (is_good_for_day o.time) conditions.0

  auction_day : in_auction c ≡ true → is_good_for_day o.time ≡ true
  auction_day h =
      (both_true (is_limit o.condition) (is_good_for_day o.time)
      (not-false (is_limit o.condition && is_good_for_day o.time)
      (both_failed (in_auction c) (not (is_limit o.condition && is_good_for_day o.time)) conditions.1 h))).1

-- 13 failed: in auction the own side has room
has_room : (c : Contract) (day : Bool) (queue lots fillable : ℕ) →
    (day && leb max_resting queue && (in_auction c || ltb fillable lots)) ≡ false → day ≡ true → max_resting ≤ queue →
    (in_auction c ≡ false) × (lots ≤ fillable)
has_room c day queue lots fillable e g l =
    let p = either_false (in_auction c) (ltb fillable lots)
    (both_failed (day && leb max_resting queue) (in_auction c || ltb fillable lots) e (true_both day (leb max_resting queue) g (le-leb _ _ l))) in
    (p.0, ltb-false _ _ p.1)

module _ (x : Exchange) (o : NewOrder) (e : holding_refused x o ≡ false) where
  pub open_lots_lem : o.close ≡ false →
      held o.sell (its_holding x o) + resting_opens (place_of o.account) (its_queue x o) + o.lots ≤ (listing_of x o).contract.limit
  unfolding holding_refused lots_refused
  open_lots_lem q =
      let opens : mark o.close ≡ 0 = ap mark q in
      ltb-false _ _ (rw opens at (sym (pick_false o.close _ _ q) ∙ e))

  pub close_lots : o.close ≡ true → resting_closes (place_of o.account) (its_queue x o) + o.lots ≤ held (not o.sell) (its_holding x o)
  unfolding holding_refused lots_refused
  close_lots q =
      let closes : mark o.close ≡ 1 = ap mark q in
      rw (← other_side o.sell (its_holding x o)) (ltb-false _ _ (rw closes at (sym (pick_true o.close _ _ q) ∙ e)))

-- 10 failed
counters : (x : Exchange) → (numbers_used_up x || stamps_used_up x) ≡ false → (x.next < numbers_end) × (x.nextstamp < numbers_end)
counters x e =
    let p = either_false (numbers_used_up x) (stamps_used_up x) e in
    (leb-false _ _ p.0, leb-false _ _ p.1)

module _ (x : Exchange) (o : NewOrder) (f : Failed (order_refusals x o)) where
  pub numbers_left : x.next < numbers_end
  unfolding order_refusals
  numbers_left = (counters x f.1.1.1.1.1.0).0

  -- its code "from 5 on" is 0
  pub order_passes : place_of o.account < length x.accounts → place_of o.contract < length x.listings → Passes x x.next o
  unfolding order_refusals trades_refused
  order_passes account contract =
      let lots = both_true (leb 1 o.lots) (leb o.lots max_lots) (not-false (within 1 max_lots o.lots) f.0) in
      record {
        account = account;
        contract = contract;
        lots_low = leb-true _ _ lots.0;
        lots_high = leb-true _ _ lots.1;
        limited = day_limit (listing_of x o).contract o f.1.0;
        rests = auction_day (listing_of x o).contract o f.1.0;
        price = λ limit q. limit_allowed (listing_of x o).contract o.condition o.price limit f.1.1.0 q;
        opens = open_lots_lem x o f.1.1.1.0;
        closes = close_lots x o f.1.1.1.0;
        stamp = (counters x f.1.1.1.1.1.0).1;
        kill = λ h. ltb-false _ _ (both_failed (is_fill_or_kill o.time) (ltb (fillable_lots x o) o.lots) f.1.1.1.1.1.1.0 h);
        trades = ltb-false _ _ f.1.1.1.1.1.1.1.0;
        room = has_room (listing_of x o).contract (is_good_for_day o.time) (length (its_queue x o)) o.lots (fillable_lots x o) f.1.1.1.1.1.1.1.1.0;
      }

-- an insert
module _ (x : Exchange) (o : NewOrder) (e : first_of (insert_refusals x o) ≡ 0) where
  pub tests : Failed (insert_refusals x o)
  unfolding insert_refusals order_refusals
  tests = failed (insert_refusals x o) (omega arith) e

  pub numbered : x.next < numbers_end
  unfolding insert_refusals
  numbered = numbers_left x o tests.1.1.1

  pub passes : Passes x x.next o
  unfolding insert_refusals
  passes = order_passes x o tests.1.1.1 (present o.account x.accounts tests.0) (present o.contract x.listings tests.1.0)
