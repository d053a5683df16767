-- The two queues of a contract after an insert: the opposite one is what the sweep leaves, the own one has the remainder at its
-- place; sorted, uncrossed and in range. Assumes nothing.
use borrow.Author.Rules.{rules}
use Rattle.laws.specs.Logic.{Bool, true, false, not, ◌&&◌, List, ◌∷◌, ◌≡◌, refl}
use Rattle.laws.specs.Numbers.{ℕ, zero, suc, ◌+◌, ◌<◌, ◌≤◌, arith, eqb, ltb, length}
use Rattle.laws.specs.Choice.{pick, all_of, for_either}
use Rattle.laws.specs.Sums.{sum_of}
use Rattle.rules.specs.Bounds.{in_auction}
use Rattle.rules.specs.Exchange.{Listing, own, opposite, with_queues, resting, lots_where}
use Rattle.rules.specs.Matching.{with_lots, sweep, remainder, rest_lots}
use Rattle.rules.specs.WellFormed.{contract_in_range, sorted, order_in_range}
use Rattle.rules.specs.declared.{Contract.Contract, Order.Order, Taker.Taker}
use Rattle.theory.proofs.Queue.{length_rest_in}
use Rattle.theory.proofs.Rest.{uncrossed_from, rest_all}
use Rattle.invariants.proofs.Clauses.{order_ok, order_test_lem, ListingOk}
use Rattle.invariants.proofs.Sorting.{rest_in_all, rest_in_sorted, rest_in_sum}
use Rattle.invariants.proofs.SweptHoldings.{Fewer}

-- ---- a listing by side

pub other_own : (sell : Bool) (m : Listing) → own (not sell) m ≡ opposite sell m
other_own true m = refl
other_own false m = refl

pub record SidesOk (accounts next nextstamp : ℕ) (c : Contract) (sell : Bool) (mine others : List Order) : Type 0 where
  pub mine_sorted : sorted sell mine ≡ true
  pub others_sorted : sorted (not sell) others ≡ true
  pub sides_uncrossed : in_auction c ≡ false → uncrossed_from sell mine others ≡ true
  pub mine_orders : all_of (order_in_range accounts next nextstamp c) mine ≡ true
  pub others_orders : all_of (order_in_range accounts next nextstamp c) others ≡ true

module _ (accounts next nextstamp : ℕ) where
  pub listing_sides : (sell : Bool) (m : Listing) → ListingOk accounts next nextstamp m →
      SidesOk accounts next nextstamp m.contract sell (own sell m) (opposite sell m)
  listing_sides sell m k =
      record {
        mine_sorted = k.order sell;
        others_sorted = rw other_own at (k.order (not sell));
        sides_uncrossed = for_either (λ s. in_auction m.contract ≡ false → uncrossed_from s (own s m) (opposite s m) ≡ true) k.apart k.apart sell;
        mine_orders = k.orders sell;
        others_orders = rw other_own at (k.orders (not sell));
      }

  pub sides_listing : (sell : Bool) (c : Contract) (mine others : List Order) → contract_in_range c ≡ true →
      SidesOk accounts next nextstamp c sell mine others → ListingOk accounts next nextstamp (with_queues sell c mine others)
  sides_listing true c mine others r k =
      record {
        contract = r;
        order = for_either _ k.others_sorted k.mine_sorted;
        apart = k.sides_uncrossed;
        orders = for_either _ k.others_orders k.mine_orders;
      }
  sides_listing false c mine others r k =
      record {
        contract = r;
        order = for_either _ k.mine_sorted k.others_sorted;
        apart = k.sides_uncrossed;
        orders = for_either _ k.mine_orders k.others_orders;
      }

-- ---- the remainder comes to rest, if there is one

module _ (t : Taker) (price : ℕ) where
  pub rested_all : (test : Order → Bool) (n : ℕ) (queue : List Order) → (0 < n → test (remainder t price n) ≡ true) → all_of test queue ≡ true →
      all_of test (rest_lots t price n queue) ≡ true
  unfolding rest_lots
  rested_all test zero queue e h = h
  rested_all test (suc n) queue e h = rest_in_all test t.sell (remainder t price (suc n)) queue (e (omega arith)) h

  pub rested_sorted : (n : ℕ) (queue : List Order) → sorted t.sell queue ≡ true → all_of (λ o. ltb o.stamp t.stamp) queue ≡ true →
      sorted t.sell (rest_lots t price n queue) ≡ true
  unfolding rest_lots remainder
  rested_sorted zero queue s h = s
  rested_sorted (suc n) queue s h = rest_in_sorted t.sell (remainder t price (suc n)) queue s h

  pub rested_sum : (f : Order → ℕ) (n : ℕ) (queue : List Order) → sum_of f (rest_lots t price n queue) ≤ f (remainder t price n) + sum_of f queue
  unfolding rest_lots
  rested_sum f zero queue = omega arith
  rested_sum f (suc n) queue = omega (arith, rest_in_sum f t.sell (remainder t price (suc n)) queue)

  pub rested_length : (n : ℕ) (queue : List Order) → length (rest_lots t price n queue) ≤ length queue + n
  unfolding rest_lots
  rested_length zero queue = omega arith
  rested_length (suc n) queue = omega (arith, length_rest_in t.sell (remainder t price (suc n)) queue)

  pub rested_length_one : (n : ℕ) (queue : List Order) → length (rest_lots t price n queue) ≤ length queue + 1
  unfolding rest_lots
  rested_length_one zero queue = omega arith
  rested_length_one (suc n) queue = omega (arith, length_rest_in t.sell (remainder t price (suc n)) queue)

  -- no more rests than was counted for it
  pub rested_fewer : (n m : ℕ) (queue : List Order) → n ≤ m → Fewer (rest_lots t price n queue) (remainder t price m ∷ queue)
  unfolding resting lots_where sum_of remainder
  rested_fewer n m queue h close a =
      omega (
        arith,
        rested_sum (λ o. pick (eqb o.account a && eqb o.close close) o.lots 0) n queue,
        more
            (eqb t.account a && eqb t.close close),
      )
    where
      more : (b : Bool) → pick b n 0 ≤ pick b m 0
      more true = h
      more false = omega arith

-- ---- an order that traded a part of its lots stays in range

pub order_fewer : (accounts next nextstamp : ℕ) (c : Contract) (o : Order) (lots : ℕ) → 1 ≤ lots → lots ≤ o.lots →
    order_in_range accounts next nextstamp c o ≡ true → order_in_range accounts next nextstamp c (with_lots o lots) ≡ true
order_fewer accounts next nextstamp c o lots low high h =
    let k = order_ok accounts next nextstamp c o h in
    order_test_lem accounts next nextstamp c (with_lots o lots)
    (search rules depth 12)

pub rest_orders : (accounts next nextstamp : ℕ) (c : Contract) (t : Taker) (left last : ℕ) (os : List Order) →
    all_of (order_in_range accounts next nextstamp c) os ≡ true → all_of (order_in_range accounts next nextstamp c) (sweep t left last os).rest ≡ true
rest_orders accounts next nextstamp c = rest_all (order_in_range accounts next nextstamp c) (order_fewer accounts next nextstamp c)
