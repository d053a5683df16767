-- The trades of a sweep are in range: accounts and contract exist, the two order numbers differ, the price is allowed today, the
-- lots are 1 to 1,000. Assumes nothing.
use Rattle.laws.specs.Logic.{Bool, true, false, not, ◌&&◌, List, ◌≡◌, sym, ap}
use Rattle.laws.specs.Numbers.{ℕ, ◌<◌, ◌≤◌, arith, eqb-false, ne_eqb, not-true, eqb, length, get_or}
use Rattle.laws.specs.Choice.{pick, all_of, all_of_at, all_of_true, both_true, true_both}
use Rattle.rules.specs.Bounds.{on_tick, allowed_today}
use Rattle.rules.specs.Exchange.{Exchange, listing_at, no_order}
use Rattle.rules.specs.Matching.{trade_price, sweep, trade_with}
use Rattle.rules.specs.WellFormed.{order_in_range, trade_in_range}
use Rattle.rules.specs.declared.{Contract.Contract, Order.Order, Taker.Taker}
use Rattle.rules.specs.declared.PriceCondition.TheVariants.{Limit}
use Rattle.theory.proofs.Prices.{RoundsTo, allowed_facts, price_allowed}
use Rattle.theory.proofs.Sweep.{swept_each}
use Rattle.invariants.proofs.Carry.{Allows}
use Rattle.invariants.proofs.Clauses.{order_ok, trade_test}

-- ---- in range

one_of : (P : ℕ → Type 0) (b : Bool) (m n : ℕ) → P m → P n → P (pick b m n)
one_of P true m n p q = p
one_of P false m n p q = q

two_numbers : (b : Bool) (m n : ℕ) → not (eqb n m) ≡ true → not (eqb (pick b m n) (pick b n m)) ≡ true
two_numbers true m n h = ap not (ne_eqb m n (λ e. eqb-false n m (not-true (eqb n m) h) (sym e)))
two_numbers false m n h = h

module _ (y : Exchange) (t : Taker) (c : Contract)
    (there : t.contract < length y.listings) (here : t.account < length y.accounts)
    (number_low : 1 ≤ t.number) (number_high : t.number < y.next) (mark : t.close ≤ 1)
    (limits : (limit : ℕ) → t.condition ≡ Limit limit → allowed_today c limit ≡ true)
    (tick_low : 1 ≤ c.tick) (rounds : RoundsTo c.tick t.method)
    (allows : Allows c (listing_at y t.contract).contract) (next nextstamp : ℕ) (later : next ≤ y.next) where
  abbrev in_range : Order → Bool
  in_range = order_in_range (length y.accounts) next nextstamp c

  -- the orders have other numbers
  abbrev test : Order → Bool
  test o = in_range o && not (eqb t.number o.number)

  passes : (o : Order) → test o ≡ true → (in_range o ≡ true) × (not (eqb t.number o.number) ≡ true)
  passes o h = both_true (in_range o) (not (eqb t.number o.number)) h

  its_price : (o : Order) (last : ℕ) → test o ≡ true → on_tick c.tick last ≡ true →
      allowed_today c (trade_price t.method t.condition o.price last) ≡ true
  its_price o last h tick = price_allowed c tick_low t.method rounds t.condition o.price last limits (order_ok _ _ _ _ o (passes o h).0).price tick

  one_trade : (o : Order) (left last : ℕ) → 0 < left → test o ≡ true → on_tick c.tick last ≡ true → trade_in_range y (trade_with t o left last) ≡ true
  unfolding trade_with
  one_trade o left last some h tick =
      let k = order_ok (length y.accounts) next nextstamp c o (passes o h).0 in
      trade_test y (trade_with t o left last)
      (record {
        contract = there;
        buyer = one_of (λ n. n < length y.accounts) t.sell o.account t.account k.account here;
        seller = one_of (λ n. n < length y.accounts) t.sell t.account o.account here k.account;
        two = two_numbers t.sell o.number t.number (passes o h).1;
        buy_low = one_of (λ n. 1 ≤ n) t.sell o.number t.number k.number_low number_low;
        buy_high = one_of (λ n. n < y.next) t.sell o.number t.number (omega arith) number_high;
        sell_low = one_of (λ n. 1 ≤ n) t.sell t.number o.number number_low k.number_low;
        sell_high = one_of (λ n. n < y.next) t.sell t.number o.number number_high (omega arith);
        price = allows (trade_price t.method t.condition o.price last) (its_price o last h tick);
        lots_low = omega arith;
        lots_high = omega arith;
        buyclose = one_of (λ n. n ≤ 1) t.sell o.close t.close k.close mark;
        sellclose = one_of (λ n. n ≤ 1) t.sell t.close o.close mark k.close;
      })

  pub swept_in_range : (left last : ℕ) (os : List Order) → on_tick c.tick last ≡ true → all_of in_range os ≡ true →
      all_of (λ o. not (eqb t.number o.number)) os ≡ true → all_of (trade_in_range y) (sweep t left last os).trades ≡ true
  swept_in_range left last os tick h other =
      swept_each t (trade_in_range y) test (λ last. on_tick c.tick last ≡ true)
      (λ o left last some met h tick.
      (one_trade o left last some h tick, (allowed_facts c (trade_price t.method t.condition o.price last) (its_price o last h tick)).tick)) left last os tick
      (all_of_true test os no_order
      (λ i l. true_both (in_range (get_or os i no_order)) (not (eqb t.number (get_or os i no_order).number)) (all_of_at in_range os i no_order h l)
      (all_of_at (λ o. not (eqb t.number o.number)) os i no_order other l)))
