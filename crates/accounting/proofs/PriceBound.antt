-- The settlement price of a well-formed state is at most the largest price. Assumes nothing.
use Rattle.laws.specs.Logic.{Bool, true, false, List, [], ◌∷◌, ◌≡◌}
use Rattle.laws.specs.Numbers.{ℕ, ◌*◌, ◌/◌, ◌<◌, ◌≤◌, mul-le-mul_right, div-mul-le_self, div-le_of_le-mul, arith, eqb, length}
use Rattle.laws.specs.Choice.{pick, all_of, both_true}
use Rattle.laws.specs.Sums.{sum_of}
use Rattle.rules.specs.Bounds.{max_price}
use Rattle.rules.specs.Exchange.{Exchange, listing_at}
use Rattle.rules.specs.Matching.{middle, traded_lots}
use Rattle.rules.specs.Settlement.{trades_in, traded_value, weighted_price, quoted_price, price_from, settlement_price}
use Rattle.rules.specs.WellFormed.{order_in_range, trade_in_range, well_formed_contents}
use Rattle.rules.specs.declared.{Contract.Contract, Order.Order, Trade.Trade}
use Rattle.accounting.proofs.Facts.{facts, trade_facts, order_price}

unfoldable TradesTo : ℕ → List Trade → Type 0
TradesTo M [] = Unit {0}
TradesTo M (t ∷ ts) = (t.price ≤ M) × TradesTo M ts

trades_to : (x : Exchange) (ts : List Trade) → all_of (trade_in_range x) ts ≡ true → TradesTo max_price ts
unfolding all_of TradesTo
trades_to x [] h = tt
trades_to x (t ∷ ts) h =
    let b = both_true (trade_in_range x t) (all_of (trade_in_range x) ts) h in
    ((trade_facts x t b.0).price, trades_to x ts b.1)

one_contract : (M c : ℕ) (ts : List Trade) → TradesTo M ts → TradesTo M (trades_in c ts)
unfolding TradesTo trades_in
one_contract M c [] q = tt
one_contract M c (t ∷ ts) q = by_contract (eqb t.contract c) (one_contract M c ts q.1)
  where
    by_contract : (here : Bool) → TradesTo M (trades_in c ts) → TradesTo M (pick here (t ∷ trades_in c ts) (trades_in c ts))
    by_contract true r = (q.0, r)
    by_contract false r = r

value_to : (M : ℕ) (ts : List Trade) → TradesTo M ts → traded_value ts ≤ traded_lots ts * M
unfolding TradesTo traded_value traded_lots sum_of
value_to M [] q = omega arith
value_to M (t ∷ ts) q = omega (arith, mul-le-mul_right t.lots q.0, value_to M ts q.1)

weighted_to : (M tick : ℕ) (ts : List Trade) → TradesTo M ts → weighted_price tick ts ≤ M
unfolding weighted_price
weighted_to M tick ts q =
    omega (arith, div-mul-le_self (traded_value ts / traded_lots ts) tick, div-le_of_le-mul (traded_lots ts) {n = M} (value_to M ts q))

-- the middle of three is no more than the larger of the first and the third
middle_to : (M a b c : ℕ) → a ≤ M → c ≤ M → middle a b c ≤ M
unfolding middle
middle_to M a b c h k = omega arith

quoted_to : (M reference accounts next nextstamp : ℕ) (c : Contract) (buys sells : List Order) → max_price ≤ M → reference ≤ M →
    all_of (order_in_range accounts next nextstamp c) buys ≡ true → quoted_price reference buys sells ≤ M
unfolding quoted_price all_of
quoted_to M reference accounts next nextstamp c [] sells m h q = h
quoted_to M reference accounts next nextstamp c (b ∷ bs) [] m h q = h
quoted_to M reference accounts next nextstamp c (b ∷ bs) (s ∷ ss) m h q =
    middle_to M b.price s.price reference
    (omega (arith, order_price accounts next nextstamp c b (both_true (order_in_range accounts next nextstamp c b) (all_of (order_in_range accounts next nextstamp c) bs) q).0)) h

price_to : (reference tick accounts next nextstamp : ℕ) (c : Contract) (ts : List Trade) (buys sells : List Order) → TradesTo max_price ts → reference ≤ max_price →
    all_of (order_in_range accounts next nextstamp c) buys ≡ true → price_from tick reference ts buys sells ≤ max_price
unfolding price_from
price_to reference tick accounts next nextstamp c [] buys sells t h q = quoted_to max_price reference accounts next nextstamp c buys sells (omega arith) h q
price_to reference tick accounts next nextstamp c (t ∷ ts) buys sells q h o = weighted_to max_price tick (t ∷ ts) q

pub settlement_price_bound : (x : Exchange) → well_formed_contents x ≡ true → (c : ℕ) → c < length x.listings → settlement_price x c ≤ max_price
unfolding settlement_price
settlement_price_bound x w c l =
    let f = facts x w in
    price_to _ _ (length x.accounts) x.next x.nextstamp (listing_at x c).contract _ _ _
    (one_contract max_price c x.trades (trades_to x x.trades f.trades)) (f.terms_of_lem c l).reference.high (f.buys c l)
