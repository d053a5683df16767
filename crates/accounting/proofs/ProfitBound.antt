-- A day's profit or loss of one account, closing and holding profit together, is within 3 x 10^15. `well_formed_contents` leaves
-- the numbers of contracts and of trades to the counts, so these are hypotheses here. Assumes nothing.
use lib.IntN.{ℤ, pos, nat_abs, ◌+ℤ◌, ◌*ℤ◌, *ℤ_comm}
use Rattle.laws.specs.Logic.{Bool, true, false, not, ◌&&◌, List, [], ◌∷◌, ◌++◌, ◌≡◌, refl, subst, ◌∙◌}
use Rattle.laws.specs.Numbers.{ℕ, zero, suc, ◌+◌, ◌*◌, ◌<◌, ◌≤◌, mul-suc, mul-le-mul_left, arith, eqb-true, ne_eqb, eqb, length}
use Rattle.laws.specs.Bound.{Within, within_le, within_zero, within_add, within_times, within_abs, abs_within}
use Rattle.laws.specs.Choice.{pick, all_of, both_true}
use Rattle.laws.specs.Ring.{*ℤ-add}
use Rattle.laws.specs.Sums.{sum_to, sum_of, sum_to_add, sum_to_ext}
use Rattle.rules.specs.Bounds.{max_contracts, max_trades, max_lots, max_price, max_balance, max_day_profit}
use Rattle.rules.specs.Exchange.{Exchange, listing_at, account_at, holding_at}
use Rattle.rules.specs.Matching.{traded_lots}
use Rattle.rules.specs.Settlement.{Leg, leg, only, legs, day_of, holding_gain, settlement_price, closing_profit, holding_profit, settled_account}
use Rattle.rules.specs.WellFormed.{trade_in_range, well_formed_contents}
use Rattle.rules.specs.declared.Trade.{Trade}
use Rattle.accounting.proofs.Facts.{facts, trade_facts}
use Rattle.accounting.proofs.PriceBound.{settlement_price_bound}
use Rattle.accounting.proofs.Reach.{LegsTo, opened_lots, profit_within}
use Rattle.accounting.proofs.Replay.{day_covered}
use Rattle.accounting.proofs.Trades.{bought_by, sold_by}

-- ---- legs of trades: their prices, and the lots that they open

legs_to_append : (M : ℕ) (ls ms : List Leg) → LegsTo M ls → LegsTo M ms → LegsTo M (ls ++ ms)
unfolding LegsTo
legs_to_append M [] ms p q = q
legs_to_append M (leg sell close n k ∷ ls) ms p q = (p.0, legs_to_append M ls ms p.1 q)

only_to : (M : ℕ) (test sell close : Bool) (p n : ℕ) → p ≤ M → LegsTo M (only test (leg sell close p n))
unfolding only LegsTo
only_to M true sell close p n h = (h, tt)
only_to M false sell close p n h = tt

legs_priced : (x : Exchange) (a c : ℕ) (ts : List Trade) → all_of (trade_in_range x) ts ≡ true → LegsTo max_price (legs a c ts)
unfolding all_of legs LegsTo
legs_priced x a c [] h = tt
legs_priced x a c (t ∷ ts) h =
    let b = both_true (trade_in_range x t) (all_of (trade_in_range x) ts) h in
    let p = (trade_facts x t b.0).price in
    legs_to_append max_price (bought_by a c t) (sold_by a c t ++ legs a c ts)
    (only_to max_price (eqb t.contract c && eqb t.buyer a) false (not (eqb t.buyclose 0)) t.price t.lots p)
    (legs_to_append max_price (sold_by a c t) (legs a c ts)
    (only_to max_price (eqb t.contract c && eqb t.seller a) true (not (eqb t.sellclose 0)) t.price t.lots p)
    (legs_priced x a c ts b.1))

opened_append : (ls ms : List Leg) → opened_lots (ls ++ ms) ≡ opened_lots ls + opened_lots ms
unfolding opened_lots
opened_append [] ms = omega arith
opened_append (leg sell false p n ∷ ls) ms = omega (arith, opened_append ls ms)
opened_append (leg sell true p n ∷ ls) ms = opened_append ls ms

opened_only : (here whose sell close : Bool) (p n : ℕ) → opened_lots (only (here && whose) (leg sell close p n)) ≤ pick here n 0
unfolding only opened_lots
opened_only true true sell false p n = omega arith
opened_only true true sell true p n = omega arith
opened_only true false sell close p n = omega arith
opened_only false true sell close p n = omega arith
opened_only false false sell close p n = omega arith

-- a trade opens lots in one contract only, at most its lots for buyer and seller
opened_trade : (a c : ℕ) (t : Trade) (ts : List Trade) →
    opened_lots (legs a c (t ∷ ts)) ≤ pick (eqb t.contract c) (2 * t.lots) 0 + opened_lots (legs a c ts)
unfolding legs
opened_trade a c t ts =
    let e = opened_append (bought_by a c t) (sold_by a c t ++ legs a c ts) in
    let f = opened_append (sold_by a c t) (legs a c ts) in
    let b = opened_only (eqb t.contract c) (eqb t.buyer a) false (not (eqb t.buyclose 0)) t.price t.lots in
    let s = opened_only (eqb t.contract c) (eqb t.seller a) true (not (eqb t.sellclose 0)) t.price t.lots in
    omega (arith, twice (eqb t.contract c) t.lots)
  where
    twice : (here : Bool) (n : ℕ) → pick here n 0 + pick here n 0 ≡ pick here (2 * n) 0
    twice true n = omega arith
    twice false n = omega arith

-- ---- over the contracts

-- the sum of a measure over the numbers below n
unfoldable total : ℕ → (ℕ → ℕ) → ℕ
total zero f = 0
total (suc n) f = total n f + f n

total_le : (n : ℕ) (f g : ℕ → ℕ) → ((i : ℕ) → f i ≤ g i) → total n f ≤ total n g
unfolding total
total_le zero f g h = omega arith
total_le (suc n) f g h = omega (arith, total_le n f g h, h n)

total_add : (n : ℕ) (f g : ℕ → ℕ) → total n (λ i. f i + g i) ≡ total n f + total n g
unfolding total
total_add zero f g = omega arith
total_add (suc n) f g = omega (arith, total_add n f g)

total_times : (n k : ℕ) (f : ℕ → ℕ) → total n (λ i. k * f i) ≡ k * total n f
unfolding total
total_times zero k f = omega arith
total_times (suc n) k f = omega (arith, total_times n k f)

total_const : (n k : ℕ) → total n (λ i. k) ≡ k * n
unfolding total
total_const zero k = omega arith
total_const (suc n) k = omega (arith, total_const n k, mul-suc k n)

-- v at one number and nothing elsewhere
total_none : (n k v : ℕ) → n ≤ k → total n (λ i. pick (eqb k i) v 0) ≡ 0
unfolding total
total_none zero k v h = refl
total_none (suc n) k v h = rw (ne_eqb k n (λ e. apart e)) (omega (arith, total_none n k v (omega arith)))
  where
    apart : k ≡ n → ⊥
    apart e = omega arith

total_at : (n k v : ℕ) → total n (λ i. pick (eqb k i) v 0) ≤ v
unfolding total
total_at zero k v = omega arith
total_at (suc n) k v = by_place (eqb k n) refl (total_at n k v)
  where
    by_place : (here : Bool) → eqb k n ≡ here → total n (λ i. pick (eqb k i) v 0) ≤ v → total n (λ i. pick (eqb k i) v 0) + pick here v 0 ≤ v
    by_place true e h = omega (arith, total_none n k v (omega (arith, eqb-true k n e)))
    by_place false e h = omega arith

-- an account opens at most twice the lots traded, whatever contracts they are in
opened_lots_lem : (n a : ℕ) (ts : List Trade) → total n (λ c. opened_lots (legs a c ts)) ≤ 2 * traded_lots ts
unfolding legs opened_lots traded_lots sum_of
opened_lots_lem n a [] = omega (arith, total_const n 0)
opened_lots_lem n a (t ∷ ts) =
    let e = total_le n _ _ (λ c. opened_trade a c t ts) in
    let f = total_add n (λ c. pick (eqb t.contract c) (2 * t.lots) 0) (λ c. opened_lots (legs a c ts)) in
    omega (arith, total_at n t.contract (2 * t.lots), opened_lots_lem n a ts)

traded_lots_lem : (x : Exchange) (ts : List Trade) → all_of (trade_in_range x) ts ≡ true → traded_lots ts ≤ max_lots * length ts
unfolding all_of traded_lots sum_of
traded_lots_lem x [] h = omega arith
traded_lots_lem x (t ∷ ts) h =
    let b = both_true (trade_in_range x t) (all_of (trade_in_range x) ts) h in
    omega (arith, (trade_facts x t b.0).lots_high, traded_lots_lem x ts b.1)

sum_within : (n : ℕ) (b : ℕ → ℕ) (f : ℕ → ℤ) → ((i : ℕ) → i < n → Within (b i) (f i)) → Within (total n b) (sum_to n f)
unfolding total sum_to
sum_within zero b f h = within_zero
sum_within (suc n) b f h = within_add (sum_within n b f (λ i l. h i (omega arith))) (h n (omega arith))

multiplied : {n : ℕ} {z : ℤ} (k K : ℕ) → k ≤ K → Within n z → Within (K * n) (pos k *ℤ z)
multiplied {n} {z} k K h w = rw (*ℤ_comm (pos k) z) (within_le (omega (arith, mul-le-mul_left n h)) (within_times k w))

-- ---- in a well-formed state

module _ (x : Exchange) (w : well_formed_contents x ≡ true) (few : length x.trades ≤ max_trades) (a : ℕ) (la : a < length x.accounts) where
  -- the lots opened during the day, and those held at the start
  lots_ever : ℕ → ℕ
  lots_ever c = opened_lots (legs a c x.trades) + ((holding_at x.accounts a c).startlong + (holding_at x.accounts a c).startshort)

  profit_reach : (c : ℕ) → c < length x.listings
      → Within (max_price * lots_ever c) ((day_of x a c).closing +ℤ holding_gain (settlement_price x c) (day_of x a c))
  unfolding lots_ever day_of
  profit_reach c lc =
      profit_within max_price _ _ _ _ ((facts x w).terms_of_lem c lc).reference.high (legs_priced x a c x.trades (facts x w).trades)
      (day_covered x (facts x w).replay a c) (settlement_price x c) (settlement_price_bound x w c lc)

  -- ---- times multiplier, over the contracts

  module _ (four : length x.listings ≤ max_contracts) where
    multiplier : ℕ → ℤ
    multiplier c = pos (listing_at x c).contract.multiplier

    both : ℕ → ℤ
    both c = (day_of x a c).closing +ℤ holding_gain (settlement_price x c) (day_of x a c)

    both_within : Within max_day_profit (sum_to (length x.listings) (λ c. multiplier c *ℤ both c))
    unfolding multiplier both lots_ever
    both_within = within_le in_all (sum_within (length x.listings) reaches (λ c. multiplier c *ℤ both c) each)
      where
        opened_in : ℕ → ℕ
        opened_in c = opened_lots (legs a c x.trades)

        reaches : ℕ → ℕ
        reaches c = 1_000_000_000 * opened_in c + 200_000_000_000_000

        each : (c : ℕ) → c < length x.listings → Within (reaches c) (multiplier c *ℤ both c)
        each c lc =
            within_le
            (omega (arith, (facts x w).startlong a c la lc, (facts x w).startshort a c la lc))
            (multiplied (listing_at x c).contract.multiplier 1_000 ((facts x w).terms_of_lem c lc).multiplier_high (profit_reach c lc))

        in_all : total (length x.listings) reaches ≤ max_day_profit
        in_all =
            omega (
              arith,
              total_add (length x.listings) (λ c. 1_000_000_000 * opened_in c) (λ c. 200_000_000_000_000),
              total_times (length x.listings) 1_000_000_000 opened_in,
              total_const (length x.listings) 200_000_000_000_000,
              opened_lots_lem (length x.listings) a x.trades,
              traded_lots_lem x x.trades (facts x w).trades,
            )

    pub day_profit_within : Within max_day_profit (closing_profit x a +ℤ holding_profit x a)
    unfolding closing_profit holding_profit multiplier both
    day_profit_within =
        subst (λ (z : ℤ). Within max_day_profit z)
        (sum_to_ext (length x.listings) _ _ (λ c l. *ℤ-add (multiplier c) (day_of x a c).closing (holding_gain (settlement_price x c) (day_of x a c)))
        ∙ sum_to_add (length x.listings) (λ c. multiplier c *ℤ (day_of x a c).closing) (λ c. multiplier c *ℤ holding_gain (settlement_price x c) (day_of x a c)))
        both_within

-- THE BOUNDS over all contracts, as the balance takes them
module _ (x : Exchange) (w : well_formed_contents x ≡ true) (four : length x.listings ≤ max_contracts) (few : length x.trades ≤ max_trades)
    (a : ℕ) (la : a < length x.accounts) where
  pub profit_bound : nat_abs (closing_profit x a +ℤ holding_profit x a) ≤ max_day_profit
  profit_bound = abs_within (closing_profit x a +ℤ holding_profit x a) (day_profit_within x w few a la four)

  -- the balance after the settlement keeps the bound of one settlement more
  pub settled_balance_bound : nat_abs (account_at x.accounts a).balance ≤ max_balance + x.settlements * max_day_profit →
      nat_abs (settled_account x a).balance ≤ max_balance + (x.settlements + 1) * max_day_profit
  unfolding settled_account
  settled_balance_bound h =
      abs_within (settled_account x a).balance
      (within_le (omega arith) (within_add (within_abs (account_at x.accounts a).balance (max_balance + x.settlements * max_day_profit) h) (day_profit_within x w few a la four)))
