-- A settlement keeps a state well formed: its price is a tick multiple, holdings become starting ones, and each balance takes a
-- day's profit, which accounting bounds. Assumes nothing.
use Rattle.laws.specs.Logic.{Bool, true, false, ◌&&◌, List, [], ◌∷◌, map, ◌≡◌, refl, ap}
use Rattle.laws.specs.Numbers.{ℕ, ◌+◌, ◌<◌, ◌≤◌, arith, eqb-true, leb-false, le-leb, eqb, leb, length, get_or, List·getD-map}
use Rattle.laws.specs.Choice.{pick, all_of, all_of_imp, both_true, true_both}
use Rattle.laws.specs.Sums.{sum_of}
use Rattle.laws.specs.Chains.{all_passed, join}
use Rattle.rules.specs.Answers.{first_of, settle_refusals}
use Rattle.rules.specs.Bounds.{within, tick_multiple, terms_in_range, max_price, max_settlements, pre_open, max_phase, phase_known}
use Rattle.rules.specs.Exchange.{Exchange, listing_at, account_at, holding_at, own, no_holding}
use Rattle.rules.specs.Holdings.{start_holding, start_account}
use Rattle.rules.specs.Matching.{traded_lots}
use Rattle.rules.specs.Kinds.{last_of}
use Rattle.rules.specs.Settlement.{trades_in, quoted_price, price_from, settlement_price, carried_holding, settled_account, settled_contract, settled_listing, settled}
use Rattle.rules.specs.Step.{settled_all}
use Rattle.rules.specs.WellFormed.{contract_in_range, order_in_range, trade_in_range}
use Rattle.rules.specs.declared.{Contract.Contract, Holding.Holding, Order.Order, Trade.Trade}
use Rattle.theory.proofs.Prices.{middle_any}
use Rattle.theory.proofs.Terms.{Terms, terms, terms_test, Multiple}
use Rattle.theory.proofs.Refusals.{failed}
use Rattle.accounting.proofs.ProfitBound.{settled_balance_bound}
use Rattle.invariants.proofs.Clauses.{order_ok, ListingOk, TradeOk, trade_ok, WellFormed, Counted, well_formed_test}
use Rattle.invariants.proofs.FreshDay.{fresh_counted, fresh_day_lem}
use Rattle.invariants.proofs.Ticks.{allowed_multiple, weighted_multiple}

-- ---- the settlement price

-- the trades of one contract are trades, and of that contract
trades_in_lem : (c : ℕ) (test : Trade → Bool) (ts : List Trade) → all_of test ts ≡ true → all_of (λ t. eqb t.contract c && test t) (trades_in c ts) ≡ true
unfolding all_of trades_in
trades_in_lem c test [] h = refl
trades_in_lem c test (t ∷ ts) h = by_contract (eqb t.contract c) refl (trades_in_lem c test ts q.1)
  where
    q : (test t ≡ true) × (all_of test ts ≡ true)
    q = both_true (test t) (all_of test ts) h

    by_contract : (b : Bool) → eqb t.contract c ≡ b → all_of (λ t. eqb t.contract c && test t) (trades_in c ts) ≡ true
        → all_of (λ t. eqb t.contract c && test t) (pick b (t ∷ trades_in c ts) (trades_in c ts)) ≡ true
    by_contract true e ih = true_both (eqb t.contract c && test t) _ (true_both (eqb t.contract c) (test t) e q.0) ih
    by_contract false e ih = ih

module _ (x : Exchange) (c : ℕ) (k : ListingOk (length x.accounts) x.next x.nextstamp (listing_at x c)) where
  abbrev tick : ℕ
  tick = (listing_at x c).contract.tick

  its_terms : Terms (listing_at x c).contract
  unfolding contract_in_range
  its_terms =
      terms (listing_at x c).contract
      (all_passed (terms_in_range (listing_at x c).contract)
      (phase_known (listing_at x c).contract.phase ∷ tick_multiple tick (listing_at x c).contract.last ∷ []) k.contract).0

  -- its own trades
  abbrev own_trade : Trade → Bool
  own_trade t = eqb t.contract c && trade_in_range x t

  own_trade_lem : (t : Trade) → own_trade t ≡ true → TradeOk x t × Multiple tick t.price
  own_trade_lem t h =
      let p = both_true (eqb t.contract c) (trade_in_range x t) h in
      let f = trade_ok x t p.1 in
      (f, rw (eqb-true t.contract c p.0) at (allowed_multiple (listing_at x t.contract).contract t.price f.price))

  priced : (ts : List Trade) → all_of own_trade ts ≡ true → all_of (λ t. within tick max_price t.price) ts ≡ true
  priced ts = all_of_imp own_trade (λ t. within tick max_price t.price) ts
      (λ t h. let f = own_trade_lem t h in true_both (leb tick t.price) (leb t.price max_price) (le-leb _ _ f.1.low) (le-leb _ _ f.1.high))

  some_lots : (t : Trade) (ts : List Trade) → all_of own_trade (t ∷ ts) ≡ true → 1 ≤ traded_lots (t ∷ ts)
  unfolding all_of traded_lots sum_of
  some_lots t ts h = omega (arith, (own_trade_lem t (both_true (own_trade t) (all_of own_trade ts) h).0).0.lots_low)

  -- the best price of a side
  first_multiple : (sell : Bool) (o : Order) (os : List Order) → own sell (listing_at x c) ≡ o ∷ os → Multiple tick o.price
  unfolding all_of
  first_multiple sell o os e =
      let test : Order → Bool = order_in_range (length x.accounts) x.next x.nextstamp (listing_at x c).contract in
      let r : all_of test (o ∷ os) ≡ true = rw e at (k.orders sell) in
      allowed_multiple (listing_at x c).contract o.price (order_ok _ _ _ _ o (both_true (test o) (all_of test os) r).0).price

  price_from_lem : (ts : List Trade) (buys sells : List Order) → all_of own_trade ts ≡ true → (listing_at x c).buys ≡ buys → (listing_at x c).sells ≡ sells →
      Multiple tick (price_from tick (listing_at x c).contract.reference ts buys sells)
  unfolding price_from quoted_price
  price_from_lem [] [] sells h b s = its_terms.reference
  price_from_lem [] (p ∷ ps) [] h b s = its_terms.reference
  price_from_lem [] (p ∷ ps) (q ∷ qs) h b s =
      middle_any (Multiple tick) p.price q.price _ (first_multiple false p ps b) (first_multiple true q qs s)
      its_terms.reference
  price_from_lem (t ∷ ts) buys sells h b s = weighted_multiple tick (t ∷ ts) its_terms.tick_low (some_lots t ts h) (priced (t ∷ ts) h)

  pub price_multiple : all_of (trade_in_range x) x.trades ≡ true → Multiple tick (settlement_price x c)
  unfolding settlement_price
  price_multiple h =
      price_from_lem (trades_in c x.trades) (listing_at x c).buys (listing_at x c).sells (trades_in_lem c (trade_in_range x) x.trades h) refl refl

-- ---- what a settlement leaves

-- the contract: its new reference is the settlement price
contract_settled : (c : Contract) (price : ℕ) → contract_in_range c ≡ true → Multiple c.tick price → contract_in_range (settled_contract c price) ≡ true
unfolding contract_in_range settled_contract
contract_settled c price h m =
    let p = all_passed (terms_in_range c) (phase_known c.phase ∷ tick_multiple c.tick c.last ∷ []) h in
    let t = terms c p.0 in
    join (terms_in_range (settled_contract c price)) (phase_known pre_open ∷ tick_multiple c.tick c.last ∷ []) (
      terms_test (settled_contract c price)
          (record {
            multiplier_low = t.multiplier_low;
            multiplier_high = t.multiplier_high;
            tick_low = t.tick_low;
            tick_high = t.tick_high;
            reference = m;
            band = t.band;
            limit_low = t.limit_low;
            limit_high = t.limit_high;
            rate_low = t.rate_low;
            rate_high = t.rate_high;
            method_high = t.method_high;
          }),
      (le-leb pre_open max_phase (omega arith), p.1.1),
    )

-- the holdings at the start of the new day are those now
carried_start : (hs : List Holding) → map start_holding (map carried_holding hs) ≡ map carried_holding hs
carried_start [] = refl
carried_start (h ∷ hs) = rw (carried_start hs)

module _ (x : Exchange) (k : WellFormed x) (n : Counted x) where
  abbrev contract_at : ℕ → Contract
  contract_at c = settled_contract (listing_at x c).contract (settlement_price x c)

  in_range_lem : (c : ℕ) → c < length x.listings → contract_in_range (contract_at c) ≡ true
  in_range_lem c l =
      contract_settled (listing_at x c).contract (settlement_price x c) (k.listing c l).contract (price_multiple x c (k.listing c l) k.trades)

  start : (a : ℕ) → start_account (settled_account x a) ≡ settled_account x a
  unfolding settled_account
  start a =
      ap (λ (hs : List Holding). record { balance = (settled_account x a).balance; maker = (settled_account x a).maker; holdings = hs })
      (carried_start (account_at x.accounts a).holdings)

  held_at_lem : (a c : ℕ) → get_or (settled_account x a).holdings c no_holding ≡ carried_holding (holding_at x.accounts a c)
  unfolding settled_account holding_at
  held_at_lem a c = List·getD-map carried_holding (account_at x.accounts a).holdings c no_holding

  long_kept : (a c : ℕ) → a < length x.accounts → c < length x.listings →
      (get_or (settled_account x a).holdings c no_holding).long ≤ (contract_at c).limit
  unfolding settled_contract
  long_kept a c la lc = rw (held_at_lem a c) (omega (arith, (k.holding a c la lc).opens false))

  short_kept : (a c : ℕ) → a < length x.accounts → c < length x.listings →
      (get_or (settled_account x a).holdings c no_holding).short ≤ (contract_at c).limit
  unfolding settled_contract
  short_kept a c la lc = rw (held_at_lem a c) (omega (arith, (k.holding a c la lc).opens true))

  makers_kept : (a : ℕ) → a < length x.accounts → (settled_account x a).maker ≤ 1
  unfolding settled_account
  makers_kept a l = k.makers a l

  pub settled_keeps : x.settlements < max_settlements → WellFormed (settled x)
  unfolding settled settled_listing
  settled_keeps few =
      fresh_day_lem (length x.listings) contract_at (length x.accounts) (settled_account x) (x.settlements + 1) in_range_lem start
      (omega arith) makers_kept long_kept short_kept
      (λ a l. settled_balance_bound x (well_formed_test x k) n.contracts n.trades a l (k.balance a l))

  pub settled_counted : Counted (settled x)
  unfolding settled settled_listing
  settled_counted =
      fresh_counted (length x.listings) contract_at (length x.accounts) (settled_account x) (x.settlements + 1) in_range_lem start n.contracts

-- ---- the step

module _ (x : Exchange) (e : first_of (settle_refusals x) ≡ 0) where
  pub settle_keeps : WellFormed x → Counted x → WellFormed (last_of x (settled_all x).stages)
  unfolding settle_refusals settled_all
  settle_keeps k n = settled_keeps x k n (leb-false max_settlements x.settlements (failed (settle_refusals x) (omega arith) e).1.0)

  pub settle_counted : WellFormed x → Counted x → Counted (last_of x (settled_all x).stages)
  unfolding settled_all
  settle_counted k n = settled_counted x k n
