-- What a well-formed state says, as far as money needs it: trades between accounts in use, prices and terms in range, starting
-- lots within the limit, a replay that holds. Assumes nothing.
use Rattle.laws.specs.Logic.{true, not, List, [], ◌∷◌, ◌≡◌}
use Rattle.laws.specs.Numbers.{ℕ, ◌+◌, ◌<◌, ◌≤◌, div-add-mod', arith, leb-true, ltb-true, eqb, leb, ltb, length}
use Rattle.laws.specs.Choice.{all, all_of, all_at, all_of_at, both_true}
use Rattle.laws.specs.Chains.{Passed, all_passed}
use Rattle.rules.specs.Bounds.{within, on_tick, day_low, day_high, allowed_today, max_price, max_lots}
use Rattle.rules.specs.Exchange.{Exchange, Listing, no_listing, listing_at, holding_at, resting_opens, resting_closes}
use Rattle.rules.specs.WellFormed.{counters_in_range, contract_in_range, mark_in_range, ranges_kept, queues_sorted, order_in_range, orders_in_range, all_numbers, all_stamps, used_once, listing_quoted, resting_in_range, trade_in_range, replays, held_in_range, holding_in_range, holdings_in_range, balance_in_range, well_formed_contents}
use Rattle.rules.specs.declared.{Contract.Contract, Holding.Holding, Order.Order, Trade.Trade}
use Rattle.theory.proofs.Terms.{Terms, contract_terms}
use Rattle.accounting.specs.Money.{AllKnown}

-- ---- prices

pub allowed_price : (c : Contract) (p : ℕ) → allowed_today c p ≡ true → p ≤ max_price
unfolding allowed_today day_high
allowed_price c p h =
    let q = both_true (on_tick c.tick p) (within (day_low c) (day_high c) p) h in
    let r = leb-true p (day_high c) (both_true (leb (day_low c) p) (leb p (day_high c)) q.1).1 in
    omega (arith, r, div-add-mod' max_price c.tick)

pub order_price : (accounts next nextstamp : ℕ) (c : Contract) (o : Order) → order_in_range accounts next nextstamp c o ≡ true → o.price ≤ max_price
unfolding order_in_range
order_price accounts next nextstamp c o h =
    allowed_price c o.price
    (all_passed (within 1 max_lots o.lots)
    (ltb o.account accounts ∷ allowed_today c o.price ∷ leb 1 o.number ∷ ltb o.number next ∷ leb o.close 1 ∷ leb 1 o.stamp ∷ ltb o.stamp nextstamp ∷ leb o.quote 1 ∷ []) h).1.1.0

-- ---- a recorded trade

pub record TradeFacts (x : Exchange) (t : Trade) : Type 0 where
  pub contract : t.contract < length x.listings
  pub buyer : t.buyer < length x.accounts
  pub seller : t.seller < length x.accounts
  pub price : t.price ≤ max_price
  pub lots_low : 1 ≤ t.lots
  pub lots_high : t.lots ≤ max_lots

pub trade_facts : (x : Exchange) (t : Trade) → trade_in_range x t ≡ true → TradeFacts x t
unfolding trade_in_range
trade_facts x t h =
    let p = all_passed (ltb t.contract (length x.listings))
    (ltb t.buyer (length x.accounts) ∷ ltb t.seller (length x.accounts) ∷ not (eqb t.buyorder t.sellorder)
    ∷ leb 1 t.buyorder ∷ ltb t.buyorder x.next ∷ leb 1 t.sellorder ∷ ltb t.sellorder x.next
    ∷ allowed_today (listing_at x t.contract).contract t.price ∷ within 1 max_lots t.lots
    ∷ leb t.buyclose 1 ∷ leb t.sellclose 1 ∷ []) h in
    let lots = both_true (leb 1 t.lots) (leb t.lots max_lots) p.1.1.1.1.1.1.1.1.1.0 in
    search (ltb-true, allowed_price, leb-true) depth 12

-- ---- the state

pub record Facts (x : Exchange) : Type 0 where
  pub terms_of_lem : (c : ℕ) → c < length x.listings → Terms (listing_at x c).contract
  pub buys : (c : ℕ) → c < length x.listings → all_of (order_in_range (length x.accounts) x.next x.nextstamp (listing_at x c).contract) (listing_at x c).buys ≡ true
  pub trades : all_of (trade_in_range x) x.trades ≡ true
  pub replay : replays x ≡ true
  pub startlong : (a c : ℕ) → a < length x.accounts → c < length x.listings → (holding_at x.accounts a c).startlong ≤ 100_000
  pub startshort : (a c : ℕ) → a < length x.accounts → c < length x.listings → (holding_at x.accounts a c).startshort ≤ 100_000

module _ (x : Exchange) (h : well_formed_contents x ≡ true) where
  clauses : Passed (ranges_kept x)
      (all_of queues_sorted x.listings ∷ resting_in_range x ∷ all_of (trade_in_range x) x.trades ∷ replays x ∷ all (holdings_in_range x) (length x.accounts) ∷ all_of (balance_in_range x.settlements) x.accounts ∷ [])
  unfolding well_formed_contents
  clauses =
      all_passed (ranges_kept x)
      (all_of queues_sorted x.listings ∷ resting_in_range x ∷ all_of (trade_in_range x) x.trades ∷ replays x ∷ all (holdings_in_range x) (length x.accounts) ∷ all_of (balance_in_range x.settlements) x.accounts ∷ []) h

  contract_at_lem : (c : ℕ) → c < length x.listings → contract_in_range (listing_at x c).contract ≡ true
  unfolding ranges_kept listing_at
  contract_at_lem c l =
      let p = all_passed (counters_in_range x) (all_of (λ l. contract_in_range l.contract) x.listings ∷ all_of mark_in_range x.accounts ∷ []) clauses.0 in
      all_of_at (λ l. contract_in_range l.contract) x.listings c no_listing p.1.0 l

  buys_at : (c : ℕ) → c < length x.listings → all_of (order_in_range (length x.accounts) x.next x.nextstamp (listing_at x c).contract) (listing_at x c).buys ≡ true
  unfolding resting_in_range orders_in_range listing_at
  buys_at c l =
      let p = all_passed (all_of (orders_in_range (length x.accounts) x.next x.nextstamp) x.listings)
      (used_once (all_numbers x.listings) ∷ used_once (all_stamps x.listings) ∷ all_of (listing_quoted x.accounts) x.listings ∷ []) clauses.1.1.0 in
      (both_true _ _ (all_of_at (orders_in_range (length x.accounts) x.next x.nextstamp) x.listings c no_listing p.0 l)).0

  terms_at : (c : ℕ) → c < length x.listings → Terms (listing_at x c).contract
  terms_at c l = contract_terms _ (contract_at_lem c l)

  holding_in_range_lem : (a c : ℕ) → a < length x.accounts → c < length x.listings →
      holding_in_range (listing_at x c) a (holding_at x.accounts a c) ≡ true
  unfolding holdings_in_range
  holding_in_range_lem a c la lc =
      all_at (λ c. holding_in_range (listing_at x c) a (holding_at x.accounts a c)) c (length x.listings)
      (all_at (holdings_in_range x) a (length x.accounts) clauses.1.1.1.1.1.0 la) lc

  start_lots : (m : Listing) (a : ℕ) (k : Holding) → holding_in_range m a k ≡ true →
      (k.startlong ≤ m.contract.limit) × (k.startshort ≤ m.contract.limit)
  unfolding held_in_range holding_in_range
  start_lots m a k e =
      let p = all_passed (leb k.startlong m.contract.limit)
      (leb k.startshort m.contract.limit
      ∷ leb (k.long + resting_opens a m.buys) m.contract.limit ∷ leb (k.short + resting_opens a m.sells) m.contract.limit
      ∷ leb (resting_closes a m.sells) k.long ∷ leb (resting_closes a m.buys) k.short ∷ []) e in
      (leb-true _ _ p.0, leb-true _ _ p.1.0)

  starts : (a c : ℕ) → a < length x.accounts → c < length x.listings →
      ((holding_at x.accounts a c).startlong ≤ 100_000) × ((holding_at x.accounts a c).startshort ≤ 100_000)
  starts a c la lc =
      let s = start_lots (listing_at x c) a (holding_at x.accounts a c) (holding_in_range_lem a c la lc) in
      let t = (terms_at c lc).limit_high in
      (omega (arith, s.0), omega (arith, s.1))

  pub facts : Facts x
  facts = record {
    terms_of_lem = terms_at;
    buys = buys_at;
    trades = clauses.1.1.1.0;
    replay = clauses.1.1.1.1.0;
    startlong = λ a c la lc. (starts a c la lc).0;
    startshort = λ a c la lc. (starts a c la lc).1;
  }

pub known_trades : (x : Exchange) (ts : List Trade) → all_of (trade_in_range x) ts ≡ true → AllKnown (length x.accounts) ts
unfolding all_of AllKnown
known_trades x [] h = tt
known_trades x (t ∷ ts) h =
    let b = both_true (trade_in_range x t) (all_of (trade_in_range x) ts) h in
    let f = trade_facts x t b.0 in
    ((f.buyer, f.seller), known_trades x ts b.1)
