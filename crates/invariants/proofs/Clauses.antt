-- The clauses of "a state is well formed" as facts with names, and the two ways between them and the test of `WellFormed.antt`.
-- Assumes nothing.
use lib.IntN.{nat_abs}
use Rattle.laws.specs.Logic.{Bool, true, false, not, ◌||◌, true≢false, List, [], ◌∷◌, ◌≡◌, refl}
use Rattle.laws.specs.Numbers.{ℕ, ◌+◌, ◌*◌, ◌<◌, ◌≤◌, arith, leb-true, ltb-true, le-leb, lt-ltb, eqb, leb, ltb, length}
use Rattle.laws.specs.Choice.{pick, all, all_of, all_at, all_true, all_of_at, all_of_true, both_true, true_both, for_either}
use Rattle.laws.specs.Chains.{Passed, all_passed, join}
use Rattle.rules.specs.Bounds.{within, allowed_today, in_auction, numbers_end, max_contracts, max_trades, max_resting, max_lots, max_settlements, max_balance, max_day_profit}
use Rattle.rules.specs.Exchange.{Exchange, Listing, listing_at, account_at, holding_at, own, resting_opens, resting_closes, no_listing, no_account}
use Rattle.rules.specs.Holdings.{book_trades, never_below_zero, start_of_day, same_holdings}
use Rattle.rules.specs.WellFormed.{contract_in_range, counters_in_range, mark_in_range, ranges_kept, sorted, uncrossed, queues_sorted, order_in_range, orders_in_range, all_numbers, all_stamps, used_once, mark_allowed, quotes, queue_quoted, listing_quoted, resting_in_range, trade_in_range, replays, held_in_range, holding_in_range, holdings_in_range, balance_in_range, well_formed_contents}
use Rattle.rules.specs.declared.{Account.Account, Contract.Contract, Holding.Holding, Order.Order, Trade.Trade}

-- ---- a resting order

pub record OrderOk (accounts next nextstamp : ℕ) (c : Contract) (o : Order) : Type 0 where
  pub lots_low : 1 ≤ o.lots
  pub lots_high : o.lots ≤ max_lots
  pub account : o.account < accounts
  pub price : allowed_today c o.price ≡ true
  pub number_low : 1 ≤ o.number
  pub number_high : o.number < next
  pub close : o.close ≤ 1
  pub stamp_low : 1 ≤ o.stamp
  pub stamp_high : o.stamp < nextstamp
  pub quote : o.quote ≤ 1

module _ (accounts next nextstamp : ℕ) (c : Contract) (o : Order) where
  abbrev order_tests : List Bool
  order_tests =
      leb o.lots max_lots
      ∷ ltb o.account accounts
      ∷ allowed_today c o.price
      ∷ leb 1 o.number
      ∷ ltb o.number next
      ∷ leb o.close 1
      ∷ leb 1 o.stamp
      ∷ ltb o.stamp nextstamp
      ∷ leb o.quote 1
      ∷ []

  pub order_ok : order_in_range accounts next nextstamp c o ≡ true → OrderOk accounts next nextstamp c o
  unfolding order_in_range
  order_ok h =
      let p = all_passed (leb 1 o.lots) order_tests h in
      search (leb-true, ltb-true) depth 12

  pub order_test_lem : OrderOk accounts next nextstamp c o → order_in_range accounts next nextstamp c o ≡ true
  unfolding order_in_range
  order_test_lem k = join (leb 1 o.lots) order_tests (search (le-leb, lt-ltb))

-- ---- a contract with its queues; of a side, `sell` is false for the buys and true for the sells

pub record ListingOk (accounts next nextstamp : ℕ) (m : Listing) : Type 0 where
  pub contract : contract_in_range m.contract ≡ true
  pub order : (sell : Bool) → sorted sell (own sell m) ≡ true
  pub apart : in_auction m.contract ≡ false → uncrossed m.buys m.sells ≡ true
  pub orders : (sell : Bool) → all_of (order_in_range accounts next nextstamp m.contract) (own sell m) ≡ true

-- a test that need not be passed in one case
unless : (a b : Bool) → (a || b) ≡ true → a ≡ false → b ≡ true
unless true b h e = absurd (true≢false e)
unless false b h e = h

or_else : (a b : Bool) → (a ≡ false → b ≡ true) → (a || b) ≡ true
or_else true b h = refl
or_else false b h = h refl

module _ (accounts next nextstamp : ℕ) (m : Listing) where
  abbrev queue_tests : List Bool
  queue_tests = sorted true m.sells ∷ (in_auction m.contract || uncrossed m.buys m.sells) ∷ []

  abbrev order_test : List Order → Bool
  order_test queue = all_of (order_in_range accounts next nextstamp m.contract) queue

  pub listing_ok : contract_in_range m.contract ≡ true → queues_sorted m ≡ true → orders_in_range accounts next nextstamp m ≡ true → ListingOk accounts next nextstamp m
  unfolding queues_sorted orders_in_range
  listing_ok k h o =
      let p = all_passed (sorted false m.buys) queue_tests h in
      let q = both_true (order_test m.buys) (order_test m.sells) o in
      record {
        contract = k;
        order = for_either _ p.0 p.1.0;
        apart = unless (in_auction m.contract) (uncrossed m.buys m.sells) p.1.1;
        orders = for_either _ q.0 q.1;
      }

  queues_test : ListingOk accounts next nextstamp m → queues_sorted m ≡ true
  unfolding queues_sorted
  queues_test k =
      join (sorted false m.buys) queue_tests
      (k.order false, (k.order true, or_else (in_auction m.contract) (uncrossed m.buys m.sells) k.apart))

  orders_test : ListingOk accounts next nextstamp m → orders_in_range accounts next nextstamp m ≡ true
  unfolding orders_in_range
  orders_test k = true_both (order_test m.buys) (order_test m.sells) (k.orders false) (k.orders true)

-- ---- the quote marks of a queue

pub record MarksOk (accounts : List Account) (queue : List Order) : Type 0 where
  pub allowed : all_of (mark_allowed accounts) queue ≡ true
  pub single : (a : ℕ) → a < length accounts → quotes a queue ≤ 1

module _ (accounts : List Account) where
  marks_ok : (queue : List Order) → queue_quoted accounts queue ≡ true → MarksOk accounts queue
  unfolding queue_quoted
  marks_ok queue h =
      let p = both_true (all_of (mark_allowed accounts) queue) (all (λ a. leb (quotes a queue) 1) (length accounts)) h in
      record { allowed = p.0; single = λ a l. leb-true _ _ (all_at (λ a. leb (quotes a queue) 1) a (length accounts) p.1 l) }

  marks_test : (queue : List Order) → MarksOk accounts queue → queue_quoted accounts queue ≡ true
  unfolding queue_quoted
  marks_test queue k =
      true_both (all_of (mark_allowed accounts) queue) (all (λ a. leb (quotes a queue) 1) (length accounts)) k.allowed
      (all_true (λ a. leb (quotes a queue) 1) (length accounts) (λ a l. le-leb _ _ (k.single a l)))

  both_marks_ok : (m : Listing) → listing_quoted accounts m ≡ true → (sell : Bool) → MarksOk accounts (own sell m)
  unfolding listing_quoted
  both_marks_ok m h sell =
      let p = both_true (queue_quoted accounts m.buys) (queue_quoted accounts m.sells) h in
      for_either (λ s. MarksOk accounts (own s m)) (marks_ok m.buys p.0) (marks_ok m.sells p.1) sell

  both_marks_test : (m : Listing) → ((sell : Bool) → MarksOk accounts (own sell m)) → listing_quoted accounts m ≡ true
  unfolding listing_quoted
  both_marks_test m k =
      true_both (queue_quoted accounts m.buys) (queue_quoted accounts m.sells) (marks_test m.buys (k false)) (marks_test m.sells (k true))

-- ---- a recorded trade

pub record TradeOk (x : Exchange) (t : Trade) : Type 0 where
  pub contract : t.contract < length x.listings
  pub buyer : t.buyer < length x.accounts
  pub seller : t.seller < length x.accounts
  pub two : not (eqb t.buyorder t.sellorder) ≡ true
  pub buy_low : 1 ≤ t.buyorder
  pub buy_high : t.buyorder < x.next
  pub sell_low : 1 ≤ t.sellorder
  pub sell_high : t.sellorder < x.next
  pub price : allowed_today (listing_at x t.contract).contract t.price ≡ true
  pub lots_low : 1 ≤ t.lots
  pub lots_high : t.lots ≤ max_lots
  pub buyclose : t.buyclose ≤ 1
  pub sellclose : t.sellclose ≤ 1

module _ (x : Exchange) (t : Trade) where
  abbrev trade_tests : List Bool
  trade_tests =
      ltb t.buyer (length x.accounts)
      ∷ ltb t.seller (length x.accounts)
      ∷ not (eqb t.buyorder t.sellorder)
      ∷ leb 1 t.buyorder
      ∷ ltb t.buyorder x.next
      ∷ leb 1 t.sellorder
      ∷ ltb t.sellorder x.next
      ∷ allowed_today (listing_at x t.contract).contract t.price
      ∷ within 1 max_lots t.lots
      ∷ leb t.buyclose 1
      ∷ leb t.sellclose 1
      ∷ []

  pub trade_ok : trade_in_range x t ≡ true → TradeOk x t
  unfolding trade_in_range
  trade_ok h =
      let p = all_passed (ltb t.contract (length x.listings)) trade_tests h in
      let q = both_true (leb 1 t.lots) (leb t.lots max_lots) p.1.1.1.1.1.1.1.1.1.0 in
      search (ltb-true, leb-true) depth 12

  pub trade_test : TradeOk x t → trade_in_range x t ≡ true
  unfolding trade_in_range
  trade_test k =
      let lots : within 1 max_lots t.lots ≡ true = true_both (leb 1 t.lots) (leb t.lots max_lots) (omega (arith, le-leb)) (omega (arith, le-leb)) in
      join (ltb t.contract (length x.listings)) trade_tests (search (le-leb, lt-ltb) depth 14)

-- ---- what an account holds in a contract. Opens of a side add to `held sell`, closes of a side lower `held (not sell)`.

abbrev pub held : Bool → Holding → ℕ
held sell h = pick sell h.short h.long

pub record HoldingOk (m : Listing) (a : ℕ) (h : Holding) : Type 0 where
  pub startlong : h.startlong ≤ m.contract.limit
  pub startshort : h.startshort ≤ m.contract.limit
  pub opens : (sell : Bool) → held sell h + resting_opens a (own sell m) ≤ m.contract.limit
  pub closes : (sell : Bool) → resting_closes a (own sell m) ≤ held (not sell) h

module _ (m : Listing) (a : ℕ) (h : Holding) where
  abbrev holding_tests : List Bool
  holding_tests =
      leb h.startshort m.contract.limit
      ∷ leb (h.long + resting_opens a m.buys) m.contract.limit
      ∷ leb (h.short + resting_opens a m.sells) m.contract.limit
      ∷ leb (resting_closes a m.sells) h.long
      ∷ leb (resting_closes a m.buys) h.short
      ∷ []

  pub holding_ok : holding_in_range m a h ≡ true → HoldingOk m a h
  unfolding held_in_range holding_in_range
  holding_ok e =
      let p = all_passed (leb h.startlong m.contract.limit) holding_tests e in
      record {
        startlong = omega (arith, leb-true);
        startshort = omega (arith, leb-true);
        opens = for_either _ (leb-true _ _ p.1.1.0) (leb-true _ _ p.1.1.1.0);
        closes = for_either _ (leb-true _ _ p.1.1.1.1.1) (leb-true _ _ p.1.1.1.1.0);
      }

  pub holding_test : HoldingOk m a h → holding_in_range m a h ≡ true
  unfolding held_in_range holding_in_range
  holding_test k =
      join (leb h.startlong m.contract.limit) holding_tests
      (search (le-leb, k.opens false, k.opens true, k.closes false, k.closes true))

-- ---- the whole state

pub record WellFormed (x : Exchange) : Type 0 where
  pub next_low : 1 ≤ x.next
  pub next_high : x.next ≤ numbers_end
  pub nextstamp_low : 1 ≤ x.nextstamp
  pub nextstamp_high : x.nextstamp ≤ numbers_end
  pub settlements : x.settlements ≤ max_settlements
  pub listing : (c : ℕ) → c < length x.listings → ListingOk (length x.accounts) x.next x.nextstamp (listing_at x c)
  pub once : used_once (all_numbers x.listings) ≡ true
  pub stamps_once : used_once (all_stamps x.listings) ≡ true
  pub marks : (c : ℕ) → c < length x.listings → (sell : Bool) → MarksOk x.accounts (own sell (listing_at x c))
  pub makers : (a : ℕ) → a < length x.accounts → (account_at x.accounts a).maker ≤ 1
  pub trades : all_of (trade_in_range x) x.trades ≡ true
  pub covered : never_below_zero (start_of_day x.accounts) x.trades ≡ true
  pub replay : same_holdings (book_trades (start_of_day x.accounts) x.trades) x.accounts ≡ true
  pub holding : (a c : ℕ) → a < length x.accounts → c < length x.listings → HoldingOk (listing_at x c) a (holding_at x.accounts a c)
  pub balance : (a : ℕ) → a < length x.accounts → nat_abs (account_at x.accounts a).balance ≤ max_balance + x.settlements * max_day_profit

module _ (x : Exchange) where
  abbrev contract_test : Bool
  contract_test = all_of (λ l. contract_in_range l.contract) x.listings

  abbrev counter_tests : List Bool
  counter_tests = leb x.next numbers_end ∷ within 1 numbers_end x.nextstamp ∷ leb x.settlements max_settlements ∷ []

  abbrev order_test_of : Listing → Bool
  order_test_of = orders_in_range (length x.accounts) x.next x.nextstamp

  abbrev once_tests : List Bool
  once_tests = used_once (all_numbers x.listings) ∷ used_once (all_stamps x.listings) ∷ all_of (listing_quoted x.accounts) x.listings ∷ []

  abbrev replay_tests : List Bool
  replay_tests = same_holdings (book_trades (start_of_day x.accounts) x.trades) x.accounts ∷ []

  abbrev state_tests : List Bool
  state_tests =
      all_of queues_sorted x.listings
      ∷ resting_in_range x
      ∷ all_of (trade_in_range x) x.trades
      ∷ replays x
      ∷ all (holdings_in_range x) (length x.accounts)
      ∷ all_of (balance_in_range x.settlements) x.accounts
      ∷ []

  -- the seven clauses, each passed
  clauses : well_formed_contents x ≡ true → Passed (ranges_kept x) state_tests
  unfolding well_formed_contents
  clauses h = all_passed (ranges_kept x) state_tests h

  pub well_formed : well_formed_contents x ≡ true → WellFormed x
  unfolding ranges_kept counters_in_range mark_in_range resting_in_range replays holdings_in_range balance_in_range listing_at account_at
  well_formed h =
      let p = clauses h in
      let ranges = all_passed (counters_in_range x) (contract_test ∷ all_of mark_in_range x.accounts ∷ []) p.0 in
      let counters = all_passed (leb 1 x.next) counter_tests ranges.0 in
      let stamp = both_true (leb 1 x.nextstamp) (leb x.nextstamp numbers_end) counters.1.1.0 in
      let resting = all_passed (all_of order_test_of x.listings) once_tests p.1.1.0 in
      let replay = all_passed (never_below_zero (start_of_day x.accounts) x.trades) replay_tests p.1.1.1.1.0 in
      record {
        next_low = leb-true _ _ counters.0;
        next_high = leb-true _ _ counters.1.0;
        nextstamp_low = leb-true _ _ stamp.0;
        nextstamp_high = leb-true _ _ stamp.1;
        settlements = leb-true _ _ counters.1.1.1;
        listing =
            λ c l. listing_ok _ _ _ _ (all_of_at (λ l. contract_in_range l.contract) x.listings c no_listing ranges.1.0 l)
            (all_of_at queues_sorted x.listings c no_listing p.1.0 l) (all_of_at order_test_of x.listings c no_listing resting.0 l);
        once = resting.1.0;
        stamps_once = resting.1.1.0;
        marks = λ c l. both_marks_ok x.accounts _ (all_of_at (listing_quoted x.accounts) x.listings c no_listing resting.1.1.1 l);
        makers = λ a l. leb-true _ _ (all_of_at mark_in_range x.accounts a no_account ranges.1.1 l);
        trades = p.1.1.1.0;
        covered = replay.0;
        replay = replay.1;
        holding =
            λ a c la lc. holding_ok _ _ _
            (all_at (λ c. holding_in_range (listing_at x c) a (holding_at x.accounts a c)) c (length x.listings)
            (all_at (holdings_in_range x) a (length x.accounts) p.1.1.1.1.1.0 la) lc);
        balance = λ a l. leb-true _ _ (all_of_at (balance_in_range x.settlements) x.accounts a no_account p.1.1.1.1.1.1 l);
      }

  module _ (k : WellFormed x) where
    ranges_test : ranges_kept x ≡ true
    unfolding ranges_kept counters_in_range mark_in_range listing_at account_at
    ranges_test =
        join (counters_in_range x) (contract_test ∷ all_of mark_in_range x.accounts ∷ []) (
          join (leb 1 x.next) counter_tests (
            le-leb _ _ k.next_low,
            (
              le-leb _ _ k.next_high,
              (
                true_both (leb 1 x.nextstamp) (leb x.nextstamp numbers_end) (le-leb _ _ k.nextstamp_low) (le-leb _ _ k.nextstamp_high),
                le-leb _ _ k.settlements,
              ),
            ),
          ),
          (
            all_of_true (λ l. contract_in_range l.contract) x.listings no_listing (λ c l. (k.listing c l).contract),
            all_of_true mark_in_range x.accounts no_account (λ a l. le-leb _ _ (k.makers a l)),
          ),
        )

    resting_test : resting_in_range x ≡ true
    unfolding resting_in_range listing_at
    resting_test =
        join (all_of order_test_of x.listings) once_tests (
          all_of_true order_test_of x.listings no_listing (λ c l. orders_test _ _ _ _ (k.listing c l)),
          (
            k.once,
            (
              k.stamps_once,
              all_of_true (listing_quoted x.accounts) x.listings no_listing (λ c l. both_marks_test x.accounts _ (k.marks c l)),
            ),
          ),
        )

    holdings_test_lem : all (holdings_in_range x) (length x.accounts) ≡ true
    unfolding holdings_in_range
    holdings_test_lem =
        all_true (holdings_in_range x) (length x.accounts)
        (λ a la. all_true (λ c. holding_in_range (listing_at x c) a (holding_at x.accounts a c)) (length x.listings)
        (λ c lc. holding_test _ _ _ (k.holding a c la lc)))

    pub well_formed_test : well_formed_contents x ≡ true
    unfolding well_formed_contents replays balance_in_range listing_at account_at
    well_formed_test =
        join (ranges_kept x) state_tests (
          ranges_test,
          (
            all_of_true queues_sorted x.listings no_listing (λ c l. queues_test _ _ _ _ (k.listing c l)),
            (
              resting_test,
              (
                k.trades,
                (
                  join (never_below_zero (start_of_day x.accounts) x.trades) replay_tests (k.covered, k.replay),
                  (
                    holdings_test_lem,
                    all_of_true (balance_in_range x.settlements) x.accounts no_account (λ a l. le-leb _ _ (k.balance a l)),
                  ),
                ),
              ),
            ),
          ),
        )

-- ---- the counts, which `counts_in_range` of Memory.antt tests: not part of `well_formed_contents`

pub record Counted (x : Exchange) : Type 0 where
  pub contracts : length x.listings ≤ max_contracts
  pub trades : length x.trades ≤ max_trades
  pub queues : (c : ℕ) (sell : Bool) → c < length x.listings → length (own sell (listing_at x c)) ≤ max_resting

-- a state that is well formed, with its counts in range
pub record Sound (x : Exchange) : Type 0 where
  pub contents : WellFormed x
  pub counts : Counted x
