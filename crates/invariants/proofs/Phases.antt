-- A change of a contract's state keeps the exchange's state well formed, the match of an auction with it: the book that the auction
-- leaves is uncrossed. Assumes nothing.
use Rattle.laws.specs.Logic.{Bool, true, false, not, List, [], ◌∷◌, ◌≡◌, refl, sym, ap, subst}
use Rattle.laws.specs.Numbers.{ℕ, ◌+◌, ◌<◌, ◌≤◌, le_refl, arith, eqb-true, leb-true, ltb-false, le-leb, lt-ltb, not-false, eqb, length, get_or-set_same}
use Rattle.laws.specs.Choice.{pick, all_of, all_of_imp, for_either}
use Rattle.laws.specs.Chains.{all_passed, join}
use Rattle.laws.specs.Sums.{sum_of_at}
use Rattle.rules.specs.Answers.{◌when◌, first_of, phase_refusals}
use Rattle.rules.specs.Auction.{Matched, auction_match, chosen_price, match_at, match_of, volume}
use Rattle.rules.specs.Bounds.{in_auction, max_phase, max_resting, max_trades, phase_known, terms_in_range, tick_multiple, allowed_today, day_low, day_high}
use Rattle.rules.specs.Exchange.{Exchange, Listing, listing_at, holding_at, no_listing, place_of, own}
use Rattle.rules.specs.Holdings.{book_trades}
use Rattle.rules.specs.Kinds.{last_of}
use Rattle.rules.specs.Step.{with_last, with_phase, with_trades, listing_matched, exchange_matched, phase_changed}
use Rattle.rules.specs.WellFormed.{all_numbers, all_stamps, contract_in_range, mark_allowed, order_in_range, sorted, trade_in_range, uncrossed, number_of, stamp_of}
use Rattle.rules.specs.declared.{Contract.Contract, Holding.Holding, Order.Order}
use Rattle.theory.proofs.AuctionOutcome.{auction_either, auction_price_passes, auction_taken, auction_uncrosses}
use Rattle.theory.proofs.AuctionSteps.{match_either}
use Rattle.theory.proofs.AuctionTaken.{Taken}
use Rattle.theory.proofs.AuctionTrades.{match_contract, match_prices}
use Rattle.theory.proofs.AuctionUncrossed.{has_lots}
use Rattle.theory.proofs.Holdings.{booked_start_holding}
use Rattle.theory.proofs.Refusals.{failed, present}
use Rattle.theory.proofs.Sweep.{of_contract}
use Rattle.invariants.proofs.Carry.{Allows, orders_carried}
use Rattle.invariants.proofs.Clauses.{order_ok, ListingOk, HoldingOk, MarksOk, WellFormed, Counted}
use Rattle.invariants.proofs.InsertListing.{contract_traded}
use Rattle.invariants.proofs.InsertQueues.{order_fewer}
use Rattle.invariants.proofs.Legs.{Kept}
use Rattle.invariants.proofs.Marks.{allowed_fewer, mark_of, mark_fewer, marks_left}
use Rattle.invariants.proofs.MatchedHoldings.{MatchKept, match_kept, unmatched_kept}
use Rattle.invariants.proofs.MatchedTrades.{matched_in_range}
use Rattle.invariants.proofs.Numbers.{KeptByLots, all_uses, once_count, uses, uses_in}
use Rattle.invariants.proofs.Traded.{TradesOk, traded_accounts, traded_allows, traded_counted, traded_keeps, traded_listings}

-- ---- the contract

-- the prices allowed do not depend on the state, nor on the last price
allows_changed : (c : Contract) (last phase : ℕ) → Allows c (with_phase (with_last c last) phase)
unfolding allowed_today day_low day_high
allows_changed c last phase price h = h

contract_phase : (c : Contract) (phase : ℕ) → phase ≤ max_phase → contract_in_range c ≡ true → contract_in_range (with_phase c phase) ≡ true
unfolding contract_in_range terms_in_range
contract_phase c phase l h =
    let p = all_passed (terms_in_range c) (phase_known c.phase ∷ tick_multiple c.tick c.last ∷ []) h in
    join (terms_in_range c) (phase_known phase ∷ tick_multiple c.tick c.last ∷ []) (p.0, (le-leb phase max_phase l, p.1.1))

-- ---- the match

-- the queue of a side
abbrev pub left : Bool → Matched → List Order
left sell m = pick sell m.sells m.buys

module _ (x : Exchange) (k : WellFormed x) (c : ℕ) (there : c < length x.listings) where
  abbrev pub before : Listing
  before = listing_at x c

  abbrev pub in_range : Order → Bool
  in_range = order_in_range (length x.accounts) x.next x.nextstamp before.contract

  -- what a match leaves of a listing in range, and what it trades
  pub record MatchOk (m : Matched) : Type 0 where
    pub order : (sell : Bool) → sorted sell (left sell m) ≡ true
    pub apart : uncrossed m.buys m.sells ≡ true
    pub orders : (sell : Bool) → all_of in_range (left sell m) ≡ true
    pub prices : all_of (λ t. allowed_today before.contract t.price) m.trades ≡ true
    pub values : (field : Order → ℕ) → KeptByLots field → (n : ℕ) → uses field n m.buys + uses field n m.sells ≤ uses_in field n before
    pub ranges : (y : Exchange) → c < length y.listings → length y.accounts ≡ length x.accounts → x.next ≤ y.next →
        Allows before.contract (listing_at y c).contract → all_of (trade_in_range y) m.trades ≡ true
    pub here : all_of (of_contract c) m.trades ≡ true
    pub holdings : (limit : ℕ → ℕ) → Kept (length x.accounts) limit c x.accounts before.buys before.sells → MatchKept (length x.accounts) limit c x.accounts m
    pub shorter : (sell : Bool) → length (left sell m) ≤ length (own sell before)
    pub marks : (sell : Bool) → MarksOk x.accounts (left sell m)

  ok : ListingOk (length x.accounts) x.next x.nextstamp before
  ok = k.listing c there

  pub kept_now : Kept (length x.accounts) (λ a. before.contract.limit) c x.accounts before.buys before.sells
  kept_now a l =
      let q = k.holding a c l there in
      record { buy_opens_lem = q.opens false; sell_opens_lem = q.opens true; buy_closes_lem = q.closes false; sell_closes_lem = q.closes true }

  -- no change but one out of auction makes a match
  unmatched_ok : in_auction before.contract ≡ false → MatchOk (record { trades = []; buys = before.buys; sells = before.sells })
  unfolding all_of uses_in
  unmatched_ok e =
      record {
        order = ok.order;
        apart = ok.apart e;
        orders = ok.orders;
        prices = refl;
        values = λ field kept n. le_refl _;
        ranges = λ y t s l a. refl;
        here = refl;
        holdings = λ limit. unmatched_kept (length x.accounts) limit c x.accounts before.buys before.sells;
        shorter = λ sell. le_refl _;
        marks = k.marks c there;
      }

  abbrev price : ℕ
  price = chosen_price before.contract.last before.buys before.sells

  abbrev matched : Matched
  matched = auction_match c before.contract.last before.buys before.sells

  taken : (sell : Bool) → (n : ℕ) × Taken sell n (own sell before) (left sell matched)
  taken false = (_, (auction_taken c before.contract.last before.buys before.sells (ok.order false) (ok.order true)).0)
  taken true = (_, (auction_taken c before.contract.last before.buys before.sells (ok.order false) (ok.order true)).1)

  have_lots : (sell : Bool) → all_of has_lots (own sell before) ≡ true
  have_lots sell = all_of_imp in_range has_lots (own sell before) (λ o h. lt-ltb 0 o.lots (order_ok _ _ _ _ o h).lots_low) (ok.orders sell)

  price_allowed : 0 < volume before.buys before.sells price → allowed_today before.contract price ≡ true
  price_allowed some =
      auction_price_passes (allowed_today before.contract) before.contract.last before.buys before.sells some (each false) (each true)
    where
      each : (sell : Bool) → all_of (λ o. allowed_today before.contract o.price) (own sell before) ≡ true
      each sell = all_of_imp in_range (λ o. allowed_today before.contract o.price) (own sell before) (λ o h. (order_ok _ _ _ _ o h).price) (ok.orders sell)

  once_here : (n : ℕ) → uses number_of n before.buys + uses number_of n before.sells ≤ 1
  unfolding uses_in listing_at
  once_here n =
      omega (arith, once_count (all_numbers x.listings) k.once n, all_uses number_of n x.listings, sum_of_at (uses_in number_of n) x.listings c no_listing there)

  fewer_uses : (field : Order → ℕ) → KeptByLots field → (sell : Bool) (n : ℕ) → uses field n (left sell matched) ≤ uses field n (own sell before)
  unfolding uses
  fewer_uses field kept sell n = (taken sell).1.atmost (λ o. pick (eqb n (field o)) 1 0) (λ o m low high. rw (kept o m).0 (le_refl _))

  matched_ranges : (y : Exchange) → c < length y.listings → length y.accounts ≡ length x.accounts → x.next ≤ y.next →
      Allows before.contract (listing_at y c).contract → all_of (trade_in_range y) matched.trades ≡ true
  unfolding all_of
  matched_ranges y inside same later allows =
      auction_either c before.contract.last before.buys before.sells (λ m. all_of (trade_in_range y) m.trades ≡ true) (λ z. refl)
      (λ some. matched_in_range y before.contract x.next x.nextstamp c price before.buys before.sells inside later
      (allows price (price_allowed some)) once_here (known_accounts false) (known_accounts true))
    where
      known_accounts : (sell : Bool) → all_of (order_in_range (length y.accounts) x.next x.nextstamp before.contract) (own sell before) ≡ true
      known_accounts sell =
          subst (λ (n : ℕ). all_of (order_in_range n x.next x.nextstamp before.contract) (own sell before) ≡ true) (sym same) (ok.orders sell)

  matched_ok : MatchOk matched
  unfolding all_of uses_in
  matched_ok =
      record {
        order = λ sell. (taken sell).1.inorder;
        apart =
            auction_uncrosses c before.contract.last before.buys before.sells (ok.order false) (ok.order true) (have_lots false) (have_lots true);
        orders = λ sell. (taken sell).1.kept in_range (order_fewer (length x.accounts) x.next x.nextstamp before.contract) (ok.orders sell);
        prices =
            auction_either c before.contract.last before.buys before.sells (λ m. all_of (λ t. allowed_today before.contract t.price) m.trades ≡ true)
            (λ z. refl)
            (λ some. all_of_imp (λ t. eqb t.price price) (λ t. allowed_today before.contract t.price) (match_at c price before.buys before.sells).trades
            (λ t h. rw (eqb-true t.price price h) (price_allowed some)) (match_prices c price before.buys before.sells));
        values = λ field kept n. omega (arith, fewer_uses field kept false n, fewer_uses field kept true n);
        ranges = matched_ranges;
        here =
            auction_either c before.contract.last before.buys before.sells (λ m. all_of (of_contract c) m.trades ≡ true) (λ z. refl)
            (λ some. match_contract c price before.buys before.sells);
        holdings =
            λ limit kept. auction_either c before.contract.last before.buys before.sells
            (λ m. MatchKept (length x.accounts) limit c x.accounts m)
            (λ z. unmatched_kept (length x.accounts) limit c x.accounts before.buys before.sells kept)
            (λ some. match_kept (length x.accounts) limit x.next x.nextstamp before.contract c price before.buys before.sells x.accounts
            (ok.orders false) (ok.orders true) kept);
        shorter = λ sell. (taken sell).1.shorter;
        marks =
            λ sell. marks_left x.accounts (left sell matched) (k.marks c there sell)
            ((taken sell).1.kept (mark_allowed x.accounts) (allowed_fewer x.accounts)) (λ a. (taken sell).1.atmost (mark_of a) (mark_fewer a));
      }

  pub match_ok : MatchOk (match_of x c)
  match_ok = match_either x c MatchOk (λ e. matched_ok) unmatched_ok

  -- ---- the state after it

  module _ (phase : ℕ) (l : phase ≤ max_phase) where
    abbrev after : Listing
    after = listing_matched before phase (match_of x c)

    listing_after_lem : ListingOk (length x.accounts) x.next x.nextstamp after
    unfolding listing_matched
    listing_after_lem =
        record {
          contract = contract_phase _ phase l (contract_traded before.contract (match_of x c).trades ok.contract match_ok.prices);
          order = match_ok.order;
          apart = λ e. match_ok.apart;
          orders =
              λ sell. orders_carried (length x.accounts) x.next x.next x.nextstamp x.nextstamp before.contract after.contract (le_refl x.next) (le_refl x.nextstamp)
              (allows_changed before.contract _ phase) (left sell (match_of x c)) (match_ok.orders sell);
        }

    holding_after : (a : ℕ) → a < length x.accounts → HoldingOk after a (holding_at (book_trades x.accounts (match_of x c).trades) a c)
    unfolding listing_matched
    holding_after a h =
        let s = booked_start_holding x.accounts (match_of x c).trades a c in
        let q = k.holding a c h there in
        let r = (match_ok.holdings (λ a. before.contract.limit) kept_now).kept a h in
        record {
          startlong = rw (ap (λ (h : Holding). h.startlong) s) q.startlong;
          startshort = rw (ap (λ (h : Holding). h.startshort) s) q.startshort;
          opens = for_either _ r.buy_opens_lem r.sell_opens_lem;
          closes = for_either _ r.buy_closes_lem r.sell_closes_lem;
        }

    trades_ok : TradesOk x c after (match_of x c).trades x.next x.nextstamp
    unfolding listing_matched uses_in
    trades_ok =
        record {
          there = there;
          later = le_refl x.next;
          high = k.next_high;
          stamped = le_refl x.nextstamp;
          stamps_high = k.nextstamp_high;
          listing = listing_after_lem;
          allows = allows_changed before.contract _ phase;
          numbers = λ n. omega (arith, match_ok.values number_of (λ o lots. (refl, refl)) n, once_count (all_numbers x.listings) k.once n);
          stamps = λ n. omega (arith, match_ok.values stamp_of (λ o lots. (refl, refl)) n, once_count (all_stamps x.listings) k.stamps_once n);
          ranges =
              match_ok.ranges (with_trades x c after (match_of x c).trades x.next x.nextstamp) (omega (arith, traded_listings x c after (match_of x c).trades x.next x.nextstamp))
              (traded_accounts x c after (match_of x c).trades x.next x.nextstamp) (le_refl x.next)
              (traded_allows x c after (match_of x c).trades x.next x.nextstamp there (allows_changed before.contract _ phase) c);
          here = match_ok.here;
          never = (match_ok.holdings (λ a. before.contract.limit) kept_now).never;
          holding = holding_after;
          marks = match_ok.marks;
        }

    changed_keeps : WellFormed (exchange_matched x c phase (match_of x c))
    unfolding exchange_matched
    changed_keeps = traded_keeps x k c after (match_of x c).trades x.next x.nextstamp trades_ok

    queue_after : Counted x → (sell : Bool) → length (own sell after) ≤ max_resting
    unfolding listing_matched
    queue_after n sell = omega (arith, match_ok.shorter sell, n.queues c sell there)

    changed_counted : length x.trades + length (match_of x c).trades ≤ max_trades → Counted x → Counted (exchange_matched x c phase (match_of x c))
    unfolding exchange_matched
    changed_counted room n = traded_counted x c after (match_of x c).trades x.next x.nextstamp there (queue_after n) room n

-- ---- an accepted change

module _ (x : Exchange) (contract phase : ℕ) (e : first_of ((1 when not (phase_known phase)) ∷ phase_refusals x contract phase) ≡ 0) (k : WellFormed x) where
  pub passes : (place_of contract < length x.listings) × ((phase ≤ max_phase) × (length x.trades + length (match_of x (place_of contract)).trades ≤ max_trades))
  unfolding phase_refusals
  passes =
      let f = failed ((1 when not (phase_known phase)) ∷ phase_refusals x contract phase) (omega arith) e in
      (present contract x.listings f.1.0, (leb-true phase max_phase (not-false (phase_known phase) f.0), ltb-false _ _ f.1.1.1.0))

  pub phase_keeps : WellFormed (last_of x (phase_changed x (place_of contract) phase).stages)
  unfolding phase_changed
  phase_keeps = changed_keeps x k (place_of contract) passes.0 phase passes.1.0

  -- THE BOOK IS UNCROSSED AFTER A CHANGE OF STATE, out of auction too
  pub phase_uncrossed : uncrossed (listing_at (last_of x (phase_changed x (place_of contract) phase).stages) (place_of contract)).buys
      (listing_at (last_of x (phase_changed x (place_of contract) phase).stages) (place_of contract)).sells ≡ true
  unfolding phase_changed exchange_matched listing_matched listing_at
  phase_uncrossed =
      rw (get_or-set_same x.listings (place_of contract) (listing_matched (listing_at x (place_of contract)) phase (match_of x (place_of contract))) no_listing passes.0)
      (match_ok x k (place_of contract) passes.0).apart

  pub phase_counted : Counted x → Counted (last_of x (phase_changed x (place_of contract) phase).stages)
  unfolding phase_changed
  phase_counted = changed_counted x k (place_of contract) passes.0 phase passes.1.0 passes.1.1
