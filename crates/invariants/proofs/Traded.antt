-- A step that makes trades in one contract and replaces its listing keeps a state well formed: an order entered, the match of an auction.
-- Assumes nothing.
use Rattle.laws.specs.Logic.{Bool, true, List, ◌≡◌, sym, subst}
use Rattle.laws.specs.Numbers.{ℕ, ◌+◌, ◌<◌, ◌≤◌, arith, length, length-append, length-set}
use Rattle.laws.specs.Choice.{all_of, all_of_append, true_both}
use Rattle.laws.specs.Lists.{at_set}
use Rattle.rules.specs.Bounds.{max_resting, max_trades, numbers_end}
use Rattle.rules.specs.Exchange.{Exchange, Listing, listing_at, holding_at, no_listing, own}
use Rattle.rules.specs.Holdings.{book_trades, never_below_zero}
use Rattle.rules.specs.Step.{with_trades}
use Rattle.rules.specs.WellFormed.{all_numbers, all_stamps, trade_in_range, number_of, stamp_of}
use Rattle.rules.specs.declared.Trade.{Trade}
use Rattle.theory.proofs.Holdings.{length_book_trades, booked_balance, booked_maker, other_holding, replay_more, never_more}
use Rattle.theory.proofs.Sweep.{of_contract}
use Rattle.invariants.proofs.Carry.{Allows, orders_carried, trades_carried}
use Rattle.invariants.proofs.Clauses.{ListingOk, HoldingOk, MarksOk, WellFormed, Counted}
use Rattle.invariants.proofs.Marks.{marks_carried}
use Rattle.invariants.proofs.Numbers.{occurs, uses_in, once_changed}

-- what such a step owes: contract c gets listing m, the trades ts are made, the next order number is n and the next time stamp s
pub record TradesOk (x : Exchange) (c : ℕ) (m : Listing) (ts : List Trade) (n s : ℕ) : Type 0 where
  pub there : c < length x.listings
  pub later : x.next ≤ n
  pub high : n ≤ numbers_end
  pub stamped : x.nextstamp ≤ s
  pub stamps_high : s ≤ numbers_end
  pub listing : ListingOk (length x.accounts) n s m
  pub allows : Allows (listing_at x c).contract m.contract
  pub numbers : (number : ℕ) → occurs number (all_numbers x.listings) + uses_in number_of number m ≤ 1 + uses_in number_of number (listing_at x c)
  pub stamps : (stamp : ℕ) → occurs stamp (all_stamps x.listings) + uses_in stamp_of stamp m ≤ 1 + uses_in stamp_of stamp (listing_at x c)
  pub ranges : all_of (trade_in_range (with_trades x c m ts n s)) ts ≡ true
  pub here : all_of (of_contract c) ts ≡ true
  pub never : never_below_zero x.accounts ts ≡ true
  pub holding : (a : ℕ) → a < length x.accounts → HoldingOk m a (holding_at (book_trades x.accounts ts) a c)
  pub marks : (sell : Bool) → MarksOk x.accounts (own sell m)

module _ (x : Exchange) (c : ℕ) (m : Listing) (ts : List Trade) (n s : ℕ) where
  pub traded_listings : length (with_trades x c m ts n s).listings ≡ length x.listings
  traded_listings = length-set x.listings c m

  pub traded_accounts : length (with_trades x c m ts n s).accounts ≡ length x.accounts
  traded_accounts = length_book_trades x.accounts ts

  module _ (there : c < length x.listings) where
    pub traded_allows : Allows (listing_at x c).contract m.contract → (d : ℕ) → Allows (listing_at x d).contract (listing_at (with_trades x c m ts n s) d).contract
    unfolding listing_at
    traded_allows h d =
        at_set (λ (j : ℕ) (l : Listing). Allows (listing_at x j).contract l.contract) x.listings c m no_listing there h d (λ e q k. k)

    pub traded_counted : ((sell : Bool) → length (own sell m) ≤ max_resting) → length x.trades + length ts ≤ max_trades → Counted x → Counted (with_trades x c m ts n s)
    unfolding listing_at
    traded_counted shorter room k =
        record {
          contracts = omega (arith, traded_listings, k.contracts);
          trades = rw length-append room;
          queues = λ d sell l. at_set (λ (j : ℕ) (o : Listing). length (own sell o) ≤ max_resting) x.listings c m no_listing there (shorter sell) d
              (λ e. k.queues d sell (omega (arith, traded_listings)));
        }

-- a listing that the step does not touch
listing_later : (accounts next next' stamp stamp' : ℕ) (m : Listing) → next ≤ next' → stamp ≤ stamp' → ListingOk accounts next stamp m → ListingOk accounts next' stamp' m
listing_later accounts next next' stamp stamp' m later stamped k =
    record {
      contract = k.contract;
      order = k.order;
      apart = k.apart;
      orders = λ sell. orders_carried accounts next next' stamp stamp' m.contract m.contract later stamped (λ p h. h) (own sell m) (k.orders sell);
    }

module _ (x : Exchange) (k : WellFormed x) (c : ℕ) (m : Listing) (ts : List Trade) (n s : ℕ) (ok : TradesOk x c m ts n s) where
  abbrev afterwards : Exchange
  afterwards = with_trades x c m ts n s

  old_trades : all_of (trade_in_range afterwards) x.trades ≡ true
  old_trades =
      trades_carried x afterwards (sym (traded_listings x c m ts n s)) (sym (traded_accounts x c m ts n s)) ok.later
      (traded_allows x c m ts n s ok.there ok.allows) x.trades k.trades

  holdings_after : (a d : ℕ) → a < length x.accounts → d < length x.listings → HoldingOk (listing_at afterwards d) a (holding_at (book_trades x.accounts ts) a d)
  unfolding listing_at
  holdings_after a d la ld =
      at_set (λ (j : ℕ) (l : Listing). HoldingOk l a (holding_at (book_trades x.accounts ts) a j)) x.listings c m no_listing ok.there
      (ok.holding a la) d (λ e. rw (other_holding c x.accounts ts a d ok.here e) (k.holding a d la ld))

  listings_after : (d : ℕ) → d < length x.listings → ListingOk (length afterwards.accounts) n s (listing_at afterwards d)
  unfolding listing_at
  listings_after d l =
      subst (λ (accounts : ℕ). ListingOk accounts n s (listing_at afterwards d)) (sym (traded_accounts x c m ts n s))
      (at_set (λ (j : ℕ) (o : Listing). ListingOk (length x.accounts) n s o) x.listings c m no_listing ok.there ok.listing d
      (λ e. listing_later (length x.accounts) x.next n x.nextstamp s (listing_at x d) ok.later ok.stamped (k.listing d l)))

  marks_after : (d : ℕ) → d < length x.listings → (sell : Bool) → MarksOk (book_trades x.accounts ts) (own sell (listing_at afterwards d))
  unfolding listing_at
  marks_after d l sell =
      marks_carried x.accounts (book_trades x.accounts ts) (traded_accounts x c m ts n s) (booked_maker x.accounts ts)
      (at_set (λ (j : ℕ) (o : Listing). MarksOk x.accounts (own sell o)) x.listings c m no_listing ok.there (ok.marks sell) d (λ e. k.marks d l sell))

  pub traded_keeps : WellFormed (with_trades x c m ts n s)
  unfolding listing_at
  traded_keeps =
      record {
        next_low = omega (arith, k.next_low, ok.later);
        next_high = ok.high;
        nextstamp_low = omega (arith, k.nextstamp_low, ok.stamped);
        nextstamp_high = ok.stamps_high;
        settlements = k.settlements;
        listing = λ d l. listings_after d (omega (arith, traded_listings x c m ts n s));
        once = once_changed number_of x.listings c m ok.there k.once ok.numbers;
        stamps_once = once_changed stamp_of x.listings c m ok.there k.stamps_once ok.stamps;
        marks = λ d l. marks_after d (omega (arith, traded_listings x c m ts n s));
        makers = λ a l. rw (booked_maker x.accounts ts a) (k.makers a (omega (arith, traded_accounts x c m ts n s)));
        trades =
            rw (all_of_append (trade_in_range afterwards) x.trades ts)
            (true_both (all_of (trade_in_range afterwards) x.trades) (all_of (trade_in_range afterwards) ts) old_trades ok.ranges);
        covered = never_more x.accounts x.trades ts k.replay k.covered ok.never;
        replay = replay_more x.accounts x.trades ts k.replay;
        holding = λ a d la ld. holdings_after a d (omega (arith, traded_accounts x c m ts n s)) (omega (arith, traded_listings x c m ts n s));
        balance = λ a l. rw (booked_balance x.accounts ts a) (k.balance a (omega (arith, traded_accounts x c m ts n s)));
      }
