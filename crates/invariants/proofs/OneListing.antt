-- A step that replaces one contract's listing and nothing else: cancel, pull, fewer lots of an order. Assumes nothing.
use Rattle.laws.specs.Logic.{Bool, ◌≡◌, refl, sym}
use Rattle.laws.specs.Numbers.{ℕ, ◌<◌, ◌≤◌, le_refl, arith, length, set, length-set}
use Rattle.laws.specs.Lists.{at_set}
use Rattle.rules.specs.Bounds.{max_resting}
use Rattle.rules.specs.Exchange.{Exchange, Listing, listing_at, holding_at, no_listing, own}
use Rattle.rules.specs.Step.{with_listing}
use Rattle.rules.specs.declared.{Holding.Holding, Order.Order}
use Rattle.invariants.proofs.Carry.{Allows, trades_carried}
use Rattle.invariants.proofs.Clauses.{ListingOk, HoldingOk, MarksOk, WellFormed, Counted}
use Rattle.invariants.proofs.Numbers.{KeptByLots, uses_in, once_count, once_changed}
use Rattle.rules.specs.WellFormed.{all_numbers, all_stamps, number_of, stamp_of}

module _ (x : Exchange) (k : WellFormed x) (c : ℕ) (there : c < length x.listings) (m : Listing)
    (ok : ListingOk (length x.accounts) x.next x.nextstamp m)
    (allows : Allows (listing_at x c).contract m.contract)
    (holds : (a : ℕ) (h : Holding) → HoldingOk (listing_at x c) a h → HoldingOk m a h)
    (marks : (sell : Bool) → MarksOk x.accounts (own sell m))
    (fewer : (field : Order → ℕ) → KeptByLots field → (n : ℕ) → uses_in field n m ≤ uses_in field n (listing_at x c)) where
  same_count : length (set x.listings c m) ≡ length x.listings
  same_count = length-set x.listings c m

  pub relisted_keeps : WellFormed (with_listing x c m)
  unfolding listing_at
  relisted_keeps =
      record {
        next_low = k.next_low;
        next_high = k.next_high;
        nextstamp_low = k.nextstamp_low;
        nextstamp_high = k.nextstamp_high;
        settlements = k.settlements;
        listing =
            λ d l. at_set (λ (j : ℕ) (n : Listing). ListingOk (length x.accounts) x.next x.nextstamp n) x.listings c m no_listing there ok d
            (λ n. k.listing d (rw same_count at l));
        once = once_changed number_of x.listings c m there k.once (λ n. omega (arith, fewer number_of (λ o lots. (refl, refl)) n, once_count (all_numbers x.listings) k.once n));
        stamps_once = once_changed stamp_of x.listings c m there k.stamps_once (λ n. omega (arith, fewer stamp_of (λ o lots. (refl, refl)) n, once_count (all_stamps x.listings) k.stamps_once n));
        marks = λ d l sell. at_set (λ (j : ℕ) (n : Listing). MarksOk x.accounts (own sell n)) x.listings c m no_listing there (marks sell) d
            (λ n. k.marks d (rw same_count at l) sell);
        makers = k.makers;
        trades = trades_carried x (with_listing x c m) (sym same_count) refl (le_refl x.next)
            (λ d. at_set (λ (j : ℕ) (n : Listing). Allows (listing_at x j).contract n.contract) x.listings c m no_listing there allows d
            (λ n p h. h))
            x.trades k.trades;
        covered = k.covered;
        replay = k.replay;
        holding = λ a d la ld. at_set (λ (j : ℕ) (n : Listing). HoldingOk n a (holding_at x.accounts a j)) x.listings c m no_listing there
            (holds a (holding_at x.accounts a c) (k.holding a c la there)) d (λ n. k.holding a d la (rw same_count at ld));
        balance = k.balance;
      }

-- and where its queues are no longer
module _ (x : Exchange) (c : ℕ) (there : c < length x.listings) (m : Listing) where
  pub relisted_counted : Counted x → ((sell : Bool) → length (own sell m) ≤ length (own sell (listing_at x c))) → Counted (with_listing x c m)
  unfolding listing_at
  relisted_counted n shorter =
      record {
        contracts = rw (length-set x.listings c m) n.contracts;
        trades = n.trades;
        queues = λ d sell l. at_set (λ (j : ℕ) (o : Listing). length (own sell o) ≤ max_resting) x.listings c m no_listing there
            (omega (arith, shorter sell, n.queues c sell there)) d (λ n'. n.queues d sell (rw (length-set x.listings c m) at l));
      }
