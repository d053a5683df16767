-- A cancel and a pull keep the state well formed: orders are taken out of a contract's queues, and nothing else changes.
-- Assumes nothing.
use Rattle.laws.specs.Logic.{Bool, true, false, ◌&&◌, List, [], ◌∷◌, ◌≡◌, refl}
use Rattle.laws.specs.Numbers.{ℕ, ◌+◌, ◌<◌, ◌≤◌, arith, eqb, length}
use Rattle.laws.specs.Choice.{pick, all_of, all_of_imp, both_true, true_both}
use Rattle.laws.specs.Sums.{sum_of}
use Rattle.rules.specs.Answers.{first_of, cancel_refusals, pull_refusals}
use Rattle.rules.specs.Exchange.{Exchange, Listing, listing_at, place_of, own, lots_where, resting}
use Rattle.rules.specs.Kinds.{last_of}
use Rattle.rules.specs.Step.{without, listing_without, has_number, is_of, removed, cancelled, pulled}
use Rattle.rules.specs.WellFormed.{ahead, mark_allowed, sorted, order_in_range}
use Rattle.rules.specs.declared.{Account.Account, Holding.Holding, Order.Order}
use Rattle.theory.proofs.Queue.{length_without}
use Rattle.theory.proofs.Sorted.{sorted_tail}
use Rattle.theory.proofs.Refusals.{failed, present}
use Rattle.invariants.proofs.Clauses.{ListingOk, HoldingOk, MarksOk, WellFormed, Counted}
use Rattle.invariants.proofs.Marks.{mark_of, marks_left}
use Rattle.invariants.proofs.Numbers.{uses, uses_in}
use Rattle.invariants.proofs.OneListing.{relisted_keeps, relisted_counted}
use Rattle.invariants.proofs.Sorting.{sorted_ahead, ahead_sorted, below, apart, uncrossed_apart, apart_uncrossed}

-- ---- what is left is a part: sums, tests of each, length

module _ (test : Order → Bool) where
  pub without_sum : (f : Order → ℕ) (queue : List Order) → sum_of f (without test queue) ≤ sum_of f queue
  unfolding sum_of without
  without_sum f [] = omega arith
  without_sum f (o ∷ os) = by_test (test o) (without_sum f os)
    where
      by_test : (b : Bool) → sum_of f (without test os) ≤ sum_of f os → sum_of f (pick b (without test os) (o ∷ without test os)) ≤ f o + sum_of f os
      by_test true ih = omega arith
      by_test false ih = omega arith

  pub without_all : (p : Order → Bool) (queue : List Order) → all_of p queue ≡ true → all_of p (without test queue) ≡ true
  unfolding all_of without
  without_all p [] h = refl
  without_all p (o ∷ os) h = by_test (test o) (without_all p os q.1)
    where
      q : (p o ≡ true) × (all_of p os ≡ true)
      q = both_true (p o) (all_of p os) h

      by_test : (b : Bool) → all_of p (without test os) ≡ true → all_of p (pick b (without test os) (o ∷ without test os)) ≡ true
      by_test true ih = ih
      by_test false ih = true_both (p o) (all_of p (without test os)) q.0 ih

  pub without_sorted : (sell : Bool) (queue : List Order) → sorted sell queue ≡ true → sorted sell (without test queue) ≡ true
  unfolding without
  without_sorted sell [] s = s
  without_sorted sell (o ∷ os) s = by_test (test o) (without_sorted sell os (sorted_tail sell o os s))
    where
      by_test : (b : Bool) → sorted sell (without test os) ≡ true → sorted sell (pick b (without test os) (o ∷ without test os)) ≡ true
      by_test true ih = ih
      by_test false ih = ahead_sorted sell o (without test os) (without_all (ahead sell o) os (sorted_ahead sell o os s)) ih

  -- ---- uncrossed: the best of what is left is no better

  pub without_apart : (buys sells : List Order) → apart buys sells ≡ true → apart (without test buys) (without test sells) ≡ true
  unfolding apart
  without_apart buys sells h =
      without_all (λ b. all_of (below b) (without test sells)) buys
      (all_of_imp (λ b. all_of (below b) sells) (λ b. all_of (below b) (without test sells)) buys (λ b e. without_all (below b) sells e) h)

  -- ---- the listing and the state

  own_without : (m : Listing) (sell : Bool) → own sell (listing_without test m) ≡ without test (own sell m)
  own_without m true = refl
  own_without m false = refl

  module _ (accounts next nextstamp : ℕ) (m : Listing) where
    listing_without_lem : ListingOk accounts next nextstamp m → ListingOk accounts next nextstamp (listing_without test m)
    listing_without_lem k =
        record {
          contract = k.contract;
          order = λ sell. rw (own_without m sell) (without_sorted sell (own sell m) (k.order sell));
          apart =
              λ e. apart_uncrossed (without test m.buys) (without test m.sells)
              (without_apart m.buys m.sells (uncrossed_apart m.buys m.sells (k.order false) (k.order true) (k.apart e)));
          orders = λ sell. rw (own_without m sell) (without_all (order_in_range accounts next nextstamp m.contract) (own sell m) (k.orders sell));
        }

  pub without_resting : (close a : ℕ) (queue : List Order) → resting close a (without test queue) ≤ resting close a queue
  unfolding resting lots_where
  without_resting close a queue = without_sum (λ o. pick (eqb o.account a && eqb o.close close) o.lots 0) queue

  holding_without : (m : Listing) (a : ℕ) (h : Holding) → HoldingOk m a h → HoldingOk (listing_without test m) a h
  holding_without m a h k =
      record {
        startlong = k.startlong;
        startshort = k.startshort;
        opens = λ sell. rw (own_without m sell) (omega (arith, without_resting 0 a (own sell m), k.opens sell));
        closes = λ sell. rw (own_without m sell) (omega (arith, without_resting 1 a (own sell m), k.closes sell));
      }

  marks_without : (accounts : List Account) (m : Listing) (sell : Bool) → MarksOk accounts (own sell m) → MarksOk accounts (own sell (listing_without test m))
  marks_without accounts m sell k =
      rw (own_without m sell)
      (marks_left accounts (without test (own sell m)) k (without_all (mark_allowed accounts) (own sell m)) (λ a. without_sum (mark_of a) (own sell m)))

  fewer : (m : Listing) (field : Order → ℕ) (n : ℕ) → uses_in field n (listing_without test m) ≤ uses_in field n m
  unfolding uses_in uses
  fewer m field n = omega (arith, without_sum (λ o. pick (eqb n (field o)) 1 0) m.buys, without_sum (λ o. pick (eqb n (field o)) 1 0) m.sells)

  module _ (x : Exchange) (c : ℕ) (there : c < length x.listings) (number : ℕ) where
    pub removed_keeps : WellFormed x → WellFormed (last_of x (removed x c test number).stages)
    unfolding removed
    removed_keeps k =
        relisted_keeps x k c there (listing_without test (listing_at x c)) (listing_without_lem _ _ _ _ (k.listing c there)) (λ p h. h)
        (λ a h. holding_without (listing_at x c) a h) (λ sell. marks_without x.accounts (listing_at x c) sell (k.marks c there sell)) (λ field kept. fewer (listing_at x c) field)

    pub removed_counted : Counted x → Counted (last_of x (removed x c test number).stages)
    unfolding removed
    removed_counted n =
        relisted_counted x c there (listing_without test (listing_at x c)) n
        (λ sell. rw (own_without (listing_at x c) sell) (length_without test (own sell (listing_at x c))))

module _ (x : Exchange) (account contract : ℕ) (operator : Bool) where
  module _ (number : ℕ) (e : first_of (cancel_refusals x account contract operator number) ≡ 0) where
    pub cancel_there : place_of contract < length x.listings
    unfolding cancel_refusals pull_refusals
    cancel_there = present contract x.listings (failed (cancel_refusals x account contract operator number) (omega arith) e).1.0

    pub cancel_keeps : WellFormed x → WellFormed (last_of x (cancelled x (place_of contract) number).stages)
    unfolding cancelled
    cancel_keeps = removed_keeps (has_number number) x (place_of contract) cancel_there number

    pub cancel_counted : Counted x → Counted (last_of x (cancelled x (place_of contract) number).stages)
    unfolding cancelled
    cancel_counted = removed_counted (has_number number) x (place_of contract) cancel_there number

  module _ (e : first_of (pull_refusals x account contract operator) ≡ 0) where
    pub pull_there : place_of contract < length x.listings
    unfolding pull_refusals
    pull_there = present contract x.listings (failed (pull_refusals x account contract operator) (omega arith) e).1.0

    pub pull_keeps : WellFormed x → WellFormed (last_of x (pulled x (place_of account) (place_of contract)).stages)
    unfolding pulled
    pull_keeps = removed_keeps (is_of (place_of account)) x (place_of contract) pull_there 0

    pub pull_counted : Counted x → Counted (last_of x (pulled x (place_of account) (place_of contract)).stages)
    unfolding pulled
    pull_counted = removed_counted (is_of (place_of account)) x (place_of contract) pull_there 0
