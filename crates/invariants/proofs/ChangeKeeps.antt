-- An accepted change of a resting order keeps a state well formed. Where the place is lost the order is gone, and its number is then no
-- resting order's, so that it is entered as an insert's is; 13 cannot occur, since its own side has one order fewer. Where the place is
-- kept that order has fewer lots. Assumes nothing.
use borrow.Author.Rules.{rules}
use Rattle.laws.specs.Logic.{Bool, true, false, not, ◌&&◌, ◌||◌, true≢false, false≢true, List, [], ◌∷◌, ◌++◌, ◌≡◌, refl, sym, ap, subst, ◌∙◌}
use Rattle.laws.specs.Numbers.{ℕ, ◌+◌, ◌<◌, ◌≤◌, le_refl, arith, eqb-true, eqb-false, leb-false, ltb-false, eq-eqb, ne_eqb, le-leb, not-true, not-false, eqb}
use Rattle.laws.specs.Numbers.{leb, ltb, length, get_or, set, length-set, get_or-set_same}
use Rattle.laws.specs.Choice.{pick, all_of, all_of_append, both_true, true_both, either_false}
use Rattle.laws.specs.Sums.{sum_of, sum_of_append, sum_of_at, sum_of_set}
use Rattle.rules.specs.Answers.{first_of, listing_of, named_refusals, no_such_order, not_continuous, numbered, of_another, owner_refusals, Refusal, resting_order, trades_refused}
use Rattle.rules.specs.Bounds.{allowed_today, max_lots, max_resting}
use Rattle.rules.specs.Change.{Asked, arriving, change_refusals, changed, gone, is_sell, lessened, listing_lessened, loses_place, new_fields_refusals, old_order, place_kept, place_lost, reentered, reentry_refusals, unchanged, unmarked}
use Rattle.rules.specs.Exchange.{Exchange, Listing, listing_at, listing_named, no_listing, no_order, own, place_of, lots_where, resting}
use Rattle.rules.specs.Kinds.{last_of}
use Rattle.rules.specs.Matching.{with_lots}
use Rattle.rules.specs.Step.{cancelled, exchange_after, has_number, limit_of, listing_without, removed, with_listing, without}
use Rattle.rules.specs.WellFormed.{all_numbers, number_of, mark_allowed, order_in_range}
use Rattle.rules.specs.declared.{Holding.Holding, Order.Order}
use Rattle.theory.proofs.Changes.{changed_either}
use Rattle.theory.proofs.Lessened.{fits, less_all, less_length, less_sorted, less_sum, less_uncrossed, same_sum}
use Rattle.theory.proofs.Stages.{Each}
use Rattle.theory.proofs.Refusals.{Failed, both_zero, failed, present}
use Rattle.invariants.proofs.Clauses.{ListingOk, HoldingOk, MarksOk, WellFormed, Counted, order_ok, order_test_lem}
use Rattle.invariants.proofs.Insert.{entry_counted, entry_keeps}
use Rattle.invariants.proofs.InsertAccepted.{Given, Passes, both_failed, close_lots, open_lots_lem}
use Rattle.invariants.proofs.InsertListing.{Enterable}
use Rattle.invariants.proofs.InsertQueues.{order_fewer}
use Rattle.invariants.proofs.Marks.{allowed_unmarked, mark_of, mark_dropped, marks_left, no_mark}
use Rattle.invariants.proofs.Numbers.{KeptByLots, all_uses, occurs, once_count, uses, uses_in}
use Rattle.invariants.proofs.OneListing.{relisted_counted, relisted_keeps}
use Rattle.invariants.proofs.Removal.{removed_counted, removed_keeps}

-- ---- the order with a number

module _ (n : ℕ) where
  -- it passes what every order passes, and has the number
  found : (test : Order → Bool) (os : List Order) → all_of test os ≡ true → no_such_order (numbered n os) ≡ false →
      (test (get_or (numbered n os) 0 no_order) ≡ true) × ((get_or (numbered n os) 0 no_order).number ≡ n)
  unfolding no_such_order numbered all_of
  found test [] h e = absurd (true≢false e)
  found test (o ∷ os) h e = by_number (eqb o.number n) refl (found test os q.1) e
    where
      q : (test o ≡ true) × (all_of test os ≡ true)
      q = both_true (test o) (all_of test os) h

      by_number : (b : Bool) → eqb o.number n ≡ b →
          (no_such_order (numbered n os) ≡ false → (test (get_or (numbered n os) 0 no_order) ≡ true) × ((get_or (numbered n os) 0 no_order).number ≡ n)) →
          no_such_order (pick b (o ∷ []) (numbered n os)) ≡ false →
          (test (get_or (pick b (o ∷ []) (numbered n os)) 0 no_order) ≡ true) × ((get_or (pick b (o ∷ []) (numbered n os)) 0 no_order).number ≡ n)
      by_number true k ih f = (q.0, eqb-true o.number n k)
      by_number false k ih f = ih f

  -- a sell where it is not among the buys
  behind : (os ps : List Order) → no_such_order (numbered n (os ++ ps)) ≡ false → no_such_order (numbered n os) ≡ true → no_such_order (numbered n ps) ≡ false
  unfolding no_such_order numbered
  behind [] ps e f = e
  behind (o ∷ os) ps e f = by_number (eqb o.number n) (behind os ps) e f
    where
      by_number : (b : Bool) → (no_such_order (numbered n (os ++ ps)) ≡ false → no_such_order (numbered n os) ≡ true → no_such_order (numbered n ps) ≡ false) →
          no_such_order (pick b (o ∷ []) (numbered n (os ++ ps))) ≡ false → no_such_order (pick b (o ∷ []) (numbered n os)) ≡ true → no_such_order (numbered n ps) ≡ false
      by_number true ih e f = absurd (false≢true f)
      by_number false ih e f = ih e f

  flip : (o : Order) (b : Bool) → eqb o.number n ≡ b → eqb n o.number ≡ b
  flip o true e = eq-eqb n o.number (sym (eqb-true o.number n e))
  flip o false e = ne_eqb n o.number (λ k. eqb-false o.number n e (sym k))

  -- so its number is used there
  found_used : (os : List Order) → no_such_order (numbered n os) ≡ false → 1 ≤ uses number_of n os
  unfolding no_such_order numbered uses sum_of
  found_used [] e = absurd (true≢false e)
  found_used (o ∷ os) e = by_number (eqb o.number n) refl (found_used os) e
    where
      by_number : (b : Bool) → eqb o.number n ≡ b → (no_such_order (numbered n os) ≡ false → 1 ≤ uses number_of n os) →
          no_such_order (pick b (o ∷ []) (numbered n os)) ≡ false → 1 ≤ pick (eqb n o.number) 1 0 + uses number_of n os
      by_number true k ih f = rw (flip o true k) (omega arith)
      by_number false k ih f = rw (flip o false k) (omega (arith, ih f))

  -- and no more when it is gone, where the queue is shorter by as many orders as had it
  without_unused : (os : List Order) → uses number_of n (without (has_number n) os) ≡ 0
  unfolding without uses sum_of
  without_unused [] = refl
  without_unused (o ∷ os) = by_number (eqb o.number n) refl (without_unused os)
    where
      by_number : (b : Bool) → eqb o.number n ≡ b → uses number_of n (without (has_number n) os) ≡ 0 →
          uses number_of n (pick b (without (has_number n) os) (o ∷ without (has_number n) os)) ≡ 0
      by_number true k ih = ih
      by_number false k ih = rw (flip o false k) (omega (arith, ih))

  without_shorter : (os : List Order) → length (without (has_number n) os) + uses number_of n os ≡ length os
  unfolding without uses sum_of
  without_shorter [] = refl
  without_shorter (o ∷ os) = by_number (eqb o.number n) refl (without_shorter os)
    where
      by_number : (b : Bool) → eqb o.number n ≡ b → length (without (has_number n) os) + uses number_of n os ≡ length os →
          length (pick b (without (has_number n) os) (o ∷ without (has_number n) os)) + (pick (eqb n o.number) 1 0 + uses number_of n os) ≡ length (o ∷ os)
      by_number true k ih = rw (flip o true k) (omega (arith, ih))
      by_number false k ih = rw (flip o false k) (omega (arith, ih))

  -- used once, it is the only order with its number: what it has, every order with that number has
  unused_fits : (lots : ℕ) (os : List Order) → uses number_of n os ≡ 0 → all_of (fits n lots) os ≡ true
  unfolding uses sum_of all_of
  unused_fits lots [] h = refl
  unused_fits lots (o ∷ os) h = by_number (eqb o.number n) refl (unused_fits lots os)
    where
      by_number : (b : Bool) → eqb o.number n ≡ b → (uses number_of n os ≡ 0 → all_of (fits n lots) os ≡ true) → (pick b (leb lots o.lots) true && all_of (fits n lots) os) ≡ true
      by_number true k ih = let h' : 1 + uses number_of n os ≡ 0 = rw (flip o true k) at h in absurd (omega arith)
      by_number false k ih = let h' : 0 + uses number_of n os ≡ 0 = rw (flip o false k) at h in ih (omega arith)

  found_fits : (lots : ℕ) (os : List Order) → uses number_of n os ≤ 1 → lots ≤ (get_or (numbered n os) 0 no_order).lots → all_of (fits n lots) os ≡ true
  unfolding uses sum_of all_of numbered
  found_fits lots [] h l = refl
  found_fits lots (o ∷ os) h l = by_number (eqb o.number n) refl (found_fits lots os) l
    where
      by_number : (b : Bool) → eqb o.number n ≡ b → (uses number_of n os ≤ 1 → lots ≤ (get_or (numbered n os) 0 no_order).lots → all_of (fits n lots) os ≡ true) →
          lots ≤ (get_or (pick b (o ∷ []) (numbered n os)) 0 no_order).lots → (pick b (leb lots o.lots) true && all_of (fits n lots) os) ≡ true
      by_number true k ih l =
          let h' : 1 + uses number_of n os ≤ 1 = rw (flip o true k) at h in
          true_both (leb lots o.lots) (all_of (fits n lots) os) (le-leb lots o.lots l) (unused_fits lots os (omega arith))
      by_number false k ih l = let h' : 0 + uses number_of n os ≤ 1 = rw (flip o false k) at h in ih (omega arith) l

module _ (x : Exchange) (w : WellFormed x) (k : Asked) (e : first_of (change_refusals x k) ≡ 0) where
  abbrev place : ℕ
  place = place_of k.contract

  abbrev number : ℕ
  number = k.number

  abbrev listing : Listing
  listing = listing_named x k.contract

  -- ---- what it has passed

  -- before the loss of its place
  before_loss : List Refusal
  before_loss =
      named_refusals x not_continuous k.account k.contract
      ++ owner_refusals (place_of k.account) (resting_order listing number)
      ++ new_fields_refusals listing.contract k.lots k.price

  passed : Failed before_loss × (first_of (pick (loses_place x k) (reentry_refusals (gone x k) number (arriving x k)) []) ≡ 0)
  unfolding change_refusals before_loss
  passed = both_zero before_loss (pick (loses_place x k) (reentry_refusals (gone x k) number (arriving x k)) []) (omega arith) e

  pub account_there : place_of k.account < length x.accounts
  unfolding before_loss
  account_there = present k.account x.accounts passed.0.0

  pub there : place < length x.listings
  unfolding before_loss
  there = present k.contract x.listings passed.0.1.0

  pub rests : no_such_order (numbered number (listing.buys ++ listing.sells)) ≡ false
  unfolding before_loss resting_order
  rests = passed.0.1.1.1.0

  pub owned : of_another (place_of k.account) (resting_order listing number) ≡ false
  unfolding before_loss
  owned = passed.0.1.1.1.1.0

  lots_high : k.lots ≤ max_lots
  unfolding before_loss
  lots_high = ltb-false _ _ passed.0.1.1.1.1.1.0

  price_allowed : eqb k.lots 0 ≡ false → allowed_today listing.contract k.price ≡ true
  unfolding before_loss
  price_allowed some =
      not-false (allowed_today listing.contract k.price)
      (both_failed (not (eqb k.lots 0)) (not (allowed_today listing.contract k.price)) passed.0.1.1.1.1.1.1.0 (ap not some))

  -- ---- the order as it rests

  ok : ListingOk (length x.accounts) x.next x.nextstamp listing
  ok = w.listing place there

  abbrev in_range : Order → Bool
  in_range = order_in_range (length x.accounts) x.next x.nextstamp listing.contract

  all_in_range : all_of in_range (listing.buys ++ listing.sells) ≡ true
  all_in_range =
      rw (all_of_append in_range listing.buys listing.sells) (true_both (all_of in_range listing.buys) (all_of in_range listing.sells) (ok.orders false) (ok.orders true))

  -- its number is one that was given
  its_number : (1 ≤ number) × (number < x.next)
  its_number =
      let f = found number in_range (listing.buys ++ listing.sells) all_in_range rests in
      let r = order_ok (length x.accounts) x.next x.nextstamp listing.contract _ f.0 in
      (omega (arith, f.1, r.number_low), omega (arith, f.1, r.number_high))

  -- its mark is one of an open or a close
  pub its_close : (old_order x k).close ≤ 1
  unfolding old_order resting_order
  its_close =
      (order_ok (length x.accounts) x.next x.nextstamp listing.contract _ (found number in_range (listing.buys ++ listing.sells) all_in_range rests).0).close

  -- it rests on its side
  mine_used : 1 ≤ uses number_of number (own (is_sell x k) listing)
  unfolding is_sell
  mine_used = by_side (no_such_order (numbered number listing.buys)) refl
    where
      by_side : (b : Bool) → no_such_order (numbered number listing.buys) ≡ b → 1 ≤ uses number_of number (own b listing)
      by_side true q = found_used number listing.sells (behind number listing.buys listing.sells rests q)
      by_side false q = found_used number listing.buys q

  own_used : (b : Bool) → uses number_of number (own b listing) ≤ uses_in number_of number listing
  unfolding uses_in
  own_used true = omega arith
  own_used false = omega arith

  used_once_lem : uses_in number_of number listing ≤ occurs number (all_numbers x.listings)
  unfolding listing_at
  used_once_lem = omega (arith, all_uses number_of number x.listings, sum_of_at (uses_in number_of number) x.listings place no_listing there)

  -- ---- the order gone

  abbrev left : Listing
  left = listing_without (has_number number) listing

  pub gone_keeps : WellFormed (gone x k)
  unfolding gone removed
  gone_keeps = removed_keeps (has_number number) x place there number w

  left_unused : uses_in number_of number left ≡ 0
  unfolding uses_in
  left_unused = omega (arith, without_unused number listing.buys, without_unused number listing.sells)

  number_unused : occurs number (all_numbers (gone x k).listings) ≡ 0
  unfolding gone listing_at
  number_unused =
      omega (
        arith,
        all_uses number_of number (set x.listings place left),
        all_uses number_of number x.listings,
        sum_of_set (uses_in number_of number) x.listings place left no_listing there,
        left_unused,
        once_count (all_numbers x.listings) w.once number,
        mine_used,
        own_used (is_sell x k),
      )

  pub given : Given (gone x k) number x.next
  unfolding gone
  given = record { low = its_number.0; below = its_number.1; later = le_refl x.next; high = w.next_high; unused = number_unused }

  -- ---- the place lost

  module _ (lost : loses_place x k ≡ true) where
    pub some : eqb k.lots 0 ≡ false
    unfolding loses_place
    some = not-true (eqb k.lots 0) (both_true (not (eqb k.lots 0)) _ lost).0

    pub reentry_passed : Failed (reentry_refusals (gone x k) number (arriving x k))
    reentry_passed = failed (reentry_refusals (gone x k) number (arriving x k)) (omega arith) (rw lost at passed.1)

    mine_left : (b : Bool) → own b left ≡ without (has_number number) (own b listing)
    mine_left true = refl
    mine_left false = refl

    -- 13 CANNOT OCCUR: its own side has one order fewer
    pub has_room : Counted x → length (own (is_sell x k) (listing_of (gone x k) (arriving x k))) < max_resting
    unfolding gone arriving listing_of listing_at
    has_room n =
        rw (get_or-set_same x.listings place left no_listing there, mine_left (is_sell x k))
        (omega (arith, without_shorter number (own (is_sell x k) listing), mine_used, n.queues place (is_sell x k) there))

    its_price : allowed_today (listing_of (gone x k) (arriving x k)).contract k.price ≡ true
    unfolding gone arriving listing_of listing_at
    its_price = rw (get_or-set_same x.listings place left no_listing there) (price_allowed some)

    pub passes : Counted x → Passes (gone x k) number (arriving x k)
    unfolding gone arriving trades_refused
    passes n =
        record {
          account = account_there;
          contract = rw (length-set x.listings place left) there;
          lots_low = omega (arith, eqb-false k.lots 0 some);
          lots_high = lots_high;
          limited = λ g. refl;
          rests = λ a. refl;
          price = λ limit q. subst (λ (p : ℕ). allowed_today (listing_of (gone x k) (arriving x k)).contract p ≡ true) (ap limit_of q) its_price;
          opens = open_lots_lem (gone x k) (arriving x k) reentry_passed.0;
          closes = close_lots (gone x k) (arriving x k) reentry_passed.0;
          stamp = leb-false _ _ reentry_passed.1.1.0;
          kill = λ h. absurd (false≢true h);
          trades = ltb-false _ _ reentry_passed.1.1.1.0;
          room = λ g full. absurd (omega (arith, has_room n, full));
        }

    pub reenters : Counted x → Enterable (gone x k) number 0 x.next (arriving x k)
    reenters n = record { formed = gone_keeps; given = given; passes = passes n; marks = no_mark (gone x k) gone_keeps (arriving x k) (passes n).account (passes n).contract }

    lost_keeps : Counted x → WellFormed (exchange_after (gone x k) (arriving x k) (reentered x k) x.next)
    unfolding reentered
    lost_keeps n = entry_keeps (reenters n)

    lost_counted : Counted x → Counted (exchange_after (gone x k) (arriving x k) (reentered x k) x.next)
    unfolding reentered gone removed
    lost_counted n = entry_counted (reenters n) (removed_counted (has_number number) x place there number n)

  -- ---- the place kept

  module _ (some : eqb k.lots 0 ≡ false) (kept : loses_place x k ≡ false) where
    fewer_lots : k.lots ≤ (old_order x k).lots
    unfolding loses_place
    fewer_lots =
        ltb-false _ _ (either_false (ltb (old_order x k).lots k.lots) (not (eqb k.price (old_order x k).price))
        (both_failed (not (eqb k.lots 0)) (ltb (old_order x k).lots k.lots || not (eqb k.price (old_order x k).price)) kept (ap not some))).0

    some_lots : 1 ≤ k.lots
    some_lots = omega (arith, eqb-false k.lots 0 some)

    both_fit : all_of (fits number k.lots) (listing.buys ++ listing.sells) ≡ true
    unfolding old_order resting_order uses uses_in
    both_fit =
        found_fits number k.lots (listing.buys ++ listing.sells)
        (omega (
          arith,
          sum_of_append (λ o. pick (eqb number o.number) 1 0) listing.buys listing.sells,
          used_once_lem,
          once_count (all_numbers x.listings) w.once number,
        ))
        fewer_lots

    fit : (b : Bool) → all_of (fits number k.lots) (own b listing) ≡ true
    fit b = by_side b (both_true _ _ (rw (all_of_append (fits number k.lots) listing.buys listing.sells) at both_fit))
      where
        by_side : (b : Bool) → (all_of (fits number k.lots) listing.buys ≡ true) × (all_of (fits number k.lots) listing.sells ≡ true) →
            all_of (fits number k.lots) (own b listing) ≡ true
        by_side true p = p.1
        by_side false p = p.0

    abbrev less : Listing
    less = listing_lessened k listing

    own_less : (b : Bool) → own b less ≡ lessened number k.lots (own b listing)
    own_less true = refl
    own_less false = refl

    in_range_unmarked : (o : Order) → in_range o ≡ true → in_range (unmarked o) ≡ true
    in_range_unmarked o h =
        let r = order_ok (length x.accounts) x.next x.nextstamp listing.contract o h in
        order_test_lem (length x.accounts) x.next x.nextstamp listing.contract (unmarked o)
        (search (rules, lots_high) depth 12)

    listing_less : ListingOk (length x.accounts) x.next x.nextstamp less
    listing_less =
        record {
          contract = ok.contract;
          order = λ b. rw (own_less b, less_sorted number k.lots b (own b listing)) (ok.order b);
          apart = λ q. rw (less_uncrossed number k.lots listing.buys listing.sells) (ok.apart q);
          orders =
              λ b. rw (own_less b)
              (less_all number k.lots in_range (λ o high h. in_range_unmarked (with_lots o k.lots) (order_fewer (length x.accounts) x.next x.nextstamp listing.contract o k.lots some_lots high h))
              (own b listing) (fit b) (ok.orders b));
        }

    pub less_resting : (close a : ℕ) (b : Bool) → resting close a (own b less) ≤ resting close a (own b listing)
    unfolding resting lots_where
    less_resting close a b =
        rw (own_less b)
        (less_sum number k.lots (λ o. pick (eqb o.account a && eqb o.close close) o.lots 0) (λ o high. fewer (eqb o.account a && eqb o.close close) k.lots o.lots high)
        (own b listing) (fit b))
      where
        fewer : (b : Bool) (m n : ℕ) → m ≤ n → pick b m 0 ≤ pick b n 0
        fewer true m n h = h
        fewer false m n h = omega arith

    holding_less : (a : ℕ) (h : Holding) → HoldingOk listing a h → HoldingOk less a h
    holding_less a h q =
        record {
          startlong = q.startlong;
          startshort = q.startshort;
          opens = λ b. omega (arith, less_resting 0 a b, q.opens b);
          closes = λ b. omega (arith, less_resting 1 a b, q.closes b);
        }

    marks_less : (b : Bool) → MarksOk x.accounts (own b less)
    marks_less b =
        rw (own_less b)
        (marks_left x.accounts (lessened number k.lots (own b listing)) (w.marks place there b)
        (less_all number k.lots (mark_allowed x.accounts) (λ o high h. allowed_unmarked x.accounts (with_lots o k.lots)) (own b listing) (fit b))
        (λ a. less_sum number k.lots (mark_of a) (λ o high. mark_dropped a (with_lots o k.lots) (mark_of a o)) (own b listing) (fit b)))

    less_uses : (field : Order → ℕ) → KeptByLots field → (n : ℕ) → uses_in field n less ≤ uses_in field n listing
    unfolding uses_in uses
    less_uses field same n =
        omega (
          arith,
          same_sum number k.lots (λ o. pick (eqb n (field o)) 1 0) (λ o. ap (λ (v : ℕ). pick (eqb n v) 1 0) ((same (with_lots o k.lots) 0).1 ∙ (same o k.lots).0)) listing.buys,
          same_sum number k.lots (λ o. pick (eqb n (field o)) 1 0) (λ o. ap (λ (v : ℕ). pick (eqb n v) 1 0) ((same (with_lots o k.lots) 0).1 ∙ (same o k.lots).0)) listing.sells,
        )

    kept_keeps : WellFormed (with_listing x place less)
    kept_keeps = relisted_keeps x w place there less listing_less (λ p h. h) holding_less marks_less less_uses

    kept_counted : Counted x → Counted (with_listing x place less)
    kept_counted n = relisted_counted x place there less n (λ b. rw (own_less b, less_length number k.lots (own b listing)) (le_refl _))

  -- ---- all four

  pub change_keeps : Counted x → WellFormed (last_of x (changed x k).stages)
  unfolding cancelled place_lost unchanged place_kept
  change_keeps n =
      changed_either x k (λ ts f. WellFormed (last_of x f.stages))
      (λ q. removed_keeps (has_number number) x place there number w)
      (λ q. lost_keeps q n)
      (λ q r. w)
      (λ q r s. kept_keeps q r)

  pub change_counted : Counted x → Each Counted (changed x k).stages
  unfolding cancelled removed place_lost unchanged place_kept gone
  change_counted n =
      changed_either x k (λ ts f. Each Counted f.stages)
      (λ q. (removed_counted (has_number number) x place there number n, tt))
      (λ q. (removed_counted (has_number number) x place there number n, (lost_counted q n, tt)))
      (λ q r. tt)
      (λ q r s. (kept_counted q r n, tt))
