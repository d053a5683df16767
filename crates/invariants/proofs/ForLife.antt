-- Numbers and time stamps for life, from one state to another: what composes, and one law for each way in which a command changes queues.
-- What each kind does stands in `EachKind`. Assumes nothing.
use Rattle.laws.specs.Logic.{Bool, true, false, ◌&&◌, ◌||◌, true≢false, false≢true, List, [], ◌∷◌, ◌++◌, ◌≢◌, ◌≡◌, refl, sym, ap, ◌∙◌}
use Rattle.laws.specs.Numbers.{ℕ, ◌+◌, ◌≤◌, le_refl, arith, eqb-true, eqb-false, leb-true, eq-eqb, le-leb, not-false, eqb, leb, get_or}
use Rattle.laws.specs.Choice.{pick, all_of, all_of_imp, both_true, true_both, true_either, either_true}
use Rattle.rules.specs.Answers.{first_of, mark, no_such_order, numbered, of_another, resting_order, taker_of}
use Rattle.rules.specs.Auction.{match_of}
use Rattle.rules.specs.Change.{Asked, arriving, changed, change_refusals, gone, is_sell, old_order, place_kept, place_lost, reentered, unchanged}
use Rattle.rules.specs.Exchange.{Exchange, Listing, listing_at, listing_named, no_order, own, place_of}
use Rattle.rules.specs.Kinds.{last_of}
use Rattle.rules.specs.Matching.{remainder}
use Rattle.rules.specs.Quote.{Offered, buy_of, quoted, sell_of, with_buy, with_sell, without_quote}
use Rattle.rules.specs.Step.{cancelled, entered_of, exchange_after, exchange_matched, has_number, is_of, listing_without, removed, with_listing}
use Rattle.rules.specs.WellFormed.{is_quote_of}
use Rattle.rules.specs.declared.{NewOrder.NewOrder, Order.Order}
use Rattle.theory.proofs.AuctionTaken.{KeptWithFewer}
use Rattle.theory.proofs.Changes.{changed_either}
use Rattle.invariants.proofs.AllResting.{AllResting, entered_resting, lessened_resting, matched_resting, without_resting}
use Rattle.invariants.proofs.ChangeKeeps.{its_close, owned, rests}
use Rattle.invariants.proofs.Clauses.{WellFormed}
use Rattle.invariants.specs.GivenNumbers.{NumbersForLife, is_same_order, keeps_number, keeps_stamp}
use Rattle.invariants.specs.RestingOrders.{some_order}

-- ---- one of some orders

-- each of a queue's orders is one of them
some_itself : (test : Order → Order → Bool) → ((o : Order) → test o o ≡ true) → (q : List Order) → all_of (λ o. some_order (test o) q) q ≡ true
unfolding all_of some_order
some_itself test same [] = refl
some_itself test same (o ∷ os) =
    true_both (test o o || some_order (test o) os) (all_of (λ p. test p o || some_order (test p) os) os) (true_either (test o o) (some_order (test o) os) (same o))
    (all_of_imp (λ p. some_order (test p) os) (λ p. test p o || some_order (test p) os) os (λ p h. either_true (test p o) (some_order (test p) os) h) (some_itself test same os))

-- what each of them gives, if one of them passes a test
some_gives : (test all : Order → Bool) (result : Bool) → ((p : Order) → test p ≡ true → all p ≡ true → result ≡ true) → (q : List Order) → all_of all q ≡ true → some_order test q ≡ true → result ≡ true
unfolding all_of some_order
some_gives test all result f [] h s = absurd (false≢true s)
some_gives test all result f (o ∷ os) h s = by_test (λ g k. some_gives test all result f os g k) (test o) refl s
  where
    b : (all o ≡ true) × (all_of all os ≡ true)
    b = both_true (all o) (all_of all os) h

    by_test : (all_of all os ≡ true → some_order test os ≡ true → result ≡ true) → (t : Bool) → test o ≡ t → (t || some_order test os) ≡ true → result ≡ true
    by_test ih true e k = f o e b.0
    by_test ih false e k = ih b.1 k

some_imp : (p q : Order → Bool) → ((o : Order) → p o ≡ true → q o ≡ true) → (os : List Order) → some_order p os ≡ true → some_order q os ≡ true
unfolding some_order
some_imp p q f [] h = h
some_imp p q f (o ∷ os) h = by_first (λ k. some_imp p q f os k) (p o) refl h
  where
    by_first : (some_order p os ≡ true → some_order q os ≡ true) → (b : Bool) → p o ≡ b → (b || some_order p os) ≡ true → (q o || some_order q os) ≡ true
    by_first ih true e k = true_either (q o) (some_order q os) (f o e)
    by_first ih false e k = either_true (q o) (some_order q os) (ih k)

-- ---- the order with a number

found_in : (n : ℕ) (test : Order → Bool) (q : List Order) → no_such_order (numbered n q) ≡ false → test (get_or (numbered n q) 0 no_order) ≡ true → some_order (λ p. has_number n p && test p) q ≡ true
unfolding no_such_order numbered some_order
found_in n test [] r h = absurd (true≢false r)
found_in n test (o ∷ os) r h = by_number (λ r h. found_in n test os r h) (has_number n o) refl r h
  where
    by_number : (no_such_order (numbered n os) ≡ false → test (get_or (numbered n os) 0 no_order) ≡ true → some_order (λ p. has_number n p && test p) os ≡ true) →
        (m : Bool) → has_number n o ≡ m → no_such_order (pick m (o ∷ []) (numbered n os)) ≡ false → test (get_or (pick m (o ∷ []) (numbered n os)) 0 no_order) ≡ true →
        ((has_number n o && test o) || some_order (λ p. has_number n p && test p) os) ≡ true
    by_number ih true m r h = rw m (true_either (true && test o) _ h)
    by_number ih false m r h = either_true (has_number n o && test o) _ (ih r h)

-- it stands among the sells where it is not among the buys
found_on : (n : ℕ) (test : Order → Bool) (bs ss : List Order) → no_such_order (numbered n (bs ++ ss)) ≡ false → test (get_or (numbered n (bs ++ ss)) 0 no_order) ≡ true →
    some_order (λ p. has_number n p && test p) (pick (no_such_order (numbered n bs)) ss bs) ≡ true
unfolding no_such_order numbered some_order
found_on n test [] ss r h = found_in n test ss r h
found_on n test (b ∷ bs) ss r h = by_number (λ r h. found_on n test bs ss r h) (has_number n b) refl r h
  where
    by_number : (no_such_order (numbered n (bs ++ ss)) ≡ false → test (get_or (numbered n (bs ++ ss)) 0 no_order) ≡ true → some_order (λ p. has_number n p && test p) (pick (no_such_order (numbered n bs)) ss bs) ≡ true) →
        (m : Bool) → has_number n b ≡ m → no_such_order (pick m (b ∷ []) (numbered n (bs ++ ss))) ≡ false → test (get_or (pick m (b ∷ []) (numbered n (bs ++ ss))) 0 no_order) ≡ true →
        some_order (λ p. has_number n p && test p) (pick (no_such_order (pick (has_number n b) (b ∷ []) (numbered n bs))) ss (b ∷ bs)) ≡ true
    by_number ih true m r h = rw m (true_either (has_number n b && test b) _ (true_both (has_number n b) (test b) m h))
    by_number ih false m r h = rw m (later (no_such_order (numbered n bs)) (ih r h))
      where
        later : (t : Bool) → some_order (λ p. has_number n p && test p) (pick t ss bs) ≡ true → some_order (λ p. has_number n p && test p) (pick t ss (b ∷ bs)) ≡ true
        later true k = k
        later false k = either_true (has_number n b && test b) _ k

of_account : (a : ℕ) (found : List Order) → no_such_order found ≡ false → of_another a found ≡ false → is_of a (get_or found 0 no_order) ≡ true
unfolding no_such_order of_another
of_account a [] n h = absurd (true≢false n)
of_account a (o ∷ os) n h = not-false (is_of a o) h

-- a mark read and written again
mark_again : (close : ℕ) → close ≤ 1 → eqb close (mark (eqb close 1)) ≡ true
mark_again close low = by_close (eqb close 1) refl
  where
    by_close : (b : Bool) → eqb close 1 ≡ b → eqb close (mark b) ≡ true
    by_close true f = f
    by_close false f = let n : close ≢ 1 = eqb-false close 1 f in eq-eqb close 0 (omega arith)

regroup : (a b c : Bool) → (a && (b && c)) ≡ true → ((a && b) && c) ≡ true
regroup true b c h = h
regroup false b c h = h

-- ---- what an order keeps goes by its number, its account, open or close, and its time stamp alone

same_keeps : (next : ℕ) (before : List Order) (o p : Order) → is_same_order o p ≡ true → keeps_number next before p ≡ keeps_number next before o
same_keeps next before o p h =
    let b = both_true (has_number o.number p && is_of o.account p) (eqb p.close o.close) h in
    let c = both_true (has_number o.number p) (is_of o.account p) b.0 in
    ap (λ (n : ℕ). keeps n p.account p.close) (eqb-true p.number o.number c.0)
    ∙ ap (λ (a : ℕ). keeps o.number a p.close) (eqb-true p.account o.account c.1)
    ∙ ap (λ (k : ℕ). keeps o.number o.account k) (eqb-true p.close o.close b.1)
  where
    keeps : ℕ → ℕ → ℕ → Bool
    keeps number account close = leb next number || some_order (λ r. has_number number r && is_of account r && eqb r.close close) before

same_stamp : (nextstamp : ℕ) (before : List Order) (o p : Order) → (has_number o.number p && eqb p.stamp o.stamp) ≡ true → keeps_stamp nextstamp before p ≡ keeps_stamp nextstamp before o
same_stamp nextstamp before o p h =
    let b = both_true (has_number o.number p) (eqb p.stamp o.stamp) h in
    ap (λ (n : ℕ). keeps n p.stamp) (eqb-true p.number o.number b.0) ∙ ap (λ (s : ℕ). keeps o.number s) (eqb-true p.stamp o.stamp b.1)
  where
    keeps : ℕ → ℕ → Bool
    keeps number stamp = leb nextstamp stamp || some_order (λ r. has_number number r && eqb r.stamp stamp) before

-- ---- from a state to another, and on to a third

either_way : (a b result : Bool) → (a ≡ true → result ≡ true) → (b ≡ true → result ≡ true) → (a || b) ≡ true → result ≡ true
either_way true b result f g h = f refl
either_way false b result f g h = g h

later_than : (m n k : ℕ) → m ≤ n → leb n k ≡ true → leb m k ≡ true
later_than m n k h e = le-leb m k (omega (arith, leb-true n k e))

pub more_life : (x y z : Exchange) → NumbersForLife x y → NumbersForLife y z → NumbersForLife x z
more_life x y z i j =
    record {
      next = omega (arith, i.next, j.next);
      nextstamp = omega (arith, i.nextstamp, j.nextstamp);
      orders = λ c sell.
          all_of_imp (keeps_number y.next (own sell (listing_at y c))) (keeps_number x.next (own sell (listing_at x c))) (own sell (listing_at z c))
          (λ o h. either_way (leb y.next o.number) (some_order (is_same_order o) (own sell (listing_at y c))) (keeps_number x.next (own sell (listing_at x c)) o)
          (λ e. true_either (leb x.next o.number) _ (later_than x.next y.next o.number i.next e))
          (λ e. some_gives (is_same_order o) (keeps_number x.next (own sell (listing_at x c))) (keeps_number x.next (own sell (listing_at x c)) o)
          (λ p s k. sym (same_keeps x.next (own sell (listing_at x c)) o p s) ∙ k) (own sell (listing_at y c)) (i.orders c sell) e) h) (j.orders c sell);
      stamps = λ c sell.
          all_of_imp (keeps_stamp y.nextstamp (own sell (listing_at y c))) (keeps_stamp x.nextstamp (own sell (listing_at x c))) (own sell (listing_at z c))
          (λ o h. either_way (leb y.nextstamp o.stamp) (some_order (λ p. has_number o.number p && eqb p.stamp o.stamp) (own sell (listing_at y c))) (keeps_stamp x.nextstamp (own sell (listing_at x c)) o)
          (λ e. true_either (leb x.nextstamp o.stamp) _ (later_than x.nextstamp y.nextstamp o.stamp i.nextstamp e))
          (λ e. some_gives (λ p. has_number o.number p && eqb p.stamp o.stamp) (keeps_stamp x.nextstamp (own sell (listing_at x c))) (keeps_stamp x.nextstamp (own sell (listing_at x c)) o)
          (λ p s k. sym (same_stamp x.nextstamp (own sell (listing_at x c)) o p s) ∙ k) (own sell (listing_at y c)) (i.stamps c sell) e) h) (j.stamps c sell);
    }

-- ---- the orders of a state after it has changed, against those of before

module _ (x : Exchange) where
  abbrev lives : ℕ → Bool → Order → Bool
  lives c sell o = keeps_number x.next (own sell (listing_at x c)) o && keeps_stamp x.nextstamp (own sell (listing_at x c)) o

  lives_lots : (c : ℕ) (sell : Bool) → KeptWithFewer (lives c sell)
  lives_lots c sell o n low high h = h

  abbrev pub Lives : Exchange → Type 0
  Lives y = AllResting lives y

  pub of_lives : (y : Exchange) → x.next ≤ y.next → x.nextstamp ≤ y.nextstamp → Lives y → NumbersForLife x y
  of_lives y n s h =
      record {
        next = n;
        nextstamp = s;
        orders = λ c sell. all_of_imp (lives c sell) (keeps_number x.next (own sell (listing_at x c))) (own sell (listing_at y c)) (λ o k. (both_true (keeps_number x.next (own sell (listing_at x c)) o) _ k).0) (h c sell);
        stamps = λ c sell. all_of_imp (lives c sell) (keeps_stamp x.nextstamp (own sell (listing_at x c))) (own sell (listing_at y c)) (λ o k. (both_true (keeps_number x.next (own sell (listing_at x c)) o) _ k).1) (h c sell);
      }

  pub same_lives : Lives x
  same_lives c sell =
      all_of_imp (λ o. some_order (whole o) q) (lives c sell) q
      (λ o h. true_both (keeps_number x.next q o) (keeps_stamp x.nextstamp q o)
      (either_true (leb x.next o.number) (some_order (is_same_order o) q) (some_imp (whole o) (is_same_order o) (λ p k. (both_true (is_same_order o p) (eqb p.stamp o.stamp) k).0) q h))
      (either_true (leb x.nextstamp o.stamp) _ (some_imp (whole o) (λ p. has_number o.number p && eqb p.stamp o.stamp) (λ p k. stamped o p k) q h)))
      (some_itself whole (λ o. itself o) q)
    where
      q : List Order
      q = own sell (listing_at x c)

      whole : Order → Order → Bool
      whole o p = is_same_order o p && eqb p.stamp o.stamp

      stamped : (o p : Order) → whole o p ≡ true → (has_number o.number p && eqb p.stamp o.stamp) ≡ true
      stamped o p k =
          let b = both_true (is_same_order o p) (eqb p.stamp o.stamp) k in
          let d = both_true (has_number o.number p && is_of o.account p) (eqb p.close o.close) b.0 in
          true_both (has_number o.number p) (eqb p.stamp o.stamp) (both_true (has_number o.number p) (is_of o.account p) d.0).0 b.1

      itself : (o : Order) → whole o o ≡ true
      itself o = rw (eq-eqb o.number o.number refl, eq-eqb o.account o.account refl, eq-eqb o.close o.close refl, eq-eqb o.stamp o.stamp refl) refl

  pub without_lives : (d : ℕ) (test : Order → Bool) → Lives (with_listing x d (listing_without test (listing_at x d)))
  without_lives d test = without_resting lives lives_lots x same_lives d test

  pub match_lives : (d phase : ℕ) → Lives (exchange_matched x d phase (match_of x d))
  match_lives d phase = matched_resting lives lives_lots x same_lives d phase

  -- an order entered with a number that it may have
  entered_lives : (y : Exchange) → Lives y → (number quote : ℕ) (o : NewOrder)
      → ((price lots : ℕ) → keeps_number x.next (own o.sell (listing_at x (place_of o.contract))) (remainder (taker_of y number quote o) price lots) ≡ true) → x.nextstamp ≤ y.nextstamp
      → (next : ℕ) → Lives (exchange_after y o (entered_of y number quote o) next)
  unfolding taker_of remainder
  entered_lives y h number quote o keeps low next =
      entered_resting lives lives_lots y h number quote o
      (λ price lots. true_both (keeps_number x.next (own o.sell (listing_at x (place_of o.contract))) (remainder (taker_of y number quote o) price lots)) _ (keeps price lots)
      (true_either (leb x.nextstamp y.nextstamp) _ (le-leb x.nextstamp y.nextstamp low))) next

  -- .. a new one
  pub new_lives : (y : Exchange) → Lives y → (number quote : ℕ) (o : NewOrder) → x.next ≤ number → x.nextstamp ≤ y.nextstamp → (next : ℕ) → Lives (exchange_after y o (entered_of y number quote o) next)
  unfolding taker_of remainder
  new_lives y h number quote o new low next =
      entered_lives y h number quote o (λ price lots. true_either (leb x.next number) _ (le-leb x.next number new)) low next

  -- ---- a quote

  pub quoted_lives : (q : Offered) → Lives (last_of x (quoted x q).stages)
  unfolding quoted with_sell with_buy without_quote exchange_after
  quoted_lives q =
      new_lives (with_buy x q)
      (new_lives (without_quote x q) (without_lives (place_of q.contract) (is_quote_of (place_of q.account))) x.next 1 (buy_of q) (le_refl x.next) (le_refl x.nextstamp) (x.next + 1))
      (x.next + 1) 1 (sell_of q) (omega arith) (omega arith) (x.next + 1 + 1)

  -- ---- a change: the order that it enters is the one that it took out

  module _ (w : WellFormed x) (k : Asked) (e : first_of (change_refusals x k) ≡ 0) where
    abbrev listing : Listing
    listing = listing_named x k.contract

    -- of its account, to open or close as it was
    abbrev its : Order → Bool
    its p = is_of (place_of k.account) p && eqb p.close (mark (eqb (old_order x k).close 1))

    old_its : its (old_order x k) ≡ true
    unfolding old_order resting_order
    old_its =
        true_both (is_of (place_of k.account) (old_order x k)) (eqb (old_order x k).close (mark (eqb (old_order x k).close 1)))
        (of_account (place_of k.account) (resting_order listing k.number) (rests x w k e) (owned x w k e)) (mark_again (old_order x k).close (its_close x w k e))

    old_there : some_order (λ p. has_number k.number p && its p) (own (is_sell x k) listing) ≡ true
    unfolding old_order resting_order is_sell
    old_there = found_on k.number its listing.buys listing.sells (rests x w k e) old_its

    abbrev enters : ℕ → ℕ → Order
    enters price lots = remainder (taker_of (gone x k) k.number 0 (arriving x k)) price lots

    keeps_old : (price lots : ℕ) → keeps_number x.next (own (arriving x k).sell (listing_at x (place_of (arriving x k).contract))) (enters price lots) ≡ true
    unfolding taker_of remainder arriving
    keeps_old price lots =
        either_true (leb x.next k.number) _
        (some_imp (λ p. has_number k.number p && its p) (is_same_order (enters price lots)) (λ p h. regroup (has_number k.number p) (is_of (place_of k.account) p) _ h) (own (is_sell x k) listing) old_there)

    pub changed_lives : Lives (last_of x (changed x k).stages)
    unfolding cancelled removed place_lost unchanged reentered gone
    changed_lives =
        changed_either x k (λ ts f. Lives (last_of x f.stages))
        (λ f. without_lives (place_of k.contract) (has_number k.number))
        (λ f. entered_lives (gone x k) (without_lives (place_of k.contract) (has_number k.number)) k.number 0 (arriving x k) keeps_old (le_refl x.nextstamp) x.next)
        (λ f g. same_lives)
        (λ f g h. lessened_resting lives lives_lots x same_lives k (λ sell o. refl))

-- a change gives no number
pub changed_next : (x : Exchange) (k : Asked) → (last_of x (changed x k).stages).next ≡ x.next
unfolding cancelled removed place_lost unchanged place_kept exchange_after
changed_next x k = changed_either x k (λ ts f. (last_of x f.stages).next ≡ x.next) (λ f. refl) (λ f. refl) (λ f g. refl) (λ f g h. refl)

pub same_life : (x : Exchange) → NumbersForLife x x
same_life x = of_lives x x (le_refl x.next) (le_refl x.nextstamp) (same_lives x)
