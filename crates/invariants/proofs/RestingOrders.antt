-- WHAT MAY HAPPEN TO A RESTING ORDER: the theorems in the words of specs/RestingOrders.antt. Assumes nothing.
use lib.ListN.{get_or-eq_default}
use Rattle.laws.specs.Logic.{Bool, true, false, not, ◌&&◌, ◌||◌, List, [], ◌∷◌, ◌++◌, ◌≡◌, refl, sym, ap, subst, ◌∙◌}
use Rattle.laws.specs.Numbers.{ℕ, ◌<◌, ◌≤◌, arith, eqb-true, ltb-true, ltb-false, lt-ltb, eqb, ltb, length}
use Rattle.laws.specs.Choice.{all_of, all_of_imp, both_true, pick_either, pick_same, true_both, by_test}
use Rattle.laws.specs.Sums.{sum_of}
use Rattle.rules.specs.Command.{account_field, is_settle}
use Rattle.rules.specs.Exchange.{Exchange, Listing, listing_at, listing_named, no_listing, own, place_of, worse}
use Rattle.rules.specs.Kinds.{code_of, kind_of, step}
use Rattle.rules.specs.Step.{cancelled, has_number, is_of, listing_without, removed, with_listing}
use Rattle.rules.specs.Touches.{names, orders_of, orders_where}
use Rattle.rules.specs.WellFormed.{ahead, ahead_of_first, number_of, order_in_range, sorted, well_formed_contents}
use Rattle.rules.specs.declared.{Command.Command, Contract.Contract, Order.Order}
use Rattle.rules.specs.declared.Command.TheVariants.{Cancel}
use Rattle.theory.proofs.AuctionUncrossed.{has_lots}
use Rattle.theory.proofs.Sorted.{AllBehind, Behind, behind_ahead, behind_antisym, sorted_behind, sorted_tail}
use Rattle.theory.proofs.Touches.{accepted_step, contract_there, queues_alone, relisted}
use Rattle.invariants.proofs.Clauses.{OrderOk, Sound, WellFormed, order_ok, well_formed}
use Rattle.invariants.proofs.EachKind.{step_fated, step_keeps}
use Rattle.invariants.proofs.Fates.{fewer_all, kept_each}
use Rattle.invariants.proofs.Numbers.{uses}
use Rattle.invariants.proofs.OneOrder.{once_in, one_goes}
use Rattle.invariants.proofs.OthersOrders.{Fated, cancel_owner}
use Rattle.invariants.specs.RestingOrders.{CancelTakesOne, OrdersStay, lots_traded_by}

-- ---- a cancel

module _ (x : Exchange) (w : well_formed_contents x ≡ true) (account contract : ℕ) (operator : Bool) (number : ℕ) where
  abbrev cancels : Command
  cancels = Cancel account contract operator number

  abbrev left : Listing
  left = listing_without (has_number number) (listing_named x contract)

  cancel_there : code_of x cancels ≡ 0 → place_of contract < length x.listings
  cancel_there e = contract_there x cancels contract refl e

  pub cancel_takes_one : code_of x cancels ≡ 0 → CancelTakesOne x account contract number (step x cancels)
  unfolding code_of kind_of cancelled removed
  cancel_takes_one e =
      let f = cancel_owner x account contract operator number e in
      let g = one_goes number account (listing_named x contract) (once_in x (well_formed x w) (place_of contract) number) f.0 f.1.0 in
      let now : listing_named (with_listing x (place_of contract) left) contract ≡ left = relisted x (place_of contract) left (cancel_there e) in
      rw (accepted_step x cancels e)
      record {
        sell = g.0;
        gone = rw now g.1;
        opposite = ap (λ (l : Listing). own (not g.0) l) now ∙ g.2;
        otherwise = queues_alone x (place_of contract) (has_number number) (cancel_there e);
      }

-- ---- what holds of every resting order, whichever the contract

module _ (x : Exchange) (w : WellFormed x) where
  at_any : (P : Listing → Type 0) → P no_listing → ((c : ℕ) → c < length x.listings → P (listing_at x c)) → (c : ℕ) → P (listing_at x c)
  unfolding listing_at
  at_any P none some c =
      by_test (ltb c (length x.listings)) (λ e. some c (ltb-true c (length x.listings) e))
      (λ e. rw (get_or-eq_default x.listings no_listing (ltb-false c (length x.listings) e)) none)

  all_resting : (test : Order → Bool) → ((terms : Contract) (o : Order) → OrderOk (length x.accounts) x.next x.nextstamp terms o → test o ≡ true) →
      (c : ℕ) (sell : Bool) → all_of test (own sell (listing_at x c)) ≡ true
  all_resting test f =
      at_any (λ l. (sell : Bool) → all_of test (own sell l) ≡ true) (λ sell. rw (pick_same {A = List Order} sell []) (unfold all_of in refl))
      (λ c l sell.
      let terms = (listing_at x c).contract in
      all_of_imp (order_in_range (length x.accounts) x.next x.nextstamp terms) test (own sell (listing_at x c))
      (λ o h. f terms o (order_ok (length x.accounts) x.next x.nextstamp terms o h)) ((w.listing c l).orders sell))

  all_sorted : (c : ℕ) (sell : Bool) → sorted sell (own sell (listing_at x c)) ≡ true
  all_sorted =
      at_any (λ l. (sell : Bool) → sorted sell (own sell l) ≡ true) (λ sell. rw (pick_same {A = List Order} sell []) (unfold sorted in refl)) (λ c l sell. (w.listing c l).order sell)

-- ---- the orders of an account among those of a queue

where_all : (p test : Order → Bool) (q : List Order) → all_of p q ≡ true → all_of p (orders_where test q) ≡ true
unfolding all_of orders_where
where_all p test [] h = refl
where_all p test (o ∷ os) h =
    let b = both_true (p o) (all_of p os) h in
    pick_either (λ l. all_of p l ≡ true) (test o) (o ∷ orders_where test os) (orders_where test os)
    (λ e. true_both (p o) (all_of p (orders_where test os)) b.0 (where_all p test os b.1)) (λ e. where_all p test os b.1)

where_uses : (n : ℕ) (test : Order → Bool) (q : List Order) → uses number_of n (orders_where test q) ≤ uses number_of n q
unfolding uses sum_of orders_where
where_uses n test [] = omega arith
where_uses n test (o ∷ os) =
    pick_either (λ l. uses number_of n l ≤ uses number_of n (o ∷ os)) (test o) (o ∷ orders_where test os) (orders_where test os)
    (λ e. omega (arith, where_uses n test os)) (λ e. omega (arith, where_uses n test os))

-- what holds of all orders of an account holds of one that stands among others
one_of : (a : ℕ) (test : Order → Bool) (front : List Order) (o : Order) (back : List Order) → is_of a o ≡ true → all_of test (orders_of a (front ++ o ∷ back)) ≡ true → test o ≡ true
unfolding all_of orders_where
one_of a test [] o back e h = (both_true (test o) (all_of test (orders_of a back)) (rw e at h)).0
one_of a test (p ∷ ps) o back e h = by_account (is_of a p) refl (λ k. one_of a test ps o back e k)
  where
    by_account : (b : Bool) → is_of a p ≡ b → (all_of test (orders_of a (ps ++ o ∷ back)) ≡ true → test o ≡ true) → test o ≡ true
    by_account true f ih = ih (both_true (test p) (all_of test (orders_of a (ps ++ o ∷ back))) (rw f at h)).1
    by_account false f ih = ih (rw f at h)

-- ---- in a sorted queue an order at the price of a later one has the earlier time stamp

earlier_stamp : (sell : Bool) (o p : Order) → ahead sell o p ≡ true → o.price ≡ p.price → o.stamp < p.stamp
unfolding ahead
earlier_stamp sell o p e same = by_price (worse sell p.price o.price) refl e
  where
    not_worse : (s : Bool) → worse s p.price o.price ≡ true → ⊥
    not_worse true h = let l = ltb-true o.price p.price h in omega arith
    not_worse false h = let l = ltb-true p.price o.price h in omega arith

    by_price : (b : Bool) → worse sell p.price o.price ≡ b → (b || eqb o.price p.price && ltb o.stamp p.stamp) ≡ true → o.stamp < p.stamp
    by_price true w h = absurd (not_worse sell w)
    by_price false w h = ltb-true o.stamp p.stamp (both_true (eqb o.price p.price) (ltb o.stamp p.stamp) h).1

-- of an order with one behind it, and with one behind that
still_earlier : (sell : Bool) (o p q : Order) → Behind sell p.price o.price → Behind sell q.price p.price →
    (o.price ≡ p.price → o.stamp < p.stamp) → (p.price ≡ q.price → p.stamp < q.stamp) → o.price ≡ q.price → o.stamp < q.stamp
still_earlier sell o p q b d f g e =
    let h : o.price ≡ p.price = behind_antisym sell o.price p.price (rw e d) b in
    let i : p.price ≡ q.price = sym h ∙ e in
    omega (arith, f h, g i)

behind_in : (sell : Bool) (price : ℕ) (middle : List Order) (p : Order) (back : List Order) → AllBehind sell price (middle ++ p ∷ back) → Behind sell p.price price
behind_in sell price [] p back h = h.0
behind_in sell price (r ∷ rs) p back h = behind_in sell price rs p back h.1

sorted_earlier : (sell : Bool) (o : Order) (middle : List Order) (p : Order) (back : List Order) → sorted sell (o ∷ middle ++ p ∷ back) ≡ true → o.price ≡ p.price → o.stamp < p.stamp
unfolding sorted ahead_of_first
sorted_earlier sell o [] p back s = earlier_stamp sell o p (both_true (ahead sell o p) (sorted sell (p ∷ back)) s).0
sorted_earlier sell o (r ∷ rs) p back s =
    let b = both_true (ahead sell o r) (sorted sell (r ∷ rs ++ p ∷ back)) s in
    still_earlier sell o r p (behind_ahead sell o r b.0) (behind_in sell r.price rs p back (sorted_behind sell r (rs ++ p ∷ back) b.1)) (earlier_stamp sell o r b.0) (sorted_earlier sell r rs p back b.1)

sorted_front : (sell : Bool) (front : List Order) (o : Order) (back : List Order) (next : ℕ) → sorted sell (front ++ o ∷ back) ≡ true → o.stamp < next →
    all_of (λ p. not (eqb p.price o.price) || ltb p.stamp next) front ≡ true
unfolding all_of
sorted_front sell [] o back next s low = refl
sorted_front sell (p ∷ ps) o back next s low =
    true_both (not (eqb p.price o.price) || ltb p.stamp next) _ (by_price (eqb p.price o.price) refl)
    (sorted_front sell ps o back next (sorted_tail sell p (ps ++ o ∷ back) s) low)
  where
    by_price : (b : Bool) → eqb p.price o.price ≡ b → (not b || ltb p.stamp next) ≡ true
    by_price true e = lt-ltb p.stamp next (omega (arith, sorted_earlier sell p ps o back s (eqb-true p.price o.price e), low))
    by_price false e = refl

-- ---- an account's orders, one by one

pub orders_stay : (a : ℕ) (x y : Exchange) → WellFormed x → WellFormed y → Fated a x y → OrdersStay a x y
orders_stay a x y w v f =
    record {
      made = f.made;
      recorded = f.recorded;
      kept = λ c sell.
          kept_each (λ n. lots_traded_by c sell a n f.made) (orders_of a (own sell (listing_at x c))) (orders_of a (own sell (listing_at y c))) (once c sell) (f.fate c sell).fewer
          (where_all has_lots (is_of a) (own sell (listing_at y c)) (all_resting y v has_lots (λ terms o k. lt-ltb 0 o.lots k.lots_low) c sell)) (λ n u. (f.fate c sell).lots n);
      limits = λ c sell. (f.fate c sell).limits;
      ahead = λ c sell front o back e its.
          sorted_front sell front o back x.nextstamp (subst (λ (q : List Order). sorted sell q ≡ true) e (all_sorted y v c sell))
          (ltb-true o.stamp x.nextstamp
          (one_of a (λ p. ltb p.stamp x.nextstamp) front o back its (subst (λ (q : List Order). all_of (λ p. ltb p.stamp x.nextstamp) (orders_of a q) ≡ true) e (stamps c sell))));
    }
  where
    once : (c : ℕ) (sell : Bool) (n : ℕ) → uses number_of n (orders_of a (own sell (listing_at x c))) ≤ 1
    once c true n = omega (arith, where_uses n (is_of a) (listing_at x c).sells, once_in x w c n)
    once c false n = omega (arith, where_uses n (is_of a) (listing_at x c).buys, once_in x w c n)

    stamps : (c : ℕ) (sell : Bool) → all_of (λ p. ltb p.stamp x.nextstamp) (orders_of a (own sell (listing_at y c))) ≡ true
    stamps c sell =
        fewer_all (λ p. ltb p.stamp x.nextstamp) (λ p lots. refl) (orders_of a (own sell (listing_at x c))) (orders_of a (own sell (listing_at y c))) (f.fate c sell).fewer
        (where_all (λ p. ltb p.stamp x.nextstamp) (is_of a) (own sell (listing_at x c)) (all_resting x w (λ p. ltb p.stamp x.nextstamp) (λ terms o k. lt-ltb o.stamp x.nextstamp k.stamp_high) c sell))

-- NOBODY REMOVES ANOTHER'S ORDER
pub others_orders_stay : (x : Exchange) → Sound x → (command : Command) → is_settle command ≡ false → (a : ℕ) → names (account_field command) a ≡ false → OrdersStay a x (step x command)
others_orders_stay x s command n a f = orders_stay a x (step x command) s.contents (step_keeps x command s).contents (step_fated x s.contents a command n f)
