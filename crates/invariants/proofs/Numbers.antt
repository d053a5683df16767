-- "Used once over all queues", by counting, for any field of an order: a value is used once if it occurs at most once, and a change
-- of one contract's queues changes the counts there alone. Assumes nothing.
use Rattle.laws.specs.Logic.{Bool, true, false, not, List, [], ◌∷◌, ◌++◌, ◌≡◌, refl, ◌∙◌}
use Rattle.laws.specs.Numbers.{ℕ, ◌+◌, ◌<◌, ◌≤◌, arith, eqb-true, ltb-true, eq-eqb, ne_eqb, lt-ltb, not-true, eqb, ltb, length, get_or, set}
use Rattle.laws.specs.Choice.{pick, all_of, all_of_imp, both_true, true_both}
use Rattle.laws.specs.Sums.{sum_of, sum_of_append, sum_of_set, sum_of_bound}
use Rattle.rules.specs.Change.{unmarked}
use Rattle.rules.specs.Exchange.{Listing, no_listing, own}
use Rattle.rules.specs.Matching.{with_lots}
use Rattle.rules.specs.WellFormed.{order_in_range, listed, all_listed, used_once}
use Rattle.rules.specs.declared.{Contract.Contract, Order.Order}
use Rattle.invariants.proofs.Clauses.{OrderOk, order_ok, ListingOk}

-- how often a number occurs in a list, and as a field's value in a queue and in a contract's two queues
unfoldable pub occurs : ℕ → List ℕ → ℕ
occurs n l = sum_of (λ k. pick (eqb n k) 1 0) l

unfoldable pub uses : (Order → ℕ) → ℕ → List Order → ℕ
uses field n queue = sum_of (λ o. pick (eqb n (field o)) 1 0) queue

unfoldable pub uses_in : (Order → ℕ) → ℕ → Listing → ℕ
uses_in field n m = uses field n m.buys + uses field n m.sells

-- ---- used once is occurring at most once

none : (n : ℕ) (l : List ℕ) → all_of (λ k. not (eqb n k)) l ≡ true → occurs n l ≡ 0
unfolding occurs sum_of all_of
none n [] h = refl
none n (k ∷ ks) h =
    let p = both_true (not (eqb n k)) (all_of (λ j. not (eqb n j)) ks) h in
    rw (not-true (eqb n k) p.0) (omega (arith, none n ks p.1))

absent_all : (n : ℕ) (l : List ℕ) → occurs n l ≡ 0 → all_of (λ k. not (eqb n k)) l ≡ true
unfolding occurs sum_of all_of
absent_all n [] h = refl
absent_all n (k ∷ ks) h = by_number (eqb n k) refl (λ z. absent_all n ks z)
  where
    by_number : (b : Bool) → eqb n k ≡ b → (occurs n ks ≡ 0 → all_of (λ j. not (eqb n j)) ks ≡ true) → all_of (λ j. not (eqb n j)) (k ∷ ks) ≡ true
    by_number true e ih = let h' : 1 + occurs n ks ≡ 0 = rw e at h in absurd (omega arith)
    by_number false e ih = let h' : 0 + occurs n ks ≡ 0 = rw e at h in rw e (ih (omega arith))

pub once_count : (l : List ℕ) → used_once l ≡ true → (n : ℕ) → occurs n l ≤ 1
unfolding occurs sum_of used_once
once_count [] h n = omega arith
once_count (k ∷ ks) h n = by_number (eqb n k) refl (once_count ks p.1 n)
  where
    p : (all_of (λ j. not (eqb k j)) ks ≡ true) × (used_once ks ≡ true)
    p = both_true (all_of (λ j. not (eqb k j)) ks) (used_once ks) h

    by_number : (b : Bool) → eqb n k ≡ b → occurs n ks ≤ 1 → pick (eqb n k) 1 0 + occurs n ks ≤ 1
    by_number true e ih =
        let z : occurs n ks ≡ 0 = rw (eqb-true n k e) (none k ks p.0) in
        rw e (omega arith)
    by_number false e ih = rw e (omega arith)

pub count_once : (l : List ℕ) → ((n : ℕ) → occurs n l ≤ 1) → used_once l ≡ true
unfolding occurs sum_of used_once
count_once [] h = refl
count_once (k ∷ ks) h =
    let e : 1 + occurs k ks ≤ 1 = rw (eq-eqb k k refl) at (h k) in
    true_both (all_of (λ j. not (eqb k j)) ks) (used_once ks) (absent_all k ks (omega arith)) (count_once ks (λ n. omega (arith, h n)))

-- ---- the counts of a queue, and of all of them

occurs_append : (n : ℕ) (xs ys : List ℕ) → occurs n (xs ++ ys) ≡ occurs n xs + occurs n ys
unfolding occurs
occurs_append n xs ys = sum_of_append (λ k. pick (eqb n k) 1 0) xs ys

-- a field that an order keeps with other lots and without its quote mark
abbrev pub KeptByLots : (Order → ℕ) → Type 0
KeptByLots field = (o : Order) (lots : ℕ) → (field (with_lots o lots) ≡ field o) × (field (unmarked o) ≡ field o)

module _ (field : Order → ℕ) where
  listed_uses : (n : ℕ) (queue : List Order) → occurs n (listed field queue) ≡ uses field n queue
  unfolding occurs sum_of listed uses
  listed_uses n [] = refl
  listed_uses n (o ∷ os) = rw (listed_uses n os)

  pub all_uses : (n : ℕ) (ms : List Listing) → occurs n (all_listed field ms) ≡ sum_of (uses_in field n) ms
  unfolding sum_of all_listed uses_in
  all_uses n [] = unfold occurs in refl
  all_uses n (m ∷ ms) =
      occurs_append n (listed field m.buys) _
      ∙ rw (occurs_append n (listed field m.sells) (all_listed field ms), listed_uses n m.buys, listed_uses n m.sells, all_uses n ms) (omega arith)

  -- one contract's queues replaced: each value may come back only as often as is left
  pub once_changed :
      (ms : List Listing) (c : ℕ) (m : Listing) → c < length ms → used_once (all_listed field ms) ≡ true →
      ((n : ℕ) → occurs n (all_listed field ms) + uses_in field n m ≤ 1 + uses_in field n (get_or ms c no_listing)) → used_once (all_listed field (set ms c m)) ≡ true
  once_changed ms c m there once few =
      count_once (all_listed field (set ms c m))
      (λ n. rw (all_uses n (set ms c m)) (omega (arith, few n, all_uses n ms, sum_of_set (uses_in field n) ms c m no_listing there)))

  -- a value that every order stays below occurs nowhere
  uses_none : (next : ℕ) (queue : List Order) → all_of (λ o. ltb (field o) next) queue ≡ true → uses field next queue ≡ 0
  unfolding uses sum_of all_of
  uses_none next [] h = refl
  uses_none next (o ∷ os) h =
      let p = both_true (ltb (field o) next) (all_of (λ r. ltb (field r) next) os) h in
      let l = ltb-true (field o) next p.0 in
      rw (ne_eqb next (field o) (λ e. let z : ◌≡◌ {A = ℕ} next (field o) = e in omega arith)) (omega (arith, uses_none next os p.1))

  pub next_unused : (next : ℕ) (ms : List Listing)
      → ((c : ℕ) → c < length ms → (sell : Bool) → all_of (λ o. ltb (field o) next) (own sell (get_or ms c no_listing)) ≡ true)
      → occurs next (all_listed field ms) ≡ 0
  unfolding uses_in
  next_unused next ms below =
      let none : (c : ℕ) → c < length ms → uses_in field next (get_or ms c no_listing) ≤ 0 =
      λ c l. omega (arith, uses_none next (get_or ms c no_listing).buys (below c l false), uses_none next (get_or ms c no_listing).sells (below c l true)) in
      omega (arith, all_uses next ms, sum_of_bound (uses_in field next) 0 ms no_listing none)

-- so the next order number is no resting order's, and the next time stamp neither
pub given_unused : (field : Order → ℕ) (value accounts next nextstamp : ℕ) → ((c : Contract) (o : Order) → OrderOk accounts next nextstamp c o → field o < value) →
    (ms : List Listing) → ((c : ℕ) → c < length ms → ListingOk accounts next nextstamp (get_or ms c no_listing)) → occurs value (all_listed field ms) ≡ 0
given_unused field value accounts next nextstamp below ms ok =
    next_unused field value ms
    (λ c l sell.
    let m = get_or ms c no_listing in
    all_of_imp (order_in_range accounts next nextstamp m.contract) (λ o. ltb (field o) value) (own sell m)
    (λ o h. lt-ltb (field o) value (below m.contract o (order_ok accounts next nextstamp m.contract o h))) ((ok c l).orders sell))
