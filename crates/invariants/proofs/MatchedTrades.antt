-- The trades of an auction's match are in range: accounts and contract exist, the two order numbers differ since each is used once,
-- the price is allowed today since it is a resting one, the lots are 1 to 1,000. Assumes nothing.
use borrow.Author.Rules.{rules}
use Rattle.laws.specs.Logic.{Bool, true, not, ◌&&◌, List, [], ◌∷◌, ◌≡◌, refl, ap}
use Rattle.laws.specs.Numbers.{ℕ, ◌+◌, ◌<◌, ◌≤◌, arith, leb-true, eq-eqb, ne_eqb, le-leb, eqb, leb, length}
use Rattle.laws.specs.Choice.{all_of, all_of_imp, both_true, true_both}
use Rattle.laws.specs.Sums.{sum_of}
use Rattle.rules.specs.Auction.{match_at, trade_at}
use Rattle.rules.specs.Bounds.{allowed_today}
use Rattle.rules.specs.Exchange.{Exchange, listing_at}
use Rattle.rules.specs.Matching.{with_lots}
use Rattle.rules.specs.WellFormed.{order_in_range, trade_in_range, number_of}
use Rattle.rules.specs.declared.{Contract.Contract, Order.Order}
use Rattle.theory.proofs.AuctionTaken.{KeptWithFewer}
use Rattle.theory.proofs.AuctionTrades.{match_each}
use Rattle.invariants.proofs.Clauses.{order_ok, trade_test}
use Rattle.invariants.proofs.InsertQueues.{order_fewer}
use Rattle.invariants.proofs.Numbers.{uses}

-- ---- the number of an order of a queue is used there

abbrev used_in : List Order → Order → Bool
used_in queue o = leb 1 (uses number_of o.number queue)

used_first : (o : Order) (os : List Order) → 1 ≤ uses number_of o.number (o ∷ os)
unfolding uses sum_of
used_first o os = rw (eq-eqb o.number o.number refl) (omega arith)

used_more : (n : ℕ) (o : Order) (os : List Order) → uses number_of n os ≤ uses number_of n (o ∷ os)
unfolding uses sum_of
used_more n o os = omega arith

each_used : (queue : List Order) → all_of (used_in queue) queue ≡ true
unfolding all_of
each_used [] = refl
each_used (o ∷ os) =
    true_both (used_in (o ∷ os) o) (all_of (used_in (o ∷ os)) os) (le-leb 1 (uses number_of o.number (o ∷ os)) (used_first o os))
    (all_of_imp (used_in os) (used_in (o ∷ os)) os
    (λ p h. le-leb 1 (uses number_of p.number (o ∷ os)) (omega (arith, used_more p.number o os, leb-true 1 (uses number_of p.number os) h))) (each_used os))

-- ---- in range

module _ (y : Exchange) (contract : Contract) (next nextstamp c price : ℕ) (buys sells : List Order)
    (there : c < length y.listings) (later : next ≤ y.next) (allowed : allowed_today (listing_at y c).contract price ≡ true)
    (once : (n : ℕ) → uses number_of n buys + uses number_of n sells ≤ 1) where
  abbrev in_range : Order → Bool
  in_range = order_in_range (length y.accounts) next nextstamp contract

  abbrev test : List Order → Order → Bool
  test queue o = in_range o && used_in queue o

  test_fewer : (queue : List Order) → KeptWithFewer (test queue)
  test_fewer queue o n low high h =
      let p = both_true (in_range o) (used_in queue o) h in
      true_both (in_range (with_lots o n)) (used_in queue o) (order_fewer (length y.accounts) next nextstamp contract o n low high p.0) p.1

  -- two orders of which one buys and one sells have two numbers
  two_numbers : (b s : Order) → used_in buys b ≡ true → used_in sells s ≡ true → not (eqb b.number s.number) ≡ true
  two_numbers b s h k =
      ap not (ne_eqb b.number s.number
      (λ e. let z : ◌≡◌ {A = ℕ} b.number s.number = e in
      let u : 1 ≤ uses number_of s.number buys = rw z at (leb-true 1 (uses number_of b.number buys) h) in
      omega (arith, once s.number, leb-true 1 (uses number_of s.number sells) k)))

  one_trade : (lots : ℕ) (b s : Order) → lots ≤ b.lots → lots ≤ s.lots → (0 < b.lots → 0 < s.lots → 0 < lots) → test buys b ≡ true → test sells s ≡ true →
      trade_in_range y (trade_at c price lots b s) ≡ true
  unfolding trade_at
  one_trade lots b s h k some v w =
      let p = both_true (in_range b) (used_in buys b) v in
      let q = both_true (in_range s) (used_in sells s) w in
      let i = order_ok (length y.accounts) next nextstamp contract b p.0 in
      let j = order_ok (length y.accounts) next nextstamp contract s q.0 in
      trade_test y (trade_at c price lots b s)
      (search (rules, two_numbers) depth 12)

  with_used : (queue os : List Order) → all_of in_range os ≡ true → all_of (used_in queue) os ≡ true → all_of (test queue) os ≡ true
  unfolding all_of
  with_used queue [] h k = refl
  with_used queue (o ∷ os) h k =
      let p = both_true (in_range o) (all_of in_range os) h in
      let q = both_true (used_in queue o) (all_of (used_in queue) os) k in
      true_both (test queue o) (all_of (test queue) os) (true_both (in_range o) (used_in queue o) p.0 q.0) (with_used queue os p.1 q.1)

  pub matched_in_range : all_of (order_in_range (length y.accounts) next nextstamp contract) buys ≡ true → all_of (order_in_range (length y.accounts) next nextstamp contract) sells ≡ true →
      all_of (trade_in_range y) (match_at c price buys sells).trades ≡ true
  matched_in_range h k =
      match_each c price (trade_in_range y) (test buys) (test sells) (test_fewer buys, test_fewer sells)
      (λ lots b s i j some f g v w. one_trade lots b s i j some v w) buys sells
      (with_used buys buys h (each_used buys)) (with_used sells sells k (each_used sells))
