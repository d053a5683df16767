-- THE BOOK IS UNCROSSED AFTER THE AUCTION: a match of the largest volume leaves it so. Were a buy left at b and a sell at s with s
-- not above b, then at b all lots traded on either side would count, and the lots left of these two orders besides: the volume at b,
-- a resting price, would be larger than what was traded, which is the largest. Assumes nothing.
use Rattle.laws.specs.Logic.{Bool, true, false, List, [], ◌∷◌, ◌≡◌, refl}
use Rattle.laws.specs.Numbers.{ℕ, ◌<◌, ◌≤◌, arith, leb-true, ltb-true, ltb-false, lt-ltb, leb, ltb}
use Rattle.laws.specs.Choice.{all_of, all_of_append, both_true, true_both, by_test}
use Rattle.rules.specs.Auction.{lots_reaching, match_at, prices, resting_prices, volume}
use Rattle.rules.specs.WellFormed.{sorted, uncrossed}
use Rattle.rules.specs.declared.Order.{Order}
use Rattle.theory.proofs.AuctionTaken.{behind_reaches, reaching_met, Taken}
use Rattle.theory.proofs.AuctionTraded.{match_volume, match_taken}
use Rattle.theory.proofs.Sorted.{Behind, behind_refl}

abbrev pub has_lots : Order → Bool
has_lots o = ltb 0 o.lots

-- what is said of each price of a queue is said of each order's
prices_each : (test : ℕ → Bool) (os : List Order) → all_of test (prices os) ≡ true → all_of (λ o. test o.price) os ≡ true
unfolding prices all_of
prices_each test [] h = refl
prices_each test (o ∷ os) h =
    let b = both_true (test o.price) (all_of test (prices os)) h in
    true_both (test o.price) (all_of (λ o. test o.price) os) b.0 (prices_each test os b.1)

-- no resting price has a larger volume than this one
abbrev pub Largest : List Order → List Order → ℕ → Type 0
Largest buys sells price = all_of (λ p. leb (volume buys sells p) (volume buys sells price)) (resting_prices buys sells) ≡ true

-- the lots of the first order of a queue reach its own price and any behind it
first_counts : (sell : Bool) (price : ℕ) (o : Order) (os : List Order) → Behind sell price o.price → o.lots ≤ lots_reaching sell price (o ∷ os)
first_counts sell price o os h = omega (arith, reaching_met sell price o os (behind_reaches sell price o h))

volume_above : (buys sells : List Order) (price n : ℕ) → n < lots_reaching false price buys → n < lots_reaching true price sells → n < volume buys sells price
unfolding volume
volume_above buys sells price n h k = omega arith

module _ (buys sells : List Order) (price : ℕ) (most : Largest buys sells price)
    (buying : all_of has_lots buys ≡ true) (selling : all_of has_lots sells ≡ true) where
  -- no buy that is left is at a price with a larger volume
  no_more : (n : ℕ) (b : Order) (bs : List Order) → Taken false n buys (b ∷ bs) → volume buys sells b.price ≤ volume buys sells price
  unfolding all_of
  no_more n b bs t =
      let more : ℕ → Bool = λ p. leb (volume buys sells p) (volume buys sells price) in
      let all = prices_each more buys (both_true (all_of more (prices buys)) (all_of more (prices sells)) (rw all_of_append at most)).0 in
      leb-true _ _ (both_true (more b.price) (all_of (λ o. more o.price) bs) (t.kept (λ o. more o.price) (λ o k l h e. e) all)).0

  some_left : (sell : Bool) (n : ℕ) (before : List Order) (o : Order) (os : List Order) → all_of has_lots before ≡ true → Taken sell n before (o ∷ os) → 0 < o.lots
  unfolding all_of
  some_left sell n before o os h t =
      ltb-true 0 o.lots (both_true (has_lots o) (all_of has_lots os) (t.kept has_lots (λ p k l m e. lt-ltb 0 k l) h)).0

  -- two queues from whose fronts that volume was taken
  pub uncrossed_after : (n : ℕ) (bs ss : List Order) → n ≡ volume buys sells price → Taken false n buys bs → Taken true n sells ss → uncrossed bs ss ≡ true
  unfolding uncrossed
  uncrossed_after n [] ss v t u = refl
  uncrossed_after n (b ∷ bs) [] v t u = refl
  uncrossed_after n (b ∷ bs) (s ∷ ss) v t u =
      by_test (ltb b.price s.price) (λ e. e)
      (λ e. let p = b.price in
      let h : s.price ≤ p = ltb-false p s.price e in
      let x : n < lots_reaching false p buys
      = omega (arith, t.counted p (behind_refl false p), first_counts false p b bs (behind_refl false p), some_left false n buys b bs buying t) in
      let y : n < lots_reaching true p sells = omega (arith, u.counted p h, first_counts true p s ss h, some_left true n sells s ss selling u) in
      absurd (omega (arith, volume_above buys sells p n x y, no_more n b bs t)))

  pub match_uncrosses : (contract : ℕ) → sorted false buys ≡ true → sorted true sells ≡ true
      → uncrossed (match_at contract price buys sells).buys (match_at contract price buys sells).sells ≡ true
  match_uncrosses contract x y =
      let t = match_taken contract price buys sells x y in
      uncrossed_after _ _ _ (match_volume contract price buys sells x y) t.0 t.1
