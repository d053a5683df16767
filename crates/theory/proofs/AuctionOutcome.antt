-- What an auction of two sorted queues does: it trades the volume of the chosen price, every trade at that price, which is a resting
-- one and becomes the last; it fills one side's lots at and through the price; and it leaves both queues sorted and uncrossed.
-- Assumes nothing.
use Rattle.laws.specs.Logic.{Bool, true, false, ◌&&◌, List, [], ◌∷◌, ◌⊎◌, inl, inr, ◌≡◌, refl, sym, ◌∙◌}
use Rattle.laws.specs.Numbers.{ℕ, ◌+◌, ◌<◌, ◌≤◌, arith, eqb-true, ltb-true, ltb-false, eq-eqb, lt-ltb, eqb, ltb, length}
use Rattle.laws.specs.Choice.{pick, pick_either, pick_true, all_of, all_of_append, all_of_imp, both_true, true_both, by_test}
use Rattle.rules.specs.Auction.{Matched, auction_match, auction_price, chosen_price, lots_reaching, match_at, prices, resting_prices, unmatched, volume}
use Rattle.rules.specs.AuctionFairness.{one_of}
use Rattle.rules.specs.Matching.{last_price, traded_lots}
use Rattle.rules.specs.WellFormed.{sorted, uncrossed}
use Rattle.rules.specs.declared.{Order.Order, Trade.Trade}
use Rattle.theory.proofs.AuctionPrice.{chosen_largest, chosen_rests, one_passes}
use Rattle.theory.proofs.AuctionTaken.{Taken, reaching_nil, taken_none}
use Rattle.theory.proofs.AuctionTraded.{match_filled, match_taken, match_volume, volume_at_most}
use Rattle.theory.proofs.AuctionTrades.{match_prices}
use Rattle.theory.proofs.AuctionTurns.{match_count}
use Rattle.theory.proofs.AuctionUncrossed.{has_lots, match_uncrosses, uncrossed_after}
use Rattle.theory.proofs.Fillable.{traded_nil}

module _ (contract last : ℕ) (buys sells : List Order) where
  abbrev price : ℕ
  price = chosen_price last buys sells

  -- "No volume, no price, no trades": the queues stay as they are
  pub auction_none : volume buys sells (chosen_price last buys sells) ≡ 0 → auction_match contract last buys sells ≡ unmatched buys sells
  unfolding auction_match
  auction_none z = rw z

  pub auction_some : 0 < volume buys sells (chosen_price last buys sells)
      → auction_match contract last buys sells ≡ match_at contract (chosen_price last buys sells) buys sells
  unfolding auction_match
  auction_some h = pick_true (ltb 0 (volume buys sells price)) _ _ (lt-ltb 0 (volume buys sells price) h)

  -- what holds of the queues left as they are, where there is no volume, and of the match, where there is, holds of the auction
  pub auction_either : (P : Matched → Type 0) → (volume buys sells (chosen_price last buys sells) ≡ 0 → P (unmatched buys sells))
      → (0 < volume buys sells (chosen_price last buys sells) → P (match_at contract (chosen_price last buys sells) buys sells))
      → P (auction_match contract last buys sells)
  unfolding auction_match
  auction_either P none some =
      pick_either P (ltb 0 (volume buys sells price)) _ _ (λ e. some (ltb-true 0 (volume buys sells price) e))
      (λ e. none (omega (arith, ltb-false 0 (volume buys sells price) e)))

  -- there are no more trades than orders
  pub auction_count : length (auction_match contract last buys sells).trades ≤ length buys + length sells
  auction_count =
      auction_either (λ m. length m.trades ≤ length buys + length sells) (λ z. omega arith) (λ h. match_count contract price buys sells)

  module _ (x : sorted false buys ≡ true) (y : sorted true sells ≡ true) where
    -- THE TRADED LOTS ARE THE VOLUME OF THE CHOSEN PRICE
    pub auction_lots : traded_lots (auction_match contract last buys sells).trades ≡ volume buys sells (chosen_price last buys sells)
    auction_lots =
        auction_either (λ m. traded_lots m.trades ≡ volume buys sells price)
        (λ z. omega (arith, traded_nil)) (λ h. match_volume contract price buys sells x y)

    -- they are taken from the front of both queues
    pub auction_taken : Taken false (traded_lots (auction_match contract last buys sells).trades) buys (auction_match contract last buys sells).buys
        × Taken true (traded_lots (auction_match contract last buys sells).trades) sells (auction_match contract last buys sells).sells
    auction_taken =
        auction_either (λ m. Taken false (traded_lots m.trades) buys m.buys × Taken true (traded_lots m.trades) sells m.sells)
        (λ z. rw traded_nil (taken_none false buys x, taken_none true sells y)) (λ h. match_taken contract price buys sells x y)

    -- both queues stay sorted
    pub auction_sorted : (sorted false (auction_match contract last buys sells).buys ≡ true) × (sorted true (auction_match contract last buys sells).sells ≡ true)
    auction_sorted = (auction_taken.0.inorder, auction_taken.1.inorder)

    nothing_left : (m : Matched) → volume m.buys m.sells price ≡ 0 → (lots_reaching false price m.buys ≡ 0) ⊎ (lots_reaching true price m.sells ≡ 0)
    unfolding volume
    nothing_left m z =
        by_test (ltb 0 (lots_reaching false price m.buys)) (λ e. let l = ltb-true 0 (lots_reaching false price m.buys) e in inr (omega arith))
        (λ e. let l = ltb-false 0 (lots_reaching false price m.buys) e in inl (omega arith))

    -- AT LEAST ONE SIDE'S LOTS AT AND THROUGH THE PRICE ARE FILLED
    pub auction_filled : (lots_reaching false (chosen_price last buys sells) (auction_match contract last buys sells).buys ≡ 0)
        ⊎ (lots_reaching true (chosen_price last buys sells) (auction_match contract last buys sells).sells ≡ 0)
    auction_filled =
        auction_either (λ m. (lots_reaching false price m.buys ≡ 0) ⊎ (lots_reaching true price m.sells ≡ 0))
        (λ z. nothing_left (unmatched buys sells) z) (λ h. nothing_left (match_at contract price buys sells) (match_filled contract price buys sells x y))

    -- THE BOOK IS UNCROSSED AFTERWARDS
    pub auction_uncrosses : all_of has_lots buys ≡ true → all_of has_lots sells ≡ true
        → uncrossed (auction_match contract last buys sells).buys (auction_match contract last buys sells).sells ≡ true
    auction_uncrosses b s =
        auction_either (λ m. uncrossed m.buys m.sells ≡ true)
        (λ z. uncrossed_after buys sells price (chosen_largest last buys sells) b s 0 buys sells (sym z) (taken_none false buys x) (taken_none true sells y))
        (λ h. match_uncrosses buys sells price (chosen_largest last buys sells) b s contract x y)

-- ---- the price

-- where there is volume, there are resting prices
volume_rests : (buys sells : List Order) (price : ℕ) → 0 < volume buys sells price → 0 < length (resting_prices buys sells)
unfolding prices
volume_rests [] sells price h = absurd (omega (arith, (volume_at_most [] sells price).0, reaching_nil false price))
volume_rests (b ∷ bs) sells price h = omega arith

prices_pass : (test : ℕ → Bool) (os : List Order) → all_of (λ o. test o.price) os ≡ true → all_of test (prices os) ≡ true
unfolding prices all_of
prices_pass test [] h = refl
prices_pass test (o ∷ os) h =
    let b = both_true (test o.price) (all_of (λ p. test p.price) os) h in
    true_both (test o.price) (all_of test (prices os)) b.0 (prices_pass test os b.1)

-- where there is volume, the price passes what every resting price passes
pub auction_price_passes : (test : ℕ → Bool) (last : ℕ) (buys sells : List Order) → 0 < volume buys sells (chosen_price last buys sells)
    → all_of (λ o. test o.price) buys ≡ true → all_of (λ o. test o.price) sells ≡ true → test (chosen_price last buys sells) ≡ true
auction_price_passes test last buys sells some b s =
    one_passes test (resting_prices buys sells) (chosen_price last buys sells)
    (rw (all_of_append test (prices buys) (prices sells))
    (true_both (all_of test (prices buys)) (all_of test (prices sells)) (prices_pass test buys b) (prices_pass test sells s)))
    (chosen_rests last buys sells (volume_rests buys sells (chosen_price last buys sells) some))

-- a trade is at the auction's price, and that is a resting price
abbrev pub at_its_price : ℕ → List Order → List Order → Trade → Bool
at_its_price last buys sells t = eqb t.price (auction_price last buys sells) && one_of (resting_prices buys sells) t.price

-- "All trades are at it"
pub auction_prices : (contract last : ℕ) (buys sells : List Order) → all_of (at_its_price last buys sells) (auction_match contract last buys sells).trades ≡ true
unfolding all_of auction_price
auction_prices contract last buys sells =
    auction_either contract last buys sells (λ m. all_of (at_its_price last buys sells) m.trades ≡ true) (λ z. refl)
    (λ h.
    let p = chosen_price last buys sells in
    let e = pick_true (ltb 0 (volume buys sells p)) p 0 (lt-ltb 0 (volume buys sells p) h) in
    all_of_imp (λ t. eqb t.price p) (at_its_price last buys sells) (match_at contract p buys sells).trades
    (λ t k.
    let q = eqb-true t.price p k in
    rw q (true_both (eqb p (auction_price last buys sells)) (one_of (resting_prices buys sells) p)
    (eq-eqb p (auction_price last buys sells) (sym e)) (chosen_rests last buys sells (volume_rests buys sells p h))))
    (match_prices contract p buys sells))

-- trades at one price, if there are any, leave it as the last
last_at : (price last : ℕ) (ts : List Trade) → all_of (λ t. eqb t.price price) ts ≡ true → 0 < length ts → last_price last ts ≡ price
unfolding all_of last_price
last_at price last [] h some = absurd (omega arith)
last_at price last (t ∷ []) h some = eqb-true t.price price (both_true (eqb t.price price) true h).0
last_at price last (t ∷ u ∷ us) h some =
    last_at price t.price (u ∷ us) (both_true (eqb t.price price) (all_of (λ t. eqb t.price price) (u ∷ us)) h).1 (omega arith)

traded_some : (ts : List Trade) → 0 < traded_lots ts → 0 < length ts
traded_some [] h = absurd (omega (arith, traded_nil))
traded_some (t ∷ ts) h = omega arith

-- "The last price .. becomes each trade's price": the chosen one, or as it was where there is no volume
pub auction_last : (contract last : ℕ) (buys sells : List Order) → sorted false buys ≡ true → sorted true sells ≡ true
    → last_price last (auction_match contract last buys sells).trades ≡ pick (ltb 0 (volume buys sells (chosen_price last buys sells))) (chosen_price last buys sells) last
unfolding last_price
auction_last contract last buys sells x y =
    auction_either contract last buys sells (λ m. last_price last m.trades ≡ pick (ltb 0 (volume buys sells (chosen_price last buys sells))) (chosen_price last buys sells) last)
    (λ z. rw z)
    (λ h.
    let p = chosen_price last buys sells in
    last_at p last (match_at contract p buys sells).trades (match_prices contract p buys sells)
    (traded_some (match_at contract p buys sells).trades (omega (arith, match_volume contract p buys sells x y)))
    ∙ sym (pick_true (ltb 0 (volume buys sells p)) p last (lt-ltb 0 (volume buys sells p) h)))
