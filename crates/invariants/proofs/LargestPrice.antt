-- Law 12 (rules, specs/AuctionFairness): NO PRICE AT ALL, resting or not, has a larger volume than the chosen one, since the lowest price of a buy
-- that reaches a price is a resting price, as many buys' lots reach it, and no fewer sells' lots; and the ticket's steps choose it among the
-- resting ones. Assumes nothing.
use Rattle.laws.specs.Logic.{Bool, true, false, not, List, [], ◌∷◌, ◌⊎◌, ⊎_elim, inl, inr, ◌≡◌, refl, sym, ◌∙◌}
use Rattle.laws.specs.Numbers.{ℕ, ◌≤◌, arith, eqb-true, leb-true, leb-false, ltb-true, ltb-false, eq-eqb, not-true, eqb, leb, ltb}
use Rattle.laws.specs.Choice.{all_of, all_of_append, both_true, either_true, pick, pick_true, true_either, by_test}
use Rattle.rules.specs.Auction.{apart, better, chosen_price, lots_reaching, prices, reaches, resting_prices, smaller, surplus, volume}
use Rattle.rules.specs.AuctionFairness.{LargestVolume, one_of}
use Rattle.rules.specs.declared.Order.{Order}
use Rattle.theory.proofs.AuctionPrice.{chosen_largest, chosen_of_any, chosen_rests, chosen_unbeaten, one_passes}
use Rattle.theory.proofs.AuctionTaken.{behind_reaches, reaching_met, reaching_nil, reaching_unmet}
use Rattle.theory.proofs.Sorted.{Behind, behind_trans}

-- ---- more lots reach a price that stands further behind

reaches_behind : (sell : Bool) (price : ℕ) (o : Order) → reaches sell price o ≡ true → Behind sell price o.price
reaches_behind true price o e = leb-true o.price price e
reaches_behind false price o e = leb-true price o.price e

-- one more order takes nothing away
reaching_tail : (sell : Bool) (price : ℕ) (o : Order) (os : List Order) → lots_reaching sell price os ≤ lots_reaching sell price (o ∷ os)
reaching_tail sell price o os =
    by_test (reaches sell price o) (λ e. omega (arith, reaching_met sell price o os e))
    (λ e. omega (arith, reaching_unmet sell price o os e))

reaching_more : (sell : Bool) (price other : ℕ) (os : List Order) → Behind sell other price → lots_reaching sell price os ≤ lots_reaching sell other os
reaching_more sell price other [] b = omega (arith, reaching_nil sell price)
reaching_more sell price other (o ∷ os) b = by_reach (reaches sell price o) refl (reaching_more sell price other os b)
  where
    by_reach : (met : Bool) → reaches sell price o ≡ met → lots_reaching sell price os ≤ lots_reaching sell other os
        → lots_reaching sell price (o ∷ os) ≤ lots_reaching sell other (o ∷ os)
    by_reach true e ih =
        let f = behind_reaches sell other o (behind_trans sell other price o.price b (reaches_behind sell price o e)) in
        omega (arith, reaching_met sell price o os e, reaching_met sell other o os f)
    by_reach false e ih = omega (arith, reaching_unmet sell price o os e, reaching_tail sell other o os)

-- ---- the largest volume of all prices

-- a price of one of these buys, at or above a price, which as many of their lots reach
pub record RestsAbove (price : ℕ) (bs : List Order) : Type 0 where
  pub level : ℕ
  pub rests : one_of (prices bs) level ≡ true
  pub above : price ≤ level
  pub reached : lots_reaching false price bs ≤ lots_reaching false level bs

-- the lowest price of a buy that reaches a price is such a price, if any does
module _ (price : ℕ) (o : Order) (os : List Order) where
  -- the first order's own price
  first_above : price ≤ o.price → lots_reaching false price os ≤ lots_reaching false o.price os → RestsAbove price (o ∷ os)
  unfolding prices one_of
  first_above h l =
      record {
        level = o.price;
        rests = true_either (eqb o.price o.price) (one_of (prices os) o.price) (eq-eqb o.price o.price refl);
        above = h;
        reached = omega (arith, reaching_met false price o os (behind_reaches false price o h), reaching_met false o.price o os (behind_reaches false o.price o (omega arith)));
      }

  -- a later order's price, at or below the first order's, if that one reaches the price
  later_above : (r : RestsAbove price os) → (price ≤ o.price → r.level ≤ o.price) → RestsAbove price (o ∷ os)
  unfolding prices one_of
  later_above r h =
      record {
        level = r.level;
        rests = either_true (eqb o.price r.level) (one_of (prices os) r.level) r.rests;
        above = r.above;
        reached = by_reach (reaches false price o) refl;
      }
    where
      by_reach : (met : Bool) → reaches false price o ≡ met → lots_reaching false price (o ∷ os) ≤ lots_reaching false r.level (o ∷ os)
      by_reach true e =
          omega (arith, r.reached, reaching_met false price o os e, reaching_met false r.level o os (behind_reaches false r.level o (h (leb-true price o.price e))))
      by_reach false e = omega (arith, r.reached, reaching_unmet false price o os e, reaching_tail false r.level o os)

rests_above : (price : ℕ) (bs : List Order) → (lots_reaching false price bs ≡ 0) ⊎ RestsAbove price bs
rests_above price [] = inl (reaching_nil false price)
rests_above price (o ∷ os) = by_reach (leb price o.price) refl (rests_above price os)
  where
    nearer : (r : RestsAbove price os) → price ≤ o.price → (before : Bool) → ltb o.price r.level ≡ before → RestsAbove price (o ∷ os)
    nearer r h true e =
        let l = ltb-true o.price r.level e in
        first_above price o os h (omega (arith, r.reached, reaching_more false r.level o.price os (omega arith)))
    nearer r h false e = later_above price o os r (λ k. ltb-false o.price r.level e)

    by_reach : (met : Bool) → leb price o.price ≡ met → (lots_reaching false price os ≡ 0) ⊎ RestsAbove price os
        → (lots_reaching false price (o ∷ os) ≡ 0) ⊎ RestsAbove price (o ∷ os)
    by_reach true e (inl z) = inr (first_above price o os (leb-true price o.price e) (omega arith))
    by_reach true e (inr r) = inr (nearer r (leb-true price o.price e) (ltb o.price r.level) refl)
    by_reach false e (inl z) = inl (reaching_unmet false price o os e ∙ z)
    by_reach false e (inr r) = inr (later_above price o os r (λ k. let n = leb-false price o.price e in absurd (omega arith)))

module _ (last : ℕ) (buys sells : List Order) where
  -- a volume of nothing is no larger, and any other is reached at a resting price
  volume_none : (price : ℕ) → lots_reaching false price buys ≡ 0 → volume buys sells price ≤ volume buys sells (chosen_price last buys sells)
  unfolding volume
  volume_none price z = omega arith

  volume_above : (price : ℕ) (r : RestsAbove price buys) → volume buys sells price ≤ volume buys sells r.level
  unfolding volume
  volume_above price r = omega (arith, r.reached, reaching_more true price r.level sells r.above)

  volume_chosen : (level : ℕ) → one_of (prices buys) level ≡ true → volume buys sells level ≤ volume buys sells (chosen_price last buys sells)
  volume_chosen level e =
      let more : ℕ → Bool = λ p. leb (volume buys sells p) (volume buys sells (chosen_price last buys sells)) in
      let all = (both_true (all_of more (prices buys)) (all_of more (prices sells)) (rw all_of_append at (chosen_largest last buys sells))).0 in
      leb-true _ _ (one_passes more (prices buys) level all e)

  -- NO PRICE AT ALL HAS A LARGER VOLUME THAN THE CHOSEN ONE
  pub largest_of_all : (price : ℕ) → volume buys sells price ≤ volume buys sells (chosen_price last buys sells)
  largest_of_all price =
      ⊎_elim (volume_none price) (λ (r : RestsAbove price buys). omega (arith, volume_above price r, volume_chosen r.level r.rests))
      (rests_above price buys)

-- ---- the steps, one after the other

-- a step that does not prefer a to b, where b is equal, leaves it to the next; b is no larger
step_next : (a b : ℕ) (next : Bool) → smaller a b next ≡ false → a ≡ b → next ≡ false
step_next a b next e h = sym (pick_true (eqb a b) next (ltb a b) (eq-eqb a b h)) ∙ e

step_least : (a b : ℕ) (next : Bool) → smaller a b next ≡ false → b ≤ a
step_least a b next e = by_equal (eqb a b) refl e
  where
    by_equal : (same : Bool) → eqb a b ≡ same → pick same next (ltb a b) ≡ false → b ≤ a
    by_equal true k h = omega (arith, eqb-true a b k)
    by_equal false k h = ltb-false a b h

module _ (last : ℕ) (buys sells : List Order) where
  abbrev chosen : ℕ
  chosen = chosen_price last buys sells

  -- no resting price is better
  unbeaten : (price : ℕ) → one_of (resting_prices buys sells) price ≡ true → better last buys sells price chosen ≡ false
  unbeaten price h = not-true (better last buys sells price chosen) (one_passes (λ p. not (better last buys sells p chosen)) (resting_prices buys sells) price (chosen_unbeaten last buys sells) h)

  after_volume : (price : ℕ) → one_of (resting_prices buys sells) price ≡ true → volume buys sells price ≡ volume buys sells chosen
      → smaller (surplus buys sells price) (surplus buys sells chosen) (smaller (apart price last) (apart chosen last) (ltb chosen price)) ≡ false
  unfolding better
  after_volume price h v = step_next (volume buys sells chosen) (volume buys sells price) _ (unbeaten price h) (sym v)

  after_surplus : (price : ℕ) → one_of (resting_prices buys sells) price ≡ true → volume buys sells price ≡ volume buys sells chosen
      → surplus buys sells price ≡ surplus buys sells chosen → smaller (apart price last) (apart chosen last) (ltb chosen price) ≡ false
  after_surplus price h v s = step_next (surplus buys sells price) (surplus buys sells chosen) _ (after_volume price h v) s

  -- THE PRICE HAS THE LARGEST VOLUME OF ALL PRICES THERE ARE, and among the resting ones of that volume the ticket's steps choose it
  pub largest_volume : LargestVolume last buys sells
  largest_volume =
      record {
        largest = largest_of_all last buys sells;
        rests = chosen_rests last buys sells;
        least_surplus = λ price h v. step_least (surplus buys sells price) (surplus buys sells chosen) _ (after_volume price h v);
        nearest = λ price h v s. step_least (apart price last) (apart chosen last) _ (after_surplus price h v s);
        highest = λ price h v s a. ltb-false chosen price (step_next (apart price last) (apart chosen last) _ (after_surplus price h v s) a);
        any_order = chosen_of_any last buys sells;
      }
