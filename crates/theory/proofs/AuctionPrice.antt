-- The price of an auction: a resting price, and no resting price is better by the four steps, so none has a larger volume. There is
-- only one such price, so it does not matter in which order they are looked at. Assumes nothing.
use Rattle.laws.specs.Logic.{Bool, true, false, not, ◌||◌, false≢true, List, [], ◌∷◌, ◌⊎◌, inl, inr, ◌≡◌, refl, sym, subst, ap, ◌∙◌}
use Rattle.laws.specs.Numbers.{ℕ, ◌<◌, ◌≤◌, arith, eqb-true, eqb-false, ltb-true, ltb-false, eq-eqb, ne_eqb, le-leb, le-ltb, not-true, eqb, leb, ltb, length}
use Rattle.laws.specs.Choice.{pick, pick_true, pick_false, all_of, all_of_imp, both_true, true_both, either_true, true_either, by_test}
use Rattle.rules.specs.declared.Order.{Order}
use Rattle.rules.specs.Auction.{apart, best_from, best_of, better, chosen_price, resting_prices, smaller, surplus, volume}
use Rattle.rules.specs.AuctionFairness.{one_of}

-- ---- a price is one of a list

-- what every price of a list passes, one of them passes
pub one_passes : (test : ℕ → Bool) (ps : List ℕ) (p : ℕ) → all_of test ps ≡ true → one_of ps p ≡ true → test p ≡ true
unfolding one_of all_of
one_passes test [] p h e = absurd (false≢true e)
one_passes test (q ∷ qs) p h e = cases (eqb q p) refl (both_true (test q) (all_of test qs) h) (λ k m. one_passes test qs p k m)
  where
    cases : (same : Bool) → eqb q p ≡ same → (test q ≡ true) × (all_of test qs ≡ true)
        → (all_of test qs ≡ true → one_of qs p ≡ true → test p ≡ true) → test p ≡ true
    cases true k (f, g) ih = rw (← eqb-true q p k) f
    cases false k (f, g) ih = ih g (rw k at e)

pub one_some : (ps : List ℕ) (p : ℕ) → one_of ps p ≡ true → 0 < length ps
unfolding one_of
one_some [] p e = absurd (false≢true e)
one_some (q ∷ qs) p e = omega arith

one_first : (p : ℕ) (ps : List ℕ) → one_of (p ∷ ps) p ≡ true
unfolding one_of
one_first p ps = true_either (eqb p p) (one_of ps p) (eq-eqb p p refl)

-- and what each passes that is one of them, all pass
ones_pass : (test : ℕ → Bool) (ps : List ℕ) → ((p : ℕ) → one_of ps p ≡ true → test p ≡ true) → all_of test ps ≡ true
unfolding one_of all_of
ones_pass test [] f = refl
ones_pass test (q ∷ qs) f =
    true_both (test q) (all_of test qs) (f q (one_first q qs)) (ones_pass test qs (λ p e. f p (either_true (eqb q p) (one_of qs p) e)))

-- ---- one step

-- a step that does not prefer a to b: b is smaller, or they are equal and no later step does
abbrev NotPreferred : ℕ → ℕ → Bool → Type 0
NotPreferred a b next = (b < a) ⊎ ((a ≡ b) × (next ≡ false))

smaller_not : (a b : ℕ) (next : Bool) → smaller a b next ≡ false → NotPreferred a b next
smaller_not a b next e = cases (eqb a b) refl e
  where
    apart_lt : (a ≡ b → ⊥) → b ≤ a → b < a
    apart_lt d h = omega arith

    cases : (same : Bool) → eqb a b ≡ same → pick same next (ltb a b) ≡ false → NotPreferred a b next
    cases true k h = inr (eqb-true a b k, h)
    cases false k h = inl (apart_lt (eqb-false a b k) (ltb-false a b h))

not_smaller : (a b : ℕ) (next : Bool) → NotPreferred a b next → smaller a b next ≡ false
not_smaller a b next (inl h) = pick_false (eqb a b) next (ltb a b) (ne_eqb a b (λ (e : a ≡ b). omega arith)) ∙ le-ltb a b (omega arith)
not_smaller a b next (inr (e, n)) = pick_true (eqb a b) next (ltb a b) (eq-eqb a b e) ∙ n

-- where a step prefers a to b, it does not prefer b to a, unless a later step decides
smaller_asym : (a b : ℕ) (next back : Bool) → (next ≡ true → back ≡ false) → smaller a b next ≡ true → smaller b a back ≡ false
smaller_asym a b next back f e = cases (eqb a b) refl e
  where
    cases : (same : Bool) → eqb a b ≡ same → pick same next (ltb a b) ≡ true → smaller b a back ≡ false
    cases true k h = not_smaller b a back (inr (sym (eqb-true a b k), f h))
    cases false k h = not_smaller b a back (inl (ltb-true a b h))

smaller_trans : (a b c : ℕ) (ab bc ac : Bool) → (ab ≡ false → bc ≡ false → ac ≡ false)
    → smaller a b ab ≡ false → smaller b c bc ≡ false → smaller a c ac ≡ false
smaller_trans a b c ab bc ac f d e = not_smaller a c ac (cases (smaller_not a b ab d) (smaller_not b c bc e))
  where
    cases : NotPreferred a b ab → NotPreferred b c bc → NotPreferred a c ac
    cases (inl h) (inl k) = inl (omega arith)
    cases (inl h) (inr (k, n)) = inl (omega arith)
    cases (inr (h, m)) (inl k) = inl (omega arith)
    cases (inr (h, m)) (inr (k, n)) = inr (h ∙ k, f m n)

-- where a step prefers neither, the later ones decide
smaller_same : {A : Type 0} (a b : ℕ) (ab ba : Bool) → (ab ≡ false → ba ≡ false → A) → smaller a b ab ≡ false → smaller b a ba ≡ false → A
smaller_same {A} a b ab ba f d e = cases (smaller_not a b ab d) (smaller_not b a ba e)
  where
    cases : NotPreferred a b ab → NotPreferred b a ba → A
    cases (inl h) (inl k) = absurd (omega arith)
    cases (inl h) (inr (k, n)) = absurd (omega arith)
    cases (inr (h, m)) (inl k) = absurd (omega arith)
    cases (inr (h, m)) (inr (k, n)) = f m n

-- ---- the four steps

module _ (last : ℕ) (buys sells : List Order) where
  pub better_asym : (p q : ℕ) → better last buys sells p q ≡ true → better last buys sells q p ≡ false
  unfolding better
  better_asym p q =
      smaller_asym (volume buys sells q) (volume buys sells p) _ _
      (smaller_asym (surplus buys sells p) (surplus buys sells q) _ _
      (smaller_asym (apart p last) (apart q last) _ _ (λ h. le-ltb p q (omega (arith, ltb-true q p h)))))

  pub better_trans : (p q r : ℕ) → better last buys sells q p ≡ false → better last buys sells r q ≡ false → better last buys sells r p ≡ false
  unfolding better
  better_trans p q r h k =
      smaller_trans (volume buys sells p) (volume buys sells q) (volume buys sells r) _ _ _
      (λ h k. smaller_trans (surplus buys sells r) (surplus buys sells q) (surplus buys sells p) _ _ _
      (λ h k. smaller_trans (apart r last) (apart q last) (apart p last) _ _ _
      (λ h k. le-ltb p r (omega (arith, ltb-false p q k, ltb-false q r h))) h k) k h) h k

  pub better_volume : (p q : ℕ) → better last buys sells q p ≡ false → volume buys sells q ≤ volume buys sells p
  unfolding better
  better_volume p q e = cases (smaller_not (volume buys sells p) (volume buys sells q) _ e)
    where
      cases : {next : Bool} → NotPreferred (volume buys sells p) (volume buys sells q) next → volume buys sells q ≤ volume buys sells p
      cases (inl h) = omega arith
      cases (inr (h, n)) = omega arith

  -- two prices of which neither is better are the same
  pub better_same : (p q : ℕ) → better last buys sells p q ≡ false → better last buys sells q p ≡ false → p ≡ q
  unfolding better
  better_same p q h k =
      smaller_same (volume buys sells q) (volume buys sells p) _ _
      (λ h k. smaller_same (surplus buys sells p) (surplus buys sells q) _ _
      (λ h k. smaller_same (apart p last) (apart q last) _ _ (λ h k. omega (arith, ltb-false q p h, ltb-false p q k)) h k) h k) h k

-- ---- the best of a list

module _ (preferred : ℕ → ℕ → Bool) (asym : (p q : ℕ) → preferred p q ≡ true → preferred q p ≡ false)
    (trans : (p q r : ℕ) → preferred q p ≡ false → preferred r q ≡ false → preferred r p ≡ false) where
  best_from_lem : (first : ℕ) (ps : List ℕ)
      → (preferred first (best_from preferred first ps) ≡ false) × (all_of (λ p. not (preferred p (best_from preferred first ps))) ps ≡ true)
  unfolding best_from all_of
  best_from_lem first [] = (by_test (preferred first first) (λ e. asym first first e) (λ e. e), refl)
  best_from_lem first (p ∷ ps) = cases (preferred p first) refl (λ k. best_from_lem k ps)
    where
      IsBest : ℕ → Type 0
      IsBest k = (preferred first (best_from preferred k ps) ≡ false) × (all_of (λ p'. not (preferred p' (best_from preferred k ps))) (p ∷ ps) ≡ true)

      at_best : (k : ℕ) → pick (preferred p first) p first ≡ k → IsBest k → IsBest (pick (preferred p first) p first)
      at_best k e b = subst IsBest (sym e) b

      cases : (t : Bool) → preferred p first ≡ t
          → ((k : ℕ) → (preferred k (best_from preferred k ps) ≡ false) × (all_of (λ p. not (preferred p (best_from preferred k ps))) ps ≡ true))
          → (preferred first (best_from preferred (pick (preferred p first) p first) ps) ≡ false)
          × (all_of (λ p'. not (preferred p' (best_from preferred (pick (preferred p first) p first) ps))) (p ∷ ps) ≡ true)
      cases true e ih =
          let b = best_from preferred p ps in
          let i = ih p in
          at_best p (pick_true (preferred p first) p first e)
          (trans b p first i.0 (asym p first e), true_both (not (preferred p b)) (all_of (λ k. not (preferred k b)) ps) (ap not i.0) i.1)
      cases false e ih =
          let b = best_from preferred first ps in
          let i = ih first in
          at_best first (pick_false (preferred p first) p first e)
          (i.0, true_both (not (preferred p b)) (all_of (λ k. not (preferred k b)) ps) (ap not (trans b first p i.0 e)) i.1)

  -- none is preferred to it
  pub best_of_lem : (ps : List ℕ) → all_of (λ p. not (preferred p (best_of preferred ps))) ps ≡ true
  unfolding best_of all_of
  best_of_lem [] = refl
  best_of_lem (p ∷ ps) =
      let i = best_from_lem p ps in
      true_both (not (preferred p (best_from preferred p ps))) (all_of (λ k. not (preferred k (best_from preferred p ps))) ps) (ap not i.0) i.1

-- it is one of them
one_behind : (a b c : Bool) → (a || c) ≡ true → (a || (b || c)) ≡ true
one_behind true b c e = refl
one_behind false b c e = either_true b c e

best_from_one : (preferred : ℕ → ℕ → Bool) (first : ℕ) (ps : List ℕ) → one_of (first ∷ ps) (best_from preferred first ps) ≡ true
unfolding best_from one_of
best_from_one preferred first [] = true_either (eqb first first) false (eq-eqb first first refl)
best_from_one preferred first (p ∷ ps) = cases (preferred p first) refl (λ k. best_from_one preferred k ps)
  where
    cases : (t : Bool) → preferred p first ≡ t → ((k : ℕ) → one_of (k ∷ ps) (best_from preferred k ps) ≡ true)
        → one_of (first ∷ p ∷ ps) (best_from preferred (pick (preferred p first) p first) ps) ≡ true
    cases true e ih = rw (pick_true (preferred p first) p first e) (either_true (eqb first (best_from preferred p ps)) _ (ih p))
    cases false e ih =
        rw (pick_false (preferred p first) p first e)
        (one_behind (eqb first (best_from preferred first ps)) (eqb p (best_from preferred first ps)) (one_of ps (best_from preferred first ps)) (ih first))

pub best_of_one : (preferred : ℕ → ℕ → Bool) (ps : List ℕ) → 0 < length ps → one_of ps (best_of preferred ps) ≡ true
unfolding best_of
best_of_one preferred [] h = absurd (omega arith)
best_of_one preferred (p ∷ ps) h = best_from_one preferred p ps

-- ---- the only best one

module _ (preferred : ℕ → ℕ → Bool) (asym : (p q : ℕ) → preferred p q ≡ true → preferred q p ≡ false)
    (trans : (p q r : ℕ) → preferred q p ≡ false → preferred r q ≡ false → preferred r p ≡ false)
    (same : (p q : ℕ) → preferred p q ≡ false → preferred q p ≡ false → p ≡ q) where
  only_best : (ps : List ℕ) (p : ℕ) → one_of ps p ≡ true → all_of (λ q. not (preferred q p)) ps ≡ true → p ≡ best_of preferred ps
  only_best ps p here unbeaten =
      let b = best_of preferred ps in
      same p b
      (not-true (preferred p b) (one_passes (λ q. not (preferred q b)) ps p (best_of_lem preferred asym trans ps) here))
      (not-true (preferred b p) (one_passes (λ q. not (preferred q p)) ps b unbeaten (best_of_one preferred ps (one_some ps p here))))

  -- two lists of the same prices
  any_best : (ps qs : List ℕ) → ((p : ℕ) → one_of ps p ≡ one_of qs p) → best_of preferred ps ≡ best_of preferred qs
  any_best [] [] e = refl
  any_best [] (q ∷ qs) e = absurd (false≢true (unfold one_of in e q ∙ one_first q qs))
  any_best (p ∷ ps) qs e =
      let b = best_of preferred (p ∷ ps) in
      only_best qs b (sym (e b) ∙ best_of_one preferred (p ∷ ps) (omega arith))
      (ones_pass (λ q. not (preferred q b)) qs
      (λ q h. one_passes (λ q. not (preferred q b)) (p ∷ ps) q (best_of_lem preferred asym trans (p ∷ ps)) (e q ∙ h)))

-- ---- the chosen price

module _ (last : ℕ) (buys sells : List Order) where
  -- NO RESTING PRICE IS BETTER BY THE FOUR STEPS
  pub chosen_unbeaten : all_of (λ p. not (better last buys sells p (chosen_price last buys sells))) (resting_prices buys sells) ≡ true
  unfolding chosen_price
  chosen_unbeaten = best_of_lem (better last buys sells) (better_asym last buys sells) (better_trans last buys sells) (resting_prices buys sells)

  -- none has a larger volume
  pub chosen_largest : all_of (λ p. leb (volume buys sells p) (volume buys sells (chosen_price last buys sells))) (resting_prices buys sells) ≡ true
  chosen_largest =
      all_of_imp (λ p. not (better last buys sells p (chosen_price last buys sells))) (λ p. leb (volume buys sells p) (volume buys sells (chosen_price last buys sells))) (resting_prices buys sells)
      (λ p h. le-leb (volume buys sells p) (volume buys sells (chosen_price last buys sells)) (better_volume last buys sells (chosen_price last buys sells) p (not-true (better last buys sells p (chosen_price last buys sells)) h)))
      chosen_unbeaten

  pub chosen_rests : 0 < length (resting_prices buys sells) → one_of (resting_prices buys sells) (chosen_price last buys sells) ≡ true
  unfolding chosen_price
  chosen_rests h = best_of_one (better last buys sells) (resting_prices buys sells) h

  -- IT IS THE ONLY ONE: a resting price to which none is better
  pub chosen_only : (price : ℕ) → one_of (resting_prices buys sells) price ≡ true
      → all_of (λ p. not (better last buys sells p price)) (resting_prices buys sells) ≡ true → price ≡ chosen_price last buys sells
  unfolding chosen_price
  chosen_only price rests unbeaten =
      only_best (better last buys sells) (better_asym last buys sells) (better_trans last buys sells) (better_same last buys sells) (resting_prices buys sells) price rests unbeaten

  -- SO THE ORDER OF THE PRICES DOES NOT MATTER: the best of any list of the same prices is the chosen one
  pub chosen_of_any : (ps : List ℕ) → ((p : ℕ) → one_of ps p ≡ one_of (resting_prices buys sells) p) → best_of (better last buys sells) ps ≡ chosen_price last buys sells
  unfolding chosen_price
  chosen_of_any ps e =
      any_best (better last buys sells) (better_asym last buys sells) (better_trans last buys sells) (better_same last buys sells) ps (resting_prices buys sells) e
