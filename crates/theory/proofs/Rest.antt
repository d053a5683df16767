-- What a sweep leaves: the opposite queue stays sorted and keeps its orders but for lots, and a remainder that rests does not cross
-- it. Assumes nothing.
use Rattle.laws.specs.Logic.{Bool, true, false, not, List, [], ◌∷◌, ◌⊎◌, ⊎_elim, inl, inr, ◌≡◌, refl, sym, ◌∙◌}
use Rattle.laws.specs.Numbers.{ℕ, zero, suc, ◌-◌, ◌<◌, ◌≤◌, arith, leb-false, ltb-true, lt-ltb, length}
use Rattle.laws.specs.Choice.{pick, all_of, both_true, true_both}
use Rattle.laws.specs.Sums.{sum_of, sum_of_cons}
use Rattle.rules.specs.Exchange.{worse}
use Rattle.rules.specs.Matching.{meets, trade_with, with_lots, sweep, traded_lots, rest_in, remainder, rest_lots, rested_lots, enter}
use Rattle.rules.specs.WellFormed.{ahead, ahead_of_first, sorted, uncrossed}
use Rattle.rules.specs.declared.{Order.Order, Taker.Taker}
use Rattle.rules.specs.declared.PriceCondition.TheVariants.{Limit}
use Rattle.theory.proofs.Fillable.{traded_nil, traded_cons}
use Rattle.theory.proofs.Sorted.{Behind, AllBehind, behind_refl, sorted_tail, sorted_behind}
use Rattle.theory.proofs.Sweep.{Unmet, trade_lots, sweep_end, sweep_ind}

-- ---- why it stopped

-- all lots are traded, or the first order left, if there is one, is no counterpart
pub sweep_stops : (t : Taker) (left last : ℕ) (os : List Order)
    → (traded_lots (sweep t left last os).trades ≡ left) ⊎ Unmet t (sweep t left last os).rest
sweep_stops t =
    sweep_ind t (λ left last os s. (traded_lots s.trades ≡ left) ⊎ Unmet t s.rest)
    (λ left last os w. ⊎_elim (λ e. inl (traded_nil ∙ sym e)) (λ u. inr u) w)
    (λ left last o os some met short. inl (omega (arith, traded_cons (trade_with t o left last) [], traded_nil, trade_lots t o left last)))
    (λ left last o os s some met enough ih.
    ⊎_elim (λ (e : traded_lots s.trades ≡ left - o.lots). inl (omega (arith, traded_cons (trade_with t o left last) s.trades, trade_lots t o left last))) (λ u. inr u) ih)

-- ---- the orders left

-- lots play no part in the order of a queue
pub sorted_lots : (sell : Bool) (o : Order) (lots : ℕ) (os : List Order) → sorted sell (with_lots o lots ∷ os) ≡ sorted sell (o ∷ os)
unfolding sorted ahead_of_first ahead
sorted_lots sell o lots [] = refl
sorted_lots sell o lots (p ∷ ps) = refl

pub rest_sorted : (sell : Bool) (t : Taker) (left last : ℕ) (os : List Order) → sorted sell os ≡ true
    → sorted sell (sweep t left last os).rest ≡ true
rest_sorted sell t =
    sweep_ind t (λ left last os s. sorted sell os ≡ true → sorted sell s.rest ≡ true)
    (λ left last os w h. h)
    (λ left last o os some met short h. sorted_lots sell o (o.lots - left) os ∙ h)
    (λ left last o os s some met enough ih h. ih (sorted_tail sell o os h))

pub rest_behind : (sell : Bool) (t : Taker) (left last : ℕ) (os : List Order) (price : ℕ) → AllBehind sell price os
    → AllBehind sell price (sweep t left last os).rest
rest_behind sell t =
    sweep_ind t (λ left last os s. (price : ℕ) → AllBehind sell price os → AllBehind sell price s.rest)
    (λ left last os w price h. h)
    (λ left last o os some met short price h. h)
    (λ left last o os s some met enough ih price h. ih price h.1)

-- a test that an order with fewer lots passes too
pub rest_all : (test : Order → Bool) → ((o : Order) (lots : ℕ) → 1 ≤ lots → lots ≤ o.lots → test o ≡ true → test (with_lots o lots) ≡ true)
    → (t : Taker) (left last : ℕ) (os : List Order) → all_of test os ≡ true → all_of test (sweep t left last os).rest ≡ true
unfolding all_of
rest_all test fewer t =
    sweep_ind t (λ left last os s. all_of test os ≡ true → all_of test s.rest ≡ true)
    (λ left last os w h. h)
    (λ left last o os some met short h.
    let b = both_true (test o) (all_of test os) h in
    true_both (test (with_lots o (o.lots - left))) (all_of test os) (fewer o (o.lots - left) (omega arith) (omega arith) b.0) b.1)
    (λ left last o os s some met enough ih h. ih (both_true (test o) (all_of test os) h).1)

-- a measure that fewer lots do not raise
pub rest_sum : (f : Order → ℕ) → ((o : Order) (lots : ℕ) → 1 ≤ lots → lots ≤ o.lots → f (with_lots o lots) ≤ f o)
    → (t : Taker) (left last : ℕ) (os : List Order) → sum_of f (sweep t left last os).rest ≤ sum_of f os
rest_sum f fewer t =
    sweep_ind t (λ left last os s. sum_of f s.rest ≤ sum_of f os)
    (λ left last os w. omega arith)
    (λ left last o os some met short.
    omega (arith, sum_of_cons f (with_lots o (o.lots - left)) os, sum_of_cons f o os, fewer o (o.lots - left) (omega arith) (omega arith)))
    (λ left last o os s some met enough ih. omega (arith, sum_of_cons f o os))

pub length_rest : (t : Taker) (left last : ℕ) (os : List Order) → length (sweep t left last os).rest ≤ length os
length_rest t =
    sweep_ind t (λ left last os s. length s.rest ≤ length os) (λ left last os w. omega arith) (λ left last o os some met short. omega arith)
    (λ left last o os s some met enough ih. omega arith)

-- ---- a remainder that rests

-- the price of one's own order stands clear of an opposite one
abbrev pub Clear : Bool → ℕ → ℕ → Type 0
Clear true price other = other < price
Clear false price other = price < other

clear_behind : (sell : Bool) (price other further : ℕ) → Clear sell price other → Behind (not sell) further other → Clear sell price further
clear_behind true price other further h k = omega arith
clear_behind false price other further h k = omega arith

unmet_clear : (sell : Bool) (limit best price : ℕ) → meets (Limit limit) sell best price ≡ false → Clear sell limit price
unfolding meets
unmet_clear true limit best price e = leb-false limit price e
unmet_clear false limit best price e = leb-false price limit e

-- a side's own queue and the opposite one, uncrossed
abbrev pub uncrossed_from : Bool → List Order → List Order → Bool
uncrossed_from sell own opposite = uncrossed (pick sell opposite own) (pick sell own opposite)

-- the first orders alone count
firsts_clear : (sell : Bool) (o : Order) (os : List Order) (p : Order) (ps : List Order) → uncrossed_from sell (o ∷ os) (p ∷ ps) ≡ true
    → Clear sell o.price p.price
unfolding uncrossed
firsts_clear true o os p ps h = ltb-true p.price o.price h
firsts_clear false o os p ps h = ltb-true o.price p.price h

clear_firsts : (sell : Bool) (o : Order) (os : List Order) (p : Order) (ps : List Order) → Clear sell o.price p.price
    → uncrossed_from sell (o ∷ os) (p ∷ ps) ≡ true
unfolding uncrossed
clear_firsts true o os p ps h = lt-ltb p.price o.price h
clear_firsts false o os p ps h = lt-ltb o.price p.price h

none_own : (sell : Bool) (ps : List Order) → uncrossed_from sell [] ps ≡ true
unfolding uncrossed
none_own true [] = refl
none_own true (p ∷ ps) = refl
none_own false ps = refl

none_opposite : (sell : Bool) (os : List Order) → uncrossed_from sell os [] ≡ true
unfolding uncrossed
none_opposite true os = refl
none_opposite false [] = refl
none_opposite false (o ∷ os) = refl

-- a price stands clear of the first of these orders, if there is one
abbrev pub ClearOf : Bool → ℕ → List Order → Type 0
ClearOf sell price [] = Unit {0}
ClearOf sell price (p ∷ ps) = Clear sell price p.price

-- orders further from one's own than the first opposite one
further_uncrossed : (sell : Bool) (os : List Order) (p : Order) (ps rs : List Order) → uncrossed_from sell os (p ∷ ps) ≡ true
    → AllBehind (not sell) p.price rs → uncrossed_from sell os rs ≡ true
further_uncrossed sell [] p ps rs h b = none_own sell rs
further_uncrossed sell (o ∷ os) p ps [] h b = none_opposite sell (o ∷ os)
further_uncrossed sell (o ∷ os) p ps (r ∷ rs) h b =
    clear_firsts sell o os r rs (clear_behind sell o.price p.price r.price (firsts_clear sell o os p ps h) b.0)

-- an order that comes to rest, clear of the opposite queue
pub rest_in_uncrossed : (sell : Bool) (o : Order) (os rs : List Order) → uncrossed_from sell os rs ≡ true → ClearOf sell o.price rs
    → uncrossed_from sell (rest_in sell o os) rs ≡ true
unfolding rest_in
rest_in_uncrossed sell o os [] h c = none_opposite sell (rest_in sell o os)
rest_in_uncrossed sell o [] (r ∷ rs) h c = clear_firsts sell o [] r rs c
rest_in_uncrossed sell o (p ∷ ps) (r ∷ rs) h c = by_price (worse sell p.price o.price)
  where
    by_price : (b : Bool) → uncrossed_from sell (pick b (o ∷ p ∷ ps) (p ∷ rest_in sell o ps)) (r ∷ rs) ≡ true
    by_price true = clear_firsts sell o (p ∷ ps) r rs c
    by_price false = clear_firsts sell p (rest_in sell o ps) r rs (firsts_clear sell p ps r rs h)

module _ (t : Taker) (left last : ℕ) (own opposite : List Order) (before : uncrossed_from t.sell own opposite ≡ true) (order : sorted (not t.sell) opposite ≡ true) where
  pub rest_uncrossed : uncrossed_from t.sell own (sweep t left last opposite).rest ≡ true
  rest_uncrossed = by_opposite opposite before order
    where
      by_opposite : (opposite : List Order) → uncrossed_from t.sell own opposite ≡ true → sorted (not t.sell) opposite ≡ true
          → uncrossed_from t.sell own (sweep t left last opposite).rest ≡ true
      by_opposite [] h s = rw (sweep_end t left last) h
      by_opposite (p ∷ ps) h s =
          further_uncrossed t.sell own p ps (sweep t left last (p ∷ ps)).rest h
          (rest_behind (not t.sell) t left last (p ∷ ps) p.price (behind_refl (not t.sell) p.price, sorted_behind (not t.sell) p ps s))

  -- lots are left over: their limit stands clear of the orders left
  pub remainder_clear : (limit : ℕ) → t.condition ≡ Limit limit → traded_lots (sweep t left last opposite).trades < left
      → ClearOf t.sell limit (sweep t left last opposite).rest
  remainder_clear limit e some = by_rest (sweep t left last opposite).rest (⊎_elim (λ k. absurd (less k)) (λ u. u) (sweep_stops t left last opposite))
    where
      less : traded_lots (sweep t left last opposite).trades ≡ left → ⊥
      less k = omega arith

      by_rest : (rs : List Order) → Unmet t rs → ClearOf t.sell limit rs
      by_rest [] u = tt
      by_rest (r ∷ rs) u = unmet_clear t.sell limit t.best r.price (rw e at u)

-- nothing comes to rest, or something does
rest_none : (t : Taker) (price : ℕ) (own : List Order) → rest_lots t price 0 own ≡ own
unfolding rest_lots
rest_none t price own = refl

rest_some : (t : Taker) (price n : ℕ) (own : List Order) → rest_lots t price (suc n) own ≡ rest_in t.sell (remainder t price (suc n)) own
unfolding rest_lots
rest_some t price n own = refl

remainder_price : (t : Taker) (price lots : ℕ) → (remainder t price lots).price ≡ price
unfolding remainder
remainder_price t price lots = refl

-- "the two are uncrossed", after an order that is entered as before it
pub entered_uncrossed : (t : Taker) (lots price : ℕ) (goodForDay : Bool) (last : ℕ) (own opposite : List Order)
    → (goodForDay ≡ true → t.condition ≡ Limit price) → sorted (not t.sell) opposite ≡ true → uncrossed_from t.sell own opposite ≡ true
    → uncrossed_from t.sell (enter t lots price goodForDay last own opposite).own (enter t lots price goodForDay last own opposite).opposite ≡ true
unfolding enter rested_lots
entered_uncrossed t lots price goodForDay last own opposite limit order before = by_remainder goodForDay limit (lots - traded_lots (sweep t lots last opposite).trades) refl
  where
    same : uncrossed_from t.sell own (sweep t lots last opposite).rest ≡ true
    same = rest_uncrossed t lots last own opposite before order

    by_remainder : (good : Bool) → (good ≡ true → t.condition ≡ Limit price) → (n : ℕ) → lots - traded_lots (sweep t lots last opposite).trades ≡ n
        → uncrossed_from t.sell (rest_lots t price (pick good n 0) own) (sweep t lots last opposite).rest ≡ true
    by_remainder false l n e = rw (rest_none t price own) same
    by_remainder true l zero e = rw (rest_none t price own) same
    by_remainder true l (suc n) e =
        rw (rest_some t price n own)
        (rest_in_uncrossed t.sell (remainder t price (suc n)) own (sweep t lots last opposite).rest same
        (rw (remainder_price t price (suc n)) (remainder_clear t lots last own opposite before order price (l refl) (omega arith))))
