-- Sorted queues: an order stands ahead of all behind it, so taking orders out keeps the order, and a later order goes in at its
-- place. Assumes nothing.
use Rattle.laws.specs.Logic.{Bool, true, false, ◌&&◌, ◌||◌, List, [], ◌∷◌, ⊎_elim, ◌≡◌, refl, sym}
use Rattle.laws.specs.Numbers.{ℕ, ◌+◌, ◌<◌, ◌≤◌, eq-or-lt_of_le, arith, eqb-true, ltb-true, ltb-false, eq-eqb, lt-ltb, eqb, ltb}
use Rattle.laws.specs.Choice.{pick, all_of, all_of_imp, both_true, true_both, true_either, either_true}
use Rattle.laws.specs.Sums.{sum_of}
use Rattle.rules.specs.Exchange.{worse}
use Rattle.rules.specs.Matching.{rest_in}
use Rattle.rules.specs.WellFormed.{ahead, ahead_of_first, sorted, uncrossed}
use Rattle.rules.specs.declared.Order.{Order}
use Rattle.theory.proofs.Sorted.{sorted_tail}

-- ---- ahead: at a better price, or at the same one with a lower time stamp

-- a price strictly better than another
abbrev pub Better : Bool → ℕ → ℕ → Type 0
Better true price other = price < other
Better false price other = other < price

pub data Ahead (sell : Bool) (o p : Order) : Type 0 where
  better : Better sell o.price p.price → Ahead sell o p
  earlier : o.price ≡ p.price → o.stamp < p.stamp → Ahead sell o p

pub worse_better : (sell : Bool) (price other : ℕ) → worse sell other price ≡ true → Better sell price other
worse_better true price other e = ltb-true price other e
worse_better false price other e = ltb-true other price e

pub better_worse : (sell : Bool) (price other : ℕ) → Better sell price other → worse sell other price ≡ true
better_worse true price other h = lt-ltb price other h
better_worse false price other h = lt-ltb other price h

pub ahead_is : (sell : Bool) (o p : Order) → ahead sell o p ≡ true → Ahead sell o p
unfolding ahead
ahead_is sell o p e = by_price (worse sell p.price o.price) refl e
  where
    by_price : (b : Bool) → worse sell p.price o.price ≡ b → (b || eqb o.price p.price && ltb o.stamp p.stamp) ≡ true → Ahead sell o p
    by_price true w h = better (worse_better sell o.price p.price w)
    by_price false w h =
        let q = both_true (eqb o.price p.price) (ltb o.stamp p.stamp) h in
        earlier (eqb-true o.price p.price q.0) (ltb-true o.stamp p.stamp q.1)

pub is_ahead : (sell : Bool) (o p : Order) → Ahead sell o p → ahead sell o p ≡ true
unfolding ahead
is_ahead sell o p (better h) = true_either (worse sell p.price o.price) _ (better_worse sell o.price p.price h)
is_ahead sell o p (earlier e l) =
    either_true (worse sell p.price o.price) (eqb o.price p.price && ltb o.stamp p.stamp)
    (true_both (eqb o.price p.price) (ltb o.stamp p.stamp) (eq-eqb o.price p.price e) (lt-ltb o.stamp p.stamp l))

better_trans : (sell : Bool) (a b c : ℕ) → Better sell a b → Better sell b c → Better sell a c
better_trans true a b c h k = omega arith
better_trans false a b c h k = omega arith

pub ahead_trans : (sell : Bool) (o p q : Order) → Ahead sell o p → Ahead sell p q → Ahead sell o q
ahead_trans sell o p q (better h) (better k) = better (better_trans sell o.price p.price q.price h k)
ahead_trans sell o p q (better h) (earlier e l) = better (rw e at h)
ahead_trans sell o p q (earlier e l) (better k) = better (rw e k)
ahead_trans sell o p q (earlier e l) (earlier f m) = earlier (omega arith) (omega arith)

-- ---- a sorted queue's first order is ahead of all others

pub sorted_ahead : (sell : Bool) (o : Order) (os : List Order) → sorted sell (o ∷ os) ≡ true → all_of (ahead sell o) os ≡ true
unfolding sorted ahead_of_first all_of
sorted_ahead sell o [] h = refl
sorted_ahead sell o (p ∷ ps) h =
    let q = both_true (ahead sell o p) (sorted sell (p ∷ ps)) h in
    true_both (ahead sell o p) (all_of (ahead sell o) ps) q.0
    (all_of_imp (ahead sell p) (ahead sell o) ps
    (λ r e. is_ahead sell o r (ahead_trans sell o p r (ahead_is sell o p q.0) (ahead_is sell p r e))) (sorted_ahead sell p ps q.1))

pub ahead_sorted : (sell : Bool) (o : Order) (os : List Order) → all_of (ahead sell o) os ≡ true → sorted sell os ≡ true → sorted sell (o ∷ os) ≡ true
unfolding sorted ahead_of_first all_of
ahead_sorted sell o [] h s = refl
ahead_sorted sell o (p ∷ ps) h s = true_both (ahead sell o p) (sorted sell (p ∷ ps)) (both_true (ahead sell o p) (all_of (ahead sell o) ps) h).0 s

-- ---- an order that comes to rest

pub rest_in_all : (test : Order → Bool) (sell : Bool) (o : Order) (os : List Order) → test o ≡ true → all_of test os ≡ true →
    all_of test (rest_in sell o os) ≡ true
unfolding rest_in all_of
rest_in_all test sell o [] e h = true_both (test o) true e refl
rest_in_all test sell o (p ∷ ps) e h = by_price (worse sell p.price o.price) (rest_in_all test sell o ps e q.1)
  where
    q : (test p ≡ true) × (all_of test ps ≡ true)
    q = both_true (test p) (all_of test ps) h

    by_price : (b : Bool) → all_of test (rest_in sell o ps) ≡ true → all_of test (pick b (o ∷ p ∷ ps) (p ∷ rest_in sell o ps)) ≡ true
    by_price true ih = true_both (test o) (test p && all_of test ps) e h
    by_price false ih = true_both (test p) (all_of test (rest_in sell o ps)) q.0 ih

-- an order at a price that is no worse, with a lower time stamp, is ahead
not_worse : (sell : Bool) (p o : Order) → worse sell p.price o.price ≡ false → p.stamp < o.stamp → Ahead sell p o
not_worse true p o e l =
    ⊎_elim (λ (q : p.price ≡ o.price). earlier q l) (λ (h : p.price < o.price). better h) (eq-or-lt_of_le (ltb-false o.price p.price e))
not_worse false p o e l =
    ⊎_elim (λ (q : o.price ≡ p.price). earlier (sym q) l) (λ (h : o.price < p.price). better h)
    (eq-or-lt_of_le (ltb-false p.price o.price e))

pub rest_in_sorted :
    (sell : Bool) (o : Order) (os : List Order) → sorted sell os ≡ true → all_of (λ p. ltb p.stamp o.stamp) os ≡ true → sorted sell
    (rest_in sell o os) ≡ true
unfolding rest_in
rest_in_sorted sell o [] s n = unfold sorted ahead_of_first in refl
rest_in_sorted sell o (p ∷ ps) s n = by_price (worse sell p.price o.price) refl (rest_in_sorted sell o ps (sorted_tail sell p ps s) q.1)
  where
    q : (ltb p.stamp o.stamp ≡ true) × (all_of (λ r. ltb r.stamp o.stamp) ps ≡ true)
    q = both_true (ltb p.stamp o.stamp) (all_of (λ r. ltb r.stamp o.stamp) ps) (unfold all_of in n)

    front : Ahead sell o p → sorted sell (o ∷ p ∷ ps) ≡ true
    front h = unfold sorted ahead_of_first in true_both (ahead sell o p) (sorted sell (p ∷ ps)) (is_ahead sell o p h) s

    by_price : (b : Bool) → worse sell p.price o.price ≡ b → sorted sell (rest_in sell o ps) ≡ true →
        sorted sell (pick b (o ∷ p ∷ ps) (p ∷ rest_in sell o ps)) ≡ true
    by_price true w ih = front (better (worse_better sell o.price p.price w))
    by_price false w ih =
        ahead_sorted sell p (rest_in sell o ps)
        (rest_in_all (ahead sell p) sell o ps (is_ahead sell p o (not_worse sell p o w (ltb-true p.stamp o.stamp q.0)))
        (sorted_ahead sell p ps s)) ih

pub rest_in_sum : (f : Order → ℕ) (sell : Bool) (o : Order) (os : List Order) → sum_of f (rest_in sell o os) ≡ f o + sum_of f os
unfolding rest_in sum_of
rest_in_sum f sell o [] = refl
rest_in_sum f sell o (p ∷ ps) = by_price (worse sell p.price o.price) (rest_in_sum f sell o ps)
  where
    by_price : (b : Bool) → sum_of f (rest_in sell o ps) ≡ f o + sum_of f ps → sum_of f (pick b (o ∷ p ∷ ps) (p ∷ rest_in sell o ps)) ≡ f o + (f p + sum_of f ps)
    by_price true ih = refl
    by_price false ih = omega arith

-- ---- uncrossed, as a fact of every buy and every sell

abbrev pub below : Order → Order → Bool
below b s = ltb b.price s.price

unfoldable pub apart : List Order → List Order → Bool
apart buys sells = all_of (λ b. all_of (below b) sells) buys

-- what is ahead on a side has the higher price among buys, the lower among sells
ahead_price : (sell : Bool) (o p : Order) → Ahead sell o p → pick sell o.price p.price ≤ pick sell p.price o.price
ahead_price true o p (better h) = omega arith
ahead_price true o p (earlier e l) = omega arith
ahead_price false o p (better h) = omega arith
ahead_price false o p (earlier e l) = omega arith

above_all : (price : ℕ) (s : Order) (ss : List Order) → price < s.price → sorted true (s ∷ ss) ≡ true →
    all_of (λ r. ltb price r.price) (s ∷ ss) ≡ true
unfolding all_of
above_all price s ss l h =
    true_both (ltb price s.price) (all_of (λ r. ltb price r.price) ss) (lt-ltb price s.price l)
    (all_of_imp (ahead true s) (λ r. ltb price r.price) ss
    (λ r e. lt-ltb price r.price (omega (arith, ahead_price true s r (ahead_is true s r e)))) (sorted_ahead true s ss h))

none_above : (buys : List Order) → all_of (λ b. all_of (below b) []) buys ≡ true
unfolding all_of
none_above [] = refl
none_above (b ∷ bs) = none_above bs

pub uncrossed_apart : (buys sells : List Order) → sorted false buys ≡ true → sorted true sells ≡ true → uncrossed buys sells ≡ true →
    apart buys sells ≡ true
unfolding apart uncrossed
uncrossed_apart [] sells p q h = unfold all_of in refl
uncrossed_apart (b ∷ bs) [] p q h = none_above (b ∷ bs)
uncrossed_apart (b ∷ bs) (s ∷ ss) p q h = unfold all_of in
    true_both (all_of (below b) (s ∷ ss)) (all_of (λ r. all_of (below r) (s ∷ ss)) bs)
    (above_all b.price s ss (ltb-true b.price s.price h) q)
    (all_of_imp (ahead false b) (λ r. all_of (below r) (s ∷ ss)) bs
    (λ r e. above_all r.price s ss (omega (arith, ltb-true b.price s.price h, ahead_price false b r (ahead_is false b r e))) q)
    (sorted_ahead false b bs p))

pub apart_uncrossed : (buys sells : List Order) → apart buys sells ≡ true → uncrossed buys sells ≡ true
unfolding apart uncrossed all_of
apart_uncrossed [] sells h = refl
apart_uncrossed (b ∷ bs) [] h = refl
apart_uncrossed (b ∷ bs) (s ∷ ss) h =
    (both_true (below b s) (all_of (below b) ss) (both_true (below b s && all_of (below b) ss) (all_of (λ r. all_of (below r) (s ∷ ss)) bs) h).0).0
