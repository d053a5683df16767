-- An account's orders in a queue while others trade (`Fate`): where the queue is left as it is, where orders are taken out or one comes to
-- rest, in a sweep and in an auction's match; and where numbers are used once, order by order (`Kept` of specs/RestingOrders). Assumes nothing.
use Rattle.laws.specs.Logic.{Bool, true, false, not, ◌&&◌, ◌||◌, false≢true, List, [], ◌∷◌, ◌++◌, ◌⊎◌, ⊎_elim, inl, inr, ◌≡◌, refl, sym, ap, subst, ◌∙◌}
use Rattle.laws.specs.Numbers.{ℕ, zero, suc, ◌+◌, ◌-◌, ◌≤◌, min, arith, eqb-true, leb-true, ltb-true, ltb-false, eq-eqb, le-leb, not-true, eqb, ltb}
use Rattle.laws.specs.Choice.{pick, all_of, all_of_append, all_of_imp, both_false, both_true, true_both, true_either, either_true}
use Rattle.laws.specs.Sums.{sum_of, sum_of_append}
use Rattle.rules.specs.Auction.{Matched, less_first, match_at, paired, reaches, trade_at, unmatched}
use Rattle.rules.specs.Bounds.{on_tick}
use Rattle.rules.specs.Change.{lessened, unmarked}
use Rattle.rules.specs.Exchange.{lots_where, worse}
use Rattle.rules.specs.Fairness.{account_on, order_on}
use Rattle.rules.specs.Matching.{counterpart, meets, paired_price, remainder, rest_in, rest_lots, sweep, trade_price, trade_with, with_lots}
use Rattle.rules.specs.Step.{has_number, is_of}
use Rattle.rules.specs.Touches.{orders_of}
use Rattle.rules.specs.WellFormed.{number_of}
use Rattle.rules.specs.declared.{Order.Order, PairingMethod.PairingMethod, PriceCondition.PriceCondition, Taker.Taker, Trade.Trade}
use Rattle.rules.specs.declared.PairingMethod.TheVariants.{Middle, Average, FirstIn}
use Rattle.rules.specs.declared.PriceCondition.TheVariants.{Limit, Market, Best}
use Rattle.theory.proofs.AuctionTurns.{less_filled, less_part, match_ind}
use Rattle.theory.proofs.AuctionUncrossed.{has_lots}
use Rattle.theory.proofs.Prices.{RoundsTo, average_above, average_high, middle_high, middle_low}
use Rattle.theory.proofs.Sweep.{sweep_ind}
use Rattle.theory.proofs.Touches.{of_its, of_other}
use Rattle.invariants.proofs.Numbers.{uses}
use Rattle.invariants.proofs.OneOrder.{lots_none, none_has, uses_met, uses_unmet}
use Rattle.invariants.specs.RestingOrders.{Kept, at_its_limit, is_of_account, is_of_order, lots_traded_by, some_order, within_limit}

-- the second list is the first, in its order, but that orders may have fewer lots or be gone
abbrev pub Fewer : List Order → List Order → Type 0
Fewer [] after = after ≡ []
Fewer (o ∷ os) after = Fewer os after ⊎ ((lots : ℕ) × (ps : List Order) × (lots ≤ o.lots) × (after ≡ with_lots o lots ∷ ps) × Fewer os ps)

-- an account's orders in a queue before and after some trades: none is new, none has changed but to fewer lots, of each number the lots
-- before are the lots left and the lots traded, and each trade of the account was with one of them at its limit or better
pub record Fate (c : ℕ) (sell : Bool) (a : ℕ) (ts : List Trade) (before after : List Order) : Type 0 where
  pub fewer : Fewer (orders_of a before) (orders_of a after)
  pub lots : (number : ℕ) → lots_where (has_number number) (orders_of a before) ≡ lots_where (has_number number) (orders_of a after) + lots_traded_by c sell a number ts
  pub limits : all_of (at_its_limit c sell a (orders_of a before)) ts ≡ true

-- ---- fewer

pub fewer_refl : (q : List Order) → Fewer q q
fewer_refl [] = refl
fewer_refl (o ∷ os) = inr (o.lots, os, omega arith, refl, fewer_refl os)

pub fewer_more : (q r s : List Order) → Fewer q r → Fewer r s → Fewer q s
fewer_more [] r s f g = let h : Fewer [] s = rw f at g in h
fewer_more (o ∷ os) r s f g = ⊎_elim (λ h. inl (fewer_more os r s h g)) (λ h. two (λ q t. fewer_more os q t) h) f
  where
    two : ((q t : List Order) → Fewer os q → Fewer q t → Fewer os t) → ((lots : ℕ) × (ps : List Order) × (lots ≤ o.lots) × (r ≡ with_lots o lots ∷ ps) × Fewer os ps) → Fewer (o ∷ os) s
    two ih (k, ps, low, e, h) =
        let g' : Fewer (with_lots o k ∷ ps) s = subst (λ (l : List Order). Fewer l s) e g in
        ⊎_elim (λ i. inl (ih ps s h i))
        (λ i. inr (i.0, i.1, omega (arith, i.2, low), i.3, ih ps i.1 h i.4))
        g'

-- a test that does not go by the lots
abbrev pub LotsAside : (Order → Bool) → Type 0
LotsAside test = (o : Order) (lots : ℕ) → test (with_lots o lots) ≡ test o

pub fewer_all : (test : Order → Bool) → LotsAside test → (q r : List Order) → Fewer q r → all_of test q ≡ true → all_of test r ≡ true
unfolding all_of
fewer_all test same [] r f h = rw f refl
fewer_all test same (o ∷ os) r f h =
    let b = both_true (test o) (all_of test os) h in
    ⊎_elim (λ g. fewer_all test same os r g b.1)
    (λ g. rw g.3 (true_both (test (with_lots o g.0)) (all_of test g.1) (same o g.0 ∙ b.0) (fewer_all test same os g.1 g.4 b.1))) f

fewer_some : (test : Order → Bool) → LotsAside test → (q r : List Order) → Fewer q r → some_order test r ≡ true → some_order test q ≡ true
unfolding some_order
fewer_some test same [] r f h = rw f at h
fewer_some test same (o ∷ os) r f h =
    ⊎_elim (λ g. either_true (test o) (some_order test os) (fewer_some test same os r g h)) (λ g. by_first (λ ps i k. fewer_some test same os ps i k) g (test o) refl) f
  where
    by_first : ((ps : List Order) → Fewer os ps → some_order test ps ≡ true → some_order test os ≡ true) → (g : (lots : ℕ) × (ps : List Order) × (lots ≤ o.lots) × (r ≡ with_lots o lots ∷ ps) × Fewer os ps) →
        (b : Bool) → test o ≡ b → (test o || some_order test os) ≡ true
    by_first ih g true e = true_either (test o) (some_order test os) e
    by_first ih g false e =
        let k : (test (with_lots o g.0) || some_order test g.1) ≡ true = subst (λ (l : List Order). some_order test l ≡ true) g.3 h in
        either_true (test o) (some_order test os) (ih g.1 g.4 (rw (same o g.0, e) at k))

pub lots_cons : (n : ℕ) (o : Order) (os : List Order) → lots_where (has_number n) (o ∷ os) ≡ pick (has_number n o) o.lots 0 + lots_where (has_number n) os
unfolding lots_where sum_of
lots_cons n o os = refl

fewer_lots : (n : ℕ) (q r : List Order) → Fewer q r → lots_where (has_number n) r ≤ lots_where (has_number n) q
fewer_lots n [] r f = rw f (omega arith)
fewer_lots n (o ∷ os) r f =
    ⊎_elim (λ g. omega (arith, fewer_lots n os r g, lots_cons n o os))
    (λ g. rw g.3 (taken (has_number n o) refl g.0 g.1 g.2 (fewer_lots n os g.1 g.4))) f
  where
    taken : (b : Bool) → has_number n o ≡ b → (k : ℕ) (ps : List Order) → k ≤ o.lots → lots_where (has_number n) ps ≤ lots_where (has_number n) os →
        lots_where (has_number n) (with_lots o k ∷ ps) ≤ lots_where (has_number n) (o ∷ os)
    taken true e k ps low ih = rw (lots_cons n o os, lots_cons n (with_lots o k) ps, e) (omega arith)
    taken false e k ps low ih = rw (lots_cons n o os, lots_cons n (with_lots o k) ps, e) (omega arith)

-- ---- order by order, where each number is used once and each order left has a lot

module _ (traded : ℕ → ℕ) where
  pub kept_each : (q r : List Order) → ((n : ℕ) → uses number_of n q ≤ 1) → Fewer q r → all_of has_lots r ≡ true →
      ((n : ℕ) → 1 ≤ uses number_of n q → lots_where (has_number n) q ≡ lots_where (has_number n) r + traded n) → Kept traded q r
  unfolding all_of
  kept_each [] r once f some sums = f
  kept_each (o ∷ os) r once f some sums =
      ⊎_elim
      (λ g. inl (
        (let z = lots_none o.number os none in
            omega (arith, mine, z, fewer_lots o.number os r g)),
        kept_each os r later g some (λ n u. sym (past n u) ∙ sums n (omega (arith, more n u))),
      ))
      (λ g.
      let left : all_of has_lots (with_lots o g.0 ∷ g.1) ≡ true = subst (λ (l : List Order). all_of has_lots l ≡ true) g.3 some in
      let b = both_true (has_lots (with_lots o g.0)) (all_of has_lots g.1) left in
      inr (
        g.0,
        g.1,
        ltb-true 0 g.0 b.0,
        (let z = lots_none o.number os none in
            let m : o.lots + lots_where (has_number o.number) os ≡ lots_where (has_number o.number) (with_lots o g.0 ∷ g.1) + traded o.number = rw (← g.3) mine in
            omega (arith, m, z, fewer_lots o.number os g.1 g.4, front (with_lots o g.0) g.1 refl)),
        g.3,
        kept_each os g.1 later g.4 b.1
            (λ n u.
            let s : lots_where (has_number n) (o ∷ os) ≡ lots_where (has_number n) (with_lots o g.0 ∷ g.1) + traded n = rw (← g.3) (sums n (omega (arith, more n u))) in
            omega (arith, s, past n u, beyond n u g.0 g.1)),
      ))
      f
    where
      itself : has_number o.number o ≡ true
      itself = eq-eqb o.number o.number refl

      none : all_of (λ p. not (has_number o.number p)) os ≡ true
      none = none_has o.number os (omega (arith, uses_met o.number o os itself, once o.number))

      front : (p : Order) (ps : List Order) → p.number ≡ o.number → lots_where (has_number o.number) (p ∷ ps) ≡ p.lots + lots_where (has_number o.number) ps
      front p ps e = lots_cons o.number p ps ∙ rw (eq-eqb p.number o.number e) refl

      mine : o.lots + lots_where (has_number o.number) os ≡ lots_where (has_number o.number) r + traded o.number
      mine = sym (front o os refl) ∙ sums o.number (omega (arith, uses_met o.number o os itself))

      -- a number that is used behind it is not its own
      apart : (n : ℕ) → 1 ≤ uses number_of n os → has_number n o ≡ false
      apart n u = by_number (has_number n o) refl
        where
          by_number : (b : Bool) → has_number n o ≡ b → has_number n o ≡ false
          by_number true e = absurd (omega (arith, uses_met n o os e, once n, u))
          by_number false e = e

      more : (n : ℕ) → 1 ≤ uses number_of n os → uses number_of n (o ∷ os) ≡ uses number_of n os
      more n u = uses_unmet n o os (apart n u)

      past : (n : ℕ) → 1 ≤ uses number_of n os → lots_where (has_number n) (o ∷ os) ≡ lots_where (has_number n) os
      past n u = lots_cons n o os ∙ rw (apart n u) (omega arith)

      beyond : (n : ℕ) → 1 ≤ uses number_of n os → (k : ℕ) (ps : List Order) → lots_where (has_number n) (with_lots o k ∷ ps) ≡ lots_where (has_number n) ps
      beyond n u k ps = lots_cons n (with_lots o k) ps ∙ rw (apart n u) (omega arith)

      later : (n : ℕ) → uses number_of n os ≤ 1
      later n = by_number (has_number n o) refl
        where
          by_number : (b : Bool) → has_number n o ≡ b → uses number_of n os ≤ 1
          by_number true e = omega (arith, uses_met n o os e, once n)
          by_number false e = omega (arith, uses_unmet n o os e, once n)

-- ---- trades of an account

module _ (c : ℕ) (sell : Bool) (a : ℕ) where
  traded_cons : (n : ℕ) (t : Trade) (ts : List Trade) →
      lots_traded_by c sell a n (t ∷ ts) ≡ pick (is_of_order c sell a n t) t.lots 0 + lots_traded_by c sell a n ts
  unfolding lots_traded_by sum_of
  traded_cons n t ts = refl

  traded_append : (n : ℕ) (ts us : List Trade) → lots_traded_by c sell a n (ts ++ us) ≡ lots_traded_by c sell a n ts + lots_traded_by c sell a n us
  unfolding lots_traded_by
  traded_append n ts us = sum_of_append _ ts us

  -- none of the trades is the account's
  abbrev pub none_of : List Trade → Bool
  none_of ts = all_of (λ t. not (is_of_account c sell a t)) ts

  none_traded : (ts : List Trade) → none_of ts ≡ true → (n : ℕ) → lots_traded_by c sell a n ts ≡ 0
  unfolding all_of
  none_traded [] h n = unfold lots_traded_by sum_of in refl
  none_traded (t ∷ ts) h n =
      let b = both_true (not (is_of_account c sell a t)) (none_of ts) h in
      traded_cons n t ts ∙ rw (not-true (is_of_account c sell a t) b.0) (omega (arith, none_traded ts b.1 n))

  -- ---- fates

  pub fate_same : (ts : List Trade) (before after : List Order) → orders_of a after ≡ orders_of a before → none_of ts ≡ true → Fate c sell a ts before after
  fate_same ts before after e z =
      record {
        fewer = rw e (fewer_refl (orders_of a before));
        lots = λ n. rw e (omega (arith, none_traded ts z n));
        limits = all_of_imp (λ t. not (is_of_account c sell a t)) (at_its_limit c sell a (orders_of a before)) ts (λ t h. true_either (not (is_of_account c sell a t)) _ h) z;
      }

  pub fate_none : (before after : List Order) → orders_of a after ≡ orders_of a before → Fate c sell a [] before after
  fate_none before after e = fate_same [] before after e (unfold all_of in refl)

  pub fate_more : (ts us : List Trade) (q r s : List Order) → Fate c sell a ts q r → Fate c sell a us r s → Fate c sell a (ts ++ us) q s
  fate_more ts us q r s i j =
      record {
        fewer = fewer_more (orders_of a q) (orders_of a r) (orders_of a s) i.fewer j.fewer;
        lots = λ n. omega (arith, i.lots n, j.lots n, traded_append n ts us);
        limits =
            rw (all_of_append (at_its_limit c sell a (orders_of a q)) ts us)
            (true_both (all_of (at_its_limit c sell a (orders_of a q)) ts) (all_of (at_its_limit c sell a (orders_of a q)) us) i.limits
            (all_of_imp (at_its_limit c sell a (orders_of a r)) (at_its_limit c sell a (orders_of a q)) us earlier j.limits));
      }
    where
      earlier : (t : Trade) → at_its_limit c sell a (orders_of a r) t ≡ true → at_its_limit c sell a (orders_of a q) t ≡ true
      earlier t = by_account (is_of_account c sell a t)
        where
          by_account : (b : Bool) → (not b || some_order (within_limit sell t) (orders_of a r)) ≡ true →
              (not b || some_order (within_limit sell t) (orders_of a q)) ≡ true
          by_account true h = fewer_some (within_limit sell t) (λ o k. refl) (orders_of a q) (orders_of a r) i.fewer h
          by_account false h = refl

  -- ---- a trade with the first order of a queue, at its limit or better

  module _ (o : Order) (os : List Order) (t : Trade) (low : t.lots ≤ o.lots) (here : t.contract ≡ c) (its : account_on sell t ≡ o.account) (numbered : order_on sell t ≡ o.number)
      (limit : reaches sell t.price o ≡ true) where
    of_account : is_of_account c sell a t ≡ is_of a o
    of_account = rw (here, eq-eqb c c refl, its) refl

    of_order : (n : ℕ) → is_of a o ≡ true → is_of_order c sell a n t ≡ has_number n o
    of_order n b = rw (of_account, b) (ap (λ (k : ℕ). eqb k n) numbered)

    one_traded : (n : ℕ) → is_of a o ≡ true → lots_traded_by c sell a n (t ∷ []) ≡ pick (has_number n o) t.lots 0
    one_traded n b =
        traded_cons n t [] ∙ ap (λ (m : Bool). pick m t.lots 0 + lots_traded_by c sell a n []) (of_order n b) ∙ rw (none_traded [] (unfold all_of in refl) n) (omega arith)

    its_limit : within_limit sell t o ≡ true
    its_limit = true_both (has_number (order_on sell t) o) (reaches sell t.price o) (eq-eqb o.number (order_on sell t) (sym numbered)) limit

    met : (q : List Order) → all_of (at_its_limit c sell a (o ∷ q)) (t ∷ []) ≡ true
    unfolding all_of some_order
    met q =
        true_both (at_its_limit c sell a (o ∷ q) t) true
        (either_true (not (is_of_account c sell a t)) (some_order (within_limit sell t) (o ∷ q)) (true_either (within_limit sell t o) (some_order (within_limit sell t) q) its_limit)) refl

    pub first_fate : Fate c sell a (t ∷ []) (o ∷ os) (less_first t.lots o os)
    first_fate = by_account (is_of a o) refl (ltb t.lots o.lots) refl
      where
        by_account : (b : Bool) → is_of a o ≡ b → (s : Bool) → ltb t.lots o.lots ≡ s → Fate c sell a (t ∷ []) (o ∷ os) (less_first t.lots o os)
        by_account true b true s =
            rw (less_part t.lots o os (ltb-true t.lots o.lots s))
            record {
              fewer =
                  rw (of_its a o os b, of_its a (with_lots o (o.lots - t.lots)) os b)
                  (inr (o.lots - t.lots, orders_of a os, omega arith, refl, fewer_refl (orders_of a os)));
              lots = λ n. rw (of_its a o os b, of_its a (with_lots o (o.lots - t.lots)) os b, one_traded n b, lots_cons n o (orders_of a os), lots_cons n (with_lots o (o.lots - t.lots)) (orders_of a os)) (part n (has_number n o));
              limits = rw (of_its a o os b) (met (orders_of a os));
            }
          where
            part : (n : ℕ) (h : Bool) → pick h o.lots 0 + lots_where (has_number n) (orders_of a os) ≡ pick h (o.lots - t.lots) 0 + lots_where (has_number n) (orders_of a os) + pick h t.lots 0
            part n true = omega arith
            part n false = omega arith
        by_account true b false s =
            rw (less_filled t.lots o os (ltb-false t.lots o.lots s))
            record {
              fewer = rw (of_its a o os b) (inl (fewer_refl (orders_of a os)));
              lots = λ n. rw (of_its a o os b, one_traded n b, lots_cons n o (orders_of a os)) (full n (has_number n o));
              limits = rw (of_its a o os b) (met (orders_of a os));
            }
          where
            full : (n : ℕ) (h : Bool) → pick h o.lots 0 + lots_where (has_number n) (orders_of a os) ≡ lots_where (has_number n) (orders_of a os) + pick h t.lots 0
            full n true = omega (arith, ltb-false t.lots o.lots s)
            full n false = omega arith
        by_account false b s e =
            fate_same (t ∷ []) (o ∷ os) (less_first t.lots o os) (by_lots s e)
            (unfold all_of in true_both (not (is_of_account c sell a t)) true (rw (of_account, b) refl) refl)
          where
            by_lots : (s : Bool) → ltb t.lots o.lots ≡ s → orders_of a (less_first t.lots o os) ≡ orders_of a (o ∷ os)
            by_lots true e = rw (less_part t.lots o os (ltb-true t.lots o.lots e)) (of_other a (with_lots o (o.lots - t.lots)) os b ∙ sym (of_other a o os b))
            by_lots false e = rw (less_filled t.lots o os (ltb-false t.lots o.lots e)) (sym (of_other a o os b))

-- ---- an order of another account comes to rest, or has fewer lots

module _ (a : ℕ) where
  of_rest_in : (sell : Bool) (o : Order) (q : List Order) → is_of a o ≡ false → orders_of a (rest_in sell o q) ≡ orders_of a q
  unfolding rest_in
  of_rest_in sell o [] e = of_other a o [] e
  of_rest_in sell o (p ∷ ps) e = by_price (of_rest_in sell o ps e) (worse sell p.price o.price) (is_of a p) refl
    where
      by_price : orders_of a (rest_in sell o ps) ≡ orders_of a ps → (w b : Bool) → is_of a p ≡ b → orders_of a (pick w (o ∷ p ∷ ps) (p ∷ rest_in sell o ps)) ≡ orders_of a (p ∷ ps)
      by_price ih true b f = of_other a o (p ∷ ps) e
      by_price ih false true f = rw (of_its a p (rest_in sell o ps) f, of_its a p ps f, ih) refl
      by_price ih false false f = rw (of_other a p (rest_in sell o ps) f, of_other a p ps f) ih

  pub of_rest_lots : (t : Taker) (price lots : ℕ) (q : List Order) → eqb t.account a ≡ false → orders_of a (rest_lots t price lots q) ≡ orders_of a q
  unfolding rest_lots remainder
  of_rest_lots t price zero q e = refl
  of_rest_lots t price (suc n) q e = of_rest_in t.sell (remainder t price (suc n)) q e

  pub of_lessened : (number lots : ℕ) (q : List Order) → all_of (λ o. not (has_number number o && is_of a o)) q ≡ true → orders_of a (lessened number lots q) ≡ orders_of a q
  unfolding lessened all_of
  of_lessened number lots [] h = refl
  of_lessened number lots (o ∷ os) h = by_test (of_lessened number lots os p.1) (has_number number o) (is_of a o) refl refl p.0
    where
      p : (not (has_number number o && is_of a o) ≡ true) × (all_of (λ r. not (has_number number r && is_of a r)) os ≡ true)
      p = both_true (not (has_number number o && is_of a o)) (all_of (λ r. not (has_number number r && is_of a r)) os) h

      by_test : orders_of a (lessened number lots os) ≡ orders_of a os → (t b : Bool) → has_number number o ≡ t → is_of a o ≡ b → not (has_number number o && is_of a o) ≡ true →
          orders_of a (pick (has_number number o) (unmarked (with_lots o lots)) o ∷ lessened number lots os) ≡ orders_of a (o ∷ os)
      by_test ih true true e f k = absurd (false≢true (rw (e, f) at k))
      by_test ih true false e f k = rw (e, of_other a o os f, of_other a (unmarked (with_lots o lots)) (lessened number lots os) f) ih
      by_test ih false true e f k = rw (e, of_its a o os f, of_its a o (lessened number lots os) f, ih) refl
      by_test ih false false e f k = rw (e, of_other a o os f, of_other a o (lessened number lots os) f) ih

-- ---- a resting order trades at its limit or better, whatever the method: only its own price has to be on the tick

module _ (tick : ℕ) (some : 1 ≤ tick) where
  bought_low : (method : PairingMethod) (limit price last : ℕ) → RoundsTo tick method → on_tick tick price ≡ true → price ≤ limit → price ≤ paired_price method limit price last
  unfolding paired_price
  bought_low Middle limit price last r e h = omega (arith, middle_low limit price last)
  bought_low (Average its) limit price last r e h = rw r (average_above tick price limit price some e h (omega arith))
  bought_low FirstIn limit price last r e h = omega arith

  sold_high : (method : PairingMethod) (limit price last : ℕ) → limit ≤ price → paired_price method limit price last ≤ price
  unfolding paired_price
  sold_high Middle limit price last h = omega (arith, middle_high limit price last)
  sold_high (Average its) limit price last h = omega (arith, average_high its limit price)
  sold_high FirstIn limit price last h = omega arith

  at_limit : (method : PairingMethod) (condition : PriceCondition) (sell : Bool) (best last : ℕ) (o : Order) → RoundsTo tick method → on_tick tick o.price ≡ true →
      meets condition sell best o.price ≡ true → reaches (not sell) (trade_price method condition o.price last) o ≡ true
  unfolding meets trade_price
  at_limit method (Limit limit) true best last o r e h = le-leb _ o.price (sold_high method limit o.price last (leb-true limit o.price h))
  at_limit method (Limit limit) false best last o r e h = le-leb o.price _ (bought_low method limit o.price last r e (leb-true o.price limit h))
  at_limit method Market true best last o r e h = le-leb o.price o.price (omega arith)
  at_limit method Market false best last o r e h = le-leb o.price o.price (omega arith)
  at_limit method Best true best last o r e h = le-leb o.price o.price (omega arith)
  at_limit method Best false best last o r e h = le-leb o.price o.price (omega arith)

-- ---- a sweep

-- of two numbers, taken by a side and by the other
mine : (s : Bool) (m n : ℕ) → pick s (pick s m n) (pick s n m) ≡ m
mine true m n = refl
mine false m n = refl

theirs : (s : Bool) (m n : ℕ) → pick (not s) (pick s m n) (pick s n m) ≡ n
theirs true m n = refl
theirs false m n = refl

-- the taker's side of each trade is the taker's
swept_by : (t : Taker) (left last : ℕ) (os : List Order) → all_of (λ tr. eqb (account_on t.sell tr) t.account) (sweep t left last os).trades ≡ true
unfolding all_of
swept_by t =
    sweep_ind t (λ left last os s. all_of (λ tr. eqb (account_on t.sell tr) t.account) s.trades ≡ true) (λ left last os w. refl)
    (λ left last o os some met short. true_both (eqb (account_on t.sell (trade_with t o left last)) t.account) true (by_taker o left last) refl)
    (λ left last o os s some met enough ih. true_both (eqb (account_on t.sell (trade_with t o left last)) t.account) _ (by_taker o left last) ih)
  where
    by_taker : (o : Order) (left last : ℕ) → eqb (account_on t.sell (trade_with t o left last)) t.account ≡ true
    by_taker o left last = eq-eqb _ t.account (unfold trade_with in mine t.sell t.account o.account)

module _ (t : Taker) (a : ℕ) where
  -- where it is another account's, the trades are not this one's there
  pub swept_none : eqb t.account a ≡ false → (left last : ℕ) (os : List Order) → none_of t.contract t.sell a (sweep t left last os).trades ≡ true
  swept_none other left last os =
      all_of_imp (λ tr. eqb (account_on t.sell tr) t.account) (λ tr. not (is_of_account t.contract t.sell a tr)) (sweep t left last os).trades
      (λ tr h. rw (eqb-true (account_on t.sell tr) t.account h, other) (ap not (both_false (eqb tr.contract t.contract) false refl))) (swept_by t left last os)

  module _ (tick : ℕ) (some : 1 ≤ tick) (rounds : RoundsTo tick t.method) where
    abbrev Met : List Order → List Trade → List Order → Type 0
    Met os ts rest = all_of (λ o. on_tick tick o.price) os ≡ true → Fate t.contract (not t.sell) a ts os rest

    turn : (left last k : ℕ) (o : Order) (os : List Order) → k ≡ min left o.lots → counterpart t o ≡ true → on_tick tick o.price ≡ true →
        Fate t.contract (not t.sell) a (trade_with t o left last ∷ []) (o ∷ os) (less_first k o os)
    unfolding trade_with
    turn left last k o os e met on =
        rw e
        (first_fate t.contract (not t.sell) a o os (trade_with t o left last) (omega arith) refl (theirs t.sell t.account o.account) (theirs t.sell t.number o.number)
        (at_limit tick some t.method t.condition t.sell t.best last o rounds on met))

    pub sweep_fate : (left last : ℕ) (os : List Order) → Met os (sweep t left last os).trades (sweep t left last os).rest
    unfolding all_of
    sweep_fate =
        sweep_ind t (λ left last os s. Met os s.trades s.rest)
        (λ left last os w h. fate_none t.contract (not t.sell) a os os refl)
        (λ left last o os some met short h.
        let b = both_true (on_tick tick o.price) (all_of (λ p. on_tick tick p.price) os) h in
        rw (← less_part left o os short) (turn left last left o os (omega arith) met b.0))
        (λ left last o os s some met enough ih h.
        let b = both_true (on_tick tick o.price) (all_of (λ p. on_tick tick p.price) os) h in
        let f : Fate t.contract (not t.sell) a (trade_with t o left last ∷ []) (o ∷ os) os =
        subst (λ (l : List Order). Fate t.contract (not t.sell) a (trade_with t o left last ∷ []) (o ∷ os) l) (less_filled o.lots o os (omega arith)) (turn left last o.lots o os (omega arith) met b.0) in
        fate_more t.contract (not t.sell) a (trade_with t o left last ∷ []) s.trades (o ∷ os) os s.rest f (ih b.1))

-- ---- an auction's match

module _ (c price a : ℕ) where
  abbrev pub BothFates : List Order → List Order → Matched → Type 0
  BothFates bs ss m = Fate c false a m.trades bs m.buys × Fate c true a m.trades ss m.sells

  pub unmatched_fate : (bs ss : List Order) → BothFates bs ss (unmatched bs ss)
  unmatched_fate bs ss = (fate_none c false a bs bs refl, fate_none c true a ss ss refl)

  pub match_fate : (bs ss : List Order) → BothFates bs ss (match_at c price bs ss)
  unfolding trade_at
  match_fate =
      match_ind c price BothFates (λ bs ss w. unmatched_fate bs ss)
      (λ b bs s ss m f r ih.
      let k = paired b s in
      let t = trade_at c price k b s in (
        fate_more c false a (t ∷ []) m.trades (b ∷ bs) (less_first k b bs) m.buys (first_fate c false a b bs t (omega arith) refl refl refl f) ih.0,
        fate_more c true a (t ∷ []) m.trades (s ∷ ss) (less_first k s ss) m.sells (first_fate c true a s ss t (omega arith) refl refl refl r) ih.1,
      ))
