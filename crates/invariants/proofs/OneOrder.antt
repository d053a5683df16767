-- The order with a number in a contract's queues, where numbers are used once: it is found by its number, and nothing but it goes with it.
-- Assumes nothing.
use Rattle.laws.specs.Logic.{Bool, true, false, not, ◌&&◌, true≢false, false≢true, List, [], ◌∷◌, ◌++◌, ◌⊎◌, ⊎_elim, inl, inr, ◌≡◌, refl, sym, ap, ◌∙◌}
use Rattle.laws.specs.Numbers.{ℕ, zero, suc, ◌+◌, ◌≤◌, arith, eqb-true, eqb-false, eq-eqb, ne_eqb, not-true, not-false, eqb, get_or}
use Rattle.laws.specs.Choice.{pick, all_of, all_of_append, all_of_imp, both_true, true_both}
use Rattle.laws.specs.Sums.{sum_of, sum_of_append}
use Rattle.rules.specs.Answers.{no_such_order, numbered, of_another, resting_order}
use Rattle.rules.specs.Exchange.{Exchange, Listing, listing_at, lots_where, no_listing, own, place_of}
use Rattle.rules.specs.Step.{has_number, is_of, listing_without, without}
use Rattle.rules.specs.WellFormed.{all_numbers, number_of}
use Rattle.rules.specs.declared.Order.{Order}
use Rattle.theory.proofs.Queue.{lots_nil, lots_unmet, without_met, without_unmet}
use Rattle.invariants.proofs.Clauses.{WellFormed}
use Rattle.invariants.proofs.Numbers.{all_uses, once_count, uses, uses_in}
use Rattle.invariants.specs.RestingOrders.{OneGone}

at_most : (n : ℕ) (ls : List Listing) (c : ℕ) → uses_in number_of n (get_or ls c no_listing) ≤ sum_of (uses_in number_of n) ls
unfolding uses_in uses sum_of
at_most n [] c = omega arith
at_most n (l ∷ ls) zero = omega arith
at_most n (l ∷ ls) (suc c) = omega (arith, at_most n ls c)

-- in a well-formed state a contract's two queues have a number once at most
pub once_in : (x : Exchange) → WellFormed x → (c n : ℕ) → uses number_of n (listing_at x c).buys + uses number_of n (listing_at x c).sells ≤ 1
unfolding uses_in listing_at
once_in x k c n = omega (arith, at_most n x.listings c, all_uses number_of n x.listings, once_count (all_numbers x.listings) k.once n)

module _ (n : ℕ) where
  abbrev lacks : Order → Bool
  lacks o = not (has_number n o)

  pub uses_met : (o : Order) (os : List Order) → has_number n o ≡ true → uses number_of n (o ∷ os) ≡ 1 + uses number_of n os
  unfolding uses sum_of
  uses_met o os e = rw (eq-eqb n o.number (sym (eqb-true o.number n e))) refl

  pub uses_unmet : (o : Order) (os : List Order) → has_number n o ≡ false → uses number_of n (o ∷ os) ≡ uses number_of n os
  unfolding uses sum_of
  uses_unmet o os e = rw (ne_eqb n o.number (λ f. eqb-false o.number n e (sym f))) (omega arith)

  pub none_has : (q : List Order) → uses number_of n q ≡ 0 → all_of lacks q ≡ true
  unfolding all_of
  none_has [] u = refl
  none_has (o ∷ os) u = by_number (λ z. none_has os z) (has_number n o) refl
    where
      by_number : (uses number_of n os ≡ 0 → all_of lacks os ≡ true) → (b : Bool) → has_number n o ≡ b → all_of lacks (o ∷ os) ≡ true
      by_number ih true e = absurd (omega (arith, uses_met o os e, u))
      by_number ih false e = true_both (lacks o) (all_of lacks os) (rw e refl) (ih (sym (uses_unmet o os e) ∙ u))

  pub lots_none : (q : List Order) → all_of lacks q ≡ true → lots_where (has_number n) q ≡ 0
  unfolding all_of
  lots_none [] h = lots_nil (has_number n)
  lots_none (o ∷ os) h =
      let b = both_true (lacks o) (all_of lacks os) h in
      lots_unmet (has_number n) o os (not-true (has_number n o) b.0) ∙ lots_none os b.1

  pub without_none : (q : List Order) → all_of lacks q ≡ true → without (has_number n) q ≡ q
  unfolding all_of without
  without_none [] h = refl
  without_none (o ∷ os) h =
      let b = both_true (lacks o) (all_of lacks os) h in
      without_unmet (has_number n) o os (not-true (has_number n o) b.0) ∙ ap (λ (l : List Order). o ∷ l) (without_none os b.1)

  numbered_met : (o : Order) (os : List Order) → has_number n o ≡ true → numbered n (o ∷ os) ≡ o ∷ []
  unfolding numbered
  numbered_met o os e = rw e refl

  numbered_unmet : (o : Order) (os : List Order) → has_number n o ≡ false → numbered n (o ∷ os) ≡ numbered n os
  unfolding numbered
  numbered_unmet o os e = rw e refl

  -- it is in the queue, or it is not
  record Found (q : List Order) : Type 0 where
    front : List Order
    order : Order
    back : List Order
    was : q ≡ front ++ order ∷ back
    left : without (has_number n) q ≡ front ++ back
    itsnumber : order.number ≡ n
    finds : (ps : List Order) → numbered n (q ++ ps) ≡ order ∷ []
    alone : numbered n q ≡ order ∷ []
    used : 1 ≤ uses number_of n q

  record Lost (q : List Order) : Type 0 where
    all : all_of lacks q ≡ true
    passes : (ps : List Order) → numbered n (q ++ ps) ≡ numbered n ps
    none : numbered n q ≡ []

  seek : (q : List Order) → uses number_of n q ≤ 1 → Lost q ⊎ Found q
  unfolding all_of without numbered
  seek [] u = inl (record { all = refl; passes = λ ps. refl; none = refl })
  seek (o ∷ os) u = by_number (λ z. seek os z) (has_number n o) refl
    where
      by_number : (uses number_of n os ≤ 1 → Lost os ⊎ Found os) → (b : Bool) → has_number n o ≡ b → Lost (o ∷ os) ⊎ Found (o ∷ os)
      by_number ih true e =
          inr
          record {
            front = [];
            order = o;
            back = os;
            was = refl;
            left = without_met (has_number n) o os e ∙ without_none os (none_has os (omega (arith, uses_met o os e, u)));
            itsnumber = eqb-true o.number n e;
            finds = λ ps. numbered_met o (os ++ ps) e;
            alone = numbered_met o os e;
            used = omega (arith, uses_met o os e);
          }
      by_number ih false e = ⊎_elim (λ l. inl (lost l)) (λ f. inr (found f)) (ih (omega (arith, uses_unmet o os e, u)))
        where
          lost : Lost os → Lost (o ∷ os)
          lost l =
              record {
                all = true_both (lacks o) (all_of lacks os) (rw e refl) l.all;
                passes = λ ps. numbered_unmet o (os ++ ps) e ∙ l.passes ps;
                none = numbered_unmet o os e ∙ l.none;
              }

          found : Found os → Found (o ∷ os)
          found f =
              record {
                front = o ∷ f.front;
                order = f.order;
                back = f.back;
                was = ap (λ (l : List Order). o ∷ l) f.was;
                left = without_unmet (has_number n) o os e ∙ ap (λ (l : List Order). o ∷ l) f.left;
                itsnumber = f.itsnumber;
                finds = λ ps. numbered_unmet o (os ++ ps) e ∙ f.finds ps;
                alone = numbered_unmet o os e ∙ f.alone;
                used = omega (arith, uses_unmet o os e, f.used);
              }

  -- ---- of two queues that have it once at most, and where it is found as an account's own: it goes from one of them

  module _ (account : ℕ) where
    its : (o : Order) → of_another (place_of account) (o ∷ []) ≡ false → o.account ≡ place_of account
    unfolding of_another
    its o h = eqb-true o.account (place_of account) (not-false (eqb o.account (place_of account)) h)

    gone_from : (q : List Order) → (f : Found q) → of_another (place_of account) (f.order ∷ []) ≡ false → OneGone account n q (without (has_number n) q)
    gone_from q f h =
        record { front = f.front; order = f.order; back = f.back; was = f.was; left = f.left; itsnumber = f.itsnumber; itsaccount = its f.order h }

    pub one_goes : (l : Listing) → uses number_of n l.buys + uses number_of n l.sells ≤ 1 → no_such_order (resting_order l n) ≡ false → of_another (place_of account) (resting_order l n) ≡ false →
        (side : Bool) × OneGone account n (own side l) (own side (listing_without (has_number n) l)) × (own (not side) (listing_without (has_number n) l) ≡ own (not side) l)
    unfolding resting_order no_such_order
    one_goes l once there owned =
        ⊎_elim
        (λ b. ⊎_elim
        (λ s. absurd (true≢false (rw (b.passes l.sells, s.none) at there)))
        (λ s. (true, gone_from l.sells s (rw (b.passes l.sells, s.alone) at owned), without_none l.buys b.all))
        (seek l.sells (omega arith)))
        (λ b. (false, gone_from l.buys b (rw (b.finds l.sells) at owned), without_none l.sells (none_has l.sells (omega (arith, b.used, once)))))
        (seek l.buys (omega arith))

  -- ---- and so no order of another account has the number

  module _ (a k : ℕ) (other : eqb k a ≡ false) where
    abbrev spares : Order → Bool
    spares o = not (has_number n o && is_of a o)

    lacks_spares : (o : Order) → lacks o ≡ true → spares o ≡ true
    lacks_spares o = by_test (has_number n o) (is_of a o)
      where
        by_test : (t u : Bool) → not t ≡ true → not (t && u) ≡ true
        by_test true u e = absurd (false≢true e)
        by_test false u e = refl

    owned : (q : List Order) → uses number_of n q ≤ 1 → of_another k (numbered n q) ≡ false → all_of spares q ≡ true
    unfolding all_of of_another
    owned [] u h = refl
    owned (o ∷ os) u h = by_number (λ z e. owned os z e) (has_number n o) refl
      where
        by_number : (uses number_of n os ≤ 1 → of_another k (numbered n os) ≡ false → all_of spares os ≡ true) → (b : Bool) → has_number n o ≡ b → all_of spares (o ∷ os) ≡ true
        by_number ih true e =
            let h' : not (eqb o.account k) ≡ false = rw (numbered_met o os e) at h in
            let f : o.account ≡ k = eqb-true o.account k (not-false (eqb o.account k) h') in
            true_both (spares o) (all_of spares os) (rw (e, f, other) refl)
            (all_of_imp lacks spares os lacks_spares (none_has os (omega (arith, uses_met o os e, u))))
        by_number ih false e =
            true_both (spares o) (all_of spares os) (rw e refl) (ih (omega (arith, uses_unmet o os e, u)) (rw (numbered_unmet o os e) at h))

    pub owned_in : (l : Listing) → uses number_of n l.buys + uses number_of n l.sells ≤ 1 → of_another k (resting_order l n) ≡ false → (sell : Bool) → all_of spares (own sell l) ≡ true
    unfolding resting_order uses
    owned_in l once h = by_side
      where
        all : (all_of spares l.buys ≡ true) × (all_of spares l.sells ≡ true)
        all =
            both_true (all_of spares l.buys) (all_of spares l.sells)
            (rw (all_of_append spares l.buys l.sells) at (owned (l.buys ++ l.sells) (omega (arith, sum_of_append (λ o. pick (eqb n (number_of o)) 1 0) l.buys l.sells, once)) h))

        by_side : (sell : Bool) → all_of spares (own sell l) ≡ true
        by_side true = all.1
        by_side false = all.0
