-- Lots taken from the front of a sorted queue: what stays is sorted, and as far as its first order's price reaches, the lots
-- taken are lots that were counted there. One law for both sides. Assumes nothing.
use Rattle.laws.specs.Logic.{Bool, true, false, List, [], ◌∷◌, ◌++◌, append_assoc, ◌≡◌, refl, sym, ap, ◌∙◌}
use Rattle.laws.specs.Numbers.{ℕ, ◌+◌, ◌-◌, ◌<◌, ◌≤◌, arith, leb-false, ltb-true, ltb-false, le-leb, lt-leb, ltb, length}
use Rattle.laws.specs.Choice.{all_of, both_true, true_both, by_test}
use Rattle.laws.specs.Sums.{sum_of, sum_of_cons}
use Rattle.rules.specs.Matching.{with_lots}
use Rattle.rules.specs.WellFormed.{sorted, numbers, listed}
use Rattle.rules.specs.declared.Order.{Order}
use Rattle.theory.proofs.Queue.{lots_nil, lots_met, lots_unmet}
use Rattle.theory.proofs.Rest.{sorted_lots}
use Rattle.theory.proofs.Sorted.{Behind, AllBehind, behind_trans, sorted_tail, sorted_behind}
use Rattle.rules.specs.Auction.{reaches, lots_reaching, less_first}
use Rattle.theory.proofs.AuctionTurns.{less_filled, less_part, length_less}

-- ---- the lots that reach a price

-- an order reaches the prices at its own or behind it
pub behind_reaches : (sell : Bool) (price : ℕ) (o : Order) → Behind sell price o.price → reaches sell price o ≡ true
behind_reaches true price o h = le-leb o.price price h
behind_reaches false price o h = le-leb price o.price h

pub not_reaches : (sell : Bool) (price : ℕ) (o p : Order) → Behind sell p.price o.price → reaches sell price o ≡ false → reaches sell price p ≡ false
not_reaches true price o p h e = lt-leb p.price price (omega (arith, leb-false o.price price e))
not_reaches false price o p h e = lt-leb price p.price (omega (arith, leb-false price o.price e))

module _ (sell : Bool) (price : ℕ) where
  pub reaching_nil : lots_reaching sell price [] ≡ 0
  unfolding lots_reaching
  reaching_nil = lots_nil (reaches sell price)

  pub reaching_met : (o : Order) (os : List Order) → reaches sell price o ≡ true → lots_reaching sell price (o ∷ os) ≡ o.lots + lots_reaching sell price os
  unfolding lots_reaching
  reaching_met o os e = lots_met (reaches sell price) o os e

  pub reaching_unmet : (o : Order) (os : List Order) → reaches sell price o ≡ false → lots_reaching sell price (o ∷ os) ≡ lots_reaching sell price os
  unfolding lots_reaching
  reaching_unmet o os e = lots_unmet (reaches sell price) o os e

  -- behind an order that does not reach the price, none does
  none_reach : (o : Order) (os : List Order) → AllBehind sell o.price os → reaches sell price o ≡ false → lots_reaching sell price os ≡ 0
  none_reach o [] h e = reaching_nil
  none_reach o (p ∷ ps) (h, r) e = reaching_unmet p ps (not_reaches sell price o p h e) ∙ none_reach o ps r e

  -- where any lots of a sorted queue reach a price, its first order does
  pub first_reaches : (o : Order) (os : List Order) → sorted sell (o ∷ os) ≡ true → 0 < lots_reaching sell price (o ∷ os) → reaches sell price o ≡ true
  first_reaches o os s h =
      by_test (reaches sell price o) (λ e. e)
      (λ e. absurd (omega (arith, reaching_unmet o os e, none_reach o os (sorted_behind sell o os s) e)))

  -- the lots that the first order trades are taken from them
  pub reaching_less : (n : ℕ) (o : Order) (os : List Order) → n ≤ o.lots → reaches sell price o ≡ true
      → lots_reaching sell price (o ∷ os) ≡ n + lots_reaching sell price (less_first n o os)
  reaching_less n o os h e =
      by_test (ltb n o.lots)
      (λ k. let l = ltb-true n o.lots k in
      rw (less_part n o os l) (omega (arith, reaching_met o os e, reaching_met (with_lots o (o.lots - n)) os e)))
      (λ k. let l = ltb-false n o.lots k in
      rw (less_filled n o os l) (omega (arith, reaching_met o os e)))

-- ---- the order of what stays

pub less_sorted : (sell : Bool) (n : ℕ) (o : Order) (os : List Order) → sorted sell (o ∷ os) ≡ true → sorted sell (less_first n o os) ≡ true
less_sorted sell n o os s =
    by_test (ltb n o.lots) (λ k. rw (less_part n o os (ltb-true n o.lots k)) (sorted_lots sell o (o.lots - n) os ∙ s))
    (λ k. rw (less_filled n o os (ltb-false n o.lots k)) (sorted_tail sell o os s))

-- ---- lots taken from the front

-- the first order of a queue reaches a price
abbrev pub FirstReaches : Bool → ℕ → List Order → Type 0
FirstReaches sell price [] = ⊥
FirstReaches sell price (o ∷ os) = Behind sell price o.price

-- a test that an order passes with fewer lots too
abbrev pub KeptWithFewer : (Order → Bool) → Type 0
KeptWithFewer test = (o : Order) (n : ℕ) → 0 < n → n ≤ o.lots → test o ≡ true → test (with_lots o n) ≡ true

pub less_kept : (n : ℕ) (o : Order) (os : List Order) (test : Order → Bool) → KeptWithFewer test → all_of test (o ∷ os) ≡ true → all_of test (less_first n o os) ≡ true
unfolding all_of
less_kept n o os test k h = cases (ltb n o.lots) refl (both_true (test o) (all_of test os) h)
  where
    cases : (short : Bool) → ltb n o.lots ≡ short → (test o ≡ true) × (all_of test os ≡ true) → all_of test (less_first n o os) ≡ true
    cases true e (f, g) =
        let l = ltb-true n o.lots e in
        rw (less_part n o os l) (true_both (test (with_lots o (o.lots - n))) (all_of test os) (k o (o.lots - n) (omega arith) (omega arith) f) g)
    cases false e (f, g) = rw (less_filled n o os (ltb-false n o.lots e)) g

-- a measure that fewer lots do not raise
abbrev pub LessWithFewer : (Order → ℕ) → Type 0
LessWithFewer f = (o : Order) (n : ℕ) → 0 < n → n ≤ o.lots → f (with_lots o n) ≤ f o

less_sum : (n : ℕ) (o : Order) (os : List Order) (f : Order → ℕ) → LessWithFewer f → sum_of f (less_first n o os) ≤ sum_of f (o ∷ os)
less_sum n o os f k =
    by_test (ltb n o.lots)
    (λ e. let l = ltb-true n o.lots e in
    rw (less_part n o os l) (omega (arith, sum_of_cons f (with_lots o (o.lots - n)) os, sum_of_cons f o os, k o (o.lots - n) (omega arith) (omega arith))))
    (λ e. rw (less_filled n o os (ltb-false n o.lots e)) (omega (arith, sum_of_cons f o os)))

less_numbers : (n : ℕ) (o : Order) (os : List Order) → (gone : List ℕ) × (numbers (o ∷ os) ≡ gone ++ numbers (less_first n o os))
unfolding listed
less_numbers n o os =
    by_test (ltb n o.lots) (λ e. rw (less_part n o os (ltb-true n o.lots e)) ([], refl))
    (λ e. rw (less_filled n o os (ltb-false n o.lots e)) (o.number ∷ [], refl))

-- the lots are taken from the front of a queue, and of the orders nothing else is changed
pub record Taken (sell : Bool) (lots : ℕ) (before after : List Order) : Type 0 where
  pub inorder : sorted sell after ≡ true
  pub first : (price : ℕ) → FirstReaches sell price after → FirstReaches sell price before
  pub counted : (price : ℕ) → FirstReaches sell price after → lots_reaching sell price before ≡ lots + lots_reaching sell price after
  pub kept : (test : Order → Bool) → KeptWithFewer test → all_of test before ≡ true → all_of test after ≡ true
  pub atmost : (f : Order → ℕ) → LessWithFewer f → sum_of f after ≤ sum_of f before
  pub shorter : length after ≤ length before
  pub numbered : (gone : List ℕ) × (numbers before ≡ gone ++ numbers after)

pub taken_none : (sell : Bool) (os : List Order) → sorted sell os ≡ true → Taken sell 0 os os
taken_none sell os s =
    record {
      inorder = s;
      first = λ price r. r;
      counted = λ price r. omega arith;
      kept = λ test k h. h;
      atmost = λ f k. omega arith;
      shorter = omega arith;
      numbered = ([], refl);
    }

module _ (sell : Bool) (o : Order) (os : List Order) (s : sorted sell (o ∷ os) ≡ true) where
  -- the order behind the first, too, reaches no price that the first does not
  second_behind : (ps : List Order) (price : ℕ) → AllBehind sell o.price ps → FirstReaches sell price ps → Behind sell price o.price
  second_behind [] price h r = absurd r
  second_behind (p ∷ ps) price (h, t) r = behind_trans sell price p.price o.price r h

  less_first_lem : (n price : ℕ) → FirstReaches sell price (less_first n o os) → Behind sell price o.price
  less_first_lem n price =
      by_test (ltb n o.lots) (λ k. rw (less_part n o os (ltb-true n o.lots k)) (λ r. r))
      (λ k. rw (less_filled n o os (ltb-false n o.lots k)) (second_behind os price (sorted_behind sell o os s)))

  pub taken_first : (n : ℕ) → n ≤ o.lots → Taken sell n (o ∷ os) (less_first n o os)
  taken_first n h =
      record {
        inorder = less_sorted sell n o os s;
        first = λ price r. less_first_lem n price r;
        counted = λ price r. reaching_less sell price n o os h (behind_reaches sell price o (less_first_lem n price r));
        kept = λ test k g. less_kept n o os test k g;
        atmost = λ f k. less_sum n o os f k;
        shorter = length_less n o os;
        numbered = less_numbers n o os;
      }

pub taken_more : (sell : Bool) (m n : ℕ) (before between after : List Order) → Taken sell m before between → Taken sell n between after → Taken sell (m + n) before after
taken_more sell m n before between after a b =
    record {
      inorder = b.inorder;
      first = λ price r. a.first price (b.first price r);
      counted = λ price r. omega (arith, a.counted price (b.first price r), b.counted price r);
      kept = λ test k h. b.kept test k (a.kept test k h);
      atmost = λ f k. omega (arith, a.atmost f k, b.atmost f k);
      shorter = omega (arith, a.shorter, b.shorter);
      numbered = (a.numbered.0 ++ b.numbered.0, a.numbered.1 ∙ ap (λ (l : List ℕ). a.numbered.0 ++ l) b.numbered.1 ∙ sym (append_assoc a.numbered.0 b.numbered.0 (numbers after)));
    }
