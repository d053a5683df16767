-- A queue taken from its front: so many orders have traded, all but the last of them are gone, that one keeps some lots or is gone too, and
-- those behind it are as they were. Where the queue is sorted and its numbers are used once, price then time follows. Assumes nothing.
use Rattle.laws.specs.Logic.{Bool, true, false, not, ◌&&◌, ◌||◌, List, [], ◌∷◌, ◌++◌, ◌⊎◌, inl, inr, ◌≡◌, refl, sym, ap, ◌∙◌}
use Rattle.laws.specs.Numbers.{ℕ, zero, suc, ◌+◌, ◌-◌, ◌<◌, ◌≤◌, arith, eqb-true, eqb-false, ltb-true, ltb-false, eq-eqb, ne_eqb, le-ltb, not-true, eqb, ltb}
use Rattle.laws.specs.Numbers.{length, drop}
use Rattle.laws.specs.Choice.{pick, pick_true, all_of, all_of_append, all_of_at, both_false, both_true, true_both}
use Rattle.laws.specs.Sums.{sum_of_at, sum_of_ext}
use Rattle.rules.specs.Auction.{less_first}
use Rattle.rules.specs.Exchange.{lots_where, no_order, worse}
use Rattle.rules.specs.Fairness.{PriceThenTime, is_gone, lots_numbered, lots_traded, order_at}
use Rattle.rules.specs.Matching.{stays, with_lots}
use Rattle.rules.specs.WellFormed.{ahead, ahead_of_first, listed, numbers, sorted, used_once}
use Rattle.rules.specs.declared.{Order.Order, Trade.Trade}
use Rattle.theory.proofs.AuctionTurns.{less_filled, less_part}
use Rattle.theory.proofs.Queue.{lots_append, lots_met, lots_nil, lots_unmet}
use Rattle.theory.proofs.Sorted.{AllBehind, Behind, behind_refl, sorted_behind, sorted_tail}
use Rattle.theory.proofs.Sweep.{stays_some}

-- ---- the front of a queue

-- what the last of so many orders of a queue keeps
abbrev pub last_keeps : List Order → ℕ → ℕ → List Order
last_keeps queue zero lots = []
last_keeps queue (suc i) lots = stays (order_at queue i) lots

pub record TakenFromFront (before after : List Order) : Type 0 where
  pub traded : ℕ
  pub keeps : ℕ
  pub within : traded ≤ length before
  pub left : after ≡ last_keeps before traded keeps ++ drop traded before

-- nothing has traded
pub none_front : (os : List Order) → TakenFromFront os os
none_front os = record { traded = 0; keeps = 0; within = omega arith; left = refl }

-- what stays of an order is the same, however many lots it had
stays_same : (o : Order) (lots n : ℕ) → stays (with_lots o lots) n ≡ stays o n
unfolding stays
stays_same o lots zero = refl
stays_same o lots (suc n) = refl

module _ (o : Order) (os after : List Order) where
  -- the first order is filled
  pub filled_front : TakenFromFront os after → TakenFromFront (o ∷ os) after
  unfolding stays
  filled_front r = by_count r.traded r.within r.left
    where
      by_count : (traded : ℕ) → traded ≤ length os → after ≡ last_keeps os traded r.keeps ++ drop traded os → TakenFromFront (o ∷ os) after
      by_count zero h e = record { traded = 1; keeps = 0; within = omega arith; left = e }
      by_count (suc i) h e = record { traded = suc (suc i); keeps = r.keeps; within = omega arith; left = e }

  -- it keeps some lots
  part_front : (lots : ℕ) → 0 < lots → TakenFromFront (with_lots o lots ∷ os) after → TakenFromFront (o ∷ os) after
  part_front lots some r = by_count r.traded r.within r.left
    where
      by_count : (traded : ℕ) → traded ≤ suc (length os) → after ≡ last_keeps (with_lots o lots ∷ os) traded r.keeps ++ drop traded (with_lots o lots ∷ os)
          → TakenFromFront (o ∷ os) after
      by_count zero h e = record { traded = 1; keeps = lots; within = omega arith; left = e ∙ rw (stays_some o lots some) }
      by_count (suc zero) h e = record { traded = 1; keeps = r.keeps; within = h; left = e ∙ rw (stays_same o lots r.keeps) }
      by_count (suc (suc i)) h e = record { traded = suc (suc i); keeps = r.keeps; within = h; left = e }

-- it has traded so many lots
pub less_front : (n : ℕ) (o : Order) (os after : List Order) → TakenFromFront (less_first n o os) after → TakenFromFront (o ∷ os) after
less_front n o os after r = by_lots (ltb n o.lots) refl
  where
    by_lots : (short : Bool) → ltb n o.lots ≡ short → TakenFromFront (o ∷ os) after
    by_lots true k = let l = ltb-true n o.lots k in part_front o os after (o.lots - n) (omega arith) (rw (less_part n o os l) at r)
    by_lots false k = filled_front o os after (rw (less_filled n o os (ltb-false n o.lots k)) at r)

-- it keeps some lots, and nothing behind it has traded
pub part_left : (o : Order) (os : List Order) (lots : ℕ) → 0 < lots → TakenFromFront (o ∷ os) (with_lots o lots ∷ os)
part_left o os lots some = part_front o os (with_lots o lots ∷ os) lots some (none_front (with_lots o lots ∷ os))

-- ---- what every order of a queue passes, whatever its lots, every order left passes

drop_passes : (test : Order → Bool) (k : ℕ) (os : List Order) → all_of test os ≡ true → all_of test (drop k os) ≡ true
unfolding all_of
drop_passes test zero os h = h
drop_passes test (suc k) [] h = h
drop_passes test (suc k) (o ∷ os) h = drop_passes test k os (both_true (test o) (all_of test os) h).1

module _ (test : Order → Bool) (same : (o : Order) (lots : ℕ) → test (with_lots o lots) ≡ test o) where
  stays_pass : (o : Order) (lots : ℕ) → test o ≡ true → all_of test (stays o lots) ≡ true
  unfolding stays all_of
  stays_pass o zero e = refl
  stays_pass o (suc n) e = true_both (test (with_lots o (suc n))) true (same o (suc n) ∙ e) refl

  last_passes : (os : List Order) (traded keeps : ℕ) → traded ≤ length os → all_of test os ≡ true → all_of test (last_keeps os traded keeps) ≡ true
  unfolding all_of
  last_passes os zero keeps l h = refl
  last_passes os (suc i) keeps l h = stays_pass (order_at os i) keeps (all_of_at test os i no_order h (omega arith))

  left_passes : (os : List Order) (traded keeps : ℕ) → traded ≤ length os → all_of test os ≡ true → all_of test (last_keeps os traded keeps ++ drop traded os) ≡ true
  left_passes os traded keeps l h =
      all_of_append test (last_keeps os traded keeps) (drop traded os)
      ∙ true_both (all_of test (last_keeps os traded keeps)) (all_of test (drop traded os)) (last_passes os traded keeps l h) (drop_passes test traded os h)

-- ---- no order left has a better price than one that has traded

not_better : (sell : Bool) (price other : ℕ) → Behind sell other price → not (worse sell price other) ≡ true
not_better true price other b = ap not (le-ltb other price b)
not_better false price other b = ap not (le-ltb price other b)

none_better : (sell : Bool) (price : ℕ) (os : List Order) → AllBehind sell price os → all_of (λ o. not (worse sell price o.price)) os ≡ true
unfolding all_of
none_better sell price [] b = refl
none_better sell price (o ∷ os) (b, r) =
    true_both (not (worse sell price o.price)) (all_of (λ o. not (worse sell price o.price)) os) (not_better sell price o.price b) (none_better sell price os r)

left_behind : (sell : Bool) (os : List Order) (traded keeps : ℕ) → sorted sell os ≡ true → traded ≤ length os → (i : ℕ) → i < traded
    → all_of (λ o. not (worse sell (order_at os i).price o.price)) (last_keeps os traded keeps ++ drop traded os) ≡ true
left_behind sell os zero keeps s l i h = absurd (omega arith)
left_behind sell [] (suc m) keeps s l i h = absurd (omega arith)
left_behind sell (o ∷ os) (suc m) keeps s l zero h =
    left_passes (λ p. not (worse sell o.price p.price)) (λ p lots. refl) (o ∷ os) (suc m) keeps l
    (none_better sell o.price (o ∷ os) (behind_refl sell o.price, sorted_behind sell o os s))
left_behind sell (o ∷ os) (suc zero) keeps s l (suc i) h = absurd (omega arith)
left_behind sell (o ∷ os) (suc (suc m)) keeps s l (suc i) h = left_behind sell os (suc m) keeps (sorted_tail sell o os s) (omega arith) i (omega arith)

-- ---- the order of a sorted queue: each order is in front of every later one

-- an order is in front of another: at a better price, or at its price with a lower time stamp
abbrev InFront : Bool → Order → Order → Type 0
InFront true o p = (o.price < p.price) ⊎ ((o.price ≡ p.price) × (o.stamp < p.stamp))
InFront false o p = (p.price < o.price) ⊎ ((o.price ≡ p.price) × (o.stamp < p.stamp))

ahead_in_front : (sell : Bool) (o p : Order) → ahead sell o p ≡ true → InFront sell o p
unfolding ahead
ahead_in_front sell o p e = by_side sell (worse sell p.price o.price) refl e
  where
    same_price : (eqb o.price p.price && ltb o.stamp p.stamp) ≡ true → (o.price ≡ p.price) × (o.stamp < p.stamp)
    same_price h =
        let b = both_true (eqb o.price p.price) (ltb o.stamp p.stamp) h in
        (eqb-true o.price p.price b.0, ltb-true o.stamp p.stamp b.1)

    by_side : (s w : Bool) → worse s p.price o.price ≡ w → (w || eqb o.price p.price && ltb o.stamp p.stamp) ≡ true → InFront s o p
    by_side true true k h = inl (ltb-true o.price p.price k)
    by_side true false k h = inr (same_price h)
    by_side false true k h = inl (ltb-true p.price o.price k)
    by_side false false k h = inr (same_price h)

in_front_trans : (sell : Bool) (o p q : Order) → InFront sell o p → InFront sell p q → InFront sell o q
in_front_trans true o p q (inl h) (inl k) = inl (omega arith)
in_front_trans true o p q (inl h) (inr (k, l)) = inl (omega arith)
in_front_trans true o p q (inr (h, m)) (inl k) = inl (omega arith)
in_front_trans true o p q (inr (h, m)) (inr (k, l)) = inr (omega arith, omega arith)
in_front_trans false o p q (inl h) (inl k) = inl (omega arith)
in_front_trans false o p q (inl h) (inr (k, l)) = inl (omega arith)
in_front_trans false o p q (inr (h, m)) (inl k) = inl (omega arith)
in_front_trans false o p q (inr (h, m)) (inr (k, l)) = inr (omega arith, omega arith)

in_front_asym : (sell : Bool) (o p : Order) → InFront sell o p → InFront sell p o → ⊥
in_front_asym true o p (inl h) (inl k) = omega arith
in_front_asym true o p (inl h) (inr (k, l)) = omega arith
in_front_asym true o p (inr (h, m)) (inl k) = omega arith
in_front_asym true o p (inr (h, m)) (inr (k, l)) = omega arith
in_front_asym false o p (inl h) (inl k) = omega arith
in_front_asym false o p (inl h) (inr (k, l)) = omega arith
in_front_asym false o p (inr (h, m)) (inl k) = omega arith
in_front_asym false o p (inr (h, m)) (inr (k, l)) = omega arith

module _ (sell : Bool) where
  first_in_front : (o : Order) (os : List Order) → sorted sell (o ∷ os) ≡ true → (i : ℕ) → i < length os → InFront sell o (order_at os i)
  unfolding sorted ahead_of_first
  first_in_front o [] s i h = absurd (omega arith)
  first_in_front o (p ∷ ps) s zero h = ahead_in_front sell o p (both_true (ahead sell o p) (sorted sell (p ∷ ps)) s).0
  first_in_front o (p ∷ ps) s (suc i) h =
      let b = both_true (ahead sell o p) (sorted sell (p ∷ ps)) s in
      in_front_trans sell o p (order_at ps i) (ahead_in_front sell o p b.0) (first_in_front p ps b.1 i (omega arith))

  each_in_front : (os : List Order) → sorted sell os ≡ true → (i j : ℕ) → i < j → j < length os → InFront sell (order_at os i) (order_at os j)
  each_in_front [] s i j l h = absurd (omega arith)
  each_in_front (o ∷ os) s i zero l h = absurd (omega arith)
  each_in_front (o ∷ os) s zero (suc j) l h = first_in_front o os s j (omega arith)
  each_in_front (o ∷ os) s (suc i) (suc j) l h = each_in_front os (sorted_tail sell o os s) i j (omega arith) (omega arith)

  -- so one that is ahead of another stands in front of it
  ahead_before : (os : List Order) → sorted sell os ≡ true → (i j : ℕ) → i < length os → ahead sell (order_at os i) (order_at os j) ≡ true → i < j
  ahead_before os s i j h e = by_place (ltb i j) refl (ltb j i) refl
    where
      f : InFront sell (order_at os i) (order_at os j)
      f = ahead_in_front sell (order_at os i) (order_at os j) e

      same : i ≡ j → InFront sell (order_at os i) (order_at os j) → ⊥
      same q g = let k : InFront sell (order_at os j) (order_at os j) = rw q at g in in_front_asym sell (order_at os j) (order_at os j) k k

      by_place : (before : Bool) → ltb i j ≡ before → (behind : Bool) → ltb j i ≡ behind → i < j
      by_place true a c b = ltb-true i j a
      by_place false a true b = absurd (in_front_asym sell (order_at os i) (order_at os j) f (each_in_front os s j i (ltb-true j i b) h))
      by_place false a false b =
          let x = ltb-false i j a in
          let y = ltb-false j i b in
          absurd (same (omega arith) f)

-- ---- the lots of one number, where numbers are used once

-- what every number of a queue passes, every order's number passes
numbers_pass : (test : ℕ → Bool) (os : List Order) → all_of test (numbers os) ≡ true → all_of (λ o. test o.number) os ≡ true
unfolding all_of listed
numbers_pass test [] h = refl
numbers_pass test (o ∷ os) h =
    let b = both_true (test o.number) (all_of test (numbers os)) h in
    true_both (test o.number) (all_of (λ o. test o.number) os) b.0 (numbers_pass test os b.1)

once_first : (o : Order) (os : List Order) → used_once (numbers (o ∷ os)) ≡ true → (is_gone o.number os ≡ true) × (used_once (numbers os) ≡ true)
unfolding used_once listed
once_first o os u =
    let b = both_true (all_of (λ k. not (eqb o.number k)) (numbers os)) (used_once (numbers os)) u in
    (numbers_pass (λ k. not (eqb o.number k)) os b.0, b.1)

-- the lots of a number among the orders that pass a test: none where it is gone, the order's own where numbers are used once
gone_lots : (test : Order → Bool) (number : ℕ) (os : List Order) → is_gone number os ≡ true → lots_where (λ p. eqb p.number number && test p) os ≡ 0
unfolding all_of
gone_lots test number [] h = lots_nil (λ p. eqb p.number number && test p)
gone_lots test number (o ∷ os) h =
    let b = both_true (not (eqb number o.number)) (all_of (λ p. not (eqb number p.number)) os) h in
    let e : eqb o.number number ≡ false = ne_eqb o.number number (λ e. eqb-false number o.number (not-true (eqb number o.number) b.0) (sym e)) in
    lots_unmet (λ p. eqb p.number number && test p) o os (rw e) ∙ gone_lots test number os b.1

pub one_lots : (test : Order → Bool) (os : List Order) → used_once (numbers os) ≡ true → (i : ℕ) → i < length os
    → lots_where (λ p. eqb p.number (order_at os i).number && test p) os ≡ pick (test (order_at os i)) (order_at os i).lots 0
one_lots test [] u i h = absurd (omega arith)
one_lots test (o ∷ os) u zero h = by_test (test o) refl
  where
    by_test : (b : Bool) → test o ≡ b → lots_where (λ p. eqb p.number o.number && test p) (o ∷ os) ≡ pick b o.lots 0
    by_test true e =
        omega (arith, lots_met (λ p. eqb p.number o.number && test p) o os (true_both (eqb o.number o.number) (test o) (eq-eqb o.number o.number refl) e), gone_lots test o.number os (once_first o os u).0)
    by_test false e = lots_unmet (λ p. eqb p.number o.number && test p) o os (both_false (eqb o.number o.number) (test o) e) ∙ gone_lots test o.number os (once_first o os u).0
one_lots test (o ∷ os) u (suc i) h =
    let b = once_first o os u in
    let n = (order_at os i).number in
    let e : eqb o.number n ≡ false = not-true (eqb o.number n) (all_of_at (λ p. not (eqb o.number p.number)) os i no_order b.0 (omega arith)) in
    lots_unmet (λ p. eqb p.number n && test p) o os (rw e) ∙ one_lots test os b.1 i (omega arith)

-- the same of all orders
of_number : (number : ℕ) (os : List Order) → lots_numbered number os ≡ lots_where (λ p. eqb p.number number && true) os
unfolding lots_where
of_number number os = sum_of_ext _ _ os (λ p. by_number (eqb p.number number) p.lots)
  where
    by_number : (b : Bool) (lots : ℕ) → pick b lots 0 ≡ pick (b && true) lots 0
    by_number true lots = refl
    by_number false lots = refl

own_lots : (os : List Order) → used_once (numbers os) ≡ true → (i : ℕ) → i < length os → lots_numbered (order_at os i).number os ≡ (order_at os i).lots
own_lots os u i h = of_number (order_at os i).number os ∙ one_lots (λ p. true) os u i h

-- an order behind those that have traded has its lots still
behind_kept : (k : ℕ) (os : List Order) (j : ℕ) → k ≤ j → j < length os → (order_at os j).lots ≤ lots_numbered (order_at os j).number (drop k os)
unfolding lots_where
behind_kept zero os j l h =
    let n = (order_at os j).number in
    rw (pick_true (eqb n n) (order_at os j).lots 0 (eq-eqb n n refl)) at (sum_of_at (λ o. pick (eqb o.number n) o.lots 0) os j no_order h)
behind_kept (suc k) [] j l h = absurd (omega arith)
behind_kept (suc k) (o ∷ os) zero l h = absurd (omega arith)
behind_kept (suc k) (o ∷ os) (suc j) l h = behind_kept k os j (omega arith) (omega arith)

-- of those that have traded, all but the last are gone
front_gone : (traded keeps : ℕ) (os : List Order) → used_once (numbers os) ≡ true → traded ≤ length os → (i : ℕ) → suc i < traded
    → is_gone (order_at os i).number (last_keeps os traded keeps ++ drop traded os) ≡ true
front_gone zero keeps os u h i l = absurd (omega arith)
front_gone (suc zero) keeps os u h i l = absurd (omega arith)
front_gone (suc (suc m)) keeps [] u h i l = absurd (omega arith)
front_gone (suc (suc m)) keeps (o ∷ os) u h zero l =
    left_passes (λ p. not (eqb o.number p.number)) (λ p lots. refl) os (suc m) keeps (omega arith) (once_first o os u).0
front_gone (suc (suc m)) keeps (o ∷ os) u h (suc i) l = front_gone (suc m) keeps os (once_first o os u).1 (omega arith) i (omega arith)

-- ---- price then time

module _ (sell : Bool) (queue after : List Order) (trades : List Trade) (s : sorted sell queue ≡ true) (u : used_once (numbers queue) ≡ true)
    (accounted : (number : ℕ) → lots_traded sell number trades + lots_numbered number after ≡ lots_numbered number queue) (r : TakenFromFront queue after) where
  -- one that has traded is among the front
  among_front : (j : ℕ) → j < length queue → 0 < lots_traded sell (order_at queue j).number trades → j < r.traded
  among_front j h some = by_place (ltb j r.traded) refl
    where
      by_place : (front : Bool) → ltb j r.traded ≡ front → j < r.traded
      by_place true e = ltb-true j r.traded e
      by_place false e =
          let kept = behind_kept r.traded queue j (ltb-false j r.traded e) h in
          let left = ap (lots_numbered (order_at queue j).number) r.left ∙ lots_append (λ p. eqb p.number (order_at queue j).number) (last_keeps queue r.traded r.keeps) (drop r.traded queue) in
          absurd (omega (arith, accounted (order_at queue j).number, own_lots queue u j h))

  ahead_gone : (i j : ℕ) → i < length queue → j < length queue → ahead sell (order_at queue i) (order_at queue j) ≡ true
      → 0 < lots_traded sell (order_at queue j).number trades → is_gone (order_at queue i).number after ≡ true
  ahead_gone i j h k a some =
      let l = ahead_before sell queue s i j h a in
      let m = among_front j k some in
      ap (is_gone (order_at queue i).number) r.left ∙ front_gone r.traded r.keeps queue u r.within i (omega arith)

  pub front_priority : PriceThenTime sell queue after trades
  front_priority =
      record {
        filled = λ i j h k a some.
            let n = (order_at queue i).number in
            omega (arith, accounted n, own_lots queue u i h, of_number n after ∙ gone_lots (λ p. true) n after (ahead_gone i j h k a some));
        leaves = ahead_gone;
      }

  pub front_behind : (i : ℕ) → i < length queue → 0 < lots_traded sell (order_at queue i).number trades
      → all_of (λ o. not (worse sell (order_at queue i).price o.price)) after ≡ true
  front_behind i h some =
      ap (all_of (λ o. not (worse sell (order_at queue i).price o.price))) r.left
      ∙ left_behind sell queue r.traded r.keeps s r.within i (among_front i h some)
