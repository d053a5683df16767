-- How far a day's profit reaches: with prices to M, at most M for each lot that was held at the start or opened during the day,
-- in closing and holding profit together. Assumes nothing.
use lib.IntN.{◌+ℤ◌}
use Rattle.laws.specs.Logic.{Bool, true, false, List, [], ◌∷◌, ◌≡◌, subst, ◌∙◌}
use Rattle.laws.specs.Numbers.{ℕ, ◌+◌, ◌-◌, ◌*◌, ◌≤◌, arith}
use Rattle.laws.specs.Bound.{Within, within_le, within_zero, within_add, within_sub, within_diff, within_times}
use Rattle.laws.specs.Sums.{sum_of}
use Rattle.rules.specs.Article32.{lots_in}
use Rattle.rules.specs.Settlement.{Leg, leg, Batch, Day, day_start, gain, first_lots, other_lots, with_batch, after_day_leg, after_legs, holding_gain}
use Rattle.accounting.specs.DayLegs.{Covered, AllCovered}
use Rattle.accounting.proofs.DayProfit.{lots_opened, lots_first, lots_other}

-- ---- batches at prices to M

unfoldable pub PricedTo : ℕ → List Batch → Type 0
PricedTo M [] = Unit {0}
PricedTo M (b ∷ bs) = (b.price ≤ M) × PricedTo M bs

gain_within : (M p : ℕ) (bs : List Batch) → p ≤ M → PricedTo M bs → Within (M * lots_in bs) (gain p bs)
unfolding gain sum_of PricedTo
gain_within M p [] h q = within_le (omega arith) within_zero
gain_within M p (b ∷ bs) h q = within_le (omega arith) (within_add (within_times b.lots (within_diff h q.0)) (gain_within M p bs h q.1))

first_priced : (M n : ℕ) (bs : List Batch) → PricedTo M bs → PricedTo M (first_lots n bs)
unfolding first_lots PricedTo
first_priced M n [] q = tt
first_priced M n (b ∷ bs) q = (q.0, first_priced M (n - b.lots) bs q.1)

other_priced : (M n : ℕ) (bs : List Batch) → PricedTo M bs → PricedTo M (other_lots n bs)
unfolding other_lots PricedTo
other_priced M n [] q = tt
other_priced M n (b ∷ bs) q = (q.0, other_priced M (n - b.lots) bs q.1)

opened_priced : (M p n : ℕ) (bs : List Batch) → PricedTo M bs → p ≤ M → PricedTo M (with_batch bs p n)
unfolding PricedTo
opened_priced M p n [] q h = (h, tt)
opened_priced M p n (b ∷ bs) q h = (q.0, opened_priced M p n bs q.1 h)

-- what n closed lots can have gained
closed_within : (M p n : ℕ) (bs : List Batch) → p ≤ M → n ≤ lots_in bs → PricedTo M bs → Within (M * n) (gain p (first_lots n bs))
closed_within M p n bs h c q =
    subst (λ (k : ℕ). Within (M * k) (gain p (first_lots n bs))) (lots_first n bs c) (gain_within M p (first_lots n bs) h (first_priced M n bs q))

-- ---- legs at prices to M, and the lots that they open

unfoldable pub LegsTo : ℕ → List Leg → Type 0
LegsTo M [] = Unit {0}
LegsTo M (leg sell close p n ∷ ls) = (p ≤ M) × LegsTo M ls

unfoldable pub opened_lots : List Leg → ℕ
opened_lots [] = 0
opened_lots (leg sell false p n ∷ ls) = n + opened_lots ls
opened_lots (leg sell true p n ∷ ls) = opened_lots ls

-- ---- of all the lots there ever were, some are closed and the others open

pub record Reach (M lots : ℕ) (d : Day) : Type 0 where
  pub closed : ℕ
  pub counted : closed + lots_in d.long + lots_in d.short ≡ lots
  pub closing : Within (M * closed) d.closing
  pub long : PricedTo M d.long
  pub short : PricedTo M d.short

reach_leg : (M lots : ℕ) (d : Day) (sell close : Bool) (p n : ℕ) → p ≤ M → Covered d (leg sell close p n) → Reach M lots d →
    Reach M (opened_lots (leg sell close p n ∷ []) + lots) (after_day_leg d (leg sell close p n))
unfolding after_day_leg opened_lots Covered
reach_leg M lots d false false p n h c r = record {
  closed = r.closed;
  counted = omega (arith, lots_opened d.long p n, r.counted);
  closing = r.closing;
  long = opened_priced M p n d.long r.long h;
  short = r.short;
}
reach_leg M lots d true false p n h c r = record {
  closed = r.closed;
  counted = omega (arith, lots_opened d.short p n, r.counted);
  closing = r.closing;
  long = r.long;
  short = opened_priced M p n d.short r.short h;
}
reach_leg M lots d true true p n h c r = record {
  closed = r.closed + n;
  counted = omega (arith, lots_other n d.long, r.counted);
  closing = within_le (omega arith) (within_add r.closing (closed_within M p n d.long h c r.long));
  long = other_priced M n d.long r.long;
  short = r.short;
}
reach_leg M lots d false true p n h c r = record {
  closed = r.closed + n;
  counted = omega (arith, lots_other n d.short, r.counted);
  closing = within_le (omega arith) (within_sub r.closing (closed_within M p n d.short h c r.short));
  long = r.long;
  short = other_priced M n d.short r.short;
}

same_reach : (M j k : ℕ) (d : Day) → j ≡ k → Reach M j d → Reach M k d
same_reach M j k d e r = record { closed = r.closed; counted = r.counted ∙ e; closing = r.closing; long = r.long; short = r.short }

opened_cons : (l : Leg) (ls : List Leg) → opened_lots (l ∷ ls) ≡ opened_lots (l ∷ []) + opened_lots ls
unfolding opened_lots
opened_cons (leg sell false p n) ls = omega arith
opened_cons (leg sell true p n) ls = omega arith

reach_legs : (M lots : ℕ) (d : Day) (ls : List Leg) → LegsTo M ls → AllCovered d ls → Reach M lots d → Reach M (opened_lots ls + lots) (after_legs d ls)
unfolding after_legs LegsTo AllCovered opened_lots
reach_legs M lots d [] q c r = same_reach M _ _ d (omega arith) r
reach_legs M lots d (leg sell close p n ∷ ls) q c r =
    same_reach M _ _ _ (let e = opened_cons (leg sell close p n) ls in omega arith)
    (reach_legs M (opened_lots (leg sell close p n ∷ []) + lots) (after_day_leg d (leg sell close p n)) ls q.1 c.1 (reach_leg M lots d sell close p n q.0 c.0 r))

reach_start : (M reference long short : ℕ) → reference ≤ M → Reach M (long + short) (day_start reference long short)
unfolding day_start sum_of PricedTo
reach_start M reference long short h = record {
  closed = 0;
  counted = omega arith;
  closing = within_le (omega arith) within_zero;
  long = (h, tt);
  short = (h, tt);
}

-- THE BOUND, before the multiplier
module _ (M reference long short : ℕ) (ls : List Leg) (r : reference ≤ M) (q : LegsTo M ls) (c : AllCovered (day_start reference long short) ls) where
  reach : Reach M (opened_lots ls + (long + short)) (after_legs (day_start reference long short) ls)
  reach = reach_legs M (long + short) (day_start reference long short) ls q c (reach_start M reference long short r)

  pub profit_within : (s : ℕ) → s ≤ M → Within (M * (opened_lots ls + (long + short)))
      ((after_legs (day_start reference long short) ls).closing +ℤ holding_gain s (after_legs (day_start reference long short) ls))
  unfolding holding_gain
  profit_within s h =
      within_le (let e = reach.counted in rw (← e) (omega arith))
      (within_add reach.closing (within_sub (gain_within M s _ h reach.long) (gain_within M s _ h reach.short)))
