-- First in, first out, without a queue: after covered legs the open batches of a side are the batches ever open without the
-- first lots, as many as were closed, and those are what the closes took. Assumes nothing.
use lib.IntN.{ℤ, pos, ◌+ℤ◌, ◌-ℤ◌, ◌*ℤ◌}
use Rattle.laws.specs.Logic.{Bool, true, false, List, [], ◌∷◌, ◌++◌, append-nil, append_assoc, ◌≡◌, refl, sym, ap, ◌∙◌}
use Rattle.laws.specs.Numbers.{ℕ, ◌+◌, ◌-◌, ◌*◌, ◌≤◌, min, add-zero, zero-add, add_assoc, mul-add, arith}
use Rattle.laws.specs.Ring.{d_eq, ring}
use Rattle.laws.specs.Sums.{sum_of, sum_of_append}
use Rattle.rules.specs.Article32.{lots_in}
use Rattle.rules.specs.Settlement.{Leg, leg, Batch, Day, day_start, gain, first_lots, other_lots, after_day_leg, after_legs, holding_gain}
use Rattle.accounting.specs.DayLegs.{Covered, AllCovered}
use Rattle.accounting.proofs.DayProfit.{lots_first, lots_other}
use Rattle.dayprofit.specs.Sides.{lots_if, value_if, batch_if, batches_of, closed_lots, closed_value, opened_today, cost, ever_open, closing_from, holding_from}
use Rattle.dayprofit.specs.declared.profit.Side.{Side}

-- ---- batches without their first lots, and those lots

pub lots_append : (bs cs : List Batch) → lots_in (bs ++ cs) ≡ lots_in bs + lots_in cs
lots_append bs cs = sum_of_append (λ b. b.lots) bs cs

pub cost_append : (bs cs : List Batch) → cost (bs ++ cs) ≡ cost bs + cost cs
unfolding cost
cost_append bs cs = sum_of_append (λ b. b.price * b.lots) bs cs

pub first_append : (n : ℕ) (bs cs : List Batch) → first_lots n (bs ++ cs) ≡ first_lots n bs ++ first_lots (n - lots_in bs) cs
unfolding first_lots sum_of
first_append n [] cs = let e : n - 0 ≡ n = omega arith in rw e
first_append n (b ∷ bs) cs =
    let e : n - b.lots - lots_in bs ≡ n - (b.lots + lots_in bs) = omega arith in
    rw (first_append (n - b.lots) bs cs, e)

pub other_append : (n : ℕ) (bs cs : List Batch) → other_lots n (bs ++ cs) ≡ other_lots n bs ++ other_lots (n - lots_in bs) cs
unfolding other_lots sum_of
other_append n [] cs = let e : n - 0 ≡ n = omega arith in rw e
other_append n (b ∷ bs) cs =
    let e : n - b.lots - lots_in bs ≡ n - (b.lots + lots_in bs) = omega arith in
    rw (other_append (n - b.lots) bs cs, e)

pub other_none : (bs : List Batch) → other_lots 0 bs ≡ bs
unfolding other_lots
other_none [] = refl
other_none (b ∷ bs) =
    let e : b.lots - 0 ≡ b.lots = omega arith in
    let f : 0 - b.lots ≡ 0 = omega arith in
    rw (e, f, other_none bs)

pub first_none : (bs : List Batch) → cost (first_lots 0 bs) ≡ 0
unfolding first_lots cost sum_of
first_none [] = refl
first_none (b ∷ bs) =
    let e : min 0 b.lots ≡ 0 = omega arith in
    let f : 0 - b.lots ≡ 0 = omega arith in
    rw (e, f) (omega (arith, first_none bs))

-- more lots from batches that some were taken from
pub other_other : (m n : ℕ) (bs : List Batch) → other_lots n (other_lots m bs) ≡ other_lots (m + n) bs
unfolding other_lots
other_other m n [] = refl
other_other m n (b ∷ bs) =
    let e : b.lots - m - n ≡ b.lots - (m + n) = omega arith in
    let f : m - b.lots + (n - (b.lots - m)) ≡ m + n - b.lots = omega arith in
    rw (e, other_other (m - b.lots) (n - (b.lots - m)) bs, f)

-- k lots at price p, m of them taken first and n next
split_cost : (p k m n : ℕ) → p * min m k + p * min n (k - m) ≡ p * min (m + n) k
split_cost p k m n =
    let e : min m k + min n (k - m) ≡ min (m + n) k = omega arith in
    sym (mul-add p (min m k) (min n (k - m))) ∙ ap (λ (j : ℕ). p * j) e

pub first_first : (m n : ℕ) (bs : List Batch) → cost (first_lots m bs) + cost (first_lots n (other_lots m bs)) ≡ cost (first_lots (m + n) bs)
unfolding first_lots other_lots cost sum_of
first_first m n [] = refl
first_first m n (b ∷ bs) =
    let f : m - b.lots + (n - (b.lots - m)) ≡ m + n - b.lots = omega arith in
    let ih = first_first (m - b.lots) (n - (b.lots - m)) bs in
    rw (← f) (omega (arith, ih, split_cost b.price b.lots m n))

-- what the first lots and the others were opened for
pub first_other : (n : ℕ) (bs : List Batch) → cost (first_lots n bs) + cost (other_lots n bs) ≡ cost bs
unfolding first_lots other_lots cost sum_of
first_other n [] = refl
first_other n (b ∷ bs) = omega (arith, first_other (n - b.lots) bs, all_cost b.price b.lots n)
  where
    all_cost : (p k m : ℕ) → p * min m k + p * (k - m) ≡ p * k
    all_cost p k m =
        let e : min m k + (k - m) ≡ k = omega arith in
        sym (mul-add p (min m k) (k - m)) ∙ ap (λ (j : ℕ). p * j) e

-- an open adds a batch behind those that closes take from
module _ (n : ℕ) (bs cs : List Batch) (few : n ≤ lots_in bs) where
  none_left : n - lots_in bs ≡ 0
  none_left = omega arith

  pub other_behind : other_lots n (bs ++ cs) ≡ other_lots n bs ++ cs
  other_behind = other_append n bs cs ∙ rw (none_left, other_none cs)

  pub first_behind : cost (first_lots n (bs ++ cs)) ≡ cost (first_lots n bs)
  first_behind = rw (first_append n bs cs, none_left) (omega (arith, cost_append (first_lots n bs) (first_lots 0 cs), first_none cs))

-- ---- gain

-- one batch and the others
gain_one : (p q k L C : ℕ) (G : ℤ) → G ≡ pos (p * L) -ℤ pos C → (pos p -ℤ pos q) *ℤ pos k +ℤ G ≡ pos (p * (k + L)) -ℤ pos (q * k + C)
gain_one p q k L C G e = rw e (simp ring (d_eq _ _ _ _ (omega arith)))

pub gain_cost : (p : ℕ) (bs : List Batch) → gain p bs ≡ pos (p * lots_in bs) -ℤ pos (cost bs)
unfolding gain cost sum_of
gain_cost p [] = let e : p * 0 ≡ 0 = omega arith in rw e
gain_cost p (b ∷ bs) = gain_one p b.price b.lots (lots_in bs) (cost bs) (gain p bs) (gain_cost p bs)

pub gain_first : (p n : ℕ) (bs : List Batch) → n ≤ lots_in bs → gain p (first_lots n bs) ≡ pos (p * n) -ℤ pos (cost (first_lots n bs))
gain_first p n bs few = rw (gain_cost p (first_lots n bs), lots_first n bs few)

-- ---- one side: its open batches are those ever open without the first lots, as many as were closed

pub record OneSide (bs : List Batch) (closed : ℕ) (ever : List Batch) : Type 0 where
  pub left : bs ≡ other_lots closed ever
  pub few : closed ≤ lots_in ever

module _ {bs : List Batch} {n : ℕ} {ever : List Batch} (w : OneSide bs n ever) where
  side_opened : (b : Batch) → OneSide (bs ++ (b ∷ [])) (n + 0) (ever ++ (b ∷ []))
  side_opened b =
      record { left = rw (add-zero n, other_behind n ever (b ∷ []) w.few, w.left); few = omega (arith, lots_append ever (b ∷ []), w.few) }

  side_closed : (k : ℕ) → k ≤ lots_in bs → OneSide (other_lots k bs) (n + k) (ever ++ [])
  side_closed k h =
      record { left = rw (append-nil ever, w.left) (other_other n k ever); few = rw (append-nil ever) (omega (arith, w.few, left_lots)) }
    where
      left_lots : lots_in bs ≡ lots_in ever - n
      left_lots = ap lots_in w.left ∙ lots_other n ever

  side_kept : OneSide bs (n + 0) (ever ++ [])
  side_kept = record { left = rw (add-zero n, append-nil ever) w.left; few = rw (add-zero n, append-nil ever) w.few }

  taken_opened : (b : Batch) → cost (first_lots (n + 0) (ever ++ (b ∷ []))) ≡ cost (first_lots n ever)
  taken_opened b = rw (add-zero n) (first_behind n ever (b ∷ []) w.few)

  taken_closed : (k : ℕ) → cost (first_lots (n + k) (ever ++ [])) ≡ cost (first_lots n ever) + cost (first_lots k bs)
  taken_closed k = rw (append-nil ever, w.left) (sym (first_first n k ever))

  taken_kept : cost (first_lots (n + 0) (ever ++ [])) ≡ cost (first_lots n ever)
  taken_kept = rw (add-zero n, append-nil ever)

-- ---- both sides, and the closing profit: what each side's closes came to, less what the lots they took were opened for

abbrev pub closed_gain : ℕ → ℕ → ℤ
closed_gain value taken = pos value -ℤ pos taken

pub record Sides (d : Day) (valueL closedL : ℕ) (everL : List Batch) (valueS closed_s : ℕ) (everS : List Batch) : Type 0 where
  pub long : OneSide d.long closedL everL
  pub short : OneSide d.short closed_s everS
  pub closing : d.closing ≡ closed_gain valueL (cost (first_lots closedL everL)) -ℤ closed_gain valueS (cost (first_lots closed_s everS))

-- an open leaves the closing profit
closing_kept : (z : ℤ) (v t u s v' t' u' s' : ℕ) → z ≡ closed_gain v t -ℤ closed_gain u s → v' ≡ v + 0 → t' ≡ t → u' ≡ u + 0 → s' ≡ s
    → z ≡ closed_gain v' t' -ℤ closed_gain u' s'
closing_kept z v t u s v' t' u' s' e a b c d = rw (a, b, c, d, add-zero v, add-zero u) e

-- a close of long lots adds to it, one of short lots takes from it
add_long : (v t u s w k : ℕ) → closed_gain v t -ℤ closed_gain u s +ℤ (pos w -ℤ pos k) ≡ closed_gain (v + w) (t + k) -ℤ closed_gain (u + 0) s
add_long v t u s w k = simp ring (d_eq _ _ _ _ (omega arith))

add_short : (v t u s w k : ℕ) → closed_gain v t -ℤ closed_gain u s -ℤ (pos w -ℤ pos k) ≡ closed_gain (v + 0) t -ℤ closed_gain (u + w) (s + k)
add_short v t u s w k = simp ring (d_eq _ _ _ _ (omega arith))

closing_long : (z : ℤ) (v t u s t' u' s' w k : ℕ) → z ≡ closed_gain v t -ℤ closed_gain u s → t' ≡ t + k → u' ≡ u + 0 → s' ≡ s
    → z +ℤ (pos w -ℤ pos k) ≡ closed_gain (v + w) t' -ℤ closed_gain u' s'
closing_long z v t u s t' u' s' w k e a b c = rw (e, a, b, c) (add_long v t u s w k)

closing_short : (z : ℤ) (v t u s v' t' s' w k : ℕ) → z ≡ closed_gain v t -ℤ closed_gain u s → v' ≡ v + 0 → t' ≡ t → s' ≡ s + k
    → z -ℤ (pos w -ℤ pos k) ≡ closed_gain v' t' -ℤ closed_gain (u + w) s'
closing_short z v t u s v' t' s' w k e a b c = rw (e, a, b, c) (add_short v t u s w k)

module _ {d : Day} {vL cL : ℕ} {eL : List Batch} {vS cS : ℕ} {eS : List Batch} where
  after_leg_lem : (l : Leg) → Sides d vL cL eL vS cS eS → Covered d l
      → Sides (after_day_leg d l) (vL + value_if true true l) (cL + lots_if true true l) (eL ++ batch_if false false l)
      (vS + value_if false true l) (cS + lots_if false true l) (eS ++ batch_if true false l)
  unfolding after_day_leg Covered value_if lots_if batch_if
  after_leg_lem (leg false false p n) w h =
      record {
        long = side_opened w.long _;
        short = side_kept w.short;
        closing = closing_kept _ vL _ vS _ _ _ _ _ w.closing refl (taken_opened w.long _) refl (taken_kept w.short);
      }
  after_leg_lem (leg true false p n) w h =
      record {
        long = side_kept w.long;
        short = side_opened w.short _;
        closing = closing_kept _ vL _ vS _ _ _ _ _ w.closing refl (taken_kept w.long) refl (taken_opened w.short _);
      }
  after_leg_lem (leg true true p n) w h =
      record {
        long = side_closed w.long n h;
        short = side_kept w.short;
        closing = rw (gain_first p n d.long h) (closing_long _ vL _ vS _ _ _ _ (p * n) _ w.closing (taken_closed w.long n) refl (taken_kept w.short));
      }
  after_leg_lem (leg false true p n) w h =
      record {
        long = side_kept w.long;
        short = side_closed w.short n h;
        closing = rw (gain_first p n d.short h) (closing_short _ vL _ vS _ _ _ _ (p * n) _ w.closing refl (taken_kept w.long) (taken_closed w.short n));
      }

-- ---- all legs

after_legs_lem : (d : Day) (vL cL : ℕ) (eL : List Batch) (vS cS : ℕ) (eS : List Batch) (ls : List Leg) → Sides d vL cL eL vS cS eS → AllCovered d ls
    → Sides (after_legs d ls) (vL + closed_value false ls) (cL + closed_lots false ls) (eL ++ opened_today false ls)
    (vS + closed_value true ls) (cS + closed_lots true ls) (eS ++ opened_today true ls)
unfolding after_legs AllCovered closed_value closed_lots batches_of sum_of
after_legs_lem d vL cL eL vS cS eS [] w h = simp (add-zero, append-nil) w
after_legs_lem d vL cL eL vS cS eS (l ∷ ls) w h =
    simp (← add_assoc, ← append_assoc) (after_legs_lem (after_day_leg d l) _ _ _ _ _ _ ls (after_leg_lem l w h.0) h.1)

regroup : (a b c e : ℕ) → (pos a -ℤ pos b) -ℤ (pos c -ℤ pos e) ≡ pos (a + e) -ℤ pos (b + c)
regroup a b c e = simp ring (d_eq _ _ _ _ (omega arith))

-- ---- THE DAY, by its two sides

pub record SideIs (reference start : ℕ) (short : Bool) (ls : List Leg) (r : Side) : Type 0 where
  pub closes : r.closes ≡ closed_value short ls
  pub closed : r.closed ≡ cost (first_lots (closed_lots short ls) (ever_open reference start short ls))
  pub lots : r.lots ≡ lots_in (other_lots (closed_lots short ls) (ever_open reference start short ls))
  pub opened : r.opened ≡ cost (other_lots (closed_lots short ls) (ever_open reference start short ls))

module _ (reference long short : ℕ) (ls : List Leg) (h : AllCovered (day_start reference long short) ls) where
  start_side : (n : ℕ) → OneSide (record { price = reference; lots = n } ∷ []) 0 (record { price = reference; lots = n } ∷ [])
  start_side n = record { left = sym (other_none _); few = omega arith }

  start_taken : (n : ℕ) → cost (first_lots 0 (record { price = reference; lots = n } ∷ [])) ≡ 0
  start_taken n = first_none _

  day_start_lem : Sides (day_start reference long short) 0 0 (record { price = reference; lots = long } ∷ []) 0 0 (record { price = reference; lots = short } ∷ [])
  unfolding day_start
  day_start_lem = record { long = start_side long; short = start_side short; closing = rw (start_taken long, start_taken short) }

  pub day_sides : Sides (after_legs (day_start reference long short) ls)
      (closed_value false ls) (closed_lots false ls) (ever_open reference long false ls) (closed_value true ls) (closed_lots true ls) (ever_open reference short true ls)
  day_sides = simp zero-add at (after_legs_lem (day_start reference long short) 0 0 _ 0 0 _ ls day_start_lem h)

  -- with each side's day
  module _ (l s : Side) (p : SideIs reference long false ls l) (q : SideIs reference short true ls s) where
    pub closing_by_sides : (after_legs (day_start reference long short) ls).closing ≡ closing_from l s
    closing_by_sides = day_sides.closing ∙ rw (← p.closes, ← p.closed, ← q.closes, ← q.closed) (regroup l.closes l.closed s.closes s.closed)

    pub holding_by_sides : (price : ℕ) → holding_gain price (after_legs (day_start reference long short) ls)
        ≡ holding_from price l s
    unfolding holding_gain
    holding_by_sides price =
        rw (gain_cost price _, gain_cost price _, day_sides.long.left, day_sides.short.left, ← p.lots, ← p.opened, ← q.lots, ← q.opened)
        (regroup (price * l.lots) l.opened (price * s.lots) s.opened)
