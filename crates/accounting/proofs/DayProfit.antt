-- Article 32 makes and loses nothing: closing and holding profit of a day are what the legs sold for less what they cost, with
-- the net holding at the settlement price at the end and at the reference at the start. Each leg, open or close, moves the
-- value of the day (closing profit so far and the open lots at the settlement price) by its lots times the difference of its
-- price and the settlement price. Assumes nothing.
use lib.IntN.{ℤ, pos, neg_ℤ, ◌+ℤ◌, ◌-ℤ◌, ◌*ℤ◌, +ℤ_assoc, +ℤ_idl, +ℤ_idr}
use Rattle.laws.specs.Logic.{true, false, List, [], ◌∷◌, ◌++◌, ◌≡◌, refl, sym, ◌∙◌}
use Rattle.laws.specs.Numbers.{ℕ, ◌+◌, ◌-◌, ◌*◌, ◌≤◌, min, arith}
use Rattle.laws.specs.Ring.{split, d_eq, d_inj, ring}
use Rattle.laws.specs.Sums.{sum_of, sum_of_append}
use Rattle.rules.specs.Article32.{lots_in}
use Rattle.rules.specs.Settlement.{Leg, leg, Batch, Day, day_start, gain, first_lots, other_lots, with_batch, after_day_leg, after_legs, holding_gain}
use Rattle.accounting.specs.DayLegs.{flow, net, net_open, Covered, AllCovered}

-- ---- the gain of batches

pub gain_append : (p : ℕ) (bs cs : List Batch) → gain p (bs ++ cs) ≡ gain p bs +ℤ gain p cs
unfolding gain
gain_append p [] cs = rw (split (gain p cs)) (simp ring (d_eq _ _ _ _ (omega arith)))
gain_append p (b ∷ bs) cs = rw (gain_append p bs cs) (rw (split (gain p bs), split (gain p cs)) (simp ring (d_eq _ _ _ _ (omega arith))))

pub gain_opened : (s : ℕ) (bs : List Batch) (p n : ℕ) → gain s (with_batch bs p n) ≡ gain s bs +ℤ (pos s -ℤ pos p) *ℤ pos n
unfolding gain
gain_opened s bs p n = gain_append s bs _ ∙ rw (split (gain s bs)) (simp ring (d_eq _ _ _ _ (omega arith)))

-- one batch of k lots at price q, cut into A lots that go at p and B that stay, with C more lots to be cut from the rest
cut : (p s q A B C k n : ℕ) (G H K : ℤ) → A + B ≡ k → A + C ≡ n → G +ℤ H ≡ K +ℤ (pos p -ℤ pos s) *ℤ pos C →
    (pos p -ℤ pos q) *ℤ pos A +ℤ G +ℤ ((pos s -ℤ pos q) *ℤ pos B +ℤ H)
    ≡ (pos s -ℤ pos q) *ℤ pos k +ℤ K +ℤ (pos p -ℤ pos s) *ℤ pos n
cut p s q A B C k n G H K e f ih =
    rw (← e, ← f)
    (rw (split G, split H, split K)
    (simp ring (d_eq _ _ _ _ (omega (arith, d_inj _ _ _ _ (simp ring at (rw (split G, split H, split K) at ih)))))))

-- the first n lots sold at p and the others valued at s are all valued at s, and the difference on n lots
pub gain_cut : (p s n : ℕ) (bs : List Batch) → n ≤ lots_in bs →
    gain p (first_lots n bs) +ℤ gain s (other_lots n bs) ≡ gain s bs +ℤ (pos p -ℤ pos s) *ℤ pos n
unfolding gain first_lots other_lots sum_of
gain_cut p s n [] h = let e : n ≡ 0 = omega arith in rw e (simp ring (d_eq _ _ _ _ (omega arith)))
gain_cut p s n (b ∷ bs) h =
    cut p s b.price (min n b.lots) (b.lots - n) (n - b.lots) b.lots n _ _ _
    (omega arith) (omega arith) (gain_cut p s (n - b.lots) bs (omega arith))

-- ---- the value of a day: closing profit so far, and the open lots at the settlement price

unfoldable pub value_at : ℕ → Day → ℤ
value_at s d = d.closing +ℤ holding_gain s d

-- what a leg adds to it, open or close
unfoldable pub leg_value : ℕ → Leg → ℤ
leg_value s (leg true close p n) = (pos p -ℤ pos s) *ℤ pos n
leg_value s (leg false close p n) = (pos s -ℤ pos p) *ℤ pos n

close_long : (C F R Q O : ℤ) (p s n : ℕ) → F +ℤ R ≡ Q +ℤ (pos p -ℤ pos s) *ℤ pos n → C +ℤ F +ℤ (R -ℤ O) ≡ C +ℤ (Q -ℤ O) +ℤ (pos p -ℤ pos s) *ℤ pos n
close_long C F R Q O p s n e =
    rw (split C, split F, split R, split Q, split O)
    (simp ring (d_eq _ _ _ _ (omega (arith, d_inj _ _ _ _ (simp ring at (rw (split F, split R, split Q) at e))))))

close_short : (C F R Q O : ℤ) (p s n : ℕ) → F +ℤ R ≡ Q +ℤ (pos p -ℤ pos s) *ℤ pos n → C -ℤ F +ℤ (O -ℤ R) ≡ C +ℤ (O -ℤ Q) +ℤ (pos s -ℤ pos p) *ℤ pos n
close_short C F R Q O p s n e =
    rw (split C, split F, split R, split Q, split O)
    (simp ring (d_eq _ _ _ _ (omega (arith, d_inj _ _ _ _ (simp ring at (rw (split F, split R, split Q) at e))))))

leg_value_lem : (s : ℕ) (d : Day) (l : Leg) → Covered d l → value_at s (after_day_leg d l) ≡ value_at s d +ℤ leg_value s l
unfolding value_at holding_gain after_day_leg Covered leg_value
leg_value_lem s d (leg false false p n) c =
    rw (gain_opened s d.long p n, split d.closing, split (gain s d.long), split (gain s d.short))
    (simp ring (d_eq _ _ _ _ (omega arith)))
leg_value_lem s d (leg true false p n) c =
    rw (gain_opened s d.short p n, split d.closing, split (gain s d.long), split (gain s d.short))
    (simp ring (d_eq _ _ _ _ (omega arith)))
leg_value_lem s d (leg true true p n) c =
    close_long d.closing (gain p (first_lots n d.long)) (gain s (other_lots n d.long)) (gain s d.long) (gain s d.short)
    p s n (gain_cut p s n d.long c)
leg_value_lem s d (leg false true p n) c =
    close_short d.closing (gain p (first_lots n d.short)) (gain s (other_lots n d.short)) (gain s d.short) (gain s d.long)
    p s n (gain_cut p s n d.short c)

legs_value : ℕ → List Leg → ℤ
legs_value s [] = pos 0
legs_value s (l ∷ ls) = leg_value s l +ℤ legs_value s ls

legs_value_lem : (s : ℕ) (d : Day) (ls : List Leg) → AllCovered d ls → value_at s (after_legs d ls) ≡ value_at s d +ℤ legs_value s ls
unfolding after_legs AllCovered legs_value
legs_value_lem s d [] c = sym (+ℤ_idr (value_at s d))
legs_value_lem s d (l ∷ ls) c =
    legs_value_lem s (after_day_leg d l) ls c.1 ∙ rw (leg_value_lem s d l c.0) (+ℤ_assoc (value_at s d) (leg_value s l) (legs_value s ls))

legs_value_is : (s : ℕ) (ls : List Leg) → legs_value s ls ≡ flow ls +ℤ pos s *ℤ net ls
unfolding legs_value flow net leg_value
legs_value_is s [] = simp ring (d_eq _ _ _ _ (omega arith))
legs_value_is s (leg true close p n ∷ ls) = rw (legs_value_is s ls) (rw (split (flow ls), split (net ls)) (simp ring (d_eq _ _ _ _ (omega arith))))
legs_value_is s (leg false close p n ∷ ls) = rw (legs_value_is s ls) (rw (split (flow ls), split (net ls)) (simp ring (d_eq _ _ _ _ (omega arith))))

-- THE LAW OF ARTICLE 32
pub day_profit : (ref s long short : ℕ) (ls : List Leg) → AllCovered (day_start ref long short) ls →
    (after_legs (day_start ref long short) ls).closing +ℤ holding_gain s (after_legs (day_start ref long short) ls)
    ≡ flow ls +ℤ pos s *ℤ (pos long -ℤ pos short +ℤ net ls) -ℤ pos ref *ℤ (pos long -ℤ pos short)
unfolding value_at holding_gain day_start gain
day_profit ref s long short ls c = legs_value_lem s (day_start ref long short) ls c ∙ rw (legs_value_is s ls) (at (flow ls) (net ls))
  where
    at : (f n : ℤ) → value_at s (day_start ref long short) +ℤ (f +ℤ pos s *ℤ n)
        ≡ f +ℤ pos s *ℤ (pos long -ℤ pos short +ℤ n) -ℤ pos ref *ℤ (pos long -ℤ pos short)
    at f n = rw (split f, split n) (simp ring (d_eq _ _ _ _ (omega arith)))

-- ---- the lots open on each side

pub lots_opened : (bs : List Batch) (p n : ℕ) → lots_in (with_batch bs p n) ≡ lots_in bs + n
unfolding sum_of
lots_opened bs p n = sum_of_append (λ b. b.lots) bs (record { price = p; lots = n } ∷ []) ∙ omega arith

pub lots_first : (n : ℕ) (bs : List Batch) → n ≤ lots_in bs → lots_in (first_lots n bs) ≡ n
unfolding sum_of first_lots
lots_first n [] h = omega arith
lots_first n (b ∷ bs) h = let e = lots_first (n - b.lots) bs (omega arith) in omega arith

pub lots_other : (n : ℕ) (bs : List Batch) → lots_in (other_lots n bs) ≡ lots_in bs - n
unfolding sum_of other_lots
lots_other n [] = omega arith
lots_other n (b ∷ bs) = let e = lots_other (n - b.lots) bs in omega arith

pub lots_start : (ref long short : ℕ) → (lots_in (day_start ref long short).long ≡ long) × (lots_in (day_start ref long short).short ≡ short)
unfolding sum_of day_start
lots_start ref long short = (omega arith, omega arith)

-- ---- long less short moves by the net of the legs

leg_net : Leg → ℤ
leg_net (leg true close p n) = neg_ℤ (pos n)
leg_net (leg false close p n) = pos n

leg_net_lem : (d : Day) (l : Leg) → Covered d l → net_open (after_day_leg d l) ≡ net_open d +ℤ leg_net l
unfolding net_open after_day_leg Covered leg_net
leg_net_lem d (leg false false p n) c = rw (lots_opened d.long p n) (simp ring (d_eq _ _ _ _ (omega arith)))
leg_net_lem d (leg true false p n) c = rw (lots_opened d.short p n) (simp ring (d_eq _ _ _ _ (omega arith)))
leg_net_lem d (leg true true p n) c = rw (lots_other n d.long) (simp ring (d_eq _ _ _ _ (omega arith)))
leg_net_lem d (leg false true p n) c = rw (lots_other n d.short) (simp ring (d_eq _ _ _ _ (omega arith)))

net_cons : (l : Leg) (ls : List Leg) → net (l ∷ ls) ≡ leg_net l +ℤ net ls
unfolding net leg_net
net_cons (leg true close p n) ls = refl
net_cons (leg false close p n) ls = refl

pub day_net : (d : Day) (ls : List Leg) → AllCovered d ls → net_open (after_legs d ls) ≡ net_open d +ℤ net ls
unfolding after_legs AllCovered net
day_net d [] c = sym (+ℤ_idr (net_open d))
day_net d (l ∷ ls) c = day_net (after_day_leg d l) ls c.1 ∙ rw (leg_net_lem d l c.0, net_cons l ls) (+ℤ_assoc (net_open d) (leg_net l) (net ls))

-- ---- days in two parts

pub after_legs_append : (d : Day) (ls ms : List Leg) → after_legs d (ls ++ ms) ≡ after_legs (after_legs d ls) ms
unfolding after_legs
after_legs_append d [] ms = refl
after_legs_append d (l ∷ ls) ms = after_legs_append (after_day_leg d l) ls ms

pub covered_nil : (d : Day) → AllCovered d []
unfolding AllCovered
covered_nil d = tt

pub covered_append : (d : Day) (ls ms : List Leg) → AllCovered d ls → AllCovered (after_legs d ls) ms → AllCovered d (ls ++ ms)
unfolding AllCovered after_legs
covered_append d [] ms c e = e
covered_append d (l ∷ ls) ms c e = (c.0, covered_append (after_day_leg d l) ls ms c.1 e)

pub flow_append : (ls ms : List Leg) → flow (ls ++ ms) ≡ flow ls +ℤ flow ms
unfolding flow
flow_append [] ms = sym (+ℤ_idl (flow ms))
flow_append (leg true close p n ∷ ls) ms = rw (flow_append ls ms) (sym (+ℤ_assoc (pos (p * n)) (flow ls) (flow ms)))
flow_append (leg false close p n ∷ ls) ms = rw (flow_append ls ms) (sym (+ℤ_assoc (neg_ℤ (pos (p * n))) (flow ls) (flow ms)))

pub net_append : (ls ms : List Leg) → net (ls ++ ms) ≡ net ls +ℤ net ms
unfolding net
net_append [] ms = sym (+ℤ_idl (net ms))
net_append (leg true close p n ∷ ls) ms = rw (net_append ls ms) (sym (+ℤ_assoc (neg_ℤ (pos n)) (net ls) (net ms)))
net_append (leg false close p n ∷ ls) ms = rw (net_append ls ms) (sym (+ℤ_assoc (pos n) (net ls) (net ms)))
