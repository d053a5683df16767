-- THE DAY'S PROFIT IS ARTICLE 32'S FOUR SUMS (rules, specs/Article32). The lots open on a side are its line of lots, those of the start of
-- the day and then the opens, without those that closes took from its front; a close gains on a batch of the line as many lots as the two
-- have in common. Assumes nothing.
use mathlib.Core.Bool.{Bool, true, false, not, ◌&&◌}
use mathlib.Core.List.{List, [], ◌∷◌, ◌++◌, append_assoc, append-nil}
use mathlib.Core.Path.{◌≡◌, refl, sym, ap, ap₂, ◌∙◌}
use Prim.Native.Nat.{ℕ, ◌+◌, ◌-◌, ◌≤◌, min, max}
use native.Mathlib.Nat.{add_assoc, zero-add}
use native.Mathlib.Omega.{arith}
use borrow.Author.Tests.{leb-true, leb-false}
use lib.Dec.{leb}
use lib.IntN.{ℤ, pos, neg_ℤ, ◌+ℤ◌, ◌-ℤ◌, ◌*ℤ◌, +ℤ_assoc, +ℤ_idl, +ℤ_idr}
use lib.ListN.{length}
use Rattle.laws.specs.Choice.{pick}
use Rattle.laws.specs.Ring.{split, d_eq, ring, *ℤ-add}
use Rattle.laws.specs.Sums.{sum_of, sum_to, sum_to_ext, sum_to_add}
use Rattle.rules.specs.Article32.{ByArticle32, Figures, overlap, closed_history, closed_today, figures, figures_of, held_history, held_today, in_all, lots_in, those_that, Σover}
use Rattle.rules.specs.Exchange.{Exchange, listing_at, holding_at}
use Rattle.rules.specs.Settlement.{Leg, leg, legs, Batch, Day, day_start, gain, first_lots, other_lots, with_batch, after_day_leg, after_legs, day_of, holding_gain, settlement_price, closing_profit, holding_profit}
use Rattle.rules.specs.WellFormed.{well_formed_contents}
use Rattle.accounting.specs.DayLegs.{Covered, AllCovered}
use Rattle.accounting.proofs.DayProfit.{lots_opened, lots_other}
use Rattle.accounting.proofs.Facts.{facts}
use Rattle.accounting.proofs.Replay.{day_covered}

-- ---- a line of lots

-- what batches are worth, a lot by its price
worth : (ℕ → ℤ) → List Batch → ℤ
worth value [] = pos 0
worth value (b ∷ bs) = value b.price *ℤ pos b.lots +ℤ worth value bs

gain_worth : (p : ℕ) (bs : List Batch) → gain p bs ≡ worth (λ q. pos p -ℤ pos q) bs
unfolding gain worth
gain_worth p [] = refl
gain_worth p (b ∷ bs) = ap (λ (z : ℤ). (pos p -ℤ pos b.price) *ℤ pos b.lots +ℤ z) (gain_worth p bs)

loss_worth : (p : ℕ) (bs : List Batch) → neg_ℤ (gain p bs) ≡ worth (λ q. pos q -ℤ pos p) bs
unfolding gain worth
loss_worth p [] = refl
loss_worth p (b ∷ bs) = rw (← loss_worth p bs) (rw (split (gain p bs)) (simp ring (d_eq _ _ _ _ (omega arith))))

-- lots taken in two goes, and lots that come behind
other_other : (n k : ℕ) (bs : List Batch) → other_lots k (other_lots n bs) ≡ other_lots (n + k) bs
unfolding other_lots
other_other n k [] = refl
other_other n k (b ∷ bs) =
    let e : b.lots - n - k ≡ b.lots - (n + k) = omega arith in
    let f : k - (b.lots - n) + (n - b.lots) ≡ n + k - b.lots = omega arith in
    ap₂ (λ (l : ℕ) (r : List Batch). record { price = b.price; lots = l } ∷ r) e
    (other_other (n - b.lots) (k - (b.lots - n)) bs ∙ ap (λ (j : ℕ). other_lots j bs) (omega arith))

other_opened : (n : ℕ) (bs : List Batch) (p m : ℕ) → n ≤ lots_in bs → with_batch (other_lots n bs) p m ≡ other_lots n (with_batch bs p m)
unfolding other_lots sum_of
other_opened n [] p m h = let e : m - n ≡ m = omega arith in rw e
other_opened n (b ∷ bs) p m h =
    ap (λ (r : List Batch). record { price = b.price; lots = b.lots - n } ∷ r) (other_opened (n - b.lots) bs p m (omega arith))

min_less : (k b m : ℕ) → min (k - b) m ≡ min (b + m) k - b
min_less k b m = omega arith

min_less_front : (n a k : ℕ) → min n (k - a) ≡ min k (a + n) - a
min_less_front n a k = omega arith

less_front : (n a k : ℕ) → n - (k - a) ≡ a + n - max k a
less_front n a k = omega arith

less_less : (k b m : ℕ) → k - b - m ≡ k - (b + m)
less_less k b m = omega arith

-- m lots from place b on, of which the n lots from place a on are taken
taken : (a n b m : ℕ) (t : Bool) → leb b a ≡ t → min (a + n - max b a) (m - (a - b)) ≡ overlap b m a n
taken a n b m true t =
    let h = leb-true b a t in
    let e : max b a ≡ a = omega arith in
    let u : a + n - a ≡ n = omega arith in
    let z : m - (a - b) ≡ b + m - a = omega arith in
    rw (e, u, z) (min_less_front n a (b + m))
taken a n b m false t =
    let h = leb-false b a t in
    let e : max b a ≡ b = omega arith in
    let z : m - (a - b) ≡ m = omega arith in
    rw (e, z) (min_less (a + n) b m)

left : (a n b m : ℕ) (t : Bool) → leb b a ≡ t → a + n - max b a - (m - (a - b)) ≡ a + n - max (b + m) a
left a n b m true t =
    let h = leb-true b a t in
    let e : max b a ≡ a = omega arith in
    let u : a + n - a ≡ n = omega arith in
    let z : m - (a - b) ≡ b + m - a = omega arith in
    rw (e, u, z) (less_front n a (b + m))
left a n b m false t =
    let h = leb-false b a t in
    let e : max b a ≡ b = omega arith in
    let w : max (b + m) a ≡ b + m = omega arith in
    let z : m - (a - b) ≡ m = omega arith in
    rw (e, w, z) (less_less (a + n) b m)

-- of which the first n lots of the line are taken
front_taken : (n b m : ℕ) → m - (n - b) ≡ m - overlap b m 0 n
front_taken n b m =
    let e : max b 0 ≡ b = omega arith in
    let z : 0 + n ≡ n = omega arith in
    rw (e, z) (omega arith)

-- what the n lots from place a on are worth, of a line whose first place is b
first_overlap : (value : ℕ → ℤ) (a n b : ℕ) (bs : List Batch) →
    worth value (first_lots (a + n - max b a) (other_lots (a - b) bs)) ≡ Σover b bs (λ b q m. value q *ℤ pos (overlap b m a n))
unfolding worth first_lots other_lots Σover
first_overlap value a n b [] = refl
first_overlap value a n b (c ∷ bs) =
    let g : a - b - c.lots ≡ a - (b + c.lots) = omega arith in
    ap₂ (λ (k : ℕ) (z : ℤ). value c.price *ℤ pos k +ℤ z) (taken a n b c.lots (leb b a) refl)
    (ap₂ (λ (j k : ℕ). worth value (first_lots j (other_lots k bs))) (left a n b c.lots (leb b a) refl) g
    ∙ first_overlap value a n (b + c.lots) bs)

-- what is left of a line, the first n lots taken
other_overlap : (value : ℕ → ℤ) (n b : ℕ) (bs : List Batch) →
    worth value (other_lots (n - b) bs) ≡ Σover b bs (λ b q m. value q *ℤ pos (m - overlap b m 0 n))
unfolding worth other_lots Σover
other_overlap value n b [] = refl
other_overlap value n b (c ∷ bs) =
    let g : n - b - c.lots ≡ n - (b + c.lots) = omega arith in
    ap₂ (λ (k : ℕ) (z : ℤ). value c.price *ℤ pos k +ℤ z) (front_taken n b c.lots)
    (ap (λ (k : ℕ). worth value (other_lots k bs)) g ∙ other_overlap value n (b + c.lots) bs)

-- ---- sums over a line

module _ (part : ℕ → ℕ → ℕ → ℤ) where
  Σover_append : (b : ℕ) (bs cs : List Batch) → Σover b (bs ++ cs) part ≡ Σover b bs part +ℤ Σover (b + lots_in bs) cs part
  unfolding Σover sum_of
  Σover_append b [] cs = let e : b + 0 ≡ b = omega arith in rw e (sym (+ℤ_idl (Σover b cs part)))
  Σover_append b (c ∷ bs) cs =
      ap (λ (z : ℤ). part b c.price c.lots +ℤ z)
      (Σover_append (b + c.lots) bs cs
      ∙ ap (λ (k : ℕ). Σover (b + c.lots) bs part +ℤ Σover k cs part) (add_assoc b c.lots (lots_in bs)))
      ∙ sym (+ℤ_assoc (part b c.price c.lots) (Σover (b + c.lots) bs part) (Σover (b + (c.lots + lots_in bs)) cs part))

  Σover_ext : (other : ℕ → ℕ → ℕ → ℤ) → ((b p n : ℕ) → part b p n ≡ other b p n) → (b : ℕ) (bs : List Batch) → Σover b bs part ≡ Σover b bs other
  unfolding Σover
  Σover_ext other same b [] = refl
  Σover_ext other same b (c ∷ bs) = ap₂ (λ (y z : ℤ). y +ℤ z) (same b c.price c.lots) (Σover_ext other same (b + c.lots) bs)

  Σover_add : (other : ℕ → ℕ → ℕ → ℤ) (b : ℕ) (bs : List Batch) →
      Σover b bs (λ b p n. part b p n +ℤ other b p n) ≡ Σover b bs part +ℤ Σover b bs other
  unfolding Σover
  Σover_add other b [] = refl
  Σover_add other b (c ∷ bs) =
      ap (λ (z : ℤ). part b c.price c.lots +ℤ other b c.price c.lots +ℤ z) (Σover_add other (b + c.lots) bs)
      ∙ turn (part b c.price c.lots) (other b c.price c.lots) (Σover (b + c.lots) bs part) (Σover (b + c.lots) bs other)
    where
      turn : (p o y z : ℤ) → p +ℤ o +ℤ (y +ℤ z) ≡ p +ℤ y +ℤ (o +ℤ z)
      turn p o y z = rw (split p, split o, split y, split z) (simp ring (d_eq _ _ _ _ (omega arith)))

-- lots from a place on that a close does not reach
none_in_common : (a n b m : ℕ) → a + n ≤ b → overlap b m a n ≡ 0
none_in_common a n b m h = omega arith

nothing_behind : (value : ℕ → ℤ) (a n b : ℕ) (bs : List Batch) → a + n ≤ b → Σover b bs (λ b q m. value q *ℤ pos (overlap b m a n)) ≡ pos 0
unfolding Σover
nothing_behind value a n b [] h = refl
nothing_behind value a n b (c ∷ bs) h =
    rw (none_in_common a n b c.lots h, nothing_behind value a n (b + c.lots) bs (omega arith)) (times_zero (value c.price))
  where
    times_zero : (v : ℤ) → v *ℤ pos 0 +ℤ pos 0 ≡ pos 0
    times_zero v = rw (split v) (simp ring (d_eq _ _ _ _ (omega arith)))

-- a close of n lots behind `gone` others, against the whole line of the day: what comes behind it plays no part
one_close : (value : ℕ → ℤ) (gone n : ℕ) (line more : List Batch) → gone + n ≤ lots_in line →
    worth value (first_lots n (other_lots gone line)) ≡ Σover 0 (line ++ more) (λ b q m. value q *ℤ pos (overlap b m gone n))
one_close value gone n line more h =
    let e : n ≡ gone + n - max 0 gone = omega arith in
    let g : gone ≡ gone - 0 = omega arith in
    ap₂ (λ (j k : ℕ). worth value (first_lots j (other_lots k line))) e g
    ∙ first_overlap value gone n 0 line
    ∙ sym (+ℤ_idr (Σover 0 line (λ b q m. value q *ℤ pos (overlap b m gone n))))
    ∙ ap (λ (z : ℤ). Σover 0 line (λ b q m. value q *ℤ pos (overlap b m gone n)) +ℤ z)
    (sym (nothing_behind value gone n (0 + lots_in line) more (omega arith)))
    ∙ sym (Σover_append (λ b q m. value q *ℤ pos (overlap b m gone n)) 0 line more)

-- ---- a day from its legs

abbrev bought : List Leg → List Batch
bought ls = those_that (λ sell close. not sell && not close) ls

abbrev sold : List Leg → List Batch
sold ls = those_that (λ sell close. sell && not close) ls

abbrev bought_back : List Leg → List Batch
bought_back ls = those_that (λ sell close. not sell && close) ls

abbrev sold_off : List Leg → List Batch
sold_off ls = those_that (λ sell close. sell && close) ls

-- a long lot gains by a rise, a short one by a fall
abbrev rise : ℕ → ℕ → ℤ
rise to from = pos to -ℤ pos from

abbrev fall : ℕ → ℕ → ℤ
fall to from = pos from -ℤ pos to

-- closes from a place on, each against the lots of a line
closes_on : (ℕ → ℕ → ℤ) → ℕ → List Batch → List Batch → ℤ
closes_on value gone closes line = Σover gone closes (λ a p n. Σover 0 line (λ b q m. value p q *ℤ pos (overlap b m a n)))

-- a side's open lots are its line without those that are gone
record Stands (open' line : List Batch) (gone : ℕ) : Type 0 where
  left_over : open' ≡ other_lots gone line
  covered : gone ≤ lots_in line

opens_behind : {open' line : List Batch} {gone : ℕ} (p n : ℕ) → Stands open' line gone → Stands (with_batch open' p n) (with_batch line p n) gone
opens_behind {open'} {line} {gone} p n s =
    record {
      left_over = ap (λ (bs : List Batch). with_batch bs p n) s.left_over ∙ other_opened gone line p n s.covered;
      covered = omega (arith, lots_opened line p n, s.covered);
    }

closes_front : {open' line : List Batch} {gone : ℕ} (n : ℕ) → n ≤ lots_in open' → Stands open' line gone → Stands (other_lots n open') line (gone + n)
closes_front {open'} {line} {gone} n h s =
    record {
      left_over = ap (other_lots n) s.left_over ∙ other_other gone n line;
      covered = omega (arith, ap lots_in s.left_over, lots_other gone line, s.covered);
    }

-- what a close of a side's lots is worth, by its price
paid : {open' line : List Batch} {gone : ℕ} (value : ℕ → ℤ) (n : ℕ) (more : List Batch) → n ≤ lots_in open' → Stands open' line gone →
    worth value (first_lots n open') ≡ Σover 0 (line ++ more) (λ b q m. value q *ℤ pos (overlap b m gone n))
paid {open'} {line} {gone} value n more h s =
    ap (λ (bs : List Batch). worth value (first_lots n bs)) s.left_over ∙ one_close value gone n line more (closes_front n h s).covered

-- an open that comes is the next of the day's
next_open : (line : List Batch) (p n : ℕ) (more : List Batch) → with_batch line p n ++ more ≡ line ++ (record { price = p; lots = n } ∷ more)
next_open line p n more = append_assoc line (record { price = p; lots = n } ∷ []) more

add_long : (c g l s w : ℤ) → w ≡ g → c +ℤ w +ℤ (l +ℤ s) ≡ c +ℤ (g +ℤ l +ℤ s)
add_long c g l s w e = rw e (rw (split c, split g, split l, split s) (simp ring (d_eq _ _ _ _ (omega arith))))

add_short : (c g l s w : ℤ) → neg_ℤ w ≡ g → c -ℤ w +ℤ (l +ℤ s) ≡ c +ℤ (l +ℤ (g +ℤ s))
add_short c g l s w e = rw (← e) (rw (split c, split w, split l, split s) (simp ring (d_eq _ _ _ _ (omega arith))))

-- the closing part of the rest of a day
closing_sums : (d : Day) (ls : List Leg) → AllCovered d ls → {long short : List Batch} {goneLong goneShort : ℕ} →
    Stands d.long long goneLong → Stands d.short short goneShort →
    (after_legs d ls).closing
    ≡ d.closing +ℤ (closes_on rise goneLong (sold_off ls) (long ++ bought ls) +ℤ closes_on fall goneShort (bought_back ls) (short ++ sold ls))
unfolding after_legs AllCovered Covered after_day_leg those_that closes_on Σover
closing_sums d [] c sl ss = sym (+ℤ_idr d.closing)
closing_sums d (leg false false p n ∷ ls) c {long} {short} {goneLong} {goneShort} sl ss =
    closing_sums (after_day_leg d (leg false false p n)) ls c.1 (opens_behind p n sl) ss
    ∙ ap (λ (line : List Batch). d.closing +ℤ (closes_on rise goneLong (sold_off ls) line +ℤ closes_on fall goneShort (bought_back ls) (short ++ sold ls)))
    (next_open long p n (bought ls))
closing_sums d (leg true false p n ∷ ls) c {long} {short} {goneLong} {goneShort} sl ss =
    closing_sums (after_day_leg d (leg true false p n)) ls c.1 sl (opens_behind p n ss)
    ∙ ap (λ (line : List Batch). d.closing +ℤ (closes_on rise goneLong (sold_off ls) (long ++ bought ls) +ℤ closes_on fall goneShort (bought_back ls) line))
    (next_open short p n (sold ls))
closing_sums d (leg true true p n ∷ ls) c {long} {short} {goneLong} {goneShort} sl ss =
    closing_sums (after_day_leg d (leg true true p n)) ls c.1 (closes_front n c.0 sl) ss
    ∙ add_long d.closing _ (closes_on rise (goneLong + n) (sold_off ls) (long ++ bought ls)) (closes_on fall goneShort (bought_back ls) (short ++ sold ls))
    (gain p (first_lots n d.long)) (gain_worth p (first_lots n d.long) ∙ paid (rise p) n (bought ls) c.0 sl)
closing_sums d (leg false true p n ∷ ls) c {long} {short} {goneLong} {goneShort} sl ss =
    closing_sums (after_day_leg d (leg false true p n)) ls c.1 sl (closes_front n c.0 ss)
    ∙ add_short d.closing _ (closes_on rise goneLong (sold_off ls) (long ++ bought ls)) (closes_on fall (goneShort + n) (bought_back ls) (short ++ sold ls))
    (gain p (first_lots n d.short)) (loss_worth p (first_lots n d.short) ∙ paid (fall p) n (sold ls) c.0 ss)

-- a side's lots from here to the end of the day: at it, with an open, with a close
at_end : {open' line : List Batch} {gone : ℕ} → Stands open' line gone → open' ≡ other_lots (gone + 0) (line ++ [])
at_end {open'} {line} {gone} s =
    let e : gone + 0 ≡ gone = omega arith in
    s.left_over ∙ ap₂ (λ (k : ℕ) (l : List Batch). other_lots k l) (sym e) (sym (append-nil line))

with_open : (open' line more : List Batch) (gone p n : ℕ) → open' ≡ other_lots gone (with_batch line p n ++ more) →
    open' ≡ other_lots gone (line ++ (record { price = p; lots = n } ∷ more))
with_open open' line more gone p n e = e ∙ ap (other_lots gone) (next_open line p n more)

with_close : (open' line : List Batch) (gone n k : ℕ) → open' ≡ other_lots (gone + n + k) line → open' ≡ other_lots (gone + (n + k)) line
with_close open' line gone n k e = e ∙ ap (λ (j : ℕ). other_lots j line) (add_assoc gone n k)

-- the lots of a side at its end
abbrev open_on : Bool → Day → List Batch
open_on short d = pick short d.short d.long

abbrev opens_on : Bool → List Leg → List Batch
opens_on short ls = pick short (sold ls) (bought ls)

abbrev closes_of : Bool → List Leg → List Batch
closes_of short ls = pick short (bought_back ls) (sold_off ls)

left_open : (short : Bool) (d : Day) (ls : List Leg) → AllCovered d ls → {line : List Batch} {gone : ℕ} → Stands (open_on short d) line gone →
    open_on short (after_legs d ls) ≡ other_lots (gone + lots_in (closes_of short ls)) (line ++ opens_on short ls)
unfolding after_legs AllCovered Covered after_day_leg those_that sum_of
left_open true d [] c s = at_end s
left_open false d [] c s = at_end s
left_open true d (leg true false p n ∷ ls) c {line} s =
    with_open _ line (sold ls) _ p n (left_open true (after_day_leg d (leg true false p n)) ls c.1 (opens_behind p n s))
left_open true d (leg false true p n ∷ ls) c s =
    with_close _ _ _ n _ (left_open true (after_day_leg d (leg false true p n)) ls c.1 (closes_front n c.0 s))
left_open true d (leg false false p n ∷ ls) c s = left_open true (after_day_leg d (leg false false p n)) ls c.1 s
left_open true d (leg true true p n ∷ ls) c s = left_open true (after_day_leg d (leg true true p n)) ls c.1 s
left_open false d (leg false false p n ∷ ls) c {line} s =
    with_open _ line (bought ls) _ p n (left_open false (after_day_leg d (leg false false p n)) ls c.1 (opens_behind p n s))
left_open false d (leg true true p n ∷ ls) c s =
    with_close _ _ _ n _ (left_open false (after_day_leg d (leg true true p n)) ls c.1 (closes_front n c.0 s))
left_open false d (leg true false p n ∷ ls) c s = left_open false (after_day_leg d (leg true false p n)) ls c.1 s
left_open false d (leg false true p n ∷ ls) c s = left_open false (after_day_leg d (leg false true p n)) ls c.1 s

-- ---- a whole day: the lots of the start stand in front

-- n lots at one price, none of them gone
starts : (reference n : ℕ) → Stands (record { price = reference; lots = n } ∷ []) (record { price = reference; lots = n } ∷ []) 0
unfolding other_lots
starts reference n =
    let e : n ≡ n - 0 = omega arith in
    record { left_over = ap (λ (k : ℕ). record { price = reference; lots = k } ∷ []) e; covered = omega arith }

-- a sum over the line is the part of the lots of the start and the sum over today's
front_and_today : (part : ℕ → ℕ → ℕ → ℤ) (reference held : ℕ) (opens : List Batch) →
    Σover 0 (record { price = reference; lots = held } ∷ opens) part ≡ part 0 reference held +ℤ Σover held opens part
unfolding Σover
front_and_today part reference held opens = rw (zero-add held) refl

-- a side's closes, against the lots of the start and against today's
closes_split : (value : ℕ → ℕ → ℤ) (reference held : ℕ) (closes opens : List Batch) →
    closes_on value 0 closes (record { price = reference; lots = held } ∷ opens)
    ≡ Σover 0 closes (λ a p n. value p reference *ℤ pos (overlap 0 held a n))
    +ℤ Σover 0 closes (λ a p n. Σover held opens (λ b q m. value p q *ℤ pos (overlap b m a n)))
unfolding closes_on
closes_split value reference held closes opens =
    Σover_ext _ (λ a p n. value p reference *ℤ pos (overlap 0 held a n) +ℤ Σover held opens (λ b q m. value p q *ℤ pos (overlap b m a n)))
    (λ a p n. front_and_today (λ b q m. value p q *ℤ pos (overlap b m a n)) reference held opens) 0 closes
    ∙ Σover_add (λ a p n. value p reference *ℤ pos (overlap 0 held a n)) (λ a p n. Σover held opens (λ b q m. value p q *ℤ pos (overlap b m a n))) 0 closes

-- a side's lots left, at a price
left_split : (value : ℕ → ℤ) (reference held gone : ℕ) (opens : List Batch) →
    worth value (other_lots gone (record { price = reference; lots = held } ∷ opens))
    ≡ value reference *ℤ pos (held - overlap 0 held 0 gone) +ℤ Σover held opens (λ b q m. value q *ℤ pos (m - overlap b m 0 gone))
left_split value reference held gone opens =
    let e : gone ≡ gone - 0 = omega arith in
    ap (λ (k : ℕ). worth value (other_lots k (record { price = reference; lots = held } ∷ opens))) e
    ∙ other_overlap value gone 0 (record { price = reference; lots = held } ∷ opens)
    ∙ front_and_today (λ b q m. value q *ℤ pos (m - overlap b m 0 gone)) reference held opens

-- four parts, by side and by age
long_first : (hl tl hs ts : ℤ) → pos 0 +ℤ (hl +ℤ tl +ℤ (hs +ℤ ts)) ≡ hl +ℤ hs +ℤ (tl +ℤ ts)
long_first hl tl hs ts = rw (split hl, split tl, split hs, split ts) (simp ring (d_eq _ _ _ _ (omega arith)))

short_first : (l h hl tl hs ts : ℤ) → l ≡ hl +ℤ tl → neg_ℤ h ≡ hs +ℤ ts → l -ℤ h ≡ hs +ℤ hl +ℤ (ts +ℤ tl)
short_first l h hl tl hs ts e f =
    rw (as_sum l h, e, f) (rw (split hl, split tl, split hs, split ts) (simp ring (d_eq _ _ _ _ (omega arith))))
  where
    as_sum : (l h : ℤ) → l -ℤ h ≡ l +ℤ neg_ℤ h
    as_sum l h = rw (split l, split h) (simp ring (d_eq _ _ _ _ (omega arith)))

-- a side: its closes, its lots left
module _ (reference held : ℕ) (closes opens : List Batch) where
  old_closed : (ℕ → ℕ → ℤ) → ℤ
  old_closed value = Σover 0 closes (λ a p n. value p reference *ℤ pos (overlap 0 held a n))

  new_closed : (ℕ → ℕ → ℤ) → ℤ
  new_closed value = Σover 0 closes (λ a p n. Σover held opens (λ b q m. value p q *ℤ pos (overlap b m a n)))

  old_left : (ℕ → ℤ) → ℤ
  old_left value = value reference *ℤ pos (held - overlap 0 held 0 (lots_in closes))

  new_left : (ℕ → ℤ) → ℤ
  new_left value = Σover held opens (λ b q m. value q *ℤ pos (m - overlap b m 0 (lots_in closes)))

module _ (reference s long short : ℕ) (ls : List Leg) (c : AllCovered (day_start reference long short) ls) where
  day_closing_lem :
      (after_legs (day_start reference long short) ls).closing
      ≡ closed_history (figures reference s long short ls) +ℤ closed_today (figures reference s long short ls)
  unfolding closed_history closed_today figures day_start old_closed new_closed
  day_closing_lem =
      closing_sums (day_start reference long short) ls c (starts reference long) (starts reference short)
      ∙ ap₂ (λ (l h : ℤ). pos 0 +ℤ (l +ℤ h)) (closes_split rise reference long (sold_off ls) (bought ls))
      (closes_split fall reference short (bought_back ls) (sold ls))
      ∙ long_first (old_closed reference long (sold_off ls) (bought ls) rise) (new_closed reference long (sold_off ls) (bought ls) rise)
      (old_closed reference short (bought_back ls) (sold ls) fall) (new_closed reference short (bought_back ls) (sold ls) fall)

  -- a side's lots left, the lots of its start and today's
  left_at : (side : Bool) (value : ℕ → ℤ) (held : ℕ) →
      Stands (open_on side (day_start reference long short)) (record { price = reference; lots = held } ∷ []) 0 →
      worth value (open_on side (after_legs (day_start reference long short) ls))
      ≡ old_left reference held (closes_of side ls) (opens_on side ls) value +ℤ new_left reference held (closes_of side ls) (opens_on side ls) value
  unfolding old_left new_left
  left_at side value held stands =
      ap (worth value)
      (left_open side (day_start reference long short) ls c stands
      ∙ ap (λ (k : ℕ). other_lots k (record { price = reference; lots = held } ∷ opens_on side ls)) (zero-add (lots_in (closes_of side ls))))
      ∙ left_split value reference held (lots_in (closes_of side ls)) (opens_on side ls)

  day_holding_lem :
      holding_gain s (after_legs (day_start reference long short) ls)
      ≡ held_history (figures reference s long short ls) +ℤ held_today (figures reference s long short ls)
  unfolding held_history held_today figures day_start holding_gain old_left new_left
  day_holding_lem =
      short_first (gain s (after_legs (day_start reference long short) ls).long) (gain s (after_legs (day_start reference long short) ls).short)
      (old_left reference long (sold_off ls) (bought ls) (rise s)) (new_left reference long (sold_off ls) (bought ls) (rise s))
      (old_left reference short (bought_back ls) (sold ls) (fall s)) (new_left reference short (bought_back ls) (sold ls) (fall s))
      (gain_worth s (after_legs (day_start reference long short) ls).long ∙ left_at false (rise s) long (starts reference long))
      (loss_worth s (after_legs (day_start reference long short) ls).short ∙ left_at true (fall s) short (starts reference short))

-- ---- an account of a well-formed state

module _ (x : Exchange) (w : well_formed_contents x ≡ true) (a : ℕ) where
  contract_closing : (c : ℕ) → (day_of x a c).closing ≡ closed_history (figures_of x a c) +ℤ closed_today (figures_of x a c)
  unfolding day_of figures_of
  contract_closing c =
      day_closing_lem (listing_at x c).contract.reference (settlement_price x c) (holding_at x.accounts a c).startlong (holding_at x.accounts a c).startshort
      (legs a c x.trades) (day_covered x (facts x w).replay a c)

  contract_holding : (c : ℕ) → holding_gain (settlement_price x c) (day_of x a c) ≡ held_history (figures_of x a c) +ℤ held_today (figures_of x a c)
  unfolding day_of figures_of
  contract_holding c =
      day_holding_lem (listing_at x c).contract.reference (settlement_price x c) (holding_at x.accounts a c).startlong (holding_at x.accounts a c).startshort
      (legs a c x.trades) (day_covered x (facts x w).replay a c)

  -- over all contracts, each times its multiplier
  over_contracts : (profit : ℕ → ℤ) (history today : Figures → ℤ) → ((c : ℕ) → profit c ≡ history (figures_of x a c) +ℤ today (figures_of x a c)) →
      sum_to (length x.listings) (λ c. pos (listing_at x c).contract.multiplier *ℤ profit c) ≡ in_all history x a +ℤ in_all today x a
  over_contracts profit history today same =
      sum_to_ext (length x.listings) _
      (λ c. pos (listing_at x c).contract.multiplier *ℤ history (figures_of x a c) +ℤ pos (listing_at x c).contract.multiplier *ℤ today (figures_of x a c))
      (λ c h.
      ap (λ (z : ℤ). pos (listing_at x c).contract.multiplier *ℤ z) (same c)
      ∙ *ℤ-add (pos (listing_at x c).contract.multiplier) (history (figures_of x a c)) (today (figures_of x a c)))
      ∙ sum_to_add (length x.listings) (λ c. pos (listing_at x c).contract.multiplier *ℤ history (figures_of x a c))
      (λ c. pos (listing_at x c).contract.multiplier *ℤ today (figures_of x a c))

  -- CLOSING PROFIT AND HOLDING PROFIT ARE ARTICLE 32'S, two sums each
  pub by_article_32 : ByArticle32 x a
  unfolding closing_profit holding_profit
  by_article_32 =
      record {
        closing = over_contracts (λ c. (day_of x a c).closing) closed_history closed_today contract_closing;
        holding = over_contracts (λ c. holding_gain (settlement_price x c) (day_of x a c)) held_history held_today contract_holding;
      }
