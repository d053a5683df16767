-- Document 01's rule is one of the pairings of ticket 12, so there is always one: each closed lot with the open lot at its own
-- place, as open lots stand by the time at which they came. In a well-formed state that lot came before the close, and the
-- closing and holding parts are the rule's. Assumes nothing.
use lib.IntN.{ℤ, pos, neg_ℤ, ◌+ℤ◌, ◌-ℤ◌, ◌*ℤ◌, +ℤ_assoc, +ℤ_idl, +ℤ_idr}
use Rattle.laws.specs.Logic.{Bool, true, false, List, [], ◌∷◌, ◌++◌, append-nil, append_assoc, ◌≡◌, refl, sym, ap, ap₂, ◌∙◌}
use Rattle.laws.specs.Numbers.{ℕ, zero, suc, ◌+◌, ◌-◌, ◌<◌, ◌≤◌, min, le_of_suc-le-suc, not-suc-le-zero, arith, leb-true, leb-false, leb, length, get_or, drop}
use Rattle.laws.specs.Numbers.{replicate, length-append, length-drop, length-replicate}
use Rattle.laws.specs.Choice.{pick}
use Rattle.laws.specs.Ring.{split, d_eq, d_inj, ring}
use Rattle.laws.specs.Sums.{sum_of, sum_to, sum_to_first}
use Rattle.rules.specs.Article32.{lots_in}
use Rattle.rules.specs.Exchange.{Exchange, listing_at, holding_at}
use Rattle.rules.specs.Settlement.{Leg, leg, legs, Batch, Day, day_start, gain, first_lots, other_lots, with_batch, after_day_leg, after_legs, day_of, holding_gain, settlement_price}
use Rattle.rules.specs.WellFormed.{well_formed_contents}
use Rattle.accounting.specs.DayLegs.{Covered, AllCovered}
use Rattle.accounting.specs.Pairing.{Side, long, short, opens, closes, Lot, no_lot, lots_of_legs, open_lots, closed_lots, Pairing, gained, closing_by, in_order, held_at_start, open_of, closed_of, PairsDay, day_closing, day_holding}
use Rattle.accounting.proofs.AnyPairing.{any_pairing}
use Rattle.accounting.proofs.DayProfit.{lots_opened, lots_other, lots_start}
use Rattle.accounting.proofs.Facts.{facts}
use Rattle.accounting.proofs.Replay.{day_covered}

-- ---- lots that came before others, place by place

Before : List Lot → List Lot → Type 0
Before os [] = Unit {0}
Before [] (c ∷ cs) = ⊥
Before (o ∷ os) (c ∷ cs) = (o.time < c.time) × Before os cs

before_length : (os cs : List Lot) → Before os cs → length cs ≤ length os
unfolding Before
before_length os [] b = omega arith
before_length [] (c ∷ cs) b = absurd b
before_length (o ∷ os) (c ∷ cs) b = let h = before_length os cs b.1 in omega arith

before_at : (os cs : List Lot) → Before os cs → (i : ℕ) → i < length cs → (get_or os i no_lot).time < (get_or cs i no_lot).time
unfolding Before
before_at os [] b i h = absurd (not-suc-le-zero h)
before_at [] (c ∷ cs) b i h = absurd b
before_at (o ∷ os) (c ∷ cs) b zero h = b.0
before_at (o ∷ os) (c ∷ cs) b (suc i) h = before_at os cs b.1 i (le_of_suc-le-suc h)

before_pairing : (os cs : List Lot) → Before os cs → Pairing os cs (λ i. i)
before_pairing os cs b =
    record { among = λ i h. let l = before_length os cs b in omega arith; earlier = before_at os cs b; once = λ i j h k e. omega arith }

-- ---- a side's replay: each leg closes no more lots than are open

Runs : Side → ℕ → List Leg → Type 0
Runs side k [] = Unit {0}
Runs side k (leg sell close p n ∷ ls) =
    (pick (closes side (leg sell close p n)) n 0 ≤ k)
    × Runs side (k - pick (closes side (leg sell close p n)) n 0 + pick (opens side (leg sell close p n)) n 0) ls

open_now : Side → Day → ℕ
open_now long d = lots_in d.long
open_now short d = lots_in d.short

runs_leg : (side : Side) (d : Day) (sell close : Bool) (p n : ℕ) → Covered d (leg sell close p n) →
    (pick (closes side (leg sell close p n)) n 0 ≤ open_now side d)
    × (open_now side (after_day_leg d (leg sell close p n))
    ≡ open_now side d - pick (closes side (leg sell close p n)) n 0 + pick (opens side (leg sell close p n)) n 0)
unfolding open_now Covered after_day_leg opens closes
runs_leg long d false false p n c = (omega arith, omega (arith, lots_opened d.long p n))
runs_leg long d true false p n c = (omega arith, omega arith)
runs_leg long d true true p n c = (c, omega (arith, lots_other n d.long))
runs_leg long d false true p n c = (omega arith, omega arith)
runs_leg short d false false p n c = (omega arith, omega arith)
runs_leg short d true false p n c = (omega arith, omega (arith, lots_opened d.short p n))
runs_leg short d true true p n c = (omega arith, omega arith)
runs_leg short d false true p n c = (c, omega (arith, lots_other n d.short))

runs : (side : Side) (d : Day) (ls : List Leg) → AllCovered d ls → Runs side (open_now side d) ls
unfolding Runs AllCovered
runs side d [] c = tt
runs side d (leg sell close p n ∷ ls) c =
    let r = runs_leg side d sell close p n c.0 in
    (r.0, rw r.1 at (runs side (after_day_leg d (leg sell close p n)) ls c.1))

-- ---- lots in the order of time: those open at time t, and those of the legs from t on

Older : ℕ → List Lot → Type 0
Older t [] = Unit {0}
Older t (l ∷ ls) = (l.time < t) × Older t ls

older_drop : (t n : ℕ) (ls : List Lot) → Older t ls → Older t (drop n ls)
unfolding Older
older_drop t zero ls o = o
older_drop t (suc n) [] o = tt
older_drop t (suc n) (l ∷ ls) o = older_drop t n ls o.1

-- at the next time, those that come now among them
older_next : (t n p : ℕ) (ls : List Lot) → Older t ls → Older (suc t) (ls ++ replicate n (record { price = p; time = t }))
unfolding Older
older_next t zero p [] o = tt
older_next t (suc n) p [] o = (omega arith, older_next t n p [] tt)
older_next t n p (l ∷ ls) o = (let h = o.0 in omega arith, older_next t n p ls o.1)

-- n lots closed now are the first n
close_first : (t p n : ℕ) (q os cs : List Lot) → n ≤ length q → Older t q → Before (drop n q ++ os) cs →
    Before (q ++ os) (replicate n (record { price = p; time = t }) ++ cs)
unfolding Before Older
close_first t p zero q os cs h o b = b
close_first t p (suc n) [] os cs h o b = absurd (not-suc-le-zero h)
close_first t p (suc n) (l ∷ q) os cs h o b = (o.0, close_first t p n q os cs (le_of_suc-le-suc h) o.1 b)

in_order_lem : (side : Side) (ls : List Leg) (t : ℕ) (q : List Lot) → Older t q → Runs side (length q) ls →
    Before (q ++ lots_of_legs (opens side) t ls) (lots_of_legs (closes side) t ls)
unfolding lots_of_legs Runs Before
in_order_lem side [] t q o r = tt
in_order_lem side (leg sell close p n ∷ ls) t q o r =
    close_first t p closed q (replicate came now ++ lots_of_legs (opens side) (suc t) ls) _ r.0 o
    (rw (← append_assoc (drop closed q) (replicate came now) (lots_of_legs (opens side) (suc t) ls))
    (in_order_lem side ls (suc t) (drop closed q ++ replicate came now) (older_next t came p (drop closed q) (older_drop t closed q o))
    (rw (length-append (drop closed q) (replicate came now), length-drop closed q, length-replicate came now) r.1)))
  where
    closed : ℕ
    closed = pick (closes side (leg sell close p n)) n 0

    came : ℕ
    came = pick (opens side (leg sell close p n)) n 0

    now : Lot
    now = record { price = p; time = t }

-- those held at the start came at time 0
older_start : (n p : ℕ) → Older 1 (replicate n (record { price = p; time = 0 }))
unfolding Older
older_start zero p = tt
older_start (suc n) p = (omega arith, older_start n p)

in_order_day : (side : Side) (reference heldLong heldShort held : ℕ) (ls : List Leg) → open_now side (day_start reference heldLong heldShort) ≡ held →
    AllCovered (day_start reference heldLong heldShort) ls → Before (open_lots side reference held ls) (closed_lots side ls)
unfolding open_lots closed_lots
in_order_day side reference heldLong heldShort held ls e c =
    in_order_lem side ls 1 (replicate held (record { price = reference; time = 0 })) (older_start held reference)
    (rw length-replicate (rw e at (runs side (day_start reference heldLong heldShort) ls c)))

-- ---- the closing part, from the prices alone

prices : List Lot → List ℕ
prices [] = []
prices (l ∷ ls) = l.price ∷ prices ls

prices_replicate : (n : ℕ) (l : Lot) (ls : List Lot) → prices (replicate n l ++ ls) ≡ replicate n l.price ++ prices ls
unfolding prices
prices_replicate zero l ls = refl
prices_replicate (suc n) l ls = ap (λ (ps : List ℕ). l.price ∷ ps) (prices_replicate n l ls)

prices_of : (Leg → Bool) → List Leg → List ℕ
prices_of test [] = []
prices_of test (leg sell close p n ∷ ls) = replicate (pick (test (leg sell close p n)) n 0) p ++ prices_of test ls

prices_legs : (test : Leg → Bool) (t : ℕ) (ls : List Leg) → prices (lots_of_legs test t ls) ≡ prices_of test ls
unfolding prices prices_of lots_of_legs
prices_legs test t [] = refl
prices_legs test t (leg sell close p n ∷ ls) =
    prices_replicate (pick (test (leg sell close p n)) n 0) (record { price = p; time = t }) (lots_of_legs test (suc t) ls)
    ∙ ap (λ (ps : List ℕ). replicate (pick (test (leg sell close p n)) n 0) p ++ ps) (prices_legs test (suc t) ls)

-- open prices and closing prices, place by place
gains : Side → List ℕ → List ℕ → ℤ
gains side os [] = pos 0
gains side [] (c ∷ cs) = pos 0
gains side (o ∷ os) (c ∷ cs) = gained side o c +ℤ gains side os cs

closing_gains : (side : Side) (os cs : List Lot) → Before os cs → closing_by side os cs (λ i. i) ≡ gains side (prices os) (prices cs)
unfolding Before closing_by prices gains sum_to
closing_gains side os [] b = refl
closing_gains side [] (c ∷ cs) b = absurd b
closing_gains side (o ∷ os) (c ∷ cs) b =
    sum_to_first (length cs) (λ i. gained side (get_or (o ∷ os) i no_lot).price (get_or (c ∷ cs) i no_lot).price)
    ∙ ap (λ (z : ℤ). gained side o.price c.price +ℤ z) (closing_gains side os cs b.1)

-- ---- the rule's batches lot by lot

singly : List Batch → List ℕ
singly [] = []
singly (b ∷ bs) = replicate b.lots b.price ++ singly bs

singly_opened : (bs : List Batch) (p n : ℕ) (ps : List ℕ) → singly (with_batch bs p n) ++ ps ≡ singly bs ++ (replicate n p ++ ps)
unfolding singly
singly_opened [] p n ps = ap (λ (os : List ℕ). os ++ ps) (append-nil (replicate n p))
singly_opened (b ∷ bs) p n ps =
    append_assoc (replicate b.lots b.price) (singly (with_batch bs p n)) ps
    ∙ ap (λ (os : List ℕ). replicate b.lots b.price ++ os) (singly_opened bs p n ps)
    ∙ sym (append_assoc (replicate b.lots b.price) (singly bs) (replicate n p ++ ps))

-- what batches gain when they are closed at p
close_gain : Side → ℕ → List Batch → ℤ
close_gain side p [] = pos 0
close_gain side p (b ∷ bs) = gained side b.price p *ℤ pos b.lots +ℤ close_gain side p bs

close_gain_long : (p : ℕ) (bs : List Batch) → gain p bs ≡ close_gain long p bs
unfolding gain close_gain gained
close_gain_long p [] = refl
close_gain_long p (b ∷ bs) = ap (λ (z : ℤ). (pos p -ℤ pos b.price) *ℤ pos b.lots +ℤ z) (close_gain_long p bs)

close_gain_short : (p : ℕ) (bs : List Batch) → neg_ℤ (gain p bs) ≡ close_gain short p bs
unfolding gain close_gain gained
close_gain_short p [] = refl
close_gain_short p (b ∷ bs) = rw (← close_gain_short p bs) (rw (split (gain p bs)) (simp ring (d_eq _ _ _ _ (omega arith))))

nothing : (g z : ℤ) → g *ℤ pos 0 +ℤ z ≡ z
nothing g z = rw (split g, split z) (simp ring (d_eq _ _ _ _ (omega arith)))

one : (g : ℤ) (k : ℕ) (z : ℤ) → g +ℤ (g *ℤ pos k +ℤ z) ≡ g *ℤ pos (suc k) +ℤ z
one g k z = rw (split g, split z) (simp ring (d_eq _ _ _ _ (omega arith)))

module _ (side : Side) (p : ℕ) where
  -- k lots at one price, of which n are closed, or as many as there are
  gains_batch : (k n q : ℕ) (os cs : List ℕ) → gains side (replicate k q ++ os) (replicate n p ++ cs)
      ≡ gained side q p *ℤ pos (min n k) +ℤ gains side (replicate (k - n) q ++ os) (replicate (n - k) p ++ cs)
  unfolding gains
  gains_batch zero n q os cs =
      let e : min n 0 ≡ 0 = omega arith in
      let u : 0 - n ≡ 0 = omega arith in
      let v : n - 0 ≡ n = omega arith in
      rw (e, u, v) (sym (nothing (gained side q p) (gains side os (replicate n p ++ cs))))
  gains_batch (suc k) zero q os cs =
      let e : min 0 (suc k) ≡ 0 = omega arith in
      let u : suc k - 0 ≡ suc k = omega arith in
      let v : 0 - suc k ≡ 0 = omega arith in
      rw (e, u, v) (sym (nothing (gained side q p) (gains side (q ∷ (replicate k q ++ os)) cs)))
  gains_batch (suc k) (suc n) q os cs =
      let e : min (suc n) (suc k) ≡ suc (min n k) = omega arith in
      let u : suc k - suc n ≡ k - n = omega arith in
      let v : suc n - suc k ≡ n - k = omega arith in
      rw (e, u, v, gains_batch k n q os cs)
      (one (gained side q p) (min n k) (gains side (replicate (k - n) q ++ os) (replicate (n - k) p ++ cs)))

  -- no lots
  none_first : (bs : List Batch) → close_gain side p (first_lots 0 bs) ≡ pos 0
  unfolding close_gain first_lots
  none_first [] = refl
  none_first (b ∷ bs) =
      let e : min 0 b.lots ≡ 0 = omega arith in
      let u : 0 - b.lots ≡ 0 = omega arith in
      rw (e, u, none_first bs) (nothing (gained side b.price p) (pos 0))

  none_other : (bs : List Batch) → other_lots 0 bs ≡ bs
  unfolding other_lots
  none_other [] = refl
  none_other (b ∷ bs) =
      let e : b.lots - 0 ≡ b.lots = omega arith in
      let u : 0 - b.lots ≡ 0 = omega arith in
      rw (e, u, none_other bs)

  gains_close : (n : ℕ) (bs : List Batch) (os cs : List ℕ) → n ≤ lots_in bs → gains side (singly bs ++ os) (replicate n p ++ cs)
      ≡ close_gain side p (first_lots n bs) +ℤ gains side (singly (other_lots n bs) ++ os) cs
  unfolding singly close_gain first_lots other_lots sum_of
  gains_close n [] os cs h = let e : n ≡ 0 = omega arith in rw e (sym (+ℤ_idl (gains side os cs)))
  gains_close n (b ∷ bs) os cs h =
      ap (λ (l : List ℕ). gains side l (replicate n p ++ cs)) (append_assoc (replicate b.lots b.price) (singly bs) os)
      ∙ gains_batch b.lots n b.price (singly bs ++ os) cs
      ∙ by_first_batch (leb n b.lots) refl (gains_close (n - b.lots) bs os cs (omega arith))
    where
      g : ℤ
      g = gained side b.price p *ℤ pos (min n b.lots)

      left : List Batch
      left = other_lots (n - b.lots) bs

      by_first_batch : (t : Bool) → leb n b.lots ≡ t → gains side (singly bs ++ os) (replicate (n - b.lots) p ++ cs)
          ≡ close_gain side p (first_lots (n - b.lots) bs) +ℤ gains side (singly left ++ os) cs →
          g +ℤ gains side (replicate (b.lots - n) b.price ++ (singly bs ++ os)) (replicate (n - b.lots) p ++ cs)
          ≡ g +ℤ close_gain side p (first_lots (n - b.lots) bs) +ℤ gains side (replicate (b.lots - n) b.price ++ singly left ++ os) cs
      by_first_batch true t ih =
          let e : n - b.lots ≡ 0 = omega (arith, leb-true n b.lots t) in
          rw (e, none_first bs, none_other bs, append_assoc (replicate (b.lots - n) b.price) (singly bs) os, +ℤ_idr g)
      by_first_batch false t ih =
          let e : b.lots - n ≡ 0 = omega (arith, leb-false n b.lots t) in
          rw (e, ih) (sym (+ℤ_assoc g (close_gain side p (first_lots (n - b.lots) bs)) (gains side (singly left ++ os) cs)))

-- ---- the rule's closing part is that of the pairing in order

-- a side's part from here on, with these batches open
from_here : Side → List Batch → List Leg → ℤ
from_here side bs ls = gains side (singly bs ++ prices_of (opens side) ls) (prices_of (closes side) ls)

closing_long : (c g l m s : ℤ) → m ≡ g +ℤ l → c +ℤ g +ℤ (l +ℤ s) ≡ c +ℤ (m +ℤ s)
closing_long c g l m s e = rw e (rw (split c, split g, split l, split s) (simp ring (d_eq _ _ _ _ (omega arith))))

closing_short : (c g s m l : ℤ) → m ≡ neg_ℤ g +ℤ s → c -ℤ g +ℤ (l +ℤ s) ≡ c +ℤ (l +ℤ m)
closing_short c g s m l e = rw e (rw (split c, split g, split l, split s) (simp ring (d_eq _ _ _ _ (omega arith))))

closing_is : (d : Day) (ls : List Leg) → AllCovered d ls →
    (after_legs d ls).closing ≡ d.closing +ℤ (from_here long d.long ls +ℤ from_here short d.short ls)
unfolding after_legs AllCovered Covered after_day_leg from_here prices_of gains opens closes
closing_is d [] c = sym (+ℤ_idr d.closing)
closing_is d (leg false false p n ∷ ls) c =
    closing_is (after_day_leg d (leg false false p n)) ls c.1
    ∙ ap (λ (l : List ℕ). d.closing +ℤ (gains long l (prices_of (closes long) ls) +ℤ from_here short d.short ls))
    (singly_opened d.long p n (prices_of (opens long) ls))
closing_is d (leg true false p n ∷ ls) c =
    closing_is (after_day_leg d (leg true false p n)) ls c.1
    ∙ ap (λ (l : List ℕ). d.closing +ℤ (from_here long d.long ls +ℤ gains short l (prices_of (closes short) ls)))
    (singly_opened d.short p n (prices_of (opens short) ls))
closing_is d (leg true true p n ∷ ls) c =
    closing_is (after_day_leg d (leg true true p n)) ls c.1
    ∙ closing_long d.closing (gain p (first_lots n d.long)) (from_here long (other_lots n d.long) ls)
    (from_here long d.long (leg true true p n ∷ ls)) (from_here short d.short ls)
    (rw (close_gain_long p (first_lots n d.long)) (gains_close long p n d.long (prices_of (opens long) ls) (prices_of (closes long) ls) c.0))
closing_is d (leg false true p n ∷ ls) c =
    closing_is (after_day_leg d (leg false true p n)) ls c.1
    ∙ closing_short d.closing (gain p (first_lots n d.short)) (from_here short (other_lots n d.short) ls)
    (from_here short d.short (leg false true p n ∷ ls)) (from_here long d.long ls)
    (rw (close_gain_short p (first_lots n d.short)) (gains_close short p n d.short (prices_of (opens short) ls) (prices_of (closes short) ls) c.0))

-- a side of the day
side_closing_lem : (side : Side) (reference held : ℕ) (ls : List Leg) → Before (open_lots side reference held ls) (closed_lots side ls) →
    closing_by side (open_lots side reference held ls) (closed_lots side ls) (λ i. i)
    ≡ from_here side (record { price = reference; lots = held } ∷ []) ls
unfolding from_here singly open_lots closed_lots
side_closing_lem side reference held ls b =
    closing_gains side (open_lots side reference held ls) (closed_lots side ls) b ∙ ap₂ (λ (o c : List ℕ). gains side o c)
    (prices_replicate held (record { price = reference; time = 0 }) (lots_of_legs (opens side) 1 ls)
    ∙ ap₂ (λ (h o : List ℕ). h ++ o) (sym (append-nil (replicate held reference))) (prices_legs (opens side) 1 ls))
    (prices_legs (closes side) 1 ls)

-- ---- in a well-formed state

module _ (x : Exchange) (w : well_formed_contents x ≡ true) (a c : ℕ) where
  before : (side : Side) → Before (open_of x a c side) (closed_of x a c side)
  unfolding open_of closed_of held_at_start open_now
  before long =
      in_order_day long (listing_at x c).contract.reference (holding_at x.accounts a c).startlong (holding_at x.accounts a c).startshort _
      (legs a c x.trades) (lots_start _ _ _).0 (day_covered x (facts x w).replay a c)
  before short =
      in_order_day short (listing_at x c).contract.reference (holding_at x.accounts a c).startlong (holding_at x.accounts a c).startshort _
      (legs a c x.trades) (lots_start _ _ _).1 (day_covered x (facts x w).replay a c)

  -- the rule's order is a pairing
  pub first_in_pairs : PairsDay x a c in_order
  unfolding PairsDay
  first_in_pairs side = before_pairing (open_of x a c side) (closed_of x a c side) (before side)

  -- whose closing part is the rule's
  pub first_in_closing : day_closing x a c in_order ≡ (day_of x a c).closing
  unfolding day_closing open_of closed_of held_at_start day_of day_start
  first_in_closing =
      ap₂ (λ (l s : ℤ). l +ℤ s)
      (side_closing_lem long (listing_at x c).contract.reference (holding_at x.accounts a c).startlong (legs a c x.trades) (before long))
      (side_closing_lem short (listing_at x c).contract.reference (holding_at x.accounts a c).startshort (legs a c x.trades) (before short))
      ∙ sym (+ℤ_idl _)
      ∙ sym (closing_is (day_start (listing_at x c).contract.reference (holding_at x.accounts a c).startlong (holding_at x.accounts a c).startshort)
      (legs a c x.trades) (day_covered x (facts x w).replay a c))

  -- and so its holding part
  pub first_in_holding : day_holding x a c in_order ≡ holding_gain (settlement_price x c) (day_of x a c)
  first_in_holding =
      same (day_closing x a c in_order) (day_holding x a c in_order) (day_of x a c).closing (holding_gain (settlement_price x c) (day_of x a c))
      first_in_closing (any_pairing x a c in_order first_in_pairs)
    where
      same : (p q u v : ℤ) → p ≡ u → p +ℤ q ≡ u +ℤ v → q ≡ v
      same p q u v e f =
          rw (split q, split v) (d_eq _ _ _ _ (omega (arith, d_inj _ _ _ _ (simp ring at (rw (split u, split q, split v) at (rw e at f))))))
