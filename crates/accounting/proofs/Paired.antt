-- Numbers sent to different numbers, and what that says of a pairing: by every leg's time there are as many lots to close as are
-- closed, so that each close finds its lots. Nothing is asked of the state. Assumes nothing.
use lib.IntN.{ℤ, pos, ◌+ℤ◌, +ℤ_idl, +ℤ_idr}
use Rattle.laws.specs.Logic.{Bool, true, false, not, List, [], ◌∷◌, ◌++◌, ◌≡◌, refl, sym, ap, ap₂, ◌∙◌}
use Rattle.laws.specs.Numbers.{ℕ, zero, suc, ◌+◌, ◌*◌, ◌<◌, ◌≤◌, arith, eqb-true, ltb-true, ne_eqb, lt-ltb, le-ltb, eqb, ltb, length, get_or, replicate}
use Rattle.laws.specs.Choice.{pick, both, all, all_true}
use Rattle.laws.specs.Ring.{split, d_eq, ring}
use Rattle.laws.specs.Sums.{sum_of, sum_of_append, sum_of_replicate, sum_to, sum_to_ext, sum_to_add, sum_to_at, sum_to_first}
use Rattle.rules.specs.Article32.{lots_in}
use Rattle.rules.specs.Settlement.{Leg, leg, Day, day_start, after_day_leg}
use Rattle.accounting.specs.DayLegs.{Covered, AllCovered}
use Rattle.accounting.specs.Pairing.{Side, long, short, opens, closes, Lot, no_lot, lots_of_legs, open_lots, closed_lots, Pairing, unpaired}
use Rattle.accounting.proofs.DayProfit.{lots_opened, lots_other, lots_start}

-- ---- numbers below k sent to different numbers below n: f over those met, and over the others, is f over all

module _ (n : ℕ) (of : ℕ → ℕ) (f : ℕ → ℤ) where
  -- f of the numbers that the first k are not sent to
  others : ℕ → ℕ → ℤ
  others k j = pick (unpaired of k j) (f j) (pos 0)

  one_more : (k : ℕ) → of k < n → ((i : ℕ) → i < k → of i ≡ of k → ⊥) → sum_to n (others k) ≡ sum_to n (others (suc k)) +ℤ f (of k)
  unfolding others unpaired all
  one_more k l apart =
      sum_to_ext n (others k) (λ j. others (suc k) j +ℤ pick (eqb (of k) j) (f (of k)) (pos 0)) (λ j b. by_pair j (eqb (of k) j) refl)
      ∙ sum_to_add n (others (suc k)) (λ j. pick (eqb (of k) j) (f (of k)) (pos 0))
      ∙ ap (λ (z : ℤ). sum_to n (others (suc k)) +ℤ z) (sum_to_at n (of k) (f (of k)) l)
    where
      free : (j : ℕ) → of k ≡ j → all (λ i. not (eqb (of i) j)) k ≡ true
      free j e = all_true (λ i. not (eqb (of i) j)) k (λ i b. rw (ne_eqb (of i) j (λ q. apart i b (q ∙ sym e))))

      kept : (t : Bool) (z : ℤ) → pick t z (pos 0) ≡ pick (both t true) z (pos 0) +ℤ pos 0
      kept true z = sym (+ℤ_idr z)
      kept false z = refl

      by_pair : (j : ℕ) (t : Bool) → eqb (of k) j ≡ t → others k j ≡ others (suc k) j +ℤ pick (eqb (of k) j) (f (of k)) (pos 0)
      by_pair j true e = rw (e, free j (eqb-true (of k) j e), eqb-true (of k) j e) (sym (+ℤ_idl (f j)))
      by_pair j false e = rw e (kept (all (λ i. not (eqb (of i) j)) k) (f j))

  pub met_and_others : (k : ℕ) → ((i : ℕ) → i < k → of i < n) → ((i j : ℕ) → i < k → j < k → of i ≡ of j → i ≡ j) →
      sum_to k (λ i. f (of i)) +ℤ sum_to n (λ j. pick (unpaired of k j) (f j) (pos 0)) ≡ sum_to n f
  unfolding others unpaired all sum_to
  met_and_others zero m o = +ℤ_idl (sum_to n f)
  met_and_others (suc k) m o =
      regroup (sum_to k (λ i. f (of i))) (f (of k)) (sum_to n (others (suc k))) (sum_to n (others k))
      (one_more k (m k (omega arith)) (λ i b e. let q = o i k (omega arith) (omega arith) e in omega arith))
      ∙ met_and_others k (λ i b. m i (omega arith)) (λ i j b d. o i j (omega arith) (omega arith))
    where
      regroup : (s x u v : ℤ) → v ≡ u +ℤ x → s +ℤ x +ℤ u ≡ s +ℤ v
      regroup s x u v e = rw e (rw (split s, split x, split u) (simp ring (d_eq _ _ _ _ (omega arith))))

-- ---- lots before a time

abbrev early : ℕ → Lot → ℕ
early u l = pick (ltb l.time u) 1 0

-- how many lots came before time u
unfoldable earlier : ℕ → List Lot → ℕ
earlier u ls = sum_of (early u) ls

earlier_sum_to : (u : ℕ) (ls : List Lot) → sum_to (length ls) (λ i. pos (early u (get_or ls i no_lot))) ≡ pos (earlier u ls)
unfolding earlier sum_of sum_to
earlier_sum_to u [] = refl
earlier_sum_to u (l ∷ ls) =
    sum_to_first (length ls) (λ i. pos (early u (get_or (l ∷ ls) i no_lot))) ∙ ap (λ (z : ℤ). pos (early u l) +ℤ z) (earlier_sum_to u ls)

-- sums of natural numbers, as integers
count_to : ℕ → (ℕ → ℕ) → ℕ
count_to zero f = 0
count_to (suc n) f = count_to n f + f n

sum_to_count : (n : ℕ) (f : ℕ → ℕ) → sum_to n (λ i. pos (f i)) ≡ pos (count_to n f)
unfolding sum_to count_to
sum_to_count zero f = refl
sum_to_count (suc n) f = ap (λ (z : ℤ). z +ℤ pos (f n)) (sum_to_count n f)

count_mono : (n : ℕ) (f g : ℕ → ℕ) → ((i : ℕ) → i < n → f i ≤ g i) → count_to n f ≤ count_to n g
unfolding count_to
count_mono zero f g h = omega arith
count_mono (suc n) f g h = let m = count_mono n f g (λ i l. h i (omega arith)) in let k = h n (omega arith) in omega arith

pos_inj : (a b : ℕ) → pos a ≡ pos b → a ≡ b
pos_inj a b e = cc

-- A PAIRING NEEDS AS MANY LOTS AS IT PAIRS: of the lots closed by time u, each is paired with another lot that came before it
closed_early : (open' closed : List Lot) (of : ℕ → ℕ) → Pairing open' closed of → (u : ℕ) → earlier (suc u) closed ≤ earlier u open'
closed_early open' closed of m u =
    let k : ℕ = length closed in
    let n : ℕ = length open' in
    let f : ℕ → ℕ = λ j. early u (get_or open' j no_lot) in
    let rest : ℕ → ℕ = λ j. pick (unpaired of k j) (f j) 0 in
    let total : pos (count_to k (λ i. f (of i))) +ℤ pos (count_to n rest) ≡ pos (earlier u open') =
    ap₂ (λ (y z : ℤ). y +ℤ z) (sym (sum_to_count k (λ i. f (of i))))
    (sym (sum_to_count n rest) ∙ sum_to_ext n _ _ (λ j b. picked (unpaired of k j) (f j)))
    ∙ met_and_others n of (λ j. pos (f j)) k m.among (λ i j b d e. omega (arith, m.once i j b d e)) ∙ earlier_sum_to u open' in
    let e : count_to k (λ i. f (of i)) + count_to n rest ≡ earlier u open' = pos_inj _ _ total in
    let c : count_to k (λ i. early (suc u) (get_or closed i no_lot)) ≡ earlier (suc u) closed =
    pos_inj _ _ (sym (sum_to_count k (λ i. early (suc u) (get_or closed i no_lot))) ∙ earlier_sum_to (suc u) closed) in
    let l : count_to k (λ i. early (suc u) (get_or closed i no_lot)) ≤ count_to k (λ i. f (of i)) =
    count_mono k _ _ (λ i b. one (get_or closed i no_lot).time (get_or open' (of i) no_lot).time (omega (arith, m.earlier i b)) (ltb (get_or closed i no_lot).time (suc u)) refl) in
    omega arith
  where
    picked : (t : Bool) (x : ℕ) → pos (pick t x 0) ≡ pick t (pos x) (pos 0)
    picked true x = refl
    picked false x = refl

    one : (s r : ℕ) → r < s → (t : Bool) → ltb s (suc u) ≡ t → pick (ltb s (suc u)) 1 0 ≤ pick (ltb r u) 1 0
    one s r h true e = let b = ltb-true s (suc u) e in rw (e, lt-ltb r u (omega arith)) (omega arith)
    one s r h false e = rw e (omega arith)

-- ---- each close finds its lots

earlier_legs : (u n p t : ℕ) (ls : List Lot) → earlier u (replicate n (record { price = p; time = t }) ++ ls) ≡ pick (ltb t u) 1 0 * n + earlier u ls
unfolding earlier
earlier_legs u n p t ls =
    sum_of_append (early u) (replicate n (record { price = p; time = t })) ls
    ∙ ap (λ (x : ℕ). x + sum_of (early u) ls) (sum_of_replicate (early u) n (record { price = p; time = t }))

-- none of the lots of legs from time t on came before it
none_early : (test : Leg → Bool) (u t : ℕ) (ls : List Leg) → u ≤ t → earlier u (lots_of_legs test t ls) ≡ 0
unfolding lots_of_legs earlier sum_of
none_early test u t [] h = refl
none_early test u t (leg sell close p n ∷ ls) h =
    earlier_legs u (pick (test (leg sell close p n)) n 0) p t (lots_of_legs test (suc t) ls)
    ∙ rw (le-ltb t u h) (omega (arith, none_early test u (suc t) ls (omega arith)))

-- so many lots, and those opened before each later time, are enough for what is closed by it
Enough : Side → ℕ → ℕ → List Leg → Type 0
Enough side have t ls = (u : ℕ) → t ≤ u → earlier (suc u) (lots_of_legs (closes side) t ls) ≤ have + earlier u (lots_of_legs (opens side) t ls)

module _ (side : Side) (have t : ℕ) (sell close : Bool) (p n : ℕ) (ls : List Leg) (h : Enough side have t (leg sell close p n ∷ ls)) where
  abbrev closed_now : ℕ
  closed_now = pick (closes side (leg sell close p n)) n 0

  abbrev opened_now : ℕ
  opened_now = pick (opens side (leg sell close p n)) n 0

  at_time : (u : ℕ) → t ≤ u
      → 1 * closed_now + earlier (suc u) (lots_of_legs (closes side) (suc t) ls) ≤ have + (pick (ltb t u) 1 0 * opened_now + earlier u (lots_of_legs (opens side) (suc t) ls))
  unfolding Enough lots_of_legs
  at_time u b =
      let q = h u b in
      rw (earlier_legs (suc u) closed_now p t (lots_of_legs (closes side) (suc t) ls), earlier_legs u opened_now p t (lots_of_legs (opens side) (suc t) ls), lt-ltb t (suc u) (omega arith)) at q

  leg_covered_lem : closed_now ≤ have
  leg_covered_lem =
      let q = rw (le-ltb t t (omega arith), none_early (opens side) t (suc t) ls (omega arith)) at (at_time t (omega arith)) in
      omega (arith, q)

  enough_later : (have' : ℕ) → have' + closed_now ≡ have + opened_now → Enough side have' (suc t) ls
  unfolding Enough
  enough_later have' e u b = let q = rw (lt-ltb t u (omega arith)) at (at_time u (omega arith)) in omega (arith, q)

covered_legs : (d : Day) (t : ℕ) (ls : List Leg) → Enough long (lots_in d.long) t ls → Enough short (lots_in d.short) t ls → AllCovered d ls
unfolding AllCovered Covered after_day_leg opens closes
covered_legs d t [] hl hs = tt
covered_legs d t (leg false false p n ∷ ls) hl hs = (
  tt,
  covered_legs (after_day_leg d (leg false false p n)) (suc t) ls
      (enough_later long (lots_in d.long) t false false p n ls hl _ (rw (lots_opened d.long p n) (omega arith)))
      (enough_later short (lots_in d.short) t false false p n ls hs _ refl),
)
covered_legs d t (leg true false p n ∷ ls) hl hs = (
  tt,
  covered_legs (after_day_leg d (leg true false p n)) (suc t) ls
      (enough_later long (lots_in d.long) t true false p n ls hl _ refl)
      (enough_later short (lots_in d.short) t true false p n ls hs _ (rw (lots_opened d.short p n) (omega arith))),
)
covered_legs d t (leg true true p n ∷ ls) hl hs =
    let q : n ≤ lots_in d.long = leg_covered_lem long (lots_in d.long) t true true p n ls hl in (
      q,
      covered_legs (after_day_leg d (leg true true p n)) (suc t) ls
          (enough_later long (lots_in d.long) t true true p n ls hl _ (rw (lots_other n d.long) (omega arith)))
          (enough_later short (lots_in d.short) t true true p n ls hs _ refl),
    )
covered_legs d t (leg false true p n ∷ ls) hl hs =
    let q : n ≤ lots_in d.short = leg_covered_lem short (lots_in d.short) t false true p n ls hs in (
      q,
      covered_legs (after_day_leg d (leg false true p n)) (suc t) ls
          (enough_later long (lots_in d.long) t false true p n ls hl _ refl)
          (enough_later short (lots_in d.short) t false true p n ls hs _ (rw (lots_other n d.short) (omega arith))),
    )

paired_enough : (side : Side) (reference held : ℕ) (ls : List Leg) (of : ℕ → ℕ) → Pairing (open_lots side reference held ls) (closed_lots side ls) of → Enough side held 1 ls
unfolding Enough open_lots closed_lots
paired_enough side reference held ls of m u b =
    let q = rw (earlier_legs u held reference 0 (lots_of_legs (opens side) 1 ls), lt-ltb 0 u (omega arith)) at (closed_early _ _ of m u) in
    omega (arith, q)

-- A DAY WHOSE CLOSED LOTS CAN BE PAIRED IS COVERED: the day-profit's law needs no more
pub paired_covered : (reference heldLong heldShort : ℕ) (ls : List Leg) (of : Side → ℕ → ℕ)
    → Pairing (open_lots long reference heldLong ls) (closed_lots long ls) (of long) → Pairing (open_lots short reference heldShort ls) (closed_lots short ls) (of short)
    → AllCovered (day_start reference heldLong heldShort) ls
paired_covered reference heldLong heldShort ls of longs shorts =
    let q = lots_start reference heldLong heldShort in
    covered_legs (day_start reference heldLong heldShort) 1 ls
    (rw q.0 (paired_enough long reference heldLong ls (of long) longs)) (rw q.1 (paired_enough short reference heldShort ls (of short) shorts))
