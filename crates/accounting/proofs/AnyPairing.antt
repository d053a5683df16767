-- Ticket 12: any pairing, same day profit. The lots that are paired and the lots that are not are all lots, whichever they are,
-- and a closed lot gains from its pair's price to its own what it gains from there to the settlement price and from the
-- settlement price to its own. So the total speaks of no pair: it is what the legs sold for less what they cost, with the net
-- holding at the settlement price at the end and at the reference at the start. Assumes nothing.
use lib.IntN.{ℤ, pos, neg_ℤ, ◌+ℤ◌, ◌-ℤ◌, ◌*ℤ◌, +ℤ_assoc}
use Rattle.laws.specs.Logic.{Bool, true, false, List, [], ◌∷◌, ◌++◌, ◌≡◌, refl, sym, ap, ap₂, ◌∙◌}
use Rattle.laws.specs.Numbers.{ℕ, zero, suc, ◌*◌, arith, length, get_or, replicate}
use Rattle.laws.specs.Choice.{pick}
use Rattle.laws.specs.Ring.{split, d_eq, d_inj, ring, *ℤ-add}
use Rattle.laws.specs.Sums.{sum_to, sum_to_ext, sum_to_add, sum_to_first}
use Rattle.rules.specs.Exchange.{Exchange, listing_at, holding_at}
use Rattle.rules.specs.Settlement.{Leg, leg, legs, day_of, holding_gain, settlement_price, closing_profit, holding_profit}
use Rattle.accounting.specs.DayLegs.{flow, net}
use Rattle.accounting.specs.Pairing.{Side, long, short, opens, closes, Lot, no_lot, lots_of_legs, open_lots, closed_lots, Pairing, gained, closing_by, holding_by, held_at_start, open_of, closed_of, PairsDay, day_closing, day_holding, paired_closing, paired_holding, SameDayProfit}
use Rattle.accounting.proofs.DayProfit.{day_profit}
use Rattle.accounting.proofs.Paired.{met_and_others, paired_covered}

-- ---- one side

-- by way of a price between
gained_by : (side : Side) (from by to : ℕ) → gained side from to ≡ gained side by to +ℤ gained side from by
unfolding gained
gained_by long from by to = simp ring (d_eq _ _ _ _ (omega arith))
gained_by short from by to = simp ring (d_eq _ _ _ _ (omega arith))

-- a function of the price, over lots
priced : (ℕ → ℤ) → List Lot → ℤ
priced f [] = pos 0
priced f (l ∷ ls) = f l.price +ℤ priced f ls

priced_sum_to : (f : ℕ → ℤ) (ls : List Lot) → sum_to (length ls) (λ i. f (get_or ls i no_lot).price) ≡ priced f ls
unfolding priced sum_to
priced_sum_to f [] = refl
priced_sum_to f (l ∷ ls) = sum_to_first (length ls) (λ i. f (get_or (l ∷ ls) i no_lot).price) ∙ ap (λ (z : ℤ). f l.price +ℤ z) (priced_sum_to f ls)

priced_replicate : (f : ℕ → ℤ) (n : ℕ) (l : Lot) (ls : List Lot) → priced f (replicate n l ++ ls) ≡ f l.price *ℤ pos n +ℤ priced f ls
unfolding priced
priced_replicate f zero l ls = rw (split (f l.price), split (priced f ls)) (simp ring (d_eq _ _ _ _ (omega arith)))
priced_replicate f (suc n) l ls =
    rw (priced_replicate f n l ls) (rw (split (f l.price), split (priced f ls)) (simp ring (d_eq _ _ _ _ (omega arith))))

-- all lots to the settlement price, and the closed ones from there to their own: no pair is left in it
side_total : (side : Side) (s : ℕ) (open' closed : List Lot) (of : ℕ → ℕ) → Pairing open' closed of →
    closing_by side open' closed of +ℤ holding_by side s open' closed of
    ≡ priced (gained side s) closed +ℤ priced (λ p. gained side p s) open'
unfolding closing_by holding_by
side_total side s open' closed of m =
    ap (λ (z : ℤ). z +ℤ holding_by side s open' closed of)
    (sum_to_ext (length closed) _ (λ i. gained side s (get_or closed i no_lot).price +ℤ to_settlement (of i))
    (λ i b. gained_by side (get_or open' (of i) no_lot).price s (get_or closed i no_lot).price)
    ∙ sum_to_add (length closed) (λ i. gained side s (get_or closed i no_lot).price) (λ i. to_settlement (of i)))
    ∙ +ℤ_assoc (sum_to (length closed) (λ i. gained side s (get_or closed i no_lot).price)) (sum_to (length closed) (λ i. to_settlement (of i)))
    (holding_by side s open' closed of) ∙ ap₂ (λ (y z : ℤ). y +ℤ z) (priced_sum_to (gained side s) closed)
    (met_and_others (length open') of to_settlement (length closed) m.among (λ i j h k e. omega (arith, m.once i j h k e)) ∙ priced_sum_to (λ p. gained side p s) open')
  where
    to_settlement : ℕ → ℤ
    to_settlement j = gained side (get_or open' j no_lot).price s

-- ---- both sides: each leg's lots are in one of the four lists

-- the lots of one more leg
priced_leg : (f : ℕ → ℤ) (test : Leg → Bool) (t : ℕ) (sell close : Bool) (p n : ℕ) (ls : List Leg) →
    priced f (lots_of_legs test t (leg sell close p n ∷ ls))
    ≡ f p *ℤ pos (pick (test (leg sell close p n)) n 0) +ℤ priced f (lots_of_legs test (suc t) ls)
unfolding lots_of_legs
priced_leg f test t sell close p n ls =
    priced_replicate f (pick (test (leg sell close p n)) n 0) (record { price = p; time = t }) (lots_of_legs test (suc t) ls)

module _ (s : ℕ) where
  closed_part : Side → ℕ → List Leg → ℤ
  closed_part side t ls = priced (gained side s) (lots_of_legs (closes side) t ls)

  open_part : Side → ℕ → List Leg → ℤ
  open_part side t ls = priced (λ p. gained side p s) (lots_of_legs (opens side) t ls)

  parts : ℕ → List Leg → ℤ
  parts t ls = closed_part long t ls +ℤ open_part long t ls +ℤ (closed_part short t ls +ℤ open_part short t ls)

  -- one leg's share of each
  closed_share : Side → Bool → Bool → ℕ → ℕ → ℤ
  closed_share side sell close p n = gained side s p *ℤ pos (pick (closes side (leg sell close p n)) n 0)

  open_share : Side → Bool → Bool → ℕ → ℕ → ℤ
  open_share side sell close p n = gained side p s *ℤ pos (pick (opens side (leg sell close p n)) n 0)

  -- a leg that brings in f and adds k to the net holding
  parts_leg : (t : ℕ) (sell close : Bool) (p n : ℕ) (ls : List Leg) (f k : ℤ) →
      closed_share long sell close p n +ℤ open_share long sell close p n +ℤ (closed_share short sell close p n +ℤ open_share short sell close p n)
      ≡ f +ℤ pos s *ℤ k →
      parts (suc t) ls ≡ flow ls +ℤ pos s *ℤ net ls →
      parts t (leg sell close p n ∷ ls) ≡ f +ℤ flow ls +ℤ pos s *ℤ (k +ℤ net ls)
  unfolding parts closed_part open_part closed_share open_share
  parts_leg t sell close p n ls f k e h =
      rw (priced_leg (gained long s) (closes long) t sell close p n ls)
      (rw (priced_leg (λ p. gained long p s) (opens long) t sell close p n ls)
      (rw (priced_leg (gained short s) (closes short) t sell close p n ls)
      (rw (priced_leg (λ p. gained short p s) (opens short) t sell close p n ls)
      (turn (closed_share long sell close p n) (open_share long sell close p n) (closed_share short sell close p n) (open_share short sell close p n)
      (closed_part long (suc t) ls) (open_part long (suc t) ls) (closed_part short (suc t) ls) (open_part short (suc t) ls)
      f k (flow ls) (net ls) e h))))
    where
      turn : (a b c d a' b' c' d' f k f' k' : ℤ) → a +ℤ b +ℤ (c +ℤ d) ≡ f +ℤ pos s *ℤ k → a' +ℤ b' +ℤ (c' +ℤ d') ≡ f' +ℤ pos s *ℤ k' →
          a +ℤ a' +ℤ (b +ℤ b') +ℤ (c +ℤ c' +ℤ (d +ℤ d')) ≡ f +ℤ f' +ℤ pos s *ℤ (k +ℤ k')
      turn a b c d a' b' c' d' f k f' k' e h =
          rw (split a, split b, split c, split d, split a', split b', split c', split d', split f, split k, split f', split k')
          (simp ring (d_eq _ _ _ _
          (omega (
            arith,
            d_inj _ _ _ _ (simp ring at (rw (split a, split b, split c, split d, split f, split k) at e)),
            d_inj _ _ _ _ (simp ring at (rw (split a', split b', split c', split d', split f', split k') at h)),
          ))))

  parts_are : (t : ℕ) (ls : List Leg) → parts t ls ≡ flow ls +ℤ pos s *ℤ net ls
  unfolding parts closed_part open_part closed_share open_share flow net opens closes gained lots_of_legs priced
  parts_are t [] = simp ring (d_eq _ _ _ _ (omega arith))
  parts_are t (leg true true p n ∷ ls) =
      parts_leg t true true p n ls (pos (p * n)) (neg_ℤ (pos n)) (simp ring (d_eq _ _ _ _ (omega arith))) (parts_are (suc t) ls)
  parts_are t (leg true false p n ∷ ls) =
      parts_leg t true false p n ls (pos (p * n)) (neg_ℤ (pos n)) (simp ring (d_eq _ _ _ _ (omega arith))) (parts_are (suc t) ls)
  parts_are t (leg false true p n ∷ ls) =
      parts_leg t false true p n ls (neg_ℤ (pos (p * n))) (pos n) (simp ring (d_eq _ _ _ _ (omega arith))) (parts_are (suc t) ls)
  parts_are t (leg false false p n ∷ ls) =
      parts_leg t false false p n ls (neg_ℤ (pos (p * n))) (pos n) (simp ring (d_eq _ _ _ _ (omega arith))) (parts_are (suc t) ls)

-- ---- a day, from its legs: the same right side as `day_profit`

module _ (reference s heldLong heldShort : ℕ) (ls : List Leg) (of : Side → ℕ → ℕ)
    (longs : Pairing (open_lots long reference heldLong ls) (closed_lots long ls) (of long))
    (shorts : Pairing (open_lots short reference heldShort ls) (closed_lots short ls) (of short)) where
  held : Side → ℕ
  held long = heldLong
  held short = heldShort

  side_closing : Side → ℤ
  side_closing side = closing_by side (open_lots side reference (held side) ls) (closed_lots side ls) (of side)

  side_holding : Side → ℤ
  side_holding side = holding_by side s (open_lots side reference (held side) ls) (closed_lots side ls) (of side)

  -- the lots held at the start stand in front
  side_day : (side : Side) → Pairing (open_lots side reference (held side) ls) (closed_lots side ls) (of side) →
      side_closing side +ℤ side_holding side ≡ closed_part s side 1 ls +ℤ (gained side reference s *ℤ pos (held side) +ℤ open_part s side 1 ls)
  unfolding side_closing side_holding open_lots closed_lots closed_part open_part
  side_day side m =
      side_total side s (open_lots side reference (held side) ls) (closed_lots side ls) (of side) m ∙ ap (λ (z : ℤ). closed_part s side 1 ls +ℤ z)
      (priced_replicate (λ p. gained side p s) (held side) (record { price = reference; time = 0 }) (lots_of_legs (opens side) 1 ls))

  paired_profit :
      closing_by long (open_lots long reference heldLong ls) (closed_lots long ls) (of long)
      +ℤ closing_by short (open_lots short reference heldShort ls) (closed_lots short ls) (of short)
      +ℤ (holding_by long s (open_lots long reference heldLong ls) (closed_lots long ls) (of long)
      +ℤ holding_by short s (open_lots short reference heldShort ls) (closed_lots short ls) (of short))
      ≡ flow ls +ℤ pos s *ℤ (pos heldLong -ℤ pos heldShort +ℤ net ls) -ℤ pos reference *ℤ (pos heldLong -ℤ pos heldShort)
  unfolding held side_closing side_holding parts gained
  paired_profit =
      at (side_closing long) (side_closing short) (side_holding long) (side_holding short)
      (closed_part s long 1 ls) (open_part s long 1 ls) (closed_part s short 1 ls) (open_part s short 1 ls) (flow ls) (net ls)
      (side_day long longs) (side_day short shorts) (parts_are s 1 ls)
    where
      at : (cl cs hl hs a b c d f n : ℤ) → cl +ℤ hl ≡ a +ℤ ((pos s -ℤ pos reference) *ℤ pos heldLong +ℤ b) →
          cs +ℤ hs ≡ c +ℤ ((pos reference -ℤ pos s) *ℤ pos heldShort +ℤ d) →
          a +ℤ b +ℤ (c +ℤ d) ≡ f +ℤ pos s *ℤ n →
          cl +ℤ cs +ℤ (hl +ℤ hs)
          ≡ f +ℤ pos s *ℤ (pos heldLong -ℤ pos heldShort +ℤ n) -ℤ pos reference *ℤ (pos heldLong -ℤ pos heldShort)
      at cl cs hl hs a b c d f n u v w =
          rw (split cl, split cs, split hl, split hs, split f, split n)
          (simp ring (d_eq _ _ _ _
          (omega (
            arith,
            d_inj _ _ _ _ (simp ring at (rw (split cl, split hl, split a, split b) at u)),
            d_inj _ _ _ _ (simp ring at (rw (split cs, split hs, split c, split d) at v)),
            d_inj _ _ _ _ (simp ring at (rw (split a, split b, split c, split d, split f, split n) at w)),
          ))))

-- ---- in any state, well formed or not: where there is a pairing, each close finds its lots

module _ (x : Exchange) (a : ℕ) where
  -- ANY PAIRING, SAME DAY PROFIT: in one contract, before the multiplier
  pub any_pairing : (c : ℕ) (of : Side → ℕ → ℕ) → PairsDay x a c of →
      day_closing x a c of +ℤ day_holding x a c of ≡ (day_of x a c).closing +ℤ holding_gain (settlement_price x c) (day_of x a c)
  unfolding PairsDay day_closing day_holding open_of closed_of held_at_start day_of
  any_pairing c of m =
      paired_profit (listing_at x c).contract.reference (settlement_price x c)
      (holding_at x.accounts a c).startlong (holding_at x.accounts a c).startshort (legs a c x.trades) of (m long) (m short)
      ∙ sym (day_profit (listing_at x c).contract.reference (settlement_price x c)
      (holding_at x.accounts a c).startlong (holding_at x.accounts a c).startshort (legs a c x.trades)
      (paired_covered (listing_at x c).contract.reference _ _ (legs a c x.trades) of (m long) (m short)))

  -- and of the account, over all contracts, with any pairing of each
  pub any_pairing_profit : SameDayProfit x a
  unfolding SameDayProfit paired_closing paired_holding closing_profit holding_profit
  any_pairing_profit of m =
      sym (sum_to_add (length x.listings) (λ c. multiplier c *ℤ day_closing x a c (of c)) (λ c. multiplier c *ℤ day_holding x a c (of c)))
      ∙ sum_to_ext (length x.listings) _ _
      (λ c l. times (multiplier c) (day_closing x a c (of c)) (day_holding x a c (of c)) (day_of x a c).closing
      (holding_gain (settlement_price x c) (day_of x a c)) (any_pairing c (of c) (m c l)))
      ∙ sum_to_add (length x.listings) (λ c. multiplier c *ℤ (day_of x a c).closing)
      (λ c. multiplier c *ℤ holding_gain (settlement_price x c) (day_of x a c))
    where
      multiplier : ℕ → ℤ
      multiplier c = pos (listing_at x c).contract.multiplier

      times : (k p q u v : ℤ) → p +ℤ q ≡ u +ℤ v → k *ℤ p +ℤ k *ℤ q ≡ k *ℤ u +ℤ k *ℤ v
      times k p q u v e = sym (*ℤ-add k p q) ∙ ap (λ (z : ℤ). k *ℤ z) e ∙ *ℤ-add k u v
