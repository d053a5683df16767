-- What a leg, and a trade between two orders, does to what each account holds beside its resting orders: an open lot moves from
-- resting to held, a close takes a lot that was held for it. Assumes nothing.
use Rattle.laws.specs.Logic.{Bool, true, false, not, ◌&&◌, List, [], ◌∷◌, ◌≡◌, refl, sym}
use Rattle.laws.specs.Numbers.{ℕ, zero, suc, ◌+◌, ◌-◌, ◌<◌, ◌≤◌, arith, eqb-true, eqb-false, leb-true, eq-eqb, eqb, leb, get_or, set}
use Rattle.laws.specs.Choice.{pick, by_test}
use Rattle.laws.specs.Sums.{sum_of}
use Rattle.rules.specs.Exchange.{account_at, holding_at, no_account, no_holding, lots_where, resting, resting_opens, resting_closes}
use Rattle.rules.specs.Holdings.{after_leg, with_holding, book_leg, leg_covered}
use Rattle.rules.specs.Matching.{with_lots}
use Rattle.rules.specs.declared.{Account.Account, Holding.Holding, Order.Order}
use Rattle.theory.proofs.Holdings.{holding_other_account, close_covered, open_covered}
use Rattle.invariants.proofs.Clauses.{held}

-- ---- a holding changed at its place, or none at all past the end

module _ (P : Holding → Holding → Type 0) (none : P no_holding no_holding) (f : Holding → Holding) where
  one_holding : (hs : List Holding) (c : ℕ) → P (get_or hs c no_holding) (f (get_or hs c no_holding)) →
      P (get_or hs c no_holding) (get_or (set hs c (f (get_or hs c no_holding))) c no_holding)
  one_holding [] c here = none
  one_holding (h ∷ hs) zero here = here
  one_holding (h ∷ hs) (suc c) here = one_holding hs c here

  one_account : (l : List Account) (a c : ℕ) →
      P (get_or (get_or l a no_account).holdings c no_holding) (f (get_or (get_or l a no_account).holdings c no_holding)) →
      P (get_or (get_or l a no_account).holdings c no_holding)
      (get_or (get_or (set l a
      (with_holding (get_or l a no_account) c (f (get_or (get_or l a no_account).holdings c no_holding)))) a no_account).holdings c no_holding)
  one_account [] a c here = none
  one_account (x ∷ xs) zero c here = one_holding x.holdings c here
  one_account (x ∷ xs) (suc a) c here = one_account xs a c here

-- ---- one leg

-- lots opened on the leg's side, and lots closed on the other, at most and at least
pub record LegBounds (sell : Bool) (opened closed : ℕ) (h k : Holding) : Type 0 where
  pub rise : held sell k ≤ held sell h + opened
  pub kept : held sell h ≤ held sell k
  pub fall : held (not sell) k + closed ≤ held (not sell) h
  pub left : held (not sell) h ≤ held (not sell) k + closed

abbrev Covers : Bool → ℕ → ℕ → Holding → Type 0
Covers sell close lots h = pick (eqb close 0) true (leb lots (pick sell h.long h.short)) ≡ true

leg_bounds : (sell : Bool) (close lots : ℕ) → close ≤ 1 → (h : Holding) → Covers sell close lots h →
    LegBounds sell (pick (eqb close 0) lots 0) (pick (eqb close 1) lots 0) h (after_leg h sell close lots)
unfolding after_leg
leg_bounds false zero lots m h k = record { rise = omega arith; kept = omega arith; fall = omega arith; left = omega arith }
leg_bounds true zero lots m h k = record { rise = omega arith; kept = omega arith; fall = omega arith; left = omega arith }
leg_bounds false (suc zero) lots m h k =
    let l = leb-true lots h.short k in
    record { rise = omega arith; kept = omega arith; fall = omega arith; left = omega arith }
leg_bounds true (suc zero) lots m h k =
    let l = leb-true lots h.long k in
    record { rise = omega arith; kept = omega arith; fall = omega arith; left = omega arith }
leg_bounds sell (suc (suc n)) lots m h k = absurd (omega arith)

none_bounds : (sell : Bool) (close lots : ℕ) → close ≤ 1 → Covers sell close lots no_holding →
    LegBounds sell (pick (eqb close 0) lots 0) (pick (eqb close 1) lots 0) no_holding no_holding
none_bounds false zero lots m k = record { rise = omega arith; kept = omega arith; fall = omega arith; left = omega arith }
none_bounds true zero lots m k = record { rise = omega arith; kept = omega arith; fall = omega arith; left = omega arith }
none_bounds false (suc zero) lots m k =
    let l = leb-true lots 0 k in
    record { rise = omega arith; kept = omega arith; fall = omega arith; left = omega arith }
none_bounds true (suc zero) lots m k =
    let l = leb-true lots 0 k in
    record { rise = omega arith; kept = omega arith; fall = omega arith; left = omega arith }
none_bounds sell (suc (suc n)) lots m k = absurd (omega arith)

-- lots that a leg of account u opens and closes for account a
abbrev pub opens_for : ℕ → ℕ → ℕ → ℕ → ℕ
opens_for a u close lots = pick (eqb u a && eqb close 0) lots 0

abbrev pub closes_for : ℕ → ℕ → ℕ → ℕ → ℕ
closes_for a u close lots = pick (eqb u a && eqb close 1) lots 0

booked_here : (l : List Account) (u c : ℕ) (sell : Bool) (close lots : ℕ) → close ≤ 1 → leg_covered l u c sell close lots ≡ true →
    LegBounds sell (pick (eqb close 0) lots 0) (pick (eqb close 1) lots 0) (holding_at l u c) (holding_at (book_leg l u c sell close lots) u c)
unfolding leg_covered holding_at account_at book_leg
booked_here l u c sell close lots m k =
    one_account (λ (h h' : Holding). Covers sell close lots h → LegBounds sell (pick (eqb close 0) lots 0) (pick (eqb close 1) lots 0) h h')
    (none_bounds sell close lots m) (λ h. after_leg h sell close lots) l u c
    (leg_bounds sell close lots m _) k

nothing_booked : (sell : Bool) (h : Holding) → LegBounds sell 0 0 h h
nothing_booked sell h = record { rise = omega arith; kept = omega arith; fall = omega arith; left = omega arith }

pub booked_bounds : (l : List Account) (u c : ℕ) (sell : Bool) (close lots : ℕ) → close ≤ 1 → leg_covered l u c sell close lots ≡ true → (a : ℕ) →
    LegBounds sell (opens_for a u close lots) (closes_for a u close lots) (holding_at l a c) (holding_at (book_leg l u c sell close lots) a c)
booked_bounds l u c sell close lots m k a =
    by_test (eqb u a) (λ e. rw (e, ← eqb-true u a e) (booked_here l u c sell close lots m k))
    (λ e. rw (e, holding_other_account l u c sell close lots a c (λ q. eqb-false u a e (sym q))) (nothing_booked sell (holding_at l a c)))

-- a leg is covered where the account holds what it closes
pub covered_by : (l : List Account) (u c : ℕ) (sell : Bool) (close lots : ℕ) → close ≤ 1 →
    closes_for u u close lots ≤ held (not sell) (holding_at l u c) → leg_covered l u c sell close lots ≡ true
covered_by l u c sell zero lots m h = open_covered l u c sell lots
covered_by l u c false (suc zero) lots m h = close_covered l u c false 1 lots (rw (eq-eqb u u refl) at h)
covered_by l u c true (suc zero) lots m h = close_covered l u c true 1 lots (rw (eq-eqb u u refl) at h)
covered_by l u c sell (suc (suc n)) lots m h = absurd (omega arith)

-- ---- a trade of k lots between the first of the buys and the first of the sells

pub resting_cons : (close a : ℕ) (o : Order) (os : List Order) →
    resting close a (o ∷ os) ≡ pick (eqb o.account a && eqb o.close close) o.lots 0 + resting close a os
unfolding resting lots_where sum_of
resting_cons close a o os = refl

-- lots taken from an order are taken from what a test counts
taken : (t : Bool) (lots k : ℕ) → k ≤ lots → pick t (lots - k) 0 + pick t k 0 ≡ pick t lots 0
taken true lots k h = omega arith
taken false lots k h = refl

-- what account a holds in contract c, beside its orders in the two queues
pub record KeptAt (limit c : ℕ) (l : List Account) (buys sells : List Order) (a : ℕ) : Type 0 where
  pub buy_opens_lem : (holding_at l a c).long + resting_opens a buys ≤ limit
  pub sell_opens_lem : (holding_at l a c).short + resting_opens a sells ≤ limit
  pub buy_closes_lem : resting_closes a buys ≤ (holding_at l a c).short
  pub sell_closes_lem : resting_closes a sells ≤ (holding_at l a c).long

-- each account within a bound of its own: its contract's limit, or what it is charged for
abbrev pub Kept : ℕ → (ℕ → ℕ) → ℕ → List Account → List Order → List Order → Type 0
Kept accounts limit c l buys sells = (a : ℕ) → a < accounts → KeptAt (limit a) c l buys sells a

module _ (accounts : ℕ) (limit : ℕ → ℕ) (c : ℕ) (l : List Account) (b s : Order) (buys sells : List Order) (k : ℕ)
    (buy_lots : k ≤ b.lots) (sell_lots : k ≤ s.lots) (buy-mark : b.close ≤ 1) (sell-mark : s.close ≤ 1)
    (buyer : b.account < accounts) (seller : s.account < accounts) (kept : Kept accounts limit c l (b ∷ buys) (s ∷ sells)) where
  pub buyer_covered : leg_covered l b.account c false b.close k ≡ true
  buyer_covered =
      covered_by l b.account c false b.close k buy-mark
      (omega (
        arith,
        (kept b.account buyer).buy_closes_lem,
        resting_cons 1 b.account b buys,
        taken
            (eqb b.account b.account && eqb b.close 1) b.lots k buy_lots,
      ))

  abbrev bought : List Account
  bought = book_leg l b.account c false b.close k

  buyer_bounds : (a : ℕ) →
      LegBounds false (opens_for a b.account b.close k) (closes_for a b.account b.close k) (holding_at l a c) (holding_at bought a c)
  buyer_bounds = booked_bounds l b.account c false b.close k buy-mark buyer_covered

  pub seller_covered : leg_covered bought s.account c true s.close k ≡ true
  seller_covered =
      covered_by bought s.account c true s.close k sell-mark
      (omega (
        arith,
        (kept s.account seller).sell_closes_lem,
        resting_cons 1 s.account s sells,
        taken
            (eqb s.account s.account && eqb s.close 1) s.lots k sell_lots,
        (buyer_bounds s.account).kept,
      ))

  abbrev sold : List Account
  sold = book_leg bought s.account c true s.close k

  -- what is left of an order counts for what is left of its lots
  rest_of : (close a : ℕ) (o : Order) (os : List Order) → k ≤ o.lots →
      resting close a (with_lots o (o.lots - k) ∷ os) + pick (eqb o.account a && eqb o.close close) k 0 ≡ resting close a (o ∷ os)
  rest_of close a o os h =
      omega (
        arith,
        resting_cons close a o os,
        resting_cons close a (with_lots o (o.lots - k)) os,
        taken
            (eqb o.account a && eqb o.close close) o.lots k h,
      )

  pub trade_kept : Kept accounts limit c sold (with_lots b (b.lots - k) ∷ buys) (with_lots s (s.lots - k) ∷ sells)
  trade_kept a h =
      let p = kept a h in
      let f = buyer_bounds a in
      let g = (booked_bounds bought s.account c true s.close k sell-mark seller_covered) a in
      record {
        buy_opens_lem = omega (arith, rest_of 0 a b buys buy_lots);
        sell_opens_lem = omega (arith, rest_of 0 a s sells sell_lots);
        buy_closes_lem = omega (arith, rest_of 1 a b buys buy_lots);
        sell_closes_lem = omega (arith, rest_of 1 a s sells sell_lots);
      }
