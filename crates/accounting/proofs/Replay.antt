-- The two replays of a day's trades agree: the one over holdings, by which a state is well formed, and the one over batches of
-- lots, by which profit is worked out. Where the first never goes below zero each close of the second finds its lots, and both
-- leave the same lots open. Assumes nothing.
use Rattle.laws.specs.Logic.{Bool, true, false, not, ◌&&◌, false≢true, List, [], ◌∷◌, ◌++◌, ◌≡◌, refl, sym, ◌∙◌}
use Rattle.laws.specs.Numbers.{ℕ, zero, suc, ◌+◌, ◌-◌, ◌≤◌, arith, eqb-true, eqb-false, leb-true, eqb, leb, get_or}
use Rattle.laws.specs.Choice.{pick, both_true}
use Rattle.rules.specs.Article32.{lots_in}
use Rattle.rules.specs.Exchange.{Exchange, no_holding, listing_at, account_at, holding_at}
use Rattle.rules.specs.Holdings.{after_leg, book_leg, book_buyer, book_trade, book_trades, leg_covered, never_below_zero, start_of_day, same_lots, same_holdings}
use Rattle.rules.specs.Settlement.{leg, Day, day_start, only, legs, after_day_leg, after_legs, day_of}
use Rattle.rules.specs.WellFormed.{replays}
use Rattle.rules.specs.declared.{Account.Account, Holding.Holding, Trade.Trade}
use Rattle.accounting.specs.DayLegs.{Covered, AllCovered}
use Rattle.accounting.specs.Shape.{Placed}
use Rattle.accounting.proofs.Booking.{booked_here, booked_elsewhere, booked_or_none, booked_placed, start_holding_lem, start_placed}
use Rattle.accounting.proofs.DayProfit.{lots_opened, lots_other, lots_start, after_legs_append, covered_nil, covered_append}
use Rattle.accounting.proofs.Trades.{bought_by, sold_by}

-- ---- how the lots of a holding and the open lots of a day compare, side by side: equal, or no more

pub record Lots (R : ℕ → ℕ → Type 0) (h : Holding) (d : Day) : Type 0 where
  pub long : R h.long (lots_in d.long)
  pub short : R h.short (lots_in d.short)

-- a comparison that an open and a close keep
pub record Kept (R : ℕ → ℕ → Type 0) : Type 0 where
  pub more : (x y n : ℕ) → R x y → R (x + n) (y + n)
  pub less : (x y n : ℕ) → R x y → R (x - n) (y - n)

pub kept-≤ : Kept (λ x y. x ≤ y)
kept-≤ = record { more = λ x y n h. omega arith; less = λ x y n h. omega arith }

pub kept-≡ : Kept (λ x y. x ≡ y)
kept-≡ = record { more = λ x y n h. omega arith; less = λ x y n h. omega arith }

module _ (R : ℕ → ℕ → Type 0) (k : Kept R) where
  -- a leg of each kind; `opens` is the test of its mark
  after_leg_lem : (h : Holding) (d : Day) (sell opens : Bool) (close p n : ℕ) → eqb close 0 ≡ opens → Lots R h d →
      Lots R (after_leg h sell close n) (after_day_leg d (leg sell (not opens) p n))
  unfolding after_leg after_day_leg
  after_leg_lem h d true true close p n e l = rw e (record { long = l.long; short = rw (lots_opened d.short p n) (k.more _ _ n l.short) })
  after_leg_lem h d true false close p n e l = rw e (record { long = rw (lots_other n d.long) (k.less _ _ n l.long); short = l.short })
  after_leg_lem h d false true close p n e l = rw e (record { long = rw (lots_opened d.long p n) (k.more _ _ n l.long); short = l.short })
  after_leg_lem h d false false close p n e l = rw e (record { long = l.long; short = rw (lots_other n d.short) (k.less _ _ n l.short) })

  -- the leg of account u in contract e, as the replay of account a in contract c sees it; `Seen` is what is known of the accounts
  module _ (a c : ℕ) (Seen : List Account → Type 0)
      (booked : (accounts : List Account) (sell : Bool) (close n : ℕ) (d : Day) → Seen accounts →
      Lots R (after_leg (holding_at accounts a c) sell close n) d → Lots R (holding_at (book_leg accounts a c sell close n) a c) d)
      (seen : (accounts : List Account) (u e : ℕ) (sell : Bool) (close n : ℕ) → Seen accounts → Seen (book_leg accounts u e sell close n)) where
    one_leg : (accounts : List Account) (d : Day) (u e : ℕ) (sell : Bool) (close p n : ℕ) → Seen accounts → Lots R (holding_at accounts a c) d →
        Lots R (holding_at (book_leg accounts u e sell close n) a c) (after_legs d (only (eqb e c && eqb u a) (leg sell (not (eqb close 0)) p n)))
    unfolding only after_legs
    one_leg accounts d u e sell close p n s l = by_contract_and_account (eqb e c) (eqb u a) refl refl
      where
        by_contract_and_account : (here whose : Bool) → eqb e c ≡ here → eqb u a ≡ whose →
            Lots R (holding_at (book_leg accounts u e sell close n) a c) (after_legs d (only (here && whose) (leg sell (not (eqb close 0)) p n)))
        by_contract_and_account true true i j =
            rw (eqb-true e c i, eqb-true u a j)
            (booked accounts sell close n _ s (after_leg_lem (holding_at accounts a c) d sell (eqb close 0) close p n refl l))
        by_contract_and_account true false i j = rw (booked_elsewhere accounts sell close n u e a c (λ q r. eqb-false u a j q)) l
        by_contract_and_account false true i j = rw (booked_elsewhere accounts sell close n u e a c (λ q r. eqb-false e c i r)) l
        by_contract_and_account false false i j = rw (booked_elsewhere accounts sell close n u e a c (λ q r. eqb-false e c i r)) l

    -- the day after a trade's two legs
    after_trade : Day → Trade → Day
    after_trade d t = after_legs (after_legs d (bought_by a c t)) (sold_by a c t)

    one_trade : (accounts : List Account) (d : Day) (t : Trade) → Seen accounts → Lots R (holding_at accounts a c) d →
        Lots R (holding_at (book_trade accounts t) a c) (after_trade d t)
    unfolding book_trade after_trade
    one_trade accounts d t s l =
        one_leg (book_buyer accounts t) _ t.seller t.contract true t.sellclose t.price t.lots
        (seen accounts t.buyer t.contract false t.buyclose t.lots s)
        (one_leg accounts d t.buyer t.contract false t.buyclose t.price t.lots s l)

    seen_trade : (accounts : List Account) (t : Trade) → Seen accounts → Seen (book_trade accounts t)
    unfolding book_trade
    seen_trade accounts t s = seen (book_buyer accounts t) _ _ _ _ _ (seen accounts _ _ _ _ _ s)

    after_legs_cons : (d : Day) (t : Trade) (ts : List Trade) → after_legs d (legs a c (t ∷ ts)) ≡ after_legs (after_trade d t) (legs a c ts)
    unfolding legs after_trade
    after_legs_cons d t ts = after_legs_append d _ _ ∙ after_legs_append _ _ (legs a c ts)

    all_trades : (accounts : List Account) (d : Day) (ts : List Trade) → Seen accounts → Lots R (holding_at accounts a c) d →
        Lots R (holding_at (book_trades accounts ts) a c) (after_legs d (legs a c ts))
    unfolding book_trades legs after_legs
    all_trades accounts d [] s l = l
    all_trades accounts d (t ∷ ts) s l =
        rw (after_legs_cons d t ts) (all_trades (book_trade accounts t) (after_trade d t) ts (seen_trade accounts t s) (one_trade accounts d t s l))

-- ---- the comparison that needs nothing: past the end of the lists nothing is held, which is no more than is open

abbrev NoMore : Holding → Day → Type 0
NoMore h d = Lots (λ x y. x ≤ y) h d

module _ (a c : ℕ) where
  booked-≤ : (accounts : List Account) (sell : Bool) (close n : ℕ) (d : Day) → Unit {0} →
      NoMore (after_leg (holding_at accounts a c) sell close n) d → NoMore (holding_at (book_leg accounts a c sell close n) a c) d
  booked-≤ accounts sell close n d s l =
      booked_or_none accounts sell close n (λ h. NoMore h d) a c l (record { long = omega arith; short = omega arith })

  leg-≤ : (accounts : List Account) (d : Day) (u e : ℕ) (sell : Bool) (close p n : ℕ) → NoMore (holding_at accounts a c) d →
      NoMore (holding_at (book_leg accounts u e sell close n) a c) (after_legs d (only (eqb e c && eqb u a) (leg sell (not (eqb close 0)) p n)))
  leg-≤ accounts d u e sell close p n l =
      one_leg (λ x y. x ≤ y) kept-≤ a c (λ s. Unit {0}) booked-≤ (λ s u e sell close n t. tt) accounts d u e sell close p n tt l

  -- ---- where the replay never goes below zero, each close finds its lots

  covers : (h : Holding) (d : Day) (sell opens : Bool) (p n : ℕ) → NoMore h d →
      pick opens true (leb n (pick sell h.long h.short)) ≡ true → Covered d (leg sell (not opens) p n)
  unfolding Covered
  covers h d true true p n l t = tt
  covers h d true false p n l t = omega (arith, leb-true n h.long t, l.long)
  covers h d false true p n l t = tt
  covers h d false false p n l t = omega (arith, leb-true n h.short t, l.short)

  covered_leg : (accounts : List Account) (d : Day) (u e : ℕ) (sell : Bool) (close p n : ℕ) → NoMore (holding_at accounts a c) d →
      leg_covered accounts u e sell close n ≡ true → AllCovered d (only (eqb e c && eqb u a) (leg sell (not (eqb close 0)) p n))
  unfolding only AllCovered leg_covered
  covered_leg accounts d u e sell close p n l t = by_contract_and_account (eqb e c) (eqb u a) refl refl
    where
      by_contract_and_account : (here whose : Bool) → eqb e c ≡ here → eqb u a ≡ whose →
          AllCovered d (only (here && whose) (leg sell (not (eqb close 0)) p n))
      by_contract_and_account true true i j =
          (covers (holding_at accounts a c) d sell (eqb close 0) p n l (rw (eqb-true e c i, eqb-true u a j) at t), tt)
      by_contract_and_account true false i j = tt
      by_contract_and_account false true i j = tt
      by_contract_and_account false false i j = tt

  covered_trades : (accounts : List Account) (d : Day) (ts : List Trade) → NoMore (holding_at accounts a c) d →
      never_below_zero accounts ts ≡ true → AllCovered d (legs a c ts)
  unfolding never_below_zero legs book_trade
  covered_trades accounts d [] l t = covered_nil d
  covered_trades accounts d (tr ∷ ts) l t =
      let r = both_true _ (never_below_zero (book_trade accounts tr) ts) t in
      let b = both_true (leg_covered accounts tr.buyer tr.contract false tr.buyclose tr.lots) _ r.0 in
      let l₁ = leg-≤ accounts d tr.buyer tr.contract false tr.buyclose tr.price tr.lots l in
      let l₂ = leg-≤ (book_buyer accounts tr) _ tr.seller tr.contract true tr.sellclose tr.price tr.lots l₁ in
      covered_append d (bought_by a c tr) (sold_by a c tr ++ legs a c ts)
      (covered_leg accounts d tr.buyer tr.contract false tr.buyclose tr.price tr.lots l b.0)
      (covered_append (after_legs d (bought_by a c tr)) (sold_by a c tr) (legs a c ts)
      (covered_leg (book_buyer accounts tr) _ tr.seller tr.contract true tr.sellclose tr.price tr.lots l₁ b.1)
      (covered_trades (book_trade accounts tr) _ ts l₂ r.1))

  -- of an account's start of the day, whatever the reference
  pub replay_covered : (accounts : List Account) (ts : List Trade) (reference : ℕ) → never_below_zero (start_of_day accounts) ts ≡ true →
      AllCovered (day_start reference (holding_at accounts a c).startlong (holding_at accounts a c).startshort) (legs a c ts)
  replay_covered accounts ts reference t =
      covered_trades (start_of_day accounts) _ ts
      (rw (start_holding_lem accounts a c)
      (let s = lots_start reference (holding_at accounts a c).startlong (holding_at accounts a c).startshort in
      record { long = omega arith; short = omega arith }))
      t

-- ---- both leave the same lots open

module _ (accounts : List Account) (a c : ℕ) (p : Placed accounts a c) where
  pub replay_lots : (ts : List Trade) (reference : ℕ) → Lots (λ x y. x ≡ y) (holding_at (book_trades (start_of_day accounts) ts) a c)
      (after_legs (day_start reference (holding_at accounts a c).startlong (holding_at accounts a c).startshort) (legs a c ts))
  replay_lots ts reference =
      all_trades (λ x y. x ≡ y) kept-≡ a c (λ s. Placed s a c)
      (λ s sell close n d q l. rw (booked_here s sell close n a c q) l)
      (λ s u e sell close n q. booked_placed s sell close n u e a c q)
      (start_of_day accounts) _ ts (start_placed accounts a c p)
      (rw (start_holding_lem accounts a c)
      (let s = lots_start reference (holding_at accounts a c).startlong (holding_at accounts a c).startshort in
      record { long = sym s.0; short = sym s.1 }))

-- two lists of accounts that hold the same lots do so at each place
same_lots_lem : (hs ks : List Holding) (c : ℕ) → same_lots hs ks ≡ true →
    ((get_or hs c no_holding).long ≡ (get_or ks c no_holding).long) × ((get_or hs c no_holding).short ≡ (get_or ks c no_holding).short)
unfolding same_lots
same_lots_lem [] [] c t = (refl, refl)
same_lots_lem [] (k ∷ ks) c t = absurd (false≢true t)
same_lots_lem (h ∷ hs) [] c t = absurd (false≢true t)
same_lots_lem (h ∷ hs) (k ∷ ks) zero t =
    let b = both_true (eqb h.long k.long) (eqb h.short k.short) (both_true _ (same_lots hs ks) t).0 in
    (eqb-true h.long k.long b.0, eqb-true h.short k.short b.1)
same_lots_lem (h ∷ hs) (k ∷ ks) (suc c) t = same_lots_lem hs ks c (both_true (eqb h.long k.long && eqb h.short k.short) (same_lots hs ks) t).1

pub same_holdings_lem : (as' bs : List Account) (a c : ℕ) → same_holdings as' bs ≡ true →
    ((holding_at as' a c).long ≡ (holding_at bs a c).long) × ((holding_at as' a c).short ≡ (holding_at bs a c).short)
unfolding same_holdings holding_at account_at
same_holdings_lem [] [] a c t = (refl, refl)
same_holdings_lem [] (b ∷ bs) a c t = absurd (false≢true t)
same_holdings_lem (x ∷ as') [] a c t = absurd (false≢true t)
same_holdings_lem (x ∷ as') (b ∷ bs) zero c t = same_lots_lem x.holdings b.holdings c (both_true _ (same_holdings as' bs) t).0
same_holdings_lem (x ∷ as') (b ∷ bs) (suc a) c t = same_holdings_lem as' bs a c (both_true (same_lots x.holdings b.holdings) _ t).1

-- ---- in a state whose trades replay, each close finds its lots, and the lots open are the holdings now

pub replays_parts : (x : Exchange) → replays x ≡ true → (never_below_zero (start_of_day x.accounts) x.trades ≡ true)
    × (same_holdings (book_trades (start_of_day x.accounts) x.trades) x.accounts ≡ true)
unfolding replays
replays_parts x r = both_true (never_below_zero (start_of_day x.accounts) x.trades) _ r

module _ (x : Exchange) (r : replays x ≡ true) (a c : ℕ) where
  pub day_covered : AllCovered
      (day_start (listing_at x c).contract.reference (holding_at x.accounts a c).startlong (holding_at x.accounts a c).startshort)
      (legs a c x.trades)
  day_covered = replay_covered a c x.accounts x.trades _ (replays_parts x r).0

  pub day_holdings : Placed x.accounts a c →
      (lots_in (day_of x a c).long ≡ (holding_at x.accounts a c).long) × (lots_in (day_of x a c).short ≡ (holding_at x.accounts a c).short)
  unfolding day_of
  day_holdings p =
      let l = replay_lots x.accounts a c p x.trades (listing_at x c).contract.reference in
      let s = same_holdings_lem _ x.accounts a c (replays_parts x r).1 in
      (sym l.long ∙ s.0, sym l.short ∙ s.1)
