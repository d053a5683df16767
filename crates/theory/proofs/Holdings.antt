-- Trades booked to holdings: what a leg changes and what it leaves, bounds, and the replay of a day. Assumes nothing.
use lib.IntN.{ℤ}
use Rattle.laws.specs.Logic.{Bool, true, false, ◌&&◌, false≢true, List, [], ◌∷◌, ◌++◌, map, ◌≡◌, refl, sym, ap, ap₂, ◌∙◌}
use Rattle.laws.specs.Numbers.{ℕ, ◌+◌, ◌-◌, ◌<◌, ◌≤◌, eqb-true, eq-eqb, le-leb, eqb, length, get_or, drop, length-set, List·getD-map, get_or-set_same}
use Rattle.laws.specs.Numbers.{get_or-set_other, map-set_same}
use Rattle.laws.specs.Choice.{pick, pick_same, all_of, both_true}
use Rattle.laws.specs.Lists.{kept_at}
use Rattle.rules.specs.Exchange.{account_at, holding_at, no_account, no_holding}
use Rattle.rules.specs.Holdings.{with_long, with_short, after_leg, with_holding, book_leg, book_buyer, book_trade, book_trades, leg_covered, never_below_zero, start_holding, start_account, start_of_day, same_lots, same_holdings}
use Rattle.rules.specs.declared.{Account.Account, Holding.Holding, Trade.Trade}
use Rattle.theory.proofs.Sweep.{of_contract}

-- ---- one leg

-- what an account has beside its holdings
abbrev held_by : {A : Type 0} → (ℤ → ℕ → A) → List Account → ℕ → A
held_by f l b = f (account_at l b).balance (account_at l b).maker

-- the start of the day is as it was
after_leg_start : (h : Holding) (sell : Bool) (close lots : ℕ) → start_holding (after_leg h sell close lots) ≡ start_holding h
unfolding after_leg
after_leg_start h sell close lots = by_leg sell (eqb close 0)
  where
    by_leg : (s o : Bool)
        → start_holding (pick s (pick o (with_short h (h.short + lots)) (with_long h (h.long - lots))) (pick o (with_long h (h.long + lots)) (with_short h (h.short - lots)))) ≡ start_holding h
    by_leg true true = refl
    by_leg true false = refl
    by_leg false true = refl
    by_leg false false = refl

account_start : (x : Account) (c : ℕ) (sell : Bool) (close lots : ℕ)
    → start_account (with_holding x c (after_leg (get_or x.holdings c no_holding) sell close lots)) ≡ start_account x
account_start x c sell close lots =
    ap (λ (hs : List Holding). record { balance = x.balance; maker = x.maker; holdings = hs })
    (map-set_same start_holding x.holdings c (after_leg (get_or x.holdings c no_holding) sell close lots) no_holding (after_leg_start (get_or x.holdings c no_holding) sell close lots))

module _ (l : List Account) (a c : ℕ) (sell : Bool) (close lots : ℕ) where
  pub length_book_leg : length (book_leg l a c sell close lots) ≡ length l
  unfolding book_leg
  length_book_leg = length-set l a _

  pub account_same : a < length l
      → account_at (book_leg l a c sell close lots) a ≡ with_holding (account_at l a) c (after_leg (holding_at l a c) sell close lots)
  unfolding book_leg account_at
  account_same h = get_or-set_same l a _ no_account h

  pub account_other : (b : ℕ) → (b ≡ a → ⊥) → account_at (book_leg l a c sell close lots) b ≡ account_at l b
  unfolding book_leg account_at
  account_other b apart = get_or-set_other l a b _ no_account apart

  pub holding_same : a < length l → c < length (account_at l a).holdings
      → holding_at (book_leg l a c sell close lots) a c ≡ after_leg (holding_at l a c) sell close lots
  unfolding holding_at
  holding_same h k = rw (account_same h) (get_or-set_same (account_at l a).holdings c _ no_holding k)

  pub holding_other_account : (b d : ℕ) → (b ≡ a → ⊥) → holding_at (book_leg l a c sell close lots) b d ≡ holding_at l b d
  unfolding holding_at
  holding_other_account b d apart = rw (account_other b apart)

  pub holding_other_contract : (b d : ℕ) → (d ≡ c → ⊥) → holding_at (book_leg l a c sell close lots) b d ≡ holding_at l b d
  unfolding book_leg holding_at account_at
  holding_other_contract b d apart = kept_at (λ x. get_or x.holdings d no_holding) l a _ no_account (get_or-set_other (get_or l a no_account).holdings c d _ no_holding apart) b

  -- it changes neither a balance nor a maker mark
  leg_kept : {A : Type 0} (f : ℤ → ℕ → A) (b : ℕ) → held_by f (book_leg l a c sell close lots) b ≡ held_by f l b
  unfolding book_leg account_at
  leg_kept f b = kept_at (λ x. f x.balance x.maker) l a _ no_account refl b

  leg_start : start_of_day (book_leg l a c sell close lots) ≡ start_of_day l
  unfolding book_leg start_of_day account_at holding_at
  leg_start = map-set_same start_account l a _ no_account (account_start (get_or l a no_account) c sell close lots)

-- ---- trades

module _ (l : List Account) (t : Trade) where
  pub length_book_trade : length (book_trade l t) ≡ length l
  unfolding book_trade
  length_book_trade = length_book_leg (book_buyer l t) t.seller t.contract true t.sellclose t.lots ∙ length_book_leg l t.buyer t.contract false t.buyclose t.lots

  trade_kept : {A : Type 0} (f : ℤ → ℕ → A) (b : ℕ) → held_by f (book_trade l t) b ≡ held_by f l b
  unfolding book_trade
  trade_kept f b = leg_kept (book_buyer l t) t.seller t.contract true t.sellclose t.lots f b ∙ leg_kept l t.buyer t.contract false t.buyclose t.lots f b

  trade_start : start_of_day (book_trade l t) ≡ start_of_day l
  unfolding book_trade
  trade_start = leg_start (book_buyer l t) t.seller t.contract true t.sellclose t.lots ∙ leg_start l t.buyer t.contract false t.buyclose t.lots

  -- a contract that it is not of
  pub holding_other_trade : (b d : ℕ) → (d ≡ t.contract → ⊥) → holding_at (book_trade l t) b d ≡ holding_at l b d
  unfolding book_trade
  holding_other_trade b d apart =
      holding_other_contract (book_buyer l t) t.seller t.contract true t.sellclose t.lots b d apart ∙ holding_other_contract l t.buyer t.contract false t.buyclose t.lots b d apart

pub book_trades_append : (l : List Account) (ts us : List Trade) → book_trades l (ts ++ us) ≡ book_trades (book_trades l ts) us
unfolding book_trades
book_trades_append l [] us = refl
book_trades_append l (t ∷ ts) us = book_trades_append (book_trade l t) ts us

-- trades of one contract leave the holdings in others as they are
pub other_holding : (c : ℕ) (l : List Account) (ts : List Trade) (a d : ℕ) → all_of (of_contract c) ts ≡ true → (d ≡ c → ⊥) →
    holding_at (book_trades l ts) a d ≡ holding_at l a d
unfolding all_of book_trades
other_holding c l [] a d h n = refl
other_holding c l (t ∷ ts) a d h n =
    let p = both_true (eqb t.contract c) (all_of (of_contract c) ts) h in
    other_holding c (book_trade l t) ts a d p.1 n ∙ holding_other_trade l t a d (λ e. n (e ∙ eqb-true t.contract c p.0))

-- what no trade changes
pub length_book_trades : (l : List Account) (ts : List Trade) → length (book_trades l ts) ≡ length l
unfolding book_trades
length_book_trades l [] = refl
length_book_trades l (t ∷ ts) = length_book_trades (book_trade l t) ts ∙ length_book_trade l t

booked_kept : {A : Type 0} (f : ℤ → ℕ → A) (l : List Account) (ts : List Trade) (b : ℕ) → held_by f (book_trades l ts) b ≡ held_by f l b
unfolding book_trades
booked_kept f l [] b = refl
booked_kept f l (t ∷ ts) b = booked_kept f (book_trade l t) ts b ∙ trade_kept l t f b

pub booked_balance : (l : List Account) (ts : List Trade) (b : ℕ) → (account_at (book_trades l ts) b).balance ≡ (account_at l b).balance
booked_balance = booked_kept (λ balance maker. balance)

pub booked_maker : (l : List Account) (ts : List Trade) (b : ℕ) → (account_at (book_trades l ts) b).maker ≡ (account_at l b).maker
booked_maker = booked_kept (λ balance maker. maker)

pub booked_start : (l : List Account) (ts : List Trade) → start_of_day (book_trades l ts) ≡ start_of_day l
unfolding book_trades
booked_start l [] = refl
booked_start l (t ∷ ts) = booked_start (book_trade l t) ts ∙ trade_start l t

-- the same of one holding
start_holding_lem : (l : List Account) (b d : ℕ) → start_holding (holding_at l b d) ≡ holding_at (start_of_day l) b d
unfolding holding_at account_at start_of_day
start_holding_lem l b d =
    sym
    (ap (λ (x : Account). get_or x.holdings d no_holding) (List·getD-map start_account l b no_account) ∙ List·getD-map start_holding (get_or l b no_account).holdings d no_holding)

pub booked_start_holding : (l : List Account) (ts : List Trade) (b d : ℕ)
    → start_holding (holding_at (book_trades l ts) b d) ≡ start_holding (holding_at l b d)
booked_start_holding l ts b d = start_holding_lem (book_trades l ts) b d ∙ rw (booked_start l ts) (sym (start_holding_lem l b d))

-- ---- the replay

pub open_covered : (l : List Account) (a c : ℕ) (sell : Bool) (lots : ℕ) → leg_covered l a c sell 0 lots ≡ true
unfolding leg_covered
open_covered l a c sell lots = refl

pub close_covered : (l : List Account) (a c : ℕ) (sell : Bool) (close lots : ℕ) → lots ≤ pick sell (holding_at l a c).long (holding_at l a c).short
    → leg_covered l a c sell close lots ≡ true
unfolding leg_covered
close_covered l a c sell close lots h = rw (le-leb lots (pick sell (holding_at l a c).long (holding_at l a c).short) h) (pick_same (eqb close 0) true)

pub never_nil : (l : List Account) → never_below_zero l [] ≡ true
unfolding never_below_zero
never_nil l = refl

and_assoc : (a b c : Bool) → (a && (b && c)) ≡ ((a && b) && c)
and_assoc true b c = refl
and_assoc false b c = refl

pub never_append : (l : List Account) (ts us : List Trade)
    → never_below_zero l (ts ++ us) ≡ (never_below_zero l ts && never_below_zero (book_trades l ts) us)
unfolding never_below_zero book_trades
never_append l [] us = refl
never_append l (t ∷ ts) us =
    rw (never_append (book_trade l t) ts us)
    (and_assoc
    (leg_covered l t.buyer t.contract false t.buyclose t.lots && leg_covered (book_buyer l t) t.seller t.contract true t.sellclose t.lots)
    (never_below_zero (book_trade l t) ts)
    (never_below_zero (book_trades (book_trade l t) ts) us))

-- the start of the day at the start of the day
start_holdings_again : (hs : List Holding) → map start_holding (map start_holding hs) ≡ map start_holding hs
start_holdings_again [] = refl
start_holdings_again (h ∷ hs) = ap (λ (ks : List Holding). start_holding h ∷ ks) (start_holdings_again hs)

pub start_again : (l : List Account) → start_of_day (start_of_day l) ≡ start_of_day l
unfolding start_of_day
start_again [] = refl
start_again (a ∷ l) = ap₂ (λ (hs : List Holding) (k : List Account). record { balance = a.balance; maker = a.maker; holdings = hs } ∷ k) (start_holdings_again a.holdings) (start_again l)

lots_refl : (hs : List Holding) → same_lots hs hs ≡ true
unfolding same_lots
lots_refl [] = refl
lots_refl (h ∷ hs) = rw (eq-eqb h.long h.long refl, eq-eqb h.short h.short refl) (lots_refl hs)

pub same_refl : (l : List Account) → same_holdings l l ≡ true
unfolding same_holdings
same_refl [] = refl
same_refl (a ∷ l) = rw (lots_refl a.holdings) (same_refl l)

-- holdings, and accounts, with the same lots now and the same at the start of the day are the same
lots_equal : (hs ks : List Holding) → same_lots hs ks ≡ true → map start_holding hs ≡ map start_holding ks → hs ≡ ks
unfolding same_lots
lots_equal [] [] e s = refl
lots_equal [] (k ∷ ks) e s = absurd (false≢true e)
lots_equal (h ∷ hs) [] e s = absurd (false≢true e)
lots_equal (h ∷ hs) (k ∷ ks) e s =
    let b = both_true (eqb h.long k.long && eqb h.short k.short) (same_lots hs ks) e in
    let r = both_true (eqb h.long k.long) (eqb h.short k.short) b.0 in
    let p : start_holding h ≡ start_holding k = ap (λ (l : List Holding). get_or l 0 no_holding) s in
    ap₂ (λ (x : Holding) (l : List Holding). x ∷ l)
    (λ i. record { long = eqb-true h.long k.long r.0 i; short = eqb-true h.short k.short r.1 i; startlong = (p i).startlong; startshort = (p i).startshort })
    (lots_equal hs ks b.1 (ap (λ (l : List Holding). drop 1 l) s))

pub same_equal : (l k : List Account) → same_holdings l k ≡ true → start_of_day l ≡ start_of_day k → l ≡ k
unfolding same_holdings start_of_day
same_equal [] [] e s = refl
same_equal [] (b ∷ k) e s = absurd (false≢true e)
same_equal (a ∷ l) [] e s = absurd (false≢true e)
same_equal (a ∷ l) (b ∷ k) e s =
    let r = both_true (same_lots a.holdings b.holdings) (same_holdings l k) e in
    let p : start_account a ≡ start_account b = ap (λ (l : List Account). get_or l 0 no_account) s in
    ap₂ (λ (x : Account) (l : List Account). x ∷ l)
    (λ i. record { balance = (p i).balance; maker = (p i).maker; holdings = lots_equal a.holdings b.holdings r.0 (ap (λ (x : Account). x.holdings) p) i })
    (same_equal l k r.1 (ap (λ (l : List Account). drop 1 l) s))

-- "replaying the day's trades .. gives the holdings now": it gives the accounts as they are
pub replay_equal : (l : List Account) (ts : List Trade) → same_holdings (book_trades (start_of_day l) ts) l ≡ true → book_trades (start_of_day l) ts ≡ l
replay_equal l ts e = same_equal (book_trades (start_of_day l) ts) l e (booked_start (start_of_day l) ts ∙ start_again l)

-- more trades, booked to the accounts and recorded behind the day's: the replay of them all is still the accounts
pub replay_more : (l : List Account) (ts us : List Trade) → same_holdings (book_trades (start_of_day l) ts) l ≡ true
    → same_holdings (book_trades (start_of_day (book_trades l us)) (ts ++ us)) (book_trades l us) ≡ true
replay_more l ts us e = rw (booked_start l us, book_trades_append (start_of_day l) ts us, replay_equal l ts e) (same_refl (book_trades l us))

-- and goes below zero nowhere, if the new trades do not
pub never_more : (l : List Account) (ts us : List Trade) → same_holdings (book_trades (start_of_day l) ts) l ≡ true
    → never_below_zero (start_of_day l) ts ≡ true → never_below_zero l us ≡ true → never_below_zero (start_of_day (book_trades l us)) (ts ++ us) ≡ true
never_more l ts us e n m = rw (booked_start l us, never_append (start_of_day l) ts us, replay_equal l ts e, n) m
