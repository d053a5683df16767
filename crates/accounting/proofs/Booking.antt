-- What a booked leg does to the holdings: the one place that it names is changed, and no other. Assumes nothing.
use Rattle.laws.specs.Logic.{Bool, true, false, List, [], ◌∷◌, ◌≡◌, refl, sym, ap, ◌∙◌}
use Rattle.laws.specs.Numbers.{ℕ, zero, suc, ◌+◌, ◌-◌, ◌<◌, le_of_suc-le-suc, not-suc-le-zero, eqb, length, get_or, set, length-map, length-set, List·getD-map}
use Rattle.laws.specs.Numbers.{get_or-set_same, get_or-set_other}
use Rattle.laws.specs.Choice.{pick}
use Rattle.laws.specs.Lists.{kept_at}
use Rattle.rules.specs.Exchange.{no_account, no_holding, account_at, holding_at}
use Rattle.rules.specs.Holdings.{with_long, with_short, with_holding, start_holding, start_account, start_of_day, after_leg, book_leg, book_buyer, book_trade, book_trades}
use Rattle.rules.specs.declared.{Account.Account, Holding.Holding, Trade.Trade}
use Rattle.accounting.specs.Shape.{Placed}

-- ---- one holding replaced

replaced : List Account → ℕ → ℕ → Holding → List Account
replaced accounts a c h = set accounts a (with_holding (get_or accounts a no_account) c h)

replaced_here : (accounts : List Account) (a c : ℕ) (h : Holding) → a < length accounts → c < length (get_or accounts a no_account).holdings →
    get_or (get_or (replaced accounts a c h) a no_account).holdings c no_holding ≡ h
unfolding replaced
replaced_here [] a c h p q = absurd (not-suc-le-zero p)
replaced_here (x ∷ xs) zero c h p q = get_or-set_same x.holdings c h no_holding q
replaced_here (x ∷ xs) (suc a) c h p q = replaced_here xs a c h (le_of_suc-le-suc p) q

replaced_elsewhere : (accounts : List Account) (u e a c : ℕ) (h : Holding) → (u ≡ a → e ≡ c → ⊥) →
    get_or (get_or (replaced accounts u e h) a no_account).holdings c no_holding ≡ get_or (get_or accounts a no_account).holdings c no_holding
unfolding replaced
replaced_elsewhere [] u e a c h n = refl
replaced_elsewhere (x ∷ xs) zero e zero c h n = get_or-set_other x.holdings e c h no_holding (λ q. n refl (sym q))
replaced_elsewhere (x ∷ xs) zero e (suc a) c h n = refl
replaced_elsewhere (x ∷ xs) (suc u) e zero c h n = refl
replaced_elsewhere (x ∷ xs) (suc u) e (suc a) c h n = replaced_elsewhere xs u e a c h (λ p q. n (ap suc p) q)

-- past the end nothing is held
module _ (P : Holding → Type 0) (h : Holding) (here : P h) (none : P no_holding) where
  set_or_none : (hs : List Holding) (c : ℕ) → P (get_or (set hs c h) c no_holding)
  set_or_none [] c = none
  set_or_none (k ∷ hs) zero = here
  set_or_none (k ∷ hs) (suc c) = set_or_none hs c

  replaced_or_none : (accounts : List Account) (a c : ℕ) → P (get_or (get_or (replaced accounts a c h) a no_account).holdings c no_holding)
  unfolding replaced
  replaced_or_none [] a c = none
  replaced_or_none (x ∷ xs) zero c = set_or_none x.holdings c
  replaced_or_none (x ∷ xs) (suc a) c = replaced_or_none xs a c

-- ---- a leg booked

-- the four kinds of leg
leg_cases : (P : Holding → Type 0) (h : Holding) (sell : Bool) (close lots : ℕ) →
    P (with_short h (h.short + lots)) → P (with_long h (h.long - lots)) → P (with_long h (h.long + lots)) → P (with_short h (h.short - lots)) →
    P (after_leg h sell close lots)
unfolding after_leg
leg_cases P h sell close lots p q r s = by_leg sell (eqb close 0)
  where
    by_leg : (sell opens : Bool) →
        P (pick sell (pick opens (with_short h (h.short + lots)) (with_long h (h.long - lots))) (pick opens (with_long h (h.long + lots)) (with_short h (h.short - lots))))
    by_leg true true = p
    by_leg true false = q
    by_leg false true = r
    by_leg false false = s

module _ (accounts : List Account) (sell : Bool) (close lots : ℕ) where
  pub booked_here : (a c : ℕ) → Placed accounts a c →
      holding_at (book_leg accounts a c sell close lots) a c ≡ after_leg (holding_at accounts a c) sell close lots
  unfolding holding_at account_at book_leg replaced
  booked_here a c p = replaced_here accounts a c _ p.account p.contract

  pub booked_elsewhere : (u e a c : ℕ) → (u ≡ a → e ≡ c → ⊥) → holding_at (book_leg accounts u e sell close lots) a c ≡ holding_at accounts a c
  unfolding holding_at account_at book_leg replaced
  booked_elsewhere u e a c n = replaced_elsewhere accounts u e a c _ n

  -- in the place or past the end, whatever holds of the holding after the leg and of none
  pub booked_or_none : (P : Holding → Type 0) (a c : ℕ) → P (after_leg (holding_at accounts a c) sell close lots) → P no_holding →
      P (holding_at (book_leg accounts a c sell close lots) a c)
  unfolding holding_at account_at book_leg replaced
  booked_or_none P a c here none = replaced_or_none P _ here none accounts a c

  pub booked_length : (u e : ℕ) → length (book_leg accounts u e sell close lots) ≡ length accounts
  unfolding book_leg
  booked_length u e = length-set accounts u _

  pub booked_wide : (u e a : ℕ) → length (account_at (book_leg accounts u e sell close lots) a).holdings ≡ length (account_at accounts a).holdings
  unfolding account_at book_leg
  booked_wide u e a = kept_at (λ (x : Account). length x.holdings) accounts u _ no_account (length-set (get_or accounts u no_account).holdings e _) a

  pub booked_balance : (u e a : ℕ) → (account_at (book_leg accounts u e sell close lots) a).balance ≡ (account_at accounts a).balance
  unfolding account_at book_leg
  booked_balance u e a = kept_at (λ (x : Account). x.balance) accounts u _ no_account refl a

  -- no leg changes what was held at the start of the day
  pub booked_start : {B : Type 0} (f : ℕ → ℕ → B) (u e a c : ℕ) →
      f (holding_at (book_leg accounts u e sell close lots) a c).startlong (holding_at (book_leg accounts u e sell close lots) a c).startshort
      ≡ f (holding_at accounts a c).startlong (holding_at accounts a c).startshort
  unfolding holding_at account_at book_leg
  booked_start {B} f u e a c =
      kept_at (λ (x : Account). start (get_or x.holdings c no_holding)) accounts u _ no_account
      (kept_at start (get_or accounts u no_account).holdings e _ no_holding
      (leg_cases (λ k. start k ≡ start (get_or (get_or accounts u no_account).holdings e no_holding)) _ sell close lots refl refl refl refl) c) a
    where
      start : Holding → B
      start h = f h.startlong h.startshort

  pub booked_placed : (u e a c : ℕ) → Placed accounts a c → Placed (book_leg accounts u e sell close lots) a c
  booked_placed u e a c p = record { account = rw (booked_length u e) p.account; contract = rw (booked_wide u e a) p.contract }

-- ---- a list of trades booked: what the legs do not change

module _ {B : Type 0} (f : List Account → B)
    (k : (accounts : List Account) (sell : Bool) (close lots u e : ℕ) → f (book_leg accounts u e sell close lots) ≡ f accounts) where
  all_booked : (accounts : List Account) (ts : List Trade) → f (book_trades accounts ts) ≡ f accounts
  unfolding book_trades book_trade
  all_booked accounts [] = refl
  all_booked accounts (t ∷ ts) =
      all_booked (book_trade accounts t) ts ∙ k (book_buyer accounts t) true t.sellclose t.lots t.seller t.contract
      ∙ k accounts false t.buyclose t.lots t.buyer t.contract

module _ (accounts : List Account) (ts : List Trade) where
  pub all_booked_length : length (book_trades accounts ts) ≡ length accounts
  all_booked_length = all_booked length booked_length accounts ts

  pub all_booked_wide : (a : ℕ) → length (account_at (book_trades accounts ts) a).holdings ≡ length (account_at accounts a).holdings
  all_booked_wide a =
      all_booked (λ (s : List Account). length (account_at s a).holdings) (λ s sell close lots u e. booked_wide s sell close lots u e a) accounts ts

  pub all_booked_balance : (a : ℕ) → (account_at (book_trades accounts ts) a).balance ≡ (account_at accounts a).balance
  all_booked_balance a =
      all_booked (λ (s : List Account). (account_at s a).balance) (λ s sell close lots u e. booked_balance s sell close lots u e a) accounts ts

  pub all_booked_start : {B : Type 0} (f : ℕ → ℕ → B) (a c : ℕ) →
      f (holding_at (book_trades accounts ts) a c).startlong (holding_at (book_trades accounts ts) a c).startshort
      ≡ f (holding_at accounts a c).startlong (holding_at accounts a c).startshort
  all_booked_start f a c =
      all_booked (λ (s : List Account). f (holding_at s a c).startlong (holding_at s a c).startshort)
      (λ s sell close lots u e. booked_start s sell close lots f u e a c) accounts ts

-- ---- the start of the day

pub start_holding_lem : (accounts : List Account) (a c : ℕ) → holding_at (start_of_day accounts) a c ≡ start_holding (holding_at accounts a c)
unfolding holding_at account_at start_of_day
start_holding_lem accounts a c =
    ap (λ (x : Account). get_or x.holdings c no_holding) (List·getD-map start_account accounts a no_account)
    ∙ List·getD-map start_holding (get_or accounts a no_account).holdings c no_holding

pub start_placed : (accounts : List Account) (a c : ℕ) → Placed accounts a c → Placed (start_of_day accounts) a c
unfolding account_at start_of_day
start_placed accounts a c p = record {
  account = rw (length-map accounts start_account) p.account;
  contract = rw (List·getD-map start_account accounts a no_account, length-map (get_or accounts a no_account).holdings start_holding) p.contract;
}
