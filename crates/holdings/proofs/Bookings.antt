-- Holdings while trades are booked: a bound on those of the accounts in use grows by the lots of each leg, and the two places that code changes
-- are the two legs of the trade. Assumes nothing.
use Rattle.laws.specs.Logic.{Bool, true, false, List, [], ◌∷◌, ◌≡◌, ap, ◌∙◌}
use Rattle.laws.specs.Numbers.{ℕ, zero, suc, ◌+◌, ◌-◌, ◌<◌, ◌≤◌, arith, eqb, get_or, set}
use Rattle.laws.specs.Choice.{pick}
use Rattle.rules.specs.Exchange.{no_account, no_holding, account_at, holding_at}
use Rattle.rules.specs.Holdings.{with_long, with_short, with_holding, after_leg, book_leg, book_buyer, book_trade}
use Rattle.rules.specs.declared.{Account.Account, Holding.Holding, Trade.Trade}
use Rattle.holdings.specs.Bounds.{HoldingWithin, HeldWithin}

-- ---- bounds

-- what holds of each element at its place, and of what is stored at its own, holds after the store
all_set : {A : Type 0} (P : ℕ → A → Type 0) (d : A) (l : List A) (i : ℕ) (v : A) → ((k : ℕ) → P k (get_or l k d)) → P i v → (k : ℕ) → P k (get_or (set l i v) k d)
all_set P d [] i v h hv k = h k
all_set P d (x ∷ xs) zero v h hv zero = hv
all_set P d (x ∷ xs) zero v h hv (suc k) = h (suc k)
all_set P d (x ∷ xs) (suc i) v h hv zero = h zero
all_set P d (x ∷ xs) (suc i) v h hv (suc k) = all_set (λ j. P (suc j)) d xs i v (λ j. h (suc j)) hv k

-- what holds of an element and of what is stored over it holds of the place
set_here : {A : Type 0} (P : A → Type 0) (d : A) (l : List A) (i : ℕ) (v : A) → P (get_or l i d) → P v → P (get_or (set l i v) i d)
set_here P d [] i v h hv = h
set_here P d (x ∷ xs) zero v h hv = hv
set_here P d (x ∷ xs) (suc i) v h hv = set_here P d xs i v h hv

pub holding_more : {a b : ℕ} {h : Holding} → HoldingWithin a h → a ≤ b → HoldingWithin b h
holding_more w more = record { long = omega arith; short = omega arith }

pub held_more : {a b used c : ℕ} {l : List Account} → HeldWithin a used c l → a ≤ b → HeldWithin b used c l
held_more w more = record { each = λ a h. holding_more (w.each a h) more }

-- one of them, as code reads it
pub holding_read : {a b used c k : ℕ} {l : List Account} (who : ℕ) → HeldWithin a used c l → who < used → k ≡ c → a ≤ b → HoldingWithin b (get_or (get_or l who no_account).holdings k no_holding)
unfolding account_at holding_at
holding_read who w h e more = rw e (holding_more (w.each who h) more)

holding_leg : {b : ℕ} (h : Holding) (sell : Bool) (close lots : ℕ) → HoldingWithin b h → HoldingWithin (b + lots) (after_leg h sell close lots)
unfolding after_leg
holding_leg {b} h sell close lots w = by_leg sell (eqb close 0)
  where
    by_leg : (s o : Bool) → HoldingWithin (b + lots)
        (pick s
        (pick o (with_short h (h.short + lots)) (with_long h (h.long - lots)))
        (pick o (with_long h (h.long + lots)) (with_short h (h.short - lots))))
    by_leg true true = record { long = omega arith; short = omega arith }
    by_leg true false = record { long = omega arith; short = omega arith }
    by_leg false true = record { long = omega arith; short = omega arith }
    by_leg false false = record { long = omega arith; short = omega arith }

held_leg : {b used : ℕ} (l : List Account) (a c : ℕ) (sell : Bool) (close lots : ℕ) → a < used → HeldWithin b used c l → HeldWithin (b + lots) used c (book_leg l a c sell close lots)
unfolding book_leg account_at holding_at
held_leg {b} {used} l a c sell close lots h w =
    record {
      each =
          all_set (λ k x. k < used → HoldingWithin (b + lots) (get_or x.holdings c no_holding)) no_account l a _
          (λ k i. holding_more (w.each k i) (omega arith))
          (λ i. set_here (HoldingWithin (b + lots)) no_holding (get_or l a no_account).holdings c _ (holding_more (w.each a i) (omega arith)) (holding_leg _ sell close lots (w.each a i)));
    }

-- both parties in use
pub held_trade : {b used c : ℕ} (l : List Account) (t : Trade) → t.contract ≡ c → t.buyer < used → t.seller < used
    → HeldWithin b used c l → HeldWithin (b + t.lots + t.lots) used c (book_trade l t)
unfolding book_trade
held_trade l t e buyer seller w =
    rw (← e)
    (held_leg (book_buyer l t) t.seller t.contract true t.sellclose t.lots seller (held_leg l t.buyer t.contract false t.buyclose t.lots buyer (rw e w)))

-- ---- one changed place for each leg

-- the account at a place, with a leg booked
leg_booked : (l : List Account) (a c who contract : ℕ) (sell : Bool) (close lots : ℕ) (x : Account) → who ≡ a → contract ≡ c
    → x ≡ with_holding (get_or l who no_account) contract (after_leg (get_or (get_or l who no_account).holdings contract no_holding) sell close lots)
    → set l who x ≡ book_leg l a c sell close lots
unfolding book_leg account_at holding_at
leg_booked l a c who contract sell close lots x ea ec ex = rw (ex, ea, ec)

module _ (l : List Account) (t : Trade) {c buyer : ℕ} {x : Account} (ec : c ≡ t.contract) (eb : buyer ≡ t.buyer)
    (ex : x ≡ with_holding (get_or l buyer no_account) c (after_leg (get_or (get_or l buyer no_account).holdings c no_holding) false t.buyclose t.lots)) where
  buyer_booked : set l buyer x ≡ book_buyer l t
  buyer_booked = leg_booked l t.buyer t.contract buyer c false t.buyclose t.lots x eb ec ex

  pub buyer_held : {b used d : ℕ} → t.contract ≡ d → t.buyer < used → HeldWithin b used d l → HeldWithin (b + t.lots) used d (set l buyer x)
  buyer_held e h w = rw (buyer_booked, ← e) (held_leg l t.buyer t.contract false t.buyclose t.lots h (rw e w))

  -- "the buyer's leg is booked first"
  pub trade_booked : {seller : ℕ} {y : Account} → seller ≡ t.seller
      → y ≡ with_holding (get_or (set l buyer x) seller no_account) c (after_leg (get_or (get_or (set l buyer x) seller no_account).holdings c no_holding) true t.sellclose t.lots)
      → set (set l buyer x) seller y ≡ book_trade l t
  unfolding book_trade
  trade_booked {seller} {y} es ey =
      leg_booked (set l buyer x) t.seller t.contract seller c true t.sellclose t.lots y es ec ey
      ∙ ap (λ (m : List Account). book_leg m t.seller t.contract true t.sellclose t.lots) buyer_booked
