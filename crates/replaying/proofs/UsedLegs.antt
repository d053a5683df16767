-- A leg tested and booked on the account that code reads, and on the accounts in use. Assumes nothing.
use Rattle.laws.specs.Logic.{Bool, true, List, [], ◌∷◌, ◌≡◌, refl, sym, ap, ap₂, ◌∙◌}
use Rattle.laws.specs.Numbers.{ℕ, ◌<◌, ◌≤◌, eqb, leb, length, get_or, set}
use Rattle.laws.specs.Choice.{pick}
use Rattle.rules.specs.Exchange.{account_at, holding_at, no_account, no_holding}
use Rattle.rules.specs.Holdings.{after_leg, book_leg, leg_covered, with_holding}
use Rattle.rules.specs.Memory.{used}
use Rattle.rules.specs.declared.{Account.Account, Holding.Holding}
use Rattle.theory.proofs.InUse.{used_holding, used_leg}

-- a leg on one account is a leg on its place
read_alone : (l : List Account) (a c : ℕ) → holding_at (get_or l a no_account ∷ []) 0 c ≡ holding_at l a c
unfolding holding_at account_at
read_alone l a c = refl

pub one_leg : (l : List Account) {who place a c : ℕ} → who ≡ a → place ≡ c → (sell : Bool) (close lots : ℕ) {x : Account}
    → x ≡ with_holding (get_or l who no_account) place (after_leg (get_or (get_or l who no_account).holdings place no_holding) sell close lots)
    → set l who x ≡ book_leg l a c sell close lots
unfolding book_leg account_at holding_at
one_leg l ea ec sell close lots ex = rw (ex, ea, ec)

module _ (k n : ℕ) where
  -- a leg as code tests and books it, on the account that it reads: account a and contract c are those of the trade
  module _ (l : List Account) {who place a c : ℕ} (ea : who ≡ a) (ec : place ≡ c) (ha : a < n) (m : n ≤ length l) (hc : c < k) (sell : Bool) (close lots : ℕ) where
    pub leg_read : leg_covered (get_or l who no_account ∷ []) 0 place sell close lots ≡ leg_covered (used k n l) a c sell close lots
    unfolding leg_covered
    leg_read =
        let e : holding_at (get_or l who no_account ∷ []) 0 place ≡ holding_at (used k n l) a c =
        read_alone l who place ∙ ap₂ (holding_at l) ea ec ∙ sym (used_holding k n l a c ha hc) in
        ap (λ (h : Holding). pick (eqb close 0) true (leb lots (pick sell h.long h.short))) e

    pub leg_booked : {x : Account} → x ≡ with_holding (get_or l who no_account) place (after_leg (get_or (get_or l who no_account).holdings place no_holding) sell close lots)
        → used k n (set l who x) ≡ book_leg (used k n l) a c sell close lots
    leg_booked {x} ex = ap (used k n) (one_leg l ea ec sell close lots ex) ∙ sym (used_leg k n l a c sell close lots ha hc)
