-- The accounts as they stood at the start of the day: their holdings, and those in use. Assumes nothing.
use Rattle.laws.specs.Logic.{List, [], ◌∷◌, ◌≡◌, refl, ap, ap₂, ◌∙◌}
use Rattle.laws.specs.Numbers.{ℕ, zero, suc, get_or, List·getD-map}
use Rattle.laws.specs.Lists.{take_map}
use Rattle.rules.specs.Exchange.{account_at, holding_at, no_account, no_holding}
use Rattle.rules.specs.Holdings.{start_account, start_holding, start_of_day}
use Rattle.rules.specs.Memory.{used}
use Rattle.rules.specs.declared.{Account.Account, Holding.Holding}

pub start_at : (l : List Account) (a c : ℕ) → holding_at (start_of_day l) a c ≡ start_holding (holding_at l a c)
unfolding start_of_day holding_at account_at
start_at l a c =
    ap (λ (x : Account). get_or x.holdings c no_holding) (List·getD-map start_account l a no_account)
    ∙ List·getD-map start_holding (get_or l a no_account).holdings c no_holding

module _ (k : ℕ) where
  pub used_day : (n : ℕ) (l : List Account) → used k n (start_of_day l) ≡ start_of_day (used k n l)
  unfolding start_of_day
  used_day zero l = refl
  used_day (suc n) [] = refl
  used_day (suc n) (a ∷ l) =
      ap₂ (λ (hs : List Holding) (xs : List Account). record { balance = a.balance; maker = a.maker; holdings = hs } ∷ xs) (take_map start_holding k a.holdings) (used_day n l)
