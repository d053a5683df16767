-- Maker marks stay under what moves money or trades: a payment, a settlement, a change, a quote. That no command changes one is
-- `makers_stay` (`EachKind`). Assumes nothing.
use lib.IntN.{ℤ}
use Rattle.laws.specs.Logic.{◌≡◌, refl, ap, ◌∙◌}
use Rattle.laws.specs.Numbers.{ℕ, ◌<◌, length}
use Rattle.laws.specs.Lists.{kept_at}
use Rattle.laws.specs.Tabulate.{get_d_tabulate}
use Rattle.rules.specs.Change.{Asked, changed, gone, place_kept, place_lost, reentered, unchanged}
use Rattle.rules.specs.Exchange.{Exchange, account_at, no_account}
use Rattle.rules.specs.Kinds.{last_of}
use Rattle.rules.specs.Quote.{Offered, buy_entered, quoted, sell_entered, with_buy, with_sell, without_quote}
use Rattle.rules.specs.Settlement.{settled, settled_account}
use Rattle.rules.specs.Step.{cancelled, exchange_after, paid, removed}
use Rattle.rules.specs.declared.Account.{Account}
use Rattle.theory.proofs.Changes.{changed_either}
use Rattle.theory.proofs.Holdings.{booked_maker}

module _ (x : Exchange) (a : ℕ) where
  -- the account's mark in another state is the one in x
  abbrev pub Stays : Exchange → Type 0
  Stays y = (account_at y.accounts a).maker ≡ (account_at x.accounts a).maker

  pub paid_stays : (b : ℕ) (balance : ℤ) → Stays (paid x b balance)
  unfolding paid account_at
  paid_stays b balance = kept_at (λ (k : Account). k.maker) x.accounts b _ no_account refl a

  pub settled_stays : a < length x.accounts → Stays (settled x)
  unfolding settled settled_account account_at
  settled_stays there = ap (λ (k : Account). k.maker) (get_d_tabulate (length x.accounts) a (settled_account x) no_account there)

  pub changed_stays : (k : Asked) → Stays (last_of x (changed x k).stages)
  unfolding cancelled removed place_lost unchanged place_kept gone exchange_after
  changed_stays k =
      changed_either x k (λ ts e. Stays (last_of x e.stages)) (λ e. refl) (λ e. booked_maker x.accounts (reentered x k).trades a) (λ e f. refl) (λ e f g. refl)

  pub quoted_stays : (q : Offered) → Stays (last_of x (quoted x q).stages)
  unfolding quoted with_sell with_buy without_quote exchange_after
  quoted_stays q = booked_maker (with_buy x q).accounts (sell_entered x q).trades a ∙ booked_maker x.accounts (buy_entered x q).trades a
