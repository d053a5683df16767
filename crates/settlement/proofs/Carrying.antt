-- Holdings that become start-of-day ones, and a balance that takes the day's profit. Assumes nothing.
use lib.IntN.{ℤ, pos, ◌+ℤ◌}
use mir.Syntax.{w64}
use mir.Val.{SFits, to_z, of_z}
use mir.Facts.{to_z-of_z}
use Rattle.laws.specs.Logic.{List, map, ◌≡◌, refl, sym, ap, ◌∙◌}
use Rattle.laws.specs.Numbers.{ℕ, ◌+◌, ◌*◌, ◌^◌, ◌<◌, ◌≤◌, arith, length, get_or, set, take, replicate}
use Rattle.laws.specs.Bound.{Within, within_add}
use Rattle.laws.specs.Written.{Writing, writing_none, writing_more, writing_done}
use Rattle.laws.proofs.Signed.{back, sum_fits, add_back}
use Rattle.rules.specs.Bounds.{balance_most}
use Rattle.rules.specs.Exchange.{Exchange, no_holding}
use Rattle.rules.specs.Memory.{put_account, put_first}
use Rattle.rules.specs.Settlement.{carried_holding, settled_account, closing_profit, holding_profit}
use Rattle.rules.specs.declared.{Account.Account, Holding.Holding, State.State}
use Rattle.settlement.specs.Settling.{account_in, HasDay, carried_account, AllPayable, BooksIs}
use Rattle.dayprofit.specs.declared.profit.Profit.{Profit}
use Rattle.settlement.proofs.Totals.{TotalIs}
use Rattle.settlement.proofs.Places.{overwritten_mapped, overwritten_accounts, overwritten_padded}

-- ---- the loop over an account's holdings: those in the first c contracts are carried over

abbrev carried_at : List Holding → ℕ → Holding
carried_at hs i = carried_holding (get_or hs i no_holding)

pub record Carrying (account : Account) (contracts c : ℕ) (next : Account) : Type 0 where
  pub balance : next.balance ≡ account.balance
  pub maker : next.maker ≡ account.maker
  pub holdings : Writing (λ i. carried_holding (get_or account.holdings i no_holding)) account.holdings contracts c next.holdings

pub carrying_none : (account : Account) (contracts : ℕ) → Carrying account contracts 0 account
carrying_none account contracts = record { balance = refl; maker = refl; holdings = writing_none _ _ _ }

module _ (account : Account) (contracts : ℕ) (room : contracts ≤ length account.holdings) (c : ℕ) (next : Account) (w : Carrying account contracts c next) where
  pub carrying_more : c < contracts → (h : Holding) → h ≡ carried_holding (get_or account.holdings c no_holding)
      → Carrying account contracts (c + 1) (record { balance = next.balance; maker = next.maker; holdings = set next.holdings c h })
  carrying_more l h e =
      record { balance = w.balance; maker = w.maker; holdings = writing_more (carried_at account.holdings) account.holdings contracts room c h next.holdings l e w.holdings }

  pub carrying_done : contracts ≤ c → next ≡ put_account (carried_account account contracts account.balance) account
  carrying_done l =
      let e : next.holdings ≡ put_first (map carried_holding (take contracts account.holdings)) account.holdings =
      writing_done (carried_at account.holdings) account.holdings contracts c next.holdings l w.holdings
      ∙ sym (overwritten_mapped carried_holding account.holdings contracts no_holding room) in
      let b = w.balance in
      let k = w.maker in
      λ i. record { balance = b i; maker = k i; holdings = e i }

-- ---- the balance

module _ (b x y : ℤ) (hb : Within (2 * 10 ^ 18) b) (hx : Within 16_000_000_000_000_000 x) (hy : Within 16_000_000_000_000_000 y) where
  both : to_z w64 (of_z w64 (to_z w64 (of_z w64 x) +ℤ to_z w64 (of_z w64 y))) ≡ x +ℤ y
  both = add_back hx hy (omega arith)

  pub balance_fits : SFits w64 (to_z w64 (of_z w64 b) +ℤ to_z w64 (of_z w64 (to_z w64 (of_z w64 x) +ℤ to_z w64 (of_z w64 y))))
  balance_fits = rw (both, back (2 * 10 ^ 18) (omega arith) hb) (sum_fits hb (within_add hx hy) (omega arith))

  pub balance_back : to_z w64 (of_z w64 (to_z w64 (of_z w64 b) +ℤ to_z w64 (of_z w64 (to_z w64 (of_z w64 x) +ℤ to_z w64 (of_z w64 y))))) ≡ b +ℤ (x +ℤ y)
  balance_back = rw (both, back (2 * 10 ^ 18) (omega arith) hb) (to_z-of_z {w = w64} (sum_fits hb (within_add hx hy) (omega arith)))

-- ---- the loop over the accounts

pub record PayingOf (x : Exchange) (s : State) (accounts : List Account) (closing holding : List ℤ) (a : ℕ) : Type 0 where
  pub paid : Writing (λ i. put_account (settled_account x i) (account_in s i)) s.accounts s.accountcount a accounts
  pub closed : Writing (closing_profit x) (replicate 32 (pos 0)) s.accountcount a closing
  pub held : Writing (holding_profit x) (replicate 32 (pos 0)) s.accountcount a holding

-- of any exchange with this day
pub record Paying (s : State) (trades prices : List ℕ) (accounts : List Account) (closing holding : List ℤ) (a : ℕ) : Type 0 where
  pub paying : (x : Exchange) → HasDay x s trades prices → PayingOf x s accounts closing holding a

pub paying_none : (s : State) (trades prices : List ℕ) → Paying s trades prices s.accounts (replicate 32 (pos 0)) (replicate 32 (pos 0)) 0
paying_none s trades prices = record { paying = λ x has. record { paid = writing_none _ _ _; closed = writing_none _ _ _; held = writing_none _ _ _ } }

-- its balance is in range
pub balance_at : {s : State} {trades prices : List ℕ} → AllPayable s trades prices → {a : ℕ} → a < s.accountcount → Within balance_most (account_in s a).balance
balance_at g {a} la = rw (g.has.holder a la) at (g.balance a la)

-- the account paid is the one that the rules settle
settled_as_lem : {x : Exchange} {s : State} {trades prices : List ℕ} → HasDay x s trades prices → (a : ℕ) → a < s.accountcount
    → carried_account (account_in s a) s.contractcount ((account_in s a).balance +ℤ (closing_profit x a +ℤ holding_profit x a)) ≡ settled_account x a
unfolding settled_account
settled_as_lem has a la = rw (has.holder a la)

module _ {s : State} {trades prices : List ℕ} (g : AllPayable s trades prices) {accounts : List Account} {closing holding : List ℤ} {a : ℕ}
    (w : Paying s trades prices accounts closing holding a) where
  -- what the code reads of the profit it got
  module _ {p : Profit} (t : TotalIs s trades prices a p) where
    closing_read : (x : Exchange) → HasDay x s trades prices → to_z w64 (of_z w64 p.closing) ≡ closing_profit x a
    closing_read x has = back 16_000_000_000_000_000 (omega arith) t.closing_small ∙ t.closing x has

    holding_read : (x : Exchange) → HasDay x s trades prices → to_z w64 (of_z w64 p.holding) ≡ holding_profit x a
    holding_read x has = back 16_000_000_000_000_000 (omega arith) t.holding_small ∙ t.holding x has

    pub closing_reach : Within 16_000_000_000_000_000 (to_z w64 (of_z w64 p.closing))
    closing_reach = rw (back 16_000_000_000_000_000 (omega arith) t.closing_small) t.closing_small

    pub holding_reach : Within 16_000_000_000_000_000 (to_z w64 (of_z w64 p.holding))
    holding_reach = rw (back 16_000_000_000_000_000 (omega arith) t.holding_small) t.holding_small

    pub paying_more : a < s.accountcount → {r : Account}
        → r ≡ put_account (carried_account (account_in s a) s.contractcount ((account_in s a).balance +ℤ (to_z w64 (of_z w64 p.closing) +ℤ to_z w64 (of_z w64 p.holding)))) (account_in s a)
        → Paying s trades prices (set accounts a r) (set closing a (to_z w64 (of_z w64 p.closing))) (set holding a (to_z w64 (of_z w64 p.holding))) (a + 1)
    paying_more l {r} e =
        record {
          paying = λ x has. let so_far = w.paying x has in record {
            paid = writing_more _ _ _ (omega (arith, g.accounts, g.declared.accounts)) a r accounts l
                (e ∙ rw (closing_read x has, holding_read x has) (ap (λ (v : Account). put_account v (account_in s a)) (settled_as_lem has a l))) so_far.paid;
            closed = writing_more _ _ _ g.accounts a _ closing l (closing_read x has) so_far.closed;
            held = writing_more _ _ _ g.accounts a _ holding l (holding_read x has) so_far.held;
          };
        }

  pub paying_done : s.accountcount ≤ a → BooksIs s trades prices (record { accounts = accounts; closing = closing; holding = holding })
  paying_done l =
      record {
        books = λ x has. let done = w.paying x has in record {
          accounts = writing_done _ _ _ a accounts l done.paid ∙ sym (overwritten_accounts (settled_account x) s.accounts s.accountcount (omega (arith, g.accounts, g.declared.accounts)));
          closing = writing_done _ _ _ a closing l done.closed ∙ overwritten_padded _ _ 32 (pos 0);
          holding = writing_done _ _ _ a holding l done.held ∙ overwritten_padded _ _ 32 (pos 0);
        };
      }
