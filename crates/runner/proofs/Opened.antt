-- The memory that a sound file's run opens with is well formed, whatever stands in the areas lent with it, and opens without
-- holdings or trades. Assumes nothing.
use mathlib.Core.Bool.{true}
use mathlib.Core.List.{List, [], ◌++◌}
use mathlib.Core.Path.{◌≡◌, refl, ap, ◌∙◌}
use Prim.Native.Nat.{ℕ, zero, suc, ◌+◌, ◌-◌, ◌<◌}
use native.Mathlib.Omega.{arith}
use lib.ListN.{length, get_or, replicate}
use Rattle.laws.specs.Lists.{get_d_same}
use Rattle.laws.specs.Tabulate.{tabulate, length_tabulate}
use Rattle.areas.specs.Lists.{padded}
use Rattle.areas.proofs.Lists.{length_padded}
use Rattle.rules.specs.Bounds.{max_accounts, max_contracts}
use Rattle.rules.specs.Condition3.{Opening}
use Rattle.rules.specs.DayFile.{accounts_in, contracts_in, opening, opening_account, sound}
use Rattle.rules.specs.Exchange.{Exchange, account_at, holding_at, no_account, no_contract, no_holding}
use Rattle.rules.specs.Memory.{Declared, Memory, exchange_of, WellFormedState}
use Rattle.rules.specs.declared.Account.{Account}
use Rattle.rules.specs.declared.Holding.{Holding}
use Rattle.invariants.proofs.Opening.{opening_well_formed}
use Rattle.dayfile.specs.Opening.{account_with, opening_accounts, opening_contract, opening_contracts, opening_holder, opening_memory, opening_state}
use Rattle.dayfile.proofs.Places.{sound_layout}
use Rattle.dayfile.proofs.Start.{opening_exchange}
use Rattle.dayfile.proofs.WellFormed.{opening_memory_well_formed}
use Rattle.runner.specs.Output.{FileReady}

-- what holds of a table's values, and of what stands past its end, holds at each place
every_place : {A : Type 0} (P : A → Type 0) (n : ℕ) (f : ℕ → A) (d : A) → P d → ((i : ℕ) → P (f i)) → (i : ℕ) → P (get_or (tabulate n f) i d)
unfolding tabulate
every_place P zero f d h k i = h
every_place P (suc n) f d h k zero = k 0
every_place P (suc n) f d h k (suc i) = every_place P n (λ j. f (suc j)) d h (λ j. k (suc j)) i

-- what holds of a list's values, and of what fills it up, holds at each place of the list filled up
every_filled : {A : Type 0} (P : A → Type 0) (n : ℕ) (f : ℕ → A) (k : ℕ) (z d : A) → ((i : ℕ) → P (f i)) → P z → (i : ℕ) → i < n + k → P (get_or (tabulate n f ++ replicate k z) i d)
unfolding tabulate
every_filled P zero f zero z d h g i l = absurd (omega arith)
every_filled P zero f (suc k) z d h g zero l = g
every_filled P zero f (suc k) z d h g (suc i) l = every_filled P zero f k z d h g i (omega arith)
every_filled P (suc n) f k z d h g zero l = h 0
every_filled P (suc n) f k z d h g (suc i) l = every_filled P n (λ j. f (suc j)) k z d (λ j. h (suc j)) g i (omega arith)

module _ (file : List ℕ) where
  nothing_held : (a c : ℕ) → holding_at (opening file).accounts a c ≡ no_holding
  unfolding opening holding_at account_at opening_account
  nothing_held a c =
      every_place (λ (v : Account). get_or v.holdings c no_holding ≡ no_holding) (accounts_in file) (opening_account file) no_account refl (λ i. get_d_same (contracts_in file) c no_holding) a

  module _ (h : sound file ≡ true) where
    opening_declared : Declared (opening_state file)
    unfolding opening_state opening_contracts opening_accounts account_at padded
    opening_declared =
        let s = sound_layout file h in
        record {
          contracts = length_padded max_contracts no_contract (tabulate (contracts_in file) (opening_contract file)) (rw length_tabulate s.contracts);
          accounts = length_padded max_accounts (account_with 0 0) (tabulate (accounts_in file) (opening_holder file)) (rw length_tabulate s.accounts);
          buycounts = refl;
          sellcounts = refl;
          holdings = λ a l.
              every_filled (λ (v : Account). length v.holdings ≡ max_contracts) (accounts_in file) (opening_holder file) (max_accounts - length (tabulate (accounts_in file) (opening_holder file))) (account_with 0 0) no_account
              (λ i. refl) refl a (rw length_tabulate (omega arith));
        }

  module _ {buys sells trades : List ℕ} (ready : FileReady file buys sells trades) where
    abbrev m : Memory
    m = opening_memory file buys sells trades

    pub opens_formed : WellFormedState (opening_state file) buys sells trades
    opens_formed =
        record {
          declared = opening_declared ready.whole;
          formed =
              opening_memory_well_formed file buys sells trades ready.whole ready.buys_room ready.sells_room ready.trades_room
              (opening_well_formed file ready.whole);
        }

    pub opens_as_told : exchange_of m ≡ opening file
    opens_as_told = opening_exchange file buys sells trades ready.whole

    held : (a c : ℕ) → holding_at (exchange_of m).accounts a c ≡ no_holding
    held a c = ap (λ (x : Exchange). holding_at x.accounts a c) opens_as_told ∙ nothing_held a c

    no_trade_lem : (exchange_of m).trades ≡ []
    unfolding opening
    no_trade_lem = ap (λ (x : Exchange). x.trades) opens_as_told

    pub opens_empty : Opening m
    opens_empty =
        record {
          no_trades = no_trade_lem;
          no_long = λ a c l k. ap (λ (v : Holding). v.long) (held a c);
          no_short = λ a c l k. ap (λ (v : Holding). v.short) (held a c);
        }
