-- The by-value arrays of a state have the places of their types, before and after every command; so each account in use has a
-- holding in each contract in use. Assumes nothing.
use Rattle.laws.specs.Logic.{Bool, true, false, List, [], ◌∷◌, map, ◌≡◌, refl, sym, ap, ◌∙◌}
use Rattle.laws.specs.Numbers.{ℕ, zero, suc, ◌<◌, ◌≤◌, min, le_of_suc-le-suc, not-suc-le-zero, arith, leb-true, leb, length, get_or, take, drop, length-append}
use Rattle.laws.specs.Numbers.{length-drop, length-map, length-take}
use Rattle.laws.specs.Choice.{all, both_true}
use Rattle.laws.specs.Chains.{all_passed}
use Rattle.rules.specs.Bounds.{within, max_contracts, max_accounts, max_trades, max_resting}
use Rattle.rules.specs.Exchange.{Exchange, Listing, no_account, account_at}
use Rattle.rules.specs.Kinds.{kind_of}
use Rattle.rules.specs.Memory.{Memory, Declared, in_use, exchange_of, put_first, put_accounts, put_state, put, counts_in_range, has_room, well_formed_memory, written, step_in, respond}
use Rattle.rules.specs.WellFormed.{well_formed_contents}
use Rattle.rules.specs.declared.{Account.Account, Command.Command, State.State}
use Rattle.theory.proofs.InUse.{account_in_use_lem, contracts_in_use}
use Rattle.theory.proofs.Stages.{decided, Each}
use Rattle.accounting.specs.Shape.{Shaped}
use Rattle.accounting.proofs.EachKind.{kind_shape}
use Rattle.accounting.proofs.StepShape.{SameShape}

-- ---- the counts of a well-formed state

pub record Counts (s : State) : Type 0 where
  pub contracts : s.contractcount ≤ max_contracts
  pub accounts : s.accountcount ≤ max_accounts

in_range_lem : (n k : ℕ) → within 1 k n ≡ true → n ≤ k
in_range_lem n k h = leb-true n k (both_true (leb 1 n) (leb n k) h).1

pub counts : (m : Memory) → well_formed_memory m ≡ true → Counts m.state
unfolding well_formed_memory counts_in_range
counts m w =
    let s = m.state in
    let c = all_passed (counts_in_range s) (has_room m ∷ well_formed_contents (exchange_of m) ∷ []) w in
    let p = all_passed (within 1 max_contracts s.contractcount)
    (within 1 max_accounts s.accountcount ∷ leb s.tradecount max_trades
    ∷ all (λ i. leb (get_or s.buycounts i 0) max_resting) s.contractcount
    ∷ all (λ i. leb (get_or s.sellcounts i 0) max_resting) s.contractcount ∷ []) c.0 in
    record { contracts = in_range_lem s.contractcount max_contracts p.0; accounts = in_range_lem s.accountcount max_accounts p.1.0 }

-- ---- each account in use has a holding in each contract in use

module _ (m : Memory) (d : Declared m.state) where
  accounts_in_use : length (exchange_of m).accounts ≡ min m.state.accountcount max_accounts
  unfolding exchange_of
  accounts_in_use =
      length-map (take m.state.accountcount m.state.accounts) (in_use m.state.contractcount)
      ∙ length-take m.state.accountcount m.state.accounts ∙ ap (λ (n : ℕ). min m.state.accountcount n) d.accounts

  pub counted_shaped : Counts m.state → Shaped (exchange_of m)
  unfolding Shaped account_at
  counted_shaped few = λ a l.
      let k : a < m.state.accountcount = omega (arith, accounts_in_use, l) in
      ap (λ (v : Account). length v.holdings) (account_in_use_lem m a k)
      ∙ length-take m.state.contractcount (account_at m.state.accounts a).holdings
      ∙ omega (arith, d.holdings a (omega (arith, accounts_in_use, l)), few.contracts) ∙ sym (contracts_in_use m)

  pub declared_shaped : well_formed_memory m ≡ true → Shaped (exchange_of m)
  declared_shaped w = counted_shaped (counts m w)

-- ---- a state written back keeps the lengths of its arrays

length_put_first : {A : Type 0} (values room : List A) → length values ≤ length room → length (put_first values room) ≡ length room
length_put_first values room h = length-append values (drop (length values) room) ∙ omega (arith, length-drop (length values) room)

length_put_accounts : (as' rooms : List Account) → length as' ≤ length rooms → length (put_accounts as' rooms) ≡ length rooms
unfolding put_accounts
length_put_accounts [] rooms h = refl
length_put_accounts (a ∷ as') [] h = absurd (not-suc-le-zero h)
length_put_accounts (a ∷ as') (room ∷ rooms) h = ap suc (length_put_accounts as' rooms (le_of_suc-le-suc h))

wide_put_accounts : (n : ℕ) (as' rooms : List Account) → ((a : ℕ) → a < length as' → length (get_or as' a no_account).holdings ≤ n) →
    ((a : ℕ) → a < length rooms → length (get_or rooms a no_account).holdings ≡ n) →
    (a : ℕ) → a < length rooms → length (get_or (put_accounts as' rooms) a no_account).holdings ≡ n
unfolding put_accounts
wide_put_accounts n [] rooms f g a l = g a l
wide_put_accounts n (x ∷ as') [] f g a l = absurd (not-suc-le-zero l)
wide_put_accounts n (x ∷ as') (room ∷ rooms) f g zero l =
    length_put_first x.holdings room.holdings (omega (arith, f 0 (omega arith), g 0 (omega arith))) ∙ g 0 (omega arith)
wide_put_accounts n (x ∷ as') (room ∷ rooms) f g (suc a) l =
    wide_put_accounts n as' rooms (λ i k. f (suc i) (omega arith)) (λ i k. g (suc i) (omega arith)) a (le_of_suc-le-suc l)

-- a state that the arrays have places for
pub record Fits (x : Exchange) : Type 0 where
  pub listings : length x.listings ≤ max_contracts
  pub accounts : length x.accounts ≤ max_accounts
  pub holdings : (a : ℕ) → a < length x.accounts → length (account_at x.accounts a).holdings ≤ max_contracts

module _ (m : Memory) (d : Declared m.state) (x : Exchange) (f : Fits x) where
  array_kept : {A : Type 0} (g : Listing → A) (room : List A) → length room ≡ max_contracts → length (put_first (map g x.listings) room) ≡ max_contracts
  array_kept g room e = length_put_first (map g x.listings) room (omega (arith, length-map x.listings g, f.listings)) ∙ e

  pub put_declared : Declared (put m x).state
  unfolding put put_state account_at
  put_declared = record {
    contracts = array_kept (λ l. l.contract) m.state.contracts d.contracts;
    accounts = length_put_accounts x.accounts m.state.accounts (omega (arith, f.accounts, d.accounts)) ∙ d.accounts;
    buycounts = array_kept (λ l. length l.buys) m.state.buycounts d.buycounts;
    sellcounts = array_kept (λ l. length l.sells) m.state.sellcounts d.sellcounts;
    holdings = λ a l.
        wide_put_accounts max_contracts x.accounts m.state.accounts f.holdings
        (λ b k. d.holdings b (rw d.accounts at k)) a (rw d.accounts l);
  }

written_declared : (m : Memory) → Declared m.state → (ys : List Exchange) → Each Fits ys → Declared (written m ys).state
written_declared m d [] f = d
written_declared m d (y ∷ ys) f = written_declared (put m y) (put_declared m d y f.0) ys f.1

-- ---- stages of the state's shape fit

module _ (m : Memory) (d : Declared m.state) (few : Counts m.state) where
  pub shaped_fits : (x : Exchange) → SameShape (exchange_of m) x → Fits x
  unfolding Shaped
  shaped_fits x s = record {
    listings = omega (arith, s.listings, contracts_in_use m, few.contracts);
    accounts = omega (arith, s.accounts, accounts_in_use m d);
    holdings = λ a l.
        let k : a < length (exchange_of m).accounts = rw s.accounts at l in
        omega (arith, s.wide a k, counted_shaped m d few a k, contracts_in_use m, few.contracts);
  }

  each_fits : (ys : List Exchange) → Each (SameShape (exchange_of m)) ys → Each Fits ys
  each_fits [] s = tt
  each_fits (y ∷ ys) s = (shaped_fits y s.0, each_fits ys s.1)

-- nor does one stage
pub stage_declared : (m : Memory) → Declared m.state → well_formed_memory m ≡ true → (y : Exchange) → SameShape (exchange_of m) y → Declared (put m y).state
stage_declared m d w y s = put_declared m d y (shaped_fits m d (counts m w) y s)

-- no command changes the lengths of the arrays
pub declared_kept : (m : Memory) (command : Command) → Declared m.state → Declared (respond m command).memory.state
unfolding respond step_in
declared_kept m command d = by_wellformed (well_formed_memory m) refl
  where
    stages : List Exchange
    stages = (kind_of (exchange_of m) command).effect.stages

    by_wellformed : (w : Bool) → well_formed_memory m ≡ w → Declared (respond m command).memory.state
    by_wellformed true w =
        rw w
        (decided (λ e. Declared (written m e.stages).state) (exchange_of m) command
        (λ e. written_declared m d stages (each_fits m d (counts m w) stages (kind_shape (exchange_of m) command)))
        (λ e. d))
    by_wellformed false w = rw w d
