-- What the engine's code takes from a well-formed state: counts and room, and the rules' view of accounts and listings as
-- values of the arrays and areas. Assumes nothing.
use mathlib.Core.Bool.{true, false}
use mathlib.Core.List.{List, [], ◌∷◌}
use mathlib.Core.Path.{◌≡◌, ap}
use Prim.Native.Nat.{ℕ, ◌-◌, ◌*◌, ◌<◌, ◌≤◌}
use native.Mathlib.Omega.{arith}
use borrow.Author.Tests.{leb-true}
use lib.Dec.{leb}
use lib.ListN.{length, get_or, set}
use Rattle.laws.specs.Bound.{Within, within_abs, within_le}
use Rattle.laws.specs.Choice.{all, all_at, both_true}
use Rattle.laws.specs.Chains.{all_passed}
use Rattle.rules.specs.Bounds.{within, max_contracts, max_accounts, max_resting, max_trades, balance_most}
use Rattle.rules.specs.Exchange.{absent, account_at, holding_at, listing_at, is_absent}
use Rattle.rules.specs.Memory.{Memory, Declared, exchange_of, in_use, listing_in, put_accounts, counts_in_range, has_room, well_formed_memory, memory, WellFormedState, queue_stride, trade_stride, trades_words}
use Rattle.rules.specs.WellFormed.{well_formed_contents}
use Rattle.rules.specs.declared.Account.{Account}
use Rattle.rules.specs.declared.State.{State}
use Rattle.theory.proofs.InUse.{accounts_in_use, contracts_in_use, account_in_use_lem, holding_in_use, listing_in_use}
use Rattle.invariants.proofs.Clauses.{WellFormed, well_formed}
use Rattle.engine.proofs.Accounts.{put_account_set, same_room, same_room_put}
use Rattle.engine.proofs.Tests.{place_below}

pub record Formed (m : Memory) : Type 0 where
  pub contracts_low : 1 ≤ m.state.contractcount
  pub contracts_high : m.state.contractcount ≤ max_contracts
  pub accounts_low : 1 ≤ m.state.accountcount
  pub accounts_high : m.state.accountcount ≤ max_accounts
  pub trades_high : m.state.tradecount ≤ max_trades
  pub buys_high : (c : ℕ) → c < m.state.contractcount → get_or m.state.buycounts c 0 ≤ max_resting
  pub sells_high : (c : ℕ) → c < m.state.contractcount → get_or m.state.sellcounts c 0 ≤ max_resting
  pub buys_room : queue_stride * m.state.contractcount ≤ length m.buys
  pub sells_room : queue_stride * m.state.contractcount ≤ length m.sells
  pub trades_room : trades_words ≤ length m.trades
  pub contents : WellFormed (exchange_of m)
  pub declared : Declared m.state

module _ {s : State} {buys sells trades : List ℕ} (w : WellFormedState s buys sells trades) where
  -- all-at for the counts of one side
  few : (counts : List ℕ) (n : ℕ) → all (λ c. leb (get_or counts c 0) max_resting) n ≡ true → (c : ℕ) → c < n → get_or counts c 0 ≤ max_resting
  few counts n h c i = leb-true _ _ (all_at (λ c. leb (get_or counts c 0) max_resting) c n h i)

  pub formed : Formed (memory s buys sells trades)
  unfolding well_formed_memory counts_in_range has_room
  formed =
      let m : Memory = memory s buys sells trades in
      let n : ℕ = s.contractcount in
      let parts = all_passed (counts_in_range s) (has_room m ∷ well_formed_contents (exchange_of m) ∷ []) w.formed in
      let counts = all_passed (within 1 max_contracts n)
      (within 1 max_accounts s.accountcount ∷ leb s.tradecount max_trades ∷ all (λ c. leb (get_or s.buycounts c 0) max_resting) n ∷ all (λ c. leb (get_or s.sellcounts c 0) max_resting) n ∷ [])
      parts.0 in
      let contracts = both_true (leb 1 n) (leb n max_contracts) counts.0 in
      let accounts = both_true (leb 1 s.accountcount) (leb s.accountcount max_accounts) counts.1.0 in
      let rooms = all_passed (leb (queue_stride * n) (length buys)) (leb (queue_stride * n) (length sells) ∷ leb (trade_stride * max_trades) (length trades) ∷ []) parts.1.0 in
      record {
        contracts_low = leb-true _ _ contracts.0;
        contracts_high = leb-true _ _ contracts.1;
        accounts_low = leb-true _ _ accounts.0;
        accounts_high = leb-true _ _ accounts.1;
        trades_high = leb-true _ _ counts.1.1.0;
        buys_high = few s.buycounts n counts.1.1.1.0;
        sells_high = few s.sellcounts n counts.1.1.1.1;
        buys_room = leb-true _ _ rooms.0;
        sells_room = leb-true _ _ rooms.1.0;
        trades_room = leb-true _ _ rooms.1.1;
        contents = well_formed (exchange_of m) parts.1.1;
        declared = w.declared;
      }

-- ---- the rules' view, place by place

module _ (m : Memory) (f : Formed m) where
  pub few_accounts : m.state.accountcount ≤ length m.state.accounts
  few_accounts = omega (arith, f.declared.accounts, f.accounts_high)

  -- each account in use has a holding for each contract in use
  pub wide : (a : ℕ) → a < m.state.accountcount → m.state.contractcount ≤ length (account_at m.state.accounts a).holdings
  wide a i = omega (arith, f.declared.holdings a (omega (arith, f.accounts_high)), f.contracts_high)

  pub accounts_count : length (exchange_of m).accounts ≡ m.state.accountcount
  accounts_count = accounts_in_use m few_accounts

  pub contracts_count : length (exchange_of m).listings ≡ m.state.contractcount
  contracts_count = contracts_in_use m

  -- the code's tests of a number against a count are the rules' tests against the places in use
  pub no_account_lem : (account : ℕ) → absent account (exchange_of m).accounts ≡ is_absent account m.state.accountcount
  unfolding absent
  no_account_lem account = rw accounts_count

  pub no_contract_lem : (contract : ℕ) → absent contract (exchange_of m).listings ≡ is_absent contract m.state.contractcount
  unfolding absent
  no_contract_lem contract = rw contracts_count

  pub account_at_lem : (a : ℕ) → a < m.state.accountcount → account_at (exchange_of m).accounts a ≡ in_use m.state.contractcount (account_at m.state.accounts a)
  unfolding account_at
  account_at_lem = account_in_use_lem m

  pub holding_at_lem : (a c : ℕ) → a < m.state.accountcount → c < m.state.contractcount → holding_at (exchange_of m).accounts a c ≡ holding_at m.state.accounts a c
  unfolding account_at holding_at
  holding_at_lem = holding_in_use m

  pub listing_at_lem : (c : ℕ) → c < m.state.contractcount → listing_at (exchange_of m) c ≡ listing_in m c
  listing_at_lem = listing_in_use m

  pub balance_within : (a : ℕ) → a < m.state.accountcount → Within balance_most (account_at m.state.accounts a).balance
  balance_within a h =
      let b = f.contents.balance a (rw accounts_count h) in
      let s = f.contents.settlements in
      within_le (omega arith) (within_abs _ _ (rw (ap (λ (v : Account). v.balance) (account_at_lem a h)) at b))

  -- the accounts written back as they are, and with one changed that has its holdings as they lay
  pub accounts_put : put_accounts (exchange_of m).accounts m.state.accounts ≡ m.state.accounts
  unfolding exchange_of
  accounts_put = same_room_put m.state.contractcount (same_room m.state.contractcount m.state.accountcount m.state.accounts few_accounts wide)

  pub account_put : (a : ℕ) (v : Account) → a < m.state.accountcount → v.holdings ≡ (account_at m.state.accounts a).holdings
      → put_accounts (set (exchange_of m).accounts a (in_use m.state.contractcount v)) m.state.accounts ≡ set m.state.accounts a v
  unfolding exchange_of
  account_put a v h e = put_account_set m.state.contractcount m.state.accountcount m.state.accounts a v few_accounts wide h e

-- ---- the place of a number that is not absent is one of the arrays'

module _ {s : State} {buys sells trades : List ℕ} (w : WellFormedState s buys sells trades) (number : ℕ) {place : ℕ} (is : place ≡ number - 1) where
  pub account_fits : is_absent number s.accountcount ≡ false → place < max_accounts
  account_fits present = omega (arith, is, (place_below number s.accountcount present).1, (formed w).accounts_high)

  pub contract_fits : is_absent number s.contractcount ≡ false → place < max_contracts
  contract_fits present = omega (arith, is, (place_below number s.contractcount present).1, (formed w).contracts_high)
