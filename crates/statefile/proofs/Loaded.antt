-- A state without orders or trades put into memory: what is in use there is that state, and it is well formed in areas that have room.
-- Assumes nothing.
use mathlib.Core.Bool.{true}
use mathlib.Core.List.{List, [], ◌∷◌}
use mathlib.Core.Path.{◌≡◌, refl, sym, ap, ◌∙◌}
use Prim.Native.Nat.{ℕ, ◌≤◌, ◌<◌}
use native.Mathlib.Omega.{arith}
use lib.Dec.{eqb}
use lib.ListN.{length, get_or, drop}
use lib.Seq.{take_at}
use borrow.Author.Tests.{eqb-true}
use Rattle.laws.specs.Choice.{all_of, all_of_at, both_true}
use Rattle.laws.specs.Chains.{all_passed}
use Rattle.laws.specs.Tabulate.{tabulate, tabulate_eq}
use Rattle.rules.specs.Bounds.{max_accounts, max_contracts, pre_open, within}
use Rattle.rules.specs.Exchange.{Exchange, account_at, listing_at, no_account, no_contract, no_listing}
use Rattle.rules.specs.Memory.{put as Memory·put}
use Rattle.rules.specs.Memory.{Declared, Memory, counts_in_range, exchange_of, has_room, listing_in, memory, put_accounts, put_state, queue_in, recorded_trades, used, well_formed_memory}
use Rattle.rules.specs.WellFormed.{well_formed_contents}
use Rattle.rules.specs.declared.Account.{Account}
use Rattle.rules.specs.declared.Trade.{Trade}
use Rattle.theory.proofs.Codecs.{queue_none, trades_none}
use Rattle.theory.proofs.Terms.{within_high, within_low}
use Rattle.accounting.proofs.Declared.{put_declared}
use Rattle.invariants.proofs.MemoryLaws.{put_first_at}
use Rattle.invariants.proofs.MemoryRoom.{CountsOk, counts_test, memory_test, room_ok}
use Rattle.statefile.specs.StateFile.{empty_pre_open, loaded_state}
use Rattle.statefile.proofs.Fields.{nothing_in}

-- what the arrays have places for, without orders or trades
pub record Loadable (x : Exchange) : Type 0 where
  pub contracts : within 1 max_contracts (length x.listings) ≡ true
  pub accounts : within 1 max_accounts (length x.accounts) ≡ true
  pub places : all_of (λ a. eqb (length a.holdings) (length x.listings)) x.accounts ≡ true
  pub empty_all : all_of empty_pre_open x.listings ≡ true
  pub no_trades : x.trades ≡ []

-- accounts put into places are the accounts in use there
put_used : (k : ℕ) (accounts rooms : List Account) → all_of (λ a. eqb (length a.holdings) k) accounts ≡ true
    → length accounts ≤ length rooms → used k (length accounts) (put_accounts accounts rooms) ≡ accounts
unfolding all_of put_accounts
put_used k [] rooms e h = refl
put_used k (a ∷ accounts) [] e h = absurd (omega arith)
put_used k (a ∷ accounts) (room ∷ rooms) e h =
    let p = both_true (eqb (length a.holdings) k) (all_of (λ a. eqb (length a.holdings) k) accounts) e in
    rw (put_used k accounts rooms p.1 (omega arith), take_at a.holdings (drop (length a.holdings) room.holdings) k (eqb-true (length a.holdings) k p.0))

module _ (m : Memory) (d : Declared m.state) (x : Exchange) (s : Loadable x) where
  abbrev pub put : Memory
  put = memory (loaded_state m.state x) m.buys m.sells m.trades

  record Still (c : ℕ) : Type 0 where
    buys : (listing_at x c).buys ≡ []
    sells : (listing_at x c).sells ≡ []

  still : (c : ℕ) → c < length x.listings → Still c
  unfolding empty_pre_open listing_at
  still c l =
      let n = get_or x.listings c no_listing in
      let p = all_passed (eqb n.contract.phase pre_open) (eqb (length n.buys) 0 ∷ eqb (length n.sells) 0 ∷ []) (all_of_at empty_pre_open x.listings c no_listing s.empty_all l) in
      record { buys = nothing_in n.buys p.1.0; sells = nothing_in n.sells p.1.1 }

  buy_count : (c : ℕ) → c < length x.listings → get_or put.state.buycounts c 0 ≡ 0
  unfolding loaded_state put_state listing_at
  buy_count c l = put_first_at (λ n. length n.buys) x.listings m.state.buycounts c l ∙ ap length (still c l).buys

  sell_count : (c : ℕ) → c < length x.listings → get_or put.state.sellcounts c 0 ≡ 0
  unfolding loaded_state put_state listing_at
  sell_count c l = put_first_at (λ n. length n.sells) x.listings m.state.sellcounts c l ∙ ap length (still c l).sells

  contract_here : (c : ℕ) → c < length x.listings → get_or put.state.contracts c no_contract ≡ (listing_at x c).contract
  unfolding loaded_state put_state listing_at
  contract_here c l = put_first_at (λ n. n.contract) x.listings m.state.contracts c l

  listing_here : (c : ℕ) → c < length x.listings → listing_in put c ≡ listing_at x c
  unfolding listing_in
  listing_here c l =
      let b : queue_in m.buys c (get_or put.state.buycounts c 0) ≡ (listing_at x c).buys = queue_none m.buys c _ (buy_count c l) ∙ sym (still c l).buys in
      let a : queue_in m.sells c (get_or put.state.sellcounts c 0) ≡ (listing_at x c).sells = queue_none m.sells c _ (sell_count c l) ∙ sym (still c l).sells in
      let k = contract_here c l in
      λ i. record { contract = k i; buys = b i; sells = a i }

  listings_here : tabulate (length x.listings) (listing_in put) ≡ x.listings
  unfolding listing_at
  listings_here = sym (tabulate_eq (length x.listings) (listing_in put) x.listings no_listing refl (λ c l. sym (listing_here c l)))

  accounts_here : used (length x.listings) (length x.accounts) (put_accounts x.accounts m.state.accounts) ≡ x.accounts
  accounts_here =
      put_used (length x.listings) x.accounts m.state.accounts s.places
      (omega (arith, within_high 1 max_accounts (length x.accounts) s.accounts, d.accounts))

  trades_here : recorded_trades m.trades (length x.trades) ≡ x.trades
  trades_here = ap (λ (ts : List Trade). recorded_trades m.trades (length ts)) s.no_trades ∙ trades_none m.trades ∙ sym s.no_trades

  -- what is in use is the state that was put there
  pub loaded_in_use : exchange_of put ≡ x
  unfolding exchange_of loaded_state put_state
  loaded_in_use =
      λ i. record { listings = listings_here i; accounts = accounts_here i; trades = trades_here i; next = x.next; nextstamp = x.nextstamp; settlements = x.settlements }

  counts_here : CountsOk put.state
  unfolding loaded_state
  counts_here =
      record {
        contracts_low = within_low 1 max_contracts (length x.listings) s.contracts;
        contracts_high = within_high 1 max_contracts (length x.listings) s.contracts;
        accounts_low = within_low 1 max_accounts (length x.accounts) s.accounts;
        accounts_high = within_high 1 max_accounts (length x.accounts) s.accounts;
        trades = omega (arith, ap length s.no_trades);
        buys = λ c l. omega (arith, buy_count c l);
        sells = λ c l. omega (arith, sell_count c l);
      }

  pub loaded_counts : counts_in_range put.state ≡ true
  loaded_counts = counts_test put.state counts_here

  pub loaded_formed : has_room put ≡ true → well_formed_contents x ≡ true → well_formed_memory put ≡ true
  loaded_formed r w =
      memory_test put (record { counts = counts_here; room = room_ok put r; contents = ap well_formed_contents loaded_in_use ∙ w })

  pub wide : (a : ℕ) → a < length x.accounts → length (account_at x.accounts a).holdings ≡ length x.listings
  unfolding account_at
  wide a l =
      eqb-true (length (get_or x.accounts a no_account).holdings) (length x.listings)
      (all_of_at (λ o. eqb (length o.holdings) (length x.listings)) x.accounts a no_account s.places l)

  -- the arrays keep the places of their types
  pub loaded_declared : Declared put.state
  unfolding loaded_state Memory·put
  loaded_declared =
      let k = put_declared m d x (record {
        listings = within_high 1 max_contracts (length x.listings) s.contracts;
        accounts = within_high 1 max_accounts (length x.accounts) s.accounts;
        holdings = λ (a : ℕ) (l : a < length x.accounts). omega (arith, wide a l, within_high 1 max_contracts (length x.listings) s.contracts);
      }) in
      record { contracts = k.contracts; accounts = k.accounts; buycounts = k.buycounts; sellcounts = k.sellcounts; holdings = k.holdings }
