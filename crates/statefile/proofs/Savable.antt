-- What a state that can be saved is known to have: its records fit the file's. Assumes nothing.
use mathlib.Core.Bool.{true}
use mathlib.Core.List.{List, [], ◌∷◌, map}
use mathlib.Core.Path.{◌≡◌, refl, ◌∙◌}
use Prim.Native.Nat.{ℕ, ◌<◌}
use native.Mathlib.Omega.{arith}
use lib.Dec.{eqb}
use lib.IntN.{nat_abs}
use lib.ListN.{length, get_or}
use borrow.Author.Tests.{eqb-true, lt-ltb}
use Rattle.laws.specs.Choice.{all_of, all_of_map, all_of_true, both_true, true_both}
use Rattle.laws.specs.Chains.{all_passed}
use Rattle.rules.specs.Bounds.{within, max_accounts, max_contracts}
use Rattle.rules.specs.Exchange.{Exchange, account_at, no_account}
use Rattle.rules.specs.Holdings.{book_trades, start_holding, start_of_day, same_lots, same_holdings}
use Rattle.rules.specs.WellFormed.{well_formed_contents}
use Rattle.rules.specs.declared.Account.{Account}
use Rattle.rules.specs.declared.Holding.{Holding}
use Rattle.rules.specs.declared.Trade.{Trade}
use Rattle.endian.specs.Numbers.{sign_end}
use Rattle.invariants.proofs.Clauses.{well_formed}
use Rattle.statefile.specs.StateFile.{all_equal, empty_pre_open, writable}
use Rattle.statefile.proofs.Fields.{entry_of, fits_signed, holding, nothing_in, unmoved}
use Rattle.statefile.proofs.Rows.{fit_row}

-- well formed and writable; counts and the arrays' places as in any state in memory
pub record Savable (x : Exchange) : Type 0 where
  pub contracts : within 1 max_contracts (length x.listings) ≡ true
  pub accounts : within 1 max_accounts (length x.accounts) ≡ true
  pub places : all_of (λ a. eqb (length a.holdings) (length x.listings)) x.accounts ≡ true
  pub formed : well_formed_contents x ≡ true
  pub ready : writable x ≡ true

-- ---- what a writable state has

pub record Writable (x : Exchange) : Type 0 where
  pub empty_all : all_of empty_pre_open x.listings ≡ true
  pub equal_all_lem : all_equal x ≡ true
  pub no_trades : x.trades ≡ []
  pub next_one : x.next ≡ 1
  pub stamp_one : x.nextstamp ≡ 1

pub writable_parts : (x : Exchange) → writable x ≡ true → Writable x
unfolding writable
writable_parts x h =
    let w = all_passed (all_of empty_pre_open x.listings) (all_equal x ∷ eqb (length x.trades) 0 ∷ eqb x.next 1 ∷ eqb x.nextstamp 1 ∷ []) h in
    record {
      empty_all = w.0;
      equal_all_lem = w.1.0;
      no_trades = nothing_in x.trades w.1.1.0;
      next_one = eqb-true x.next 1 w.1.1.1.0;
      stamp_one = eqb-true x.nextstamp 1 w.1.1.1.1;
    }

-- ---- no trades: what is held is what was held at the start

same_unmoved : (hs : List Holding) → same_lots (map start_holding hs) hs ≡ true → all_of unmoved hs ≡ true
unfolding same_lots all_of
same_unmoved [] h = refl
same_unmoved (o ∷ hs) h =
    let p = both_true (unmoved o) (same_lots (map start_holding hs) hs) h in
    true_both (unmoved o) (all_of unmoved hs) p.0 (same_unmoved hs p.1)

rows_fit : (n : ℕ) (accounts : List Account) → all_of (λ a. eqb (length a.holdings) n) accounts ≡ true
    → same_holdings (start_of_day accounts) accounts ≡ true → all_of (fit_row holding n) (map (λ a. a.holdings) accounts) ≡ true
unfolding same_holdings start_of_day all_of
rows_fit n [] e h = refl
rows_fit n (a ∷ accounts) e h =
    let p = both_true (same_lots (map start_holding a.holdings) a.holdings) (same_holdings (start_of_day accounts) accounts) h in
    let q = both_true (eqb (length a.holdings) n) (all_of (λ a. eqb (length a.holdings) n) accounts) e in
    true_both (fit_row holding n a.holdings) (all_of (fit_row holding n) (map (λ a. a.holdings) accounts))
    (true_both (eqb (length a.holdings) n) (all_of unmoved a.holdings) q.0 (same_unmoved a.holdings p.0))
    (rows_fit n accounts q.1 p.1)

start_is_now : (accounts : List Account) (trades : List Trade) → trades ≡ []
    → same_holdings (book_trades (start_of_day accounts) trades) accounts ≡ true → same_holdings (start_of_day accounts) accounts ≡ true
unfolding book_trades
start_is_now accounts trades e h = rw e at h

-- ---- its entries and rows

module _ (x : Exchange) (s : Savable x) where
  pub entries_fit : all_of fits_signed (map entry_of x.accounts) ≡ true
  unfolding account_at
  entries_fit =
      let f = well_formed x s.formed in
      all_of_map fits_signed entry_of x.accounts
      ∙ all_of_true (λ a. fits_signed (entry_of a)) x.accounts no_account
      (λ (i : ℕ) (l : i < length x.accounts). lt-ltb (nat_abs (get_or x.accounts i no_account).balance) sign_end (omega (arith, f.settlements, f.balance i l)))

  pub holdings_fit : all_of (fit_row holding (length x.listings)) (map (λ a. a.holdings) x.accounts) ≡ true
  holdings_fit =
      let f = well_formed x s.formed in
      rows_fit (length x.listings) x.accounts s.places
      (start_is_now x.accounts x.trades (writable_parts x s.ready).no_trades f.replay)
