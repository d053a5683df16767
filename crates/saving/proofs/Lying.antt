-- A state as it lies in its arrays, against the state in use: its file, and whether it may be written. Assumes nothing.
use mathlib.Core.Bool.{true}
use mathlib.Core.List.{List, [], ◌∷◌, ◌++◌, map, append_assoc, append-nil}
use mathlib.Core.Path.{◌≡◌, refl, sym, ap, ap₂, ◌∙◌}
use Prim.Native.Nat.{ℕ, zero, suc, ◌+◌, ◌≤◌, ◌<◌}
use native.Mathlib.Omega.{arith}
use lib.Dec.{eqb}
use lib.ListN.{length, get_or, take}
use lib.Seq.{get_or-take, length-take-le}
use Rattle.laws.specs.Choice.{all, all_ext, all_of, all_of_all}
use Rattle.laws.specs.Sums.{sum_of, sum_of_ext}
use Rattle.areas.specs.Records.{encode}
use Rattle.rules.specs.Exchange.{account_at, holding_at, listing_at, no_account, no_contract, no_holding, no_listing}
use Rattle.rules.specs.Memory.{Declared, Memory, exchange_of, in_use, listing_in, used, well_formed_memory}
use Rattle.rules.specs.declared.Account.{Account}
use Rattle.rules.specs.declared.Holding.{Holding}
use Rattle.theory.proofs.Codecs.{length_queue, length_trades}
use Rattle.theory.proofs.InUse.{account_in_use_lem, accounts_in_use, contracts_in_use, listing_in_use}
use Rattle.theory.proofs.Terms.{contract_terms}
use Rattle.invariants.proofs.Clauses.{well_formed}
use Rattle.invariants.proofs.MemoryRoom.{CountsOk, memory_ok}
use Rattle.sections.specs.Sections.{holding_bytes, holdings_bytes, in_row}
use Rattle.sections.proofs.Rows.{row_ext}
use Rattle.statefile.specs.StateFile.{account_bytes, all_equal, contract_bytes, empty_pre_open, row_bytes, saved_bytes, totals_equal, writable}
use Rattle.saving.specs.Parts.{Short, account_row, contract_row, empty_pre_open_at, state_bytes, state_writable}

-- ---- the words of a list of records, one after the other

row_first : (f : ℕ → List ℕ) (n : ℕ) → in_row (suc n) f ≡ f 0 ++ in_row n (λ i. f (suc i))
unfolding in_row
row_first f zero = sym (append-nil (f 0))
row_first f (suc n) = rw (row_first f n) (append_assoc (f 0) (in_row n (λ i. f (suc i))) (f (suc n)))

encode_row : {A : Type 0} (words : A → List ℕ) (os : List A) (d : A) → encode words os ≡ in_row (length os) (λ i. words (get_or os i d))
unfolding encode in_row
encode_row words [] d = refl
encode_row words (o ∷ os) d =
    ap (λ (l : List ℕ). words o ++ l) (encode_row words os d) ∙ sym (row_first (λ i. words (get_or (o ∷ os) i d)) (length os))

-- ---- totals of the accounts in use

sum_map : {A B : Type 0} (f : B → ℕ) (g : A → B) (l : List A) → sum_of f (map g l) ≡ sum_of (λ a. f (g a)) l
unfolding sum_of
sum_map f g [] = refl
sum_map f g (a ∷ l) = ap (λ (n : ℕ). f (g a) + n) (sum_map f g l)

module _ (contracts accounts : ℕ) (list : List Account) where
  total_in_use : (f : Holding → ℕ) (c : ℕ) → c < contracts
      → sum_of (λ a. f (get_or a.holdings c no_holding)) (used contracts accounts list) ≡ sum_of (λ a. f (get_or a.holdings c no_holding)) (take accounts list)
  total_in_use f c l =
      sum_map (λ a. f (get_or a.holdings c no_holding)) (in_use contracts) (take accounts list)
      ∙ sum_of_ext _ _ (take accounts list) (λ a. ap f (get_or-take contracts a.holdings c no_holding l))

  pub totals_in_use : all (totals_equal (used contracts accounts list)) contracts ≡ all (totals_equal (take accounts list)) contracts
  unfolding totals_equal
  totals_in_use =
      all_ext (totals_equal (used contracts accounts list)) (totals_equal (take accounts list)) contracts
      (λ c l. ap₂ eqb (total_in_use (λ h. h.long) c l) (total_in_use (λ h. h.short) c l))

-- ---- a well-formed memory

module _ (m : Memory) (d : Declared m.state) (w : well_formed_memory m ≡ true) where
  abbrev c : ℕ
  c = m.state.contractcount

  abbrev a : ℕ
  a = m.state.accountcount

  counts : CountsOk m.state
  counts = (memory_ok m w).counts

  pub account_count : length (exchange_of m).accounts ≡ a
  account_count = accounts_in_use m (omega (arith, d.accounts, counts.accounts_high))

  contract_at_lem : (i : ℕ) → i < c → contract_bytes (get_or (exchange_of m).listings i no_listing).contract ≡ contract_bytes (get_or m.state.contracts i no_contract)
  unfolding listing_at listing_in
  contract_at_lem i l = ap (λ n. contract_bytes n.contract) (listing_in_use m i l)

  contracts_row : encode (λ n. contract_bytes n.contract) (exchange_of m).listings ≡ contract_row m.state.contracts c
  contracts_row =
      encode_row (λ n. contract_bytes n.contract) (exchange_of m).listings no_listing
      ∙ ap (λ (n : ℕ). in_row n (λ i. contract_bytes (get_or (exchange_of m).listings i no_listing).contract)) (contracts_in_use m)
      ∙ row_ext _ (λ i. contract_bytes (get_or m.state.contracts i no_contract)) c contract_at_lem

  account_at_lem : (i : ℕ) → i < a → account_bytes (get_or (exchange_of m).accounts i no_account) ≡ account_bytes (get_or m.state.accounts i no_account)
  unfolding account_at account_bytes
  account_at_lem i l = ap account_bytes (account_in_use_lem m i l)

  accounts_row : encode account_bytes (exchange_of m).accounts ≡ account_row m.state.accounts a
  accounts_row =
      encode_row account_bytes (exchange_of m).accounts no_account
      ∙ ap (λ (n : ℕ). in_row n (λ i. account_bytes (get_or (exchange_of m).accounts i no_account))) account_count
      ∙ row_ext _ (λ i. account_bytes (get_or m.state.accounts i no_account)) a account_at_lem

  -- an account's holdings in the contracts in use
  holdings_row : (hs : List Holding) → c ≤ length hs → encode holding_bytes (take c hs) ≡ in_row c (λ i. holding_bytes (get_or hs i no_holding))
  holdings_row hs l =
      encode_row holding_bytes (take c hs) no_holding
      ∙ ap (λ (n : ℕ). in_row n (λ i. holding_bytes (get_or (take c hs) i no_holding))) (length-take-le c hs l)
      ∙ row_ext _ (λ i. holding_bytes (get_or hs i no_holding)) c (λ i k. ap holding_bytes (get_or-take c hs i no_holding k))

  row_at : (i : ℕ) → i < a → row_bytes (get_or (exchange_of m).accounts i no_account) ≡ in_row c (λ k. holding_bytes (get_or (get_or m.state.accounts i no_account).holdings k no_holding))
  unfolding account_at row_bytes
  row_at i l =
      ap row_bytes (account_in_use_lem m i l)
      ∙ holdings_row (get_or m.state.accounts i no_account).holdings
      (omega (arith, counts.contracts_high, counts.accounts_high, d.holdings i (omega (arith, counts.accounts_high))))

  rows_row : encode row_bytes (exchange_of m).accounts ≡ holdings_bytes m.state.accounts a c
  unfolding holdings_bytes holding_at account_at
  rows_row =
      encode_row row_bytes (exchange_of m).accounts no_account
      ∙ ap (λ (n : ℕ). in_row n (λ i. row_bytes (get_or (exchange_of m).accounts i no_account))) account_count
      ∙ row_ext _ (λ i. in_row c (λ k. holding_bytes (get_or (get_or m.state.accounts i no_account).holdings k no_holding))) a row_at

  settlements_are : (exchange_of m).settlements ≡ m.state.settlements
  unfolding exchange_of
  settlements_are = refl

  pub bytes_are : saved_bytes (exchange_of m) ≡ state_bytes m.state
  unfolding saved_bytes
  bytes_are =
      rw (contracts_row, accounts_row, rows_row, contracts_in_use m, account_count, settlements_are)

  -- ---- whether it may be written

  empty_at : (i : ℕ) → i < c → empty_pre_open (get_or (exchange_of m).listings i no_listing) ≡ empty_pre_open_at m.state i
  unfolding listing_at listing_in empty_pre_open
  empty_at i l =
      ap empty_pre_open (listing_in_use m i l)
      ∙ rw (length_queue m.buys i (get_or m.state.buycounts i 0), length_queue m.sells i (get_or m.state.sellcounts i 0))

  empty_is : all_of empty_pre_open (exchange_of m).listings ≡ all (empty_pre_open_at m.state) c
  empty_is =
      all_of_all empty_pre_open (exchange_of m).listings no_listing
      ∙ ap (all (λ i. empty_pre_open (get_or (exchange_of m).listings i no_listing))) (contracts_in_use m)
      ∙ all_ext _ (empty_pre_open_at m.state) c empty_at

  equal_is : all_equal (exchange_of m) ≡ all (totals_equal (take a m.state.accounts)) c
  unfolding all_equal exchange_of
  equal_is = ap (all (totals_equal (used c a m.state.accounts))) (contracts_in_use m) ∙ totals_in_use c a m.state.accounts

  trades_are : length (exchange_of m).trades ≡ m.state.tradecount
  unfolding exchange_of
  trades_are = length_trades m.trades m.state.tradecount

  numbers_are : ((exchange_of m).next ≡ m.state.next) × ((exchange_of m).nextstamp ≡ m.state.nextstamp)
  unfolding exchange_of
  numbers_are = (refl, refl)

  pub writable_is : writable (exchange_of m) ≡ state_writable m.state
  unfolding writable state_writable
  writable_is = rw (empty_is, equal_is, trades_are, numbers_are.0, numbers_are.1)

  -- ---- multiplier and tick are small

  pub short_terms : (i : ℕ) → i < c → Short (get_or m.state.contracts i no_contract)
  unfolding listing_in
  short_terms i l =
      let k : i < length (exchange_of m).listings = rw (contracts_in_use m) l in
      let t = contract_terms (listing_at (exchange_of m) i).contract ((well_formed (exchange_of m) (memory_ok m w).contents).listing i k).contract in
      let e = ap (λ n. n.contract) (listing_in_use m i l) in
      (omega (arith, t.multiplier_high, ap (λ n. n.multiplier) e), omega (arith, t.tick_high, ap (λ n. n.tick) e))

  -- ---- a maker's mark is 0 or 1

  pub low_marks : (i : ℕ) → i < a → (get_or m.state.accounts i no_account).maker ≤ 1
  low_marks i l =
      let k : i < length (exchange_of m).accounts = rw account_count l in
      omega (arith, (well_formed (exchange_of m) (memory_ok m w).contents).makers i k, ap (λ n. n.maker) (account_in_use_lem m i l))
