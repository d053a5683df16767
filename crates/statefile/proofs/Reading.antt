-- The length of a saved state's file, and "Reading back what was written gives the same state in every place in use". Assumes nothing.
use mathlib.Core.Bool.{Bool, true}
use mathlib.Core.List.{List, [], ◌∷◌, ◌++◌, map, append_assoc, append-nil}
use mathlib.Core.Path.{◌≡◌, refl, sym, ap, ap₂, ◌∙◌}
use Prim.Native.Nat.{ℕ, ◌+◌, ◌*◌}
use native.Mathlib.Omega.{arith}
use lib.ListN.{length, length-append, length-map}
use lib.Seq.{drop_at, drop-drop}
use borrow.Author.Tests.{eq-eqb, le-leb}
use Rattle.laws.specs.Choice.{all, all_of, all_of_map, all_of_true}
use Rattle.areas.specs.Records.{encode, records}
use Rattle.rules.specs.DayFile.{u32_at, contracts_in, count_width}
use Rattle.rules.specs.Exchange.{Exchange, Listing, account_at, no_account}
use Rattle.rules.specs.declared.Account.{Account}
use Rattle.rules.specs.declared.Holding.{Holding}
use Rattle.rules.specs.declared.Trade.{Trade}
use Rattle.invariants.proofs.Clauses.{well_formed}
use Rattle.endian.specs.Numbers.{two, four}
use Rattle.endian.proofs.Writes.{length_four}
use Rattle.sections.specs.Sections.{holding_bytes, section, holding_width}
use Rattle.statefile.specs.StateFile.{account_bytes, saved_account_place, saved_accounts_in, saved_contract_place, counts_right, loaded_from, mark_sound, row_bytes, row_place, saved_bytes, saved_sound, settlements_place, shaped, saved_account_width, settlements_width}
use Rattle.statefile.proofs.Fields.{entry, entry_bytes, entry_of, holding, listing, listing_bytes}
use Rattle.statefile.proofs.Lists.{accounts_again, accounts_are, accounts_of, entries_of, listings_are, listings_of, marked, marks_are, rows_of}
use Rattle.endian.proofs.Numbers.{four_behind}
use Rattle.statefile.proofs.Rows.{Field, row, row_back, row_wide}
use Rattle.statefile.proofs.Savable.{Savable, entries_fit, holdings_fit, writable_parts}

-- ---- a section behind what begins a file: its count and its records

count_back : (file p : List ℕ) (n : ℕ) (bytes ys : List ℕ) (at : ℕ) → file ≡ p ++ (section n bytes ++ ys) → length p ≡ at
    → u32_at file at ≡ n
count_back file p n bytes ys at f e =
    ap (λ (l : List ℕ). u32_at l at) (f ∙ ap (λ (l : List ℕ). p ++ l) (append_assoc (four n) bytes ys)) ∙ four_behind p n (bytes ++ ys) at e

module _ {A : Type 0} {W : ℕ} {fit : A → Bool} {words : A → List ℕ} {first : List ℕ → A} (F : Field A W fit words first) where
  section_back : (file p : List ℕ) (n : ℕ) (os : List A) (ys : List ℕ) (at m : ℕ) → file ≡ p ++ (section n (encode words os) ++ ys)
      → length p ≡ at → m ≡ length os → all_of fit os ≡ true → records W first file (at + count_width) m ≡ os
  unfolding records four two
  section_back file p n os ys at m f e g h =
      rw (f, g, ← drop-drop count_width at (p ++ (section n (encode words os) ++ ys)), drop_at p (section n (encode words os) ++ ys) at e)
      (row_back F os ys h)

  length_section : (n : ℕ) (os : List A) → all_of fit os ≡ true → length (section n (encode words os)) ≡ count_width + W * length os
  length_section n os h = length-append (four n) (encode words os) ∙ omega (arith, length_four n, row_wide F os h)

encode_map : {A B : Type 0} (words : B → List ℕ) (f : A → B) (os : List A) → encode words (map f os) ≡ encode (λ o. words (f o)) os
unfolding encode
encode_map words f [] = refl
encode_map words f (o ∷ os) = rw (encode_map words f os)

-- an account's part of each of its sections
pub entries_encoded : (accounts : List Account) → encode account_bytes accounts ≡ encode entry_bytes (map entry_of accounts)
unfolding account_bytes
entries_encoded accounts = sym (encode_map entry_bytes entry_of accounts)

pub rows_encoded : (accounts : List Account) → encode row_bytes accounts ≡ encode (λ r. encode holding_bytes r) (map (λ a. a.holdings) accounts)
unfolding row_bytes
rows_encoded accounts = sym (encode_map (λ r. encode holding_bytes r) (λ a. a.holdings) accounts)

exchange_again : (x : Exchange) (ls : List Listing) (accounts : List Account) (ts : List Trade) (n stamp s : ℕ) → ls ≡ x.listings
    → accounts ≡ x.accounts → ts ≡ x.trades → n ≡ x.next → stamp ≡ x.nextstamp → s ≡ x.settlements
    → record { listings = ls; accounts = accounts; trades = ts; next = n; nextstamp = stamp; settlements = s } ≡ x
exchange_again x ls accounts ts n stamp s e f g h i j = rw (e, f, g, h, i, j)

module _ (x : Exchange) (s : Savable x) where
  abbrev c : ℕ
  c = length x.listings

  abbrev a : ℕ
  a = length x.accounts

  abbrev rows : List (List Holding)
  rows = map (λ o. o.holdings) x.accounts

  abbrev contract_part : List ℕ
  contract_part = section c (encode listing_bytes x.listings)

  abbrev account_part : List ℕ
  account_part = section a (encode entry_bytes (map entry_of x.accounts))

  abbrev holding_part : List ℕ
  holding_part = section (a * c) (encode (λ r. encode holding_bytes r) rows)

  abbrev last_part : List ℕ
  last_part = section 1 (four x.settlements)

  -- ---- lengths

  length_contracts : length contract_part ≡ saved_contract_place c
  length_contracts = length_section listing c x.listings (writable_parts x s.ready).empty_all

  length_accounts : length account_part ≡ count_width + saved_account_width * a
  length_accounts =
      length_section entry a (map entry_of x.accounts) (entries_fit x s)
      ∙ ap (λ (k : ℕ). count_width + saved_account_width * k) (length-map x.accounts entry_of)

  length_holdings : length holding_part ≡ count_width + holding_width * c * a
  length_holdings =
      length_section (row holding c) (a * c) rows (holdings_fit x s)
      ∙ ap (λ (k : ℕ). count_width + holding_width * c * k) (length-map x.accounts (λ o. o.holdings))

  length_front : length (contract_part ++ account_part) ≡ saved_account_place c a
  length_front = length-append contract_part account_part ∙ omega (arith, length_contracts, length_accounts)

  length_body : length ((contract_part ++ account_part) ++ holding_part) ≡ row_place c a a
  length_body = length-append (contract_part ++ account_part) holding_part ∙ omega (arith, length_front, length_holdings)

  -- ---- the file from each of its sections on

  abbrev file : List ℕ
  file = saved_bytes x

  from_contracts : file ≡ [] ++ (contract_part ++ (account_part ++ (holding_part ++ last_part)))
  unfolding saved_bytes
  from_contracts =
      ap₂ (λ (l k : List ℕ). contract_part ++ (section a l ++ (section (a * c) k ++ last_part))) (entries_encoded x.accounts) (rows_encoded x.accounts)

  from_holdings : file ≡ (contract_part ++ account_part) ++ (holding_part ++ last_part)
  from_holdings = from_contracts ∙ sym (append_assoc contract_part account_part (holding_part ++ last_part))

  from_last : file ≡ ((contract_part ++ account_part) ++ holding_part) ++ last_part
  from_last = from_holdings ∙ sym (append_assoc (contract_part ++ account_part) holding_part last_part)

  pub length_saved : length file ≡ settlements_place c a + settlements_width
  length_saved =
      ap (λ (l : List ℕ). length l) from_last
      ∙ length-append ((contract_part ++ account_part) ++ holding_part) last_part
      ∙ omega (arith, length_body, length-append (four 1) (four x.settlements), length_four 1, length_four x.settlements)

  -- ---- counts

  pub contracts_back : contracts_in file ≡ c
  unfolding contracts_in
  contracts_back = count_back file [] c _ _ 0 from_contracts refl

  pub accounts_back : saved_accounts_in file ≡ a
  unfolding saved_accounts_in
  accounts_back = rw contracts_back (count_back file contract_part a _ _ (saved_contract_place c) from_contracts length_contracts)

  holdings_back : u32_at file (saved_account_place c a) ≡ a * c
  holdings_back = count_back file (contract_part ++ account_part) (a * c) _ _ (saved_account_place c a) from_holdings length_front

  one_back : u32_at file (row_place c a a) ≡ 1
  one_back =
      count_back file ((contract_part ++ account_part) ++ holding_part) 1 (four x.settlements) [] (row_place c a a)
      (from_last ∙ ap (λ (l : List ℕ). ((contract_part ++ account_part) ++ holding_part) ++ l) (sym (append-nil last_part))) length_body

  settlements_back : u32_at file (settlements_place (contracts_in file) (saved_accounts_in file)) ≡ x.settlements
  settlements_back =
      let p = (contract_part ++ account_part) ++ holding_part in
      rw (contracts_back, accounts_back)
      (count_back file (p ++ four 1) x.settlements [] [] (settlements_place c a)
      (from_last ∙ sym (append_assoc p (four 1) (four x.settlements)) ∙ ap (λ (l : List ℕ). (p ++ four 1) ++ l) (sym (append-nil (section x.settlements []) ∙ append-nil (four x.settlements))))
      (length-append p (four 1) ∙ omega (arith, length_body, length_four 1)))

  -- ---- records

  listings_back : listings_of file ≡ x.listings
  listings_back =
      section_back listing file [] c x.listings _ 0 (contracts_in file) from_contracts refl contracts_back (writable_parts x s.ready).empty_all

  entries_back : entries_of file ≡ map entry_of x.accounts
  entries_back =
      section_back entry file contract_part a (map entry_of x.accounts) _ (saved_contract_place (contracts_in file)) (saved_accounts_in file) from_contracts
      (rw contracts_back length_contracts) (accounts_back ∙ sym (length-map x.accounts entry_of)) (entries_fit x s)

  rows_back : rows_of file ≡ rows
  rows_back =
      rw (contracts_back, accounts_back)
      (section_back (row holding c) file (contract_part ++ account_part) (a * c) rows _ (saved_account_place c a) a from_holdings
      length_front (sym (length-map x.accounts (λ o. o.holdings))) (holdings_fit x s))

  -- ---- the state and the file's soundness

  pub read_back : loaded_from file ≡ x
  unfolding loaded_from
  read_back =
      let w = writable_parts x s.ready in
      exchange_again x (loaded_from file).listings (loaded_from file).accounts [] 1 1
      (u32_at file (settlements_place (contracts_in file) (saved_accounts_in file)))
      (listings_are file ∙ listings_back)
      (accounts_are file ∙ ap₂ accounts_of entries_back rows_back ∙ accounts_again x.accounts)
      (sym w.no_trades) (sym w.next_one) (sym w.stamp_one) settlements_back

  shaped_back : shaped file ≡ true
  unfolding shaped counts_right
  shaped_back =
      rw (
        contracts_back,
        accounts_back,
        s.contracts,
        s.accounts,
        eq-eqb (length file) (settlements_place c a + settlements_width) length_saved,
        eq-eqb (u32_at file (saved_account_place c a)) (a * c) holdings_back,
        eq-eqb (u32_at file (row_place c a a)) 1 one_back,
      )

  marks_back : all (mark_sound file) (saved_accounts_in file) ≡ true
  unfolding account_at
  marks_back =
      sym (marks_are file) ∙ ap (all_of marked) entries_back
      ∙ all_of_map marked entry_of x.accounts ∙ all_of_true (λ o. marked (entry_of o)) x.accounts no_account (λ i h. le-leb _ _ ((well_formed x s.formed).makers i h))

  pub sound_back : saved_sound file ≡ true
  unfolding saved_sound
  sound_back = rw (shaped_back, marks_back, read_back, s.formed)
