-- The state that a file gives, by lists of records: its contracts, its accounts' entries, their rows of holdings. Assumes nothing.
use mathlib.Core.Bool.{Bool}
use mathlib.Core.List.{List, [], ◌∷◌, map}
use mathlib.Core.Path.{◌≡◌, refl, sym, ap, ap₂, ◌∙◌}
use Prim.Native.Nat.{ℕ, zero, suc, ◌+◌, ◌*◌}
use native.Mathlib.Nat.{zero-add}
use native.Mathlib.Omega.{arith}
use lib.Dec.{leb}
use lib.ListN.{length, drop}
use lib.Seq.{drop-drop}
use Rattle.laws.specs.Choice.{all, all_ext, all_of}
use Rattle.laws.specs.Tabulate.{tabulate, tabulate_ext, all_of_table}
use Rattle.areas.specs.Records.{records}
use Rattle.rules.specs.DayFile.{u8_at, u64_at, contracts_in, count_width}
use Rattle.rules.specs.Exchange.{Listing}
use Rattle.rules.specs.declared.Account.{Account}
use Rattle.rules.specs.declared.Holding.{Holding}
use Rattle.endian.specs.Numbers.{signed_of}
use Rattle.statefile.specs.StateFile.{saved_account_place, saved_accounts_in, saved_contract_place, loaded_account, loaded_from, loaded_listing, mark_sound, row_place, saved_account, saved_holding, balance_width, saved_account_width, saved_contract_width}
use Rattle.statefile.proofs.Fields.{Entry, contract_at_lem, entry_at, entry_of, holding_at_lem, holding_from, listing_from, saved_entry}
use Rattle.statefile.proofs.Rows.{records_table}
use Rattle.sections.specs.Sections.{holding_width}

-- ---- an account of its entry and its row

abbrev pub account_of : Entry → List Holding → Account
account_of e row = record { balance = e.balance; maker = e.mark; holdings = row }

unfoldable pub accounts_of : List Entry → List (List Holding) → List Account
accounts_of [] rows = []
accounts_of (e ∷ es) [] = []
accounts_of (e ∷ es) (r ∷ rows) = account_of e r ∷ accounts_of es rows

accounts_table : (n : ℕ) (f : ℕ → Entry) (g : ℕ → List Holding) → tabulate n (λ i. account_of (f i) (g i)) ≡ accounts_of (tabulate n f) (tabulate n g)
unfolding tabulate accounts_of
accounts_table zero f g = refl
accounts_table (suc n) f g = ap (λ (l : List Account). account_of (f 0) (g 0) ∷ l) (accounts_table n (λ i. f (suc i)) (λ i. g (suc i)))

-- entries and rows make the accounts they came from
pub accounts_again : (accounts : List Account) → accounts_of (map entry_of accounts) (map (λ a. a.holdings) accounts) ≡ accounts
unfolding accounts_of
accounts_again [] = refl
accounts_again (a ∷ accounts) = ap (λ (l : List Account). a ∷ l) (accounts_again accounts)

-- and the accounts made of them have them
pub entries_again : (es : List Entry) (rows : List (List Holding)) → length es ≡ length rows → map entry_of (accounts_of es rows) ≡ es
unfolding accounts_of
entries_again [] rows e = refl
entries_again (o ∷ es) [] e = absurd (omega arith)
entries_again (o ∷ es) (r ∷ rows) e = ap (λ (l : List Entry). o ∷ l) (entries_again es rows (omega arith))

pub rows_again : (es : List Entry) (rows : List (List Holding)) → length es ≡ length rows → map (λ a. a.holdings) (accounts_of es rows) ≡ rows
unfolding accounts_of
rows_again [] [] e = refl
rows_again [] (r ∷ rows) e = absurd (omega arith)
rows_again (o ∷ es) [] e = absurd (omega arith)
rows_again (o ∷ es) (r ∷ rows) e = ap (λ (l : List (List Holding)). r ∷ l) (rows_again es rows (omega arith))

abbrev pub marked : Entry → Bool
marked e = leb e.mark 1

-- ---- the file's lists

abbrev pub saved_row : ℕ → List ℕ → List Holding
saved_row contracts xs = records holding_width holding_from xs 0 contracts

module _ (bs : List ℕ) where
  abbrev c : ℕ
  c = contracts_in bs

  abbrev a : ℕ
  a = saved_accounts_in bs

  abbrev pub listings_of : List Listing
  listings_of = records saved_contract_width listing_from bs count_width c

  abbrev pub entries_of : List Entry
  entries_of = records saved_account_width saved_entry bs (saved_contract_place c + count_width) a

  abbrev pub rows_of : List (List Holding)
  rows_of = records (holding_width * c) (saved_row c) bs (saved_account_place c a + count_width) a

  pub listings_are : (loaded_from bs).listings ≡ listings_of
  unfolding loaded_from loaded_listing
  listings_are =
      sym (records_table saved_contract_width listing_from bs count_width c
      ∙ tabulate_ext c (λ i. listing_from (drop (count_width + saved_contract_width * i) bs)) (loaded_listing bs)
      (λ i. ap (λ k. record { contract = k; buys = []; sells = [] }) (contract_at_lem bs (count_width + saved_contract_width * i))))

  entry_is : (i : ℕ) → saved_entry (drop (saved_contract_place c + count_width + saved_account_width * i) bs)
      ≡ record { balance = signed_of (u64_at bs (saved_account_place c i)); mark = u8_at bs (saved_account_place c i + balance_width) }
  entry_is i = entry_at bs (saved_account_place c i)

  row_is : (i : ℕ) → saved_row c (drop (row_place c a i) bs) ≡ tabulate c (λ k. saved_holding bs (row_place c a i + holding_width * k))
  row_is i =
      records_table holding_width holding_from (drop (row_place c a i) bs) 0 c
      ∙ tabulate_ext c _ (λ k. saved_holding bs (row_place c a i + holding_width * k)) (λ k. at k)
    where
      at : (k : ℕ) → holding_from (drop (0 + holding_width * k) (drop (row_place c a i) bs)) ≡ saved_holding bs (row_place c a i + holding_width * k)
      at k =
          ap holding_from (ap (λ (n : ℕ). drop n (drop (row_place c a i) bs)) (zero-add (holding_width * k)) ∙ drop-drop (holding_width * k) (row_place c a i) bs)
          ∙ holding_at_lem bs (row_place c a i + holding_width * k)

  pub accounts_are : (loaded_from bs).accounts ≡ accounts_of entries_of rows_of
  unfolding loaded_from loaded_account saved_account
  accounts_are =
      tabulate_ext a (loaded_account bs) (λ i. account_of (entry_here i) (row_here i)) (λ i. sym (ap₂ account_of (entry_is i) (row_is i)))
      ∙ accounts_table a entry_here row_here
      ∙ ap₂ accounts_of (sym (records_table saved_account_width saved_entry bs (saved_contract_place c + count_width) a)) (sym (records_table (holding_width * c) (saved_row c) bs (saved_account_place c a + count_width) a))
    where
      entry_here : ℕ → Entry
      entry_here i = saved_entry (drop (saved_contract_place c + count_width + saved_account_width * i) bs)

      row_here : ℕ → List Holding
      row_here i = saved_row c (drop (row_place c a i) bs)

  -- the marks
  pub marks_are : all_of marked entries_of ≡ all (mark_sound bs) a
  unfolding mark_sound
  marks_are =
      ap (λ (l : List Entry). all_of marked l) (records_table saved_account_width saved_entry bs (saved_contract_place c + count_width) a)
      ∙ all_of_table marked a (λ i. saved_entry (drop (saved_contract_place c + count_width + saved_account_width * i) bs))
      ∙ all_ext (λ i. marked (saved_entry (drop (saved_contract_place c + count_width + saved_account_width * i) bs))) (mark_sound bs) a (λ i l. ap marked (entry_is i))
