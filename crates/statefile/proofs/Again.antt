-- "writing what was read gives the same bytes", and what was read can be written. Assumes nothing.
use mathlib.Core.Bool.{Bool, true}
use mathlib.Core.List.{List, [], ◌∷◌, ◌++◌, map}
use mathlib.Core.Path.{◌≡◌, refl, sym, ap, ap₂, ◌∙◌}
use Prim.Native.Nat.{ℕ, suc, ◌+◌, ◌*◌, ◌≤◌}
use native.Mathlib.Omega.{arith}
use lib.Dec.{eqb}
use lib.ListN.{length, take, drop, length-drop, take-append-drop}
use lib.Seq.{take_all}
use borrow.Author.Tests.{eq-eqb, eqb-true}
use Rattle.laws.specs.Choice.{all, all_of, all_of_map, both_true}
use Rattle.laws.specs.Chains.{all_passed}
use Rattle.areas.specs.Records.{encode, records}
use Rattle.rules.specs.Bounds.{max_accounts, max_contracts, within}
use Rattle.rules.specs.DayFile.{u32_at, contract_from, contracts_in, count_width}
use Rattle.rules.specs.WellFormed.{well_formed_contents}
use Rattle.rules.specs.declared.Holding.{Holding}
use Rattle.endian.specs.Numbers.{four}
use Rattle.sections.specs.Sections.{holding_bytes, section, holding_width}
use Rattle.statefile.specs.StateFile.{saved_account_place, saved_accounts_in, all_equal, empty_pre_open, saved_contract_place, counts_right, loaded_from, mark_sound, row_place, saved_bytes, saved_contract, saved_sound, settlements_place, shaped, writable, saved_account_width, saved_contract_width, settlements_width}
use Rattle.statefile.proofs.Fields.{Entry, entry, entry_bytes, entry_of, holding, listing, listing_bytes, listing_from}
use Rattle.statefile.proofs.Lists.{accounts_are, accounts_of, entries_again, entries_of, listings_are, listings_of, rows_again, rows_of, saved_row}
use Rattle.endian.proofs.Numbers.{Bytes, four_forth, parts}
use Rattle.statefile.proofs.Reading.{entries_encoded, rows_encoded}
use Rattle.statefile.proofs.Rows.{Field, length_records, records_all, records_forth, row}
use Rattle.statefile.proofs.Savable.{Savable}

-- ---- what the shape of a file says

pub record Shape (bs : List ℕ) : Type 0 where
  pub contracts : within 1 max_contracts (contracts_in bs) ≡ true
  pub accounts : within 1 max_accounts (saved_accounts_in bs) ≡ true
  pub ends : length bs ≡ settlements_place (contracts_in bs) (saved_accounts_in bs) + settlements_width
  pub holdings : u32_at bs (saved_account_place (contracts_in bs) (saved_accounts_in bs)) ≡ saved_accounts_in bs * contracts_in bs
  pub one : u32_at bs (row_place (contracts_in bs) (saved_accounts_in bs) (saved_accounts_in bs)) ≡ 1

pub shape : (bs : List ℕ) → shaped bs ≡ true → Shape bs
unfolding shaped counts_right
shape bs h =
    let c = contracts_in bs in
    let a = saved_accounts_in bs in
    let p = all_passed (within 1 max_contracts c) (within 1 max_accounts a ∷ eqb (length bs) (settlements_place c a + 4) ∷ counts_right bs ∷ []) h in
    let q = both_true (eqb (u32_at bs (saved_account_place c a)) (a * c)) (eqb (u32_at bs (row_place c a a)) 1) p.1.1.1 in
    record {
      contracts = p.0;
      accounts = p.1.0;
      ends = eqb-true (length bs) (settlements_place c a + settlements_width) p.1.1.0;
      holdings = eqb-true (u32_at bs (saved_account_place c a)) (a * c) q.0;
      one = eqb-true (u32_at bs (row_place c a a)) 1 q.1;
    }

pub record Sound (bs : List ℕ) : Type 0 where
  pub shape_is : Shape bs
  pub marks : all (mark_sound bs) (saved_accounts_in bs) ≡ true
  pub formed : well_formed_contents (loaded_from bs) ≡ true

pub sound_parts : (bs : List ℕ) → saved_sound bs ≡ true → Sound bs
unfolding saved_sound
sound_parts bs h =
    let p = all_passed (shaped bs) (all (mark_sound bs) (saved_accounts_in bs) ∷ well_formed_contents (loaded_from bs) ∷ []) h in
    record { shape_is = shape bs p.0; marks = p.1.0; formed = p.1.1 }

-- ---- a section is written as it was read

section_forth : {A : Type 0} {W : ℕ} {fit : A → Bool} {words : A → List ℕ} {first : List ℕ → A} (F : Field A W fit words first)
    (bs : List ℕ) (at n count : ℕ) → Bytes bs → count ≡ u32_at bs at → at + (count_width + W * n) ≤ length bs
    → section count (encode words (records W first bs (at + count_width) n)) ≡ take (count_width + W * n) (drop at bs)
section_forth {W = W} F bs at n count b e h =
    rw (e, four_forth bs b at (omega arith), records_forth F bs (at + 4) n b (omega arith)) (parts at 4 (W * n) bs)

-- ---- a loaded state has the file's records

length_accounts : (es : List Entry) (rows : List (List Holding)) → length es ≡ length rows → length (accounts_of es rows) ≡ length es
unfolding accounts_of
length_accounts [] rows e = refl
length_accounts (o ∷ es) [] e = absurd (omega arith)
length_accounts (o ∷ es) (r ∷ rows) e = ap suc (length_accounts es rows (omega arith))

still : (xs : List ℕ) → empty_pre_open (listing_from xs) ≡ true
unfolding empty_pre_open saved_contract contract_from
still xs = refl

as_many : (n : ℕ) (xs : List ℕ) → eqb (length (saved_row n xs)) n ≡ true
as_many n xs = eq-eqb (length (saved_row n xs)) n (length_records holding xs 0 n)

module _ (bs : List ℕ) where
  abbrev c : ℕ
  c = contracts_in bs

  abbrev a : ℕ
  a = saved_accounts_in bs

  same_lengths : length (entries_of bs) ≡ length (rows_of bs)
  same_lengths = length_records entry bs (saved_contract_place c + count_width) a ∙ sym (length_records (row holding c) bs (saved_account_place c a + count_width) a)

  pub loaded_contracts : length (loaded_from bs).listings ≡ c
  loaded_contracts = ap length (listings_are bs) ∙ length_records listing bs count_width c

  pub loaded_accounts : length (loaded_from bs).accounts ≡ a
  loaded_accounts =
      ap length (accounts_are bs) ∙ length_accounts (entries_of bs) (rows_of bs) same_lengths ∙ length_records entry bs (saved_contract_place c + count_width) a

  loaded_entries : map entry_of (loaded_from bs).accounts ≡ entries_of bs
  loaded_entries = ap (map entry_of) (accounts_are bs) ∙ entries_again (entries_of bs) (rows_of bs) same_lengths

  loaded_rows : map (λ o. o.holdings) (loaded_from bs).accounts ≡ rows_of bs
  loaded_rows = ap (map (λ o. o.holdings)) (accounts_are bs) ∙ rows_again (entries_of bs) (rows_of bs) same_lengths

  loaded_settlements : (loaded_from bs).settlements ≡ u32_at bs (settlements_place c a)
  unfolding loaded_from
  loaded_settlements = refl

  pub loaded_start : (length (loaded_from bs).trades ≡ 0) × (((loaded_from bs).next ≡ 1) × ((loaded_from bs).nextstamp ≡ 1))
  unfolding loaded_from
  loaded_start = (refl, (refl, refl))

  -- ---- the bytes again

  module _ (b : Bytes bs) (s : Shape bs) where
    contracts_forth : section c (encode listing_bytes (listings_of bs)) ≡ take (saved_contract_place c) bs
    unfolding contracts_in
    contracts_forth = section_forth listing bs 0 c c b refl (omega (arith, s.ends))

    accounts_forth : section a (encode entry_bytes (entries_of bs)) ≡ take (count_width + saved_account_width * a) (drop (saved_contract_place c) bs)
    unfolding saved_accounts_in
    accounts_forth = section_forth entry bs (saved_contract_place c) a a b refl (omega (arith, s.ends))

    holdings_forth : section (a * c) (encode (λ r. encode holding_bytes r) (rows_of bs)) ≡ take (count_width + holding_width * c * a) (drop (saved_account_place c a) bs)
    holdings_forth = section_forth (row holding c) bs (saved_account_place c a) a (a * c) b (sym s.holdings) (omega (arith, s.ends))

    last_forth : section 1 (four (u32_at bs (settlements_place c a))) ≡ take (count_width + settlements_width) (drop (row_place c a a) bs)
    last_forth =
        let at = row_place c a a in
        ap (λ (k : ℕ). section k (four (u32_at bs (at + 4)))) (sym s.one)
        ∙ rw (four_forth bs b at (omega (arith, s.ends)), four_forth bs b (at + 4) (omega (arith, s.ends))) (parts at 4 4 bs)

    whole : section c (encode listing_bytes (listings_of bs))
        ++ (section a (encode entry_bytes (entries_of bs))
        ++ (section (a * c) (encode (λ r. encode holding_bytes r) (rows_of bs)) ++ section 1 (four (u32_at bs (settlements_place c a)))))
        ≡ bs
    whole =
        let e : saved_account_place c a ≡ saved_contract_place c + (count_width + saved_account_width * a) = omega arith in
        let f : row_place c a a ≡ saved_contract_place c + (count_width + saved_account_width * a) + (count_width + holding_width * c * a) = omega arith in
        ap₂ (λ (k l : List ℕ). k ++ l) contracts_forth
        (ap₂ (λ (k l : List ℕ). k ++ l) accounts_forth
        (ap₂ (λ (k l : List ℕ). k ++ l) (holdings_forth ∙ ap (λ (n : ℕ). take (count_width + holding_width * c * a) (drop n bs)) e)
        (last_forth ∙ ap (λ (n : ℕ). take (count_width + settlements_width) (drop n bs)) f)))
        ∙ rw (
          parts (saved_contract_place c + (count_width + saved_account_width * a)) (count_width + holding_width * c * a) (count_width + settlements_width) bs,
          parts (saved_contract_place c) (count_width + saved_account_width * a) (count_width + holding_width * c * a + (count_width + settlements_width)) bs,
          take_all (count_width + saved_account_width * a + (count_width + holding_width * c * a + (count_width + settlements_width))) (drop (saved_contract_place c) bs) (omega (arith, s.ends, length-drop (saved_contract_place c) bs)),
        )
        (take-append-drop (saved_contract_place c) bs)

    pub write_again : saved_bytes (loaded_from bs) ≡ bs
    unfolding saved_bytes
    write_again =
        rw (
          entries_encoded (loaded_from bs).accounts,
          rows_encoded (loaded_from bs).accounts,
          loaded_contracts,
          loaded_accounts,
          listings_are bs,
          loaded_entries,
          loaded_rows,
          loaded_settlements,
        ) whole

  -- ---- a sound file's state is one that can be saved

  pub loaded_empty : all_of empty_pre_open (loaded_from bs).listings ≡ true
  loaded_empty = ap (all_of empty_pre_open) (listings_are bs) ∙ records_all saved_contract_width listing_from empty_pre_open still bs count_width c

  pub loaded_places : all_of (λ o. eqb (length o.holdings) (length (loaded_from bs).listings)) (loaded_from bs).accounts ≡ true
  loaded_places =
      rw loaded_contracts
      (sym (all_of_map (λ r. eqb (length r) c) (λ o. o.holdings) (loaded_from bs).accounts)
      ∙ rw loaded_rows (records_all (holding_width * c) (saved_row c) (λ r. eqb (length r) c) (as_many c) bs (saved_account_place c a + count_width) a))

  pub loaded_writable : all_equal (loaded_from bs) ≡ true → writable (loaded_from bs) ≡ true
  unfolding writable
  loaded_writable h = rw (loaded_empty, h, loaded_start.0, loaded_start.1.0, loaded_start.1.1)

  pub loaded_savable : saved_sound bs ≡ true → all_equal (loaded_from bs) ≡ true → Savable (loaded_from bs)
  loaded_savable h e =
      let p = sound_parts bs h in
      record {
        contracts = rw loaded_contracts p.shape_is.contracts;
        accounts = rw loaded_accounts p.shape_is.accounts;
        places = loaded_places;
        formed = p.formed;
        ready = loaded_writable e;
      }
