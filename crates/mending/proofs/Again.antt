-- "A mended file mends to itself with an empty list." Assumes nothing.
use lib.Seq.{drop-append_seam}
use Rattle.laws.specs.Logic.{Bool, true, false, ◌&&◌, true≢false, List, [], ◌++◌, append-nil, ◌≡◌, refl, sym, ap, ◌∙◌}
use Rattle.laws.specs.Numbers.{ℕ, zero, suc, ◌+◌, ◌-◌, ◌*◌, ◌%◌, ◌<◌, ◌≤◌, zero-add, arith, ltb-true, ltb-false, eq-eqb, le-leb, lt-leb, eqb, leb, ltb, length}
use Rattle.laws.specs.Numbers.{get_or, take, drop, List·getD-append, length-take-le, take_all, take-add, take_at, drop-drop, drop-append-add, get_or-take}
use Rattle.laws.specs.Numbers.{get_or-drop, get_or-append-add}
use Rattle.laws.specs.Choice.{all, all_ext, both_true, pick}
use Rattle.dayfile.proofs.Places.{contract_place_lem, account_place_lem, command_place_lem, accounts_read, commands_read_lem, length_decides, length_ends, head_is, sound_head}
use Rattle.rules.specs.DayFile.{sound as DayFile·sound}
use Rattle.mending.proofs.Records.{length_kept}
use Rattle.mending.proofs.Whole.{kept_limit, length_mended, place_least, place_within, whole_within}
use Rattle.endian.proofs.Writes.{length_four}
use Rattle.rules.specs.Command.{command_of, is_malformed}
use Rattle.rules.specs.DayFile.{u8_at, u16_at, u32_at, u64_at, record_from, contracts_in, accounts_in, commands_in, contract_place, account_place, command_place, contract_from, contract_sound, balance_from, account_sound, count_width, contract_width, account_width, command_width, max_commands}
use Rattle.endian.specs.Numbers.{two, four, eight}
use Rattle.dayfile.specs.FileHead.{head_whole, head_sound}
use Rattle.mending.specs.Mend.{reason, kept, kept_bytes, kept_count, dropped, dropped_list, list_from, mended_file, whole_records}

-- ---- records that are all well formed, 2,000 at most, are all kept

abbrev well_formed_at : List ℕ → ℕ → Type 0
well_formed_at file at = is_malformed (command_of (record_from file at)) ≡ false

module _ (file : List ℕ) (first c : ℕ) (most : c ≤ max_commands) (good : (j : ℕ) → j < c → well_formed_at file (first + command_width * j)) where
  no_reason_at : (k : ℕ) → k < c → reason file first k k ≡ 0
  unfolding reason
  no_reason_at k h = rw (good k h, lt-leb max_commands k (omega arith))

  pub all_kept : (k : ℕ) → k ≤ c → kept file first k ≡ k
  unfolding kept
  all_kept zero h = refl
  all_kept (suc k) h = rw (all_kept k (omega arith), no_reason_at k (omega arith)) (omega arith)

  pub none_listed : (k : ℕ) → k ≤ c → dropped file first k ≡ []
  unfolding dropped
  none_listed zero h = refl
  none_listed (suc k) h = rw (none_listed k (omega arith), all_kept k (omega arith), no_reason_at k (omega arith))

  pub bytes_stay : (k : ℕ) → k ≤ c → kept_bytes file first k ≡ take (command_width * k) (drop first file)
  unfolding kept_bytes
  bytes_stay zero h = refl
  bytes_stay (suc k) h =
      let e : command_width * suc k ≡ command_width * k + command_width = omega arith in
      rw (bytes_stay k (omega arith), all_kept k (omega arith), no_reason_at k (omega arith), e)
      (sym (take-add (command_width * k) command_width (drop first file) ∙ ap (λ (l : List ℕ). take (command_width * k) (drop first file) ++ take command_width l) (drop-drop (command_width * k) first file)))

-- ---- equal bytes, equal numbers and records

module _ (a b : List ℕ) (i j w : ℕ) (same : (t : ℕ) → t < w → get_or a (i + t) 0 ≡ get_or b (j + t) 0) where
  same_8 : (o x y : ℕ) → o < w → x ≡ i + o → y ≡ j + o → u8_at a x ≡ u8_at b y
  unfolding u8_at
  same_8 o x y h e f = rw (e, f) (same o h)

  same_16 : (o x y : ℕ) → o + 2 ≤ w → x ≡ i + o → y ≡ j + o → u16_at a x ≡ u16_at b y
  unfolding u16_at
  same_16 o x y h e f = rw (same_8 o x y (omega arith) e f, same_8 (o + 1) (x + 1) (y + 1) (omega arith) (omega arith) (omega arith))

  pub same_32 : (o x y : ℕ) → o + 4 ≤ w → x ≡ i + o → y ≡ j + o → u32_at a x ≡ u32_at b y
  unfolding u32_at
  same_32 o x y h e f = rw (same_16 o x y (omega arith) e f, same_16 (o + 2) (x + 2) (y + 2) (omega arith) (omega arith) (omega arith))

  pub same_64 : (o x y : ℕ) → o + 8 ≤ w → x ≡ i + o → y ≡ j + o → u64_at a x ≡ u64_at b y
  unfolding u64_at
  same_64 o x y h e f = rw (same_32 o x y (omega arith) e f, same_32 (o + 4) (x + 4) (y + 4) (omega arith) (omega arith) (omega arith))

  pub same_record : command_width ≤ w → record_from a i ≡ record_from b j
  unfolding record_from
  same_record h =
      rw (
        same_8 0 i j (omega arith) (omega arith) (omega arith),
        same_8 1 (i + 1) (j + 1) (omega arith) refl refl,
        same_8 2 (i + 2) (j + 2) (omega arith) refl refl,
        same_8 3 (i + 3) (j + 3) (omega arith) refl refl,
        same_32 4 (i + 4) (j + 4) (omega arith) refl refl,
        same_32 8 (i + 8) (j + 8) (omega arith) refl refl,
        same_32 12 (i + 12) (j + 12) (omega arith) refl refl,
        same_64 16 (i + 16) (j + 16) (omega arith) refl refl,
      )

-- ---- what is kept is well formed

malformed_is : (file : List ℕ) (first k n : ℕ) → eqb (reason file first k n) 0 ≡ true → well_formed_at file (first + command_width * k)
unfolding reason
malformed_is file first k n e = by_malformed (is_malformed (command_of (record_from file (first + command_width * k)))) refl e
  where
    by_malformed : (t : Bool) → is_malformed (command_of (record_from file (first + command_width * k))) ≡ t
        → eqb (pick {A = ℕ} t 1 (pick {A = ℕ} (leb max_commands n) 3 0)) 0 ≡ true → well_formed_at file (first + command_width * k)
    by_malformed true f e = absurd (true≢false (sym e))
    by_malformed false f e = f

before_seam : (l ys : List ℕ) (at : ℕ) → at + command_width ≤ length l → well_formed_at l at → well_formed_at (l ++ ys) at
before_seam l ys at h g =
    ap (λ r. is_malformed (command_of r)) (same_record (l ++ ys) l at at command_width (λ (t : ℕ) (i : t < command_width). List·getD-append l ys 0 (at + t) (omega arith)) (omega arith)) ∙ g

at_seam : (l file : List ℕ) (at from : ℕ) → at ≡ length l → well_formed_at file from → well_formed_at (l ++ take command_width (drop from file)) at
at_seam l file at from e g =
    ap (λ r. is_malformed (command_of r))
    (same_record (l ++ take command_width (drop from file)) file at from command_width
    (λ (t : ℕ) (i : t < command_width). rw e (get_or-append-add l (take command_width (drop from file)) t 0 ∙ get_or-take command_width (drop from file) t 0 i ∙ get_or-drop from file t 0))
    (omega arith)) ∙ g

pub kept_good : (file : List ℕ) (first k : ℕ) → first + command_width * k ≤ length file → (j : ℕ) → j < kept file first k
    → well_formed_at (kept_bytes file first k) (command_width * j)
unfolding kept kept_bytes
kept_good file first zero h j i = absurd (omega arith)
kept_good file first (suc k) h j i =
    by_reason (eqb (reason file first k (kept file first k)) 0) refl i (kept_good file first k (omega arith)) (length_kept file first k (omega arith))
  where
    by_reason : (t : Bool) → eqb (reason file first k (kept file first k)) 0 ≡ t → j < kept file first k + pick {A = ℕ} t 1 0
        → ((j : ℕ) → j < kept file first k → well_formed_at (kept_bytes file first k) (command_width * j))
        → length (kept_bytes file first k) ≡ command_width * kept file first k
        → well_formed_at (kept_bytes file first k ++ pick t (take command_width (drop (first + command_width * k) file)) []) (command_width * j)
    by_reason false e i g l = rw (append-nil (kept_bytes file first k)) (g j (omega arith))
    by_reason true e i g l = last (ltb j (kept file first k)) refl
      where
        last : (u : Bool) → ltb j (kept file first k) ≡ u
            → well_formed_at (kept_bytes file first k ++ take command_width (drop (first + command_width * k) file)) (command_width * j)
        last true f =
            let b = ltb-true j (kept file first k) f in
            before_seam (kept_bytes file first k) (take command_width (drop (first + command_width * k) file)) (command_width * j) (omega arith) (g j b)
        last false f =
            let b = ltb-false j (kept file first k) f in
            at_seam (kept_bytes file first k) file (command_width * j) (first + command_width * k) (omega arith) (malformed_is file first k (kept file first k) e)

read_four : (n : ℕ) → u32_at (four n) 0 ≡ n
unfolding u32_at u16_at u8_at four two
read_four n = omega arith

-- ---- the mended file's head is the file's, and its records are those kept

module _ (file : List ℕ) (sound : head_sound file ≡ true) where
  abbrev first : ℕ
  first = command_place file 0

  abbrev bytes : List ℕ
  bytes = kept_bytes file first (whole_records file first)

  abbrev again : List ℕ
  again = mended_file file

  parts : again ≡ take (first - count_width) file ++ (four (kept_count file) ++ bytes)
  unfolding mended_file
  parts = refl

  length_front : length (take (first - count_width) file) ≡ first - count_width
  length_front = length-take-le (first - count_width) file (omega (arith, place_within file sound))

  same_head : (t : ℕ) → t < first - count_width → get_or again (0 + t) 0 ≡ get_or file (0 + t) 0
  same_head t h =
      rw (zero-add t, parts)
      (List·getD-append (take (first - count_width) file) (four (kept_count file) ++ bytes) 0 t (omega (arith, length_front))
      ∙ get_or-take (first - count_width) file t 0 h)

  place : first ≡ 3 * count_width + contract_width * contracts_in file + account_width * accounts_in file
  place = omega (arith, command_place_lem file 0)

  same_contracts : contracts_in again ≡ contracts_in file
  unfolding contracts_in
  same_contracts = same_32 again file 0 0 (first - count_width) same_head 0 0 0 (omega (arith, place_least file sound)) (omega arith) (omega arith)

  same_accounts : accounts_in again ≡ accounts_in file
  same_accounts =
      accounts_read again
      ∙ same_32 again file 0 0 (first - count_width) same_head (count_width + contract_width * contracts_in file) (count_width + contract_width * contracts_in again) (count_width + contract_width * contracts_in file)
      (omega (arith, place)) (omega (arith, same_contracts)) (omega arith) ∙ sym (accounts_read file)

  same_place : command_place again 0 ≡ first
  same_place = omega (arith, command_place_lem again 0, place, same_contracts, same_accounts)

  drop_front : drop first again ≡ bytes
  drop_front =
      let e : first ≡ length (take (first - count_width) file) + length (four (kept_count file)) =
      omega (arith, length_front, length_four (kept_count file), place_least file sound) in
      ap (λ (l : List ℕ). drop first l) parts ∙ ap (λ (k : ℕ). drop k (take (first - count_width) file ++ (four (kept_count file) ++ bytes))) e
      ∙ drop-append-add (take (first - count_width) file) (four (kept_count file) ++ bytes) (length (four (kept_count file)))
      ∙ drop-append_seam (four (kept_count file)) bytes

  take_front : take (first - count_width) again ≡ take (first - count_width) file
  take_front =
      ap (λ (l : List ℕ). take (first - count_width) l) parts
      ∙ take_at (take (first - count_width) file) (four (kept_count file) ++ bytes) (first - count_width) length_front

  length_bytes : length bytes ≡ command_width * kept_count file
  length_bytes = length_kept file first (whole_records file first) (whole_within file first (place_within file sound))

  all_good : (j : ℕ) → j < kept_count file → well_formed_at again (first + command_width * j)
  all_good j h =
      ap (λ r. is_malformed (command_of r))
      (same_record again bytes (first + command_width * j) (command_width * j) command_width
      (λ (t : ℕ) (i : t < command_width).
      let e : first + command_width * j + t ≡ first + (command_width * j + t) = omega arith in
      rw e (sym (get_or-drop first again (command_width * j + t) 0) ∙ ap (λ (l : List ℕ). get_or l (command_width * j + t) 0) drop_front))
      (omega arith)) ∙ kept_good file first (whole_records file first) (whole_within file first (place_within file sound)) j h

  rest : length again - first ≡ command_width * kept_count file
  rest = omega (arith, length_mended file sound)

  whole : whole_records again first ≡ kept_count file
  whole = rw rest (omega arith)

  no_partial : (length again - first) % command_width ≡ 0
  no_partial = rw rest (omega arith)

  most : kept_count file ≤ max_commands
  most = kept_limit file first (whole_records file first)

  kept_again : kept again first (whole_records again first) ≡ kept_count file
  kept_again = ap (kept again first) whole ∙ all_kept again first (kept_count file) most all_good (kept_count file) (omega arith)

  bytes_again : kept_bytes again first (whole_records again first) ≡ bytes
  bytes_again =
      ap (kept_bytes again first) whole ∙ bytes_stay again first (kept_count file) most all_good (kept_count file) (omega arith)
      ∙ ap (λ (l : List ℕ). take (command_width * kept_count file) l) drop_front
      ∙ take_all (command_width * kept_count file) bytes (omega (arith, length_bytes))

  mended_from : (l : List ℕ) (p : ℕ) → command_place l 0 ≡ p
      → mended_file l ≡ take (p - count_width) l ++ (four (kept l p (whole_records l p)) ++ kept_bytes l p (whole_records l p))
  unfolding mended_file
  mended_from l p e = rw e

  -- A MENDED FILE MENDS TO ITSELF ..
  pub mends_to_itself : mended_file (mended_file file) ≡ mended_file file
  mends_to_itself =
      mended_from again first same_place
      ∙ ap (λ (l : List ℕ). l ++ (four (kept again first (whole_records again first)) ++ kept_bytes again first (whole_records again first))) take_front
      ∙ ap (λ (k : ℕ). take (first - count_width) file ++ (four k ++ kept_bytes again first (whole_records again first))) kept_again
      ∙ ap (λ (l : List ℕ). take (first - count_width) file ++ (four (kept_count file) ++ l)) bytes_again ∙ sym parts

  list_from_lem : (l : List ℕ) (p c : ℕ) → (length l - p) % command_width ≡ 0 → whole_records l p ≡ c → kept l p c ≡ c → dropped l p c ≡ []
      → list_from l p ≡ eight 0
  unfolding list_from
  list_from_lem l p c z w k d = let e : c - c + 0 ≡ 0 = omega arith in rw (z, w, k, d, e) (append-nil (eight 0))

  -- .. WITH AN EMPTY LIST: its count is 0 and nothing follows
  pub empty_list : dropped_list (mended_file file) ≡ eight 0
  empty_list =
      ap (list_from again) same_place ∙ list_from_lem again first (kept_count file) no_partial whole
      (all_kept again first (kept_count file) most all_good (kept_count file) (omega arith))
      (none_listed again first (kept_count file) most all_good (kept_count file) (omega arith))

  -- ---- its head is sound, so that it is not refused

  same_contract : (c : ℕ) → c < contracts_in file → contract_sound again c ≡ contract_sound file c
  unfolding contract_sound contract_from
  same_contract c h =
      let q = first - count_width in
      let o = contract_place c in
      let z : o ≡ 0 + o = omega arith in
      let at : (k : ℕ) → o + k ≡ 0 + (o + k) = λ k. omega arith in
      let r : o + contract_width ≤ q = omega (arith, place, contract_place_lem c) in
      rw (
        same_16 again file 0 0 q same_head o o o (omega arith) z z,
        same_16 again file 0 0 q same_head (o + 2) (o + 2) (o + 2) (omega arith) (at 2) (at 2),
        same_32 again file 0 0 q same_head (o + 4) (o + 4) (o + 4) (omega arith) (at 4) (at 4),
        same_32 again file 0 0 q same_head (o + 8) (o + 8) (o + 8) (omega arith) (at 8) (at 8),
        same_32 again file 0 0 q same_head (o + 12) (o + 12) (o + 12) (omega arith) (at 12) (at 12),
        same_16 again file 0 0 q same_head (o + 16) (o + 16) (o + 16) (omega arith) (at 16) (at 16),
        same_16 again file 0 0 q same_head (o + 18) (o + 18) (o + 18) (omega arith) (at 18) (at 18),
      )

  same_account : (a : ℕ) → a < accounts_in file → account_sound again a ≡ account_sound file a
  unfolding account_sound balance_from
  same_account a h =
      let o = account_place file a in
      let e : account_place again a ≡ 0 + o = omega (arith, account_place_lem again a, account_place_lem file a, same_contracts) in
      rw (same_64 again file 0 0 (first - count_width) same_head o (account_place again a) o (omega (arith, place, account_place_lem file a)) e (omega arith))

  again_whole : head_whole again ≡ true
  again_whole =
      let h = sound_head file sound in
      length_decides again (omega (arith, same_contracts)) (omega (arith, same_contracts)) (omega (arith, same_accounts)) (omega (arith, same_accounts))
      ∙ le-leb (3 * count_width + contract_width * contracts_in again + account_width * accounts_in again) (length again)
      (omega (arith, same_contracts, same_accounts, place, length_mended file sound))

  -- THE MENDED FILE CAN BE MENDED
  pub again_sound : head_sound (mended_file file) ≡ true
  again_sound =
      let c = all (contract_sound file) (contracts_in file) in
      let a = all (account_sound file) (accounts_in file) in
      let p = both_true (head_whole file && c) a (sym (head_is file) ∙ sound) in
      let q = both_true (head_whole file) c p.0 in
      head_is again ∙ rw (
        again_whole,
        same_contracts,
        same_accounts,
        all_ext (contract_sound again) (contract_sound file) (contracts_in file) same_contract,
        all_ext (account_sound again) (account_sound file) (accounts_in file) same_account,
        q.1,
        p.1,
      )

  -- ---- and it is a sound day file

  same_count : (t : ℕ) → t < count_width → get_or again (first - count_width + t) 0 ≡ get_or (four (kept_count file)) (0 + t) 0
  same_count t h =
      let e : first - count_width + t ≡ length (take (first - count_width) file) + t = omega (arith, length_front) in
      rw (e, parts, zero-add t)
      (get_or-append-add (take (first - count_width) file) (four (kept_count file) ++ bytes) t 0
      ∙ List·getD-append (four (kept_count file)) bytes 0 t (omega (arith, length_four (kept_count file))))

  count_again : commands_in again ≡ kept_count file
  count_again =
      commands_read_lem again
      ∙ same_32 again (four (kept_count file)) (first - count_width) 0 count_width same_count 0 (2 * count_width + contract_width * contracts_in again + account_width * accounts_in again) 0
      (omega arith) (omega (arith, place, same_contracts, same_accounts)) (omega arith) ∙ read_four (kept_count file)

  -- A MENDED FILE IS A SOUND DAY FILE
  pub mended_sound : DayFile·sound (mended_file file) ≡ true
  mended_sound =
      length_ends again again_sound (omega (arith, count_again, most)) (command_place again 0) refl
      ∙ eq-eqb (length again) (command_place again 0 + command_width * commands_in again)
      (omega (arith, length_mended file sound, command_place_lem again 0, same_contracts, same_accounts, count_again, place))
