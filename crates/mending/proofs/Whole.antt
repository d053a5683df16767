-- The mended file and the list as wholes: lengths, what is written, and the ways out of the call. Assumes nothing.
use Rattle.laws.specs.Logic.{Bool, true, false, List, [], ◌++◌, append-nil, ◌≡◌, refl, sym, ap, ◌∙◌}
use Rattle.laws.specs.Numbers.{ℕ, zero, suc, ◌+◌, ◌-◌, ◌*◌, ◌%◌, ◌<◌, ◌≤◌, add-zero, div-mul-le_self, arith, leb-false, ne_eqb, lt-ltb, le-ltb, eqb, leb, ltb}
use Rattle.laws.specs.Numbers.{length, take, drop, length-append, length-take-le}
use Rattle.areas.specs.Lists.{over}
use Rattle.laws.specs.Choice.{pick}
use Rattle.endian.specs.Written.{Written}
use Rattle.endian.proofs.Writes.{then, length_four, length_eight, length_part}
use Rattle.rules.specs.Answers.{first_of}
use Rattle.rules.specs.Bounds.{max_contracts, max_accounts}
use Rattle.rules.specs.Command.{command_of, is_malformed}
use Rattle.rules.specs.DayFile.{command_place, record_from, count_width, contract_width, account_width, command_width, max_commands, file_most}
use Rattle.dayfile.proofs.Places.{command_place_lem, sound_head}
use Rattle.endian.specs.Numbers.{four, eight}
use Rattle.dayfile.specs.FileHead.{head_sound}
use Rattle.mending.specs.Mend.{MendIs, entry, reason, kept, kept_bytes, kept_count, dropped, dropped_count, dropped_list, list_from, mend_code, mended_file, partial_record, whole_records, list_count_width, entry_width}
use Rattle.mending.proofs.Records.{length_kept, length_dropped, length_entry}

pub whole_within : (file : List ℕ) (first : ℕ) → first ≤ length file → first + command_width * whole_records file first ≤ length file
whole_within file first h = omega (arith, div-mul-le_self (length file - first) command_width)

-- "all kept beyond 2,000" are dropped
pub kept_limit : (file : List ℕ) (first k : ℕ) → kept file first k ≤ max_commands
unfolding kept reason
kept_limit file first zero = omega arith
kept_limit file first (suc k) =
    by_malformed_and_full (is_malformed (command_of (record_from file (first + command_width * k)))) (leb max_commands (kept file first k)) refl (kept_limit file first k)
  where
    by_malformed_and_full : (t u : Bool) → leb max_commands (kept file first k) ≡ u → kept file first k ≤ max_commands
        → kept file first k + pick {A = ℕ} (eqb (pick {A = ℕ} t 1 (pick {A = ℕ} u 3 0)) 0) 1 0 ≤ max_commands
    by_malformed_and_full true u e h = omega arith
    by_malformed_and_full false true e h = omega arith
    by_malformed_and_full false false e h = omega (arith, leb-false max_commands (kept file first k) e)

module _ (file : List ℕ) (sound : head_sound file ≡ true) where
  pub place_least : 3 * count_width ≤ command_place file 0
  place_least = omega (arith, command_place_lem file 0)

  pub place_within : command_place file 0 ≤ length file
  place_within = omega (arith, (sound_head file sound).long, command_place_lem file 0)

  pub length_mended : length (mended_file file) ≡ command_place file 0 + command_width * kept_count file
  unfolding mended_file
  length_mended =
      let first = command_place file 0 in
      let bytes = kept_bytes file first (whole_records file first) in
      length-append (take (first - count_width) file) (four (kept_count file) ++ bytes) ∙ omega (
        arith,
        place_least,
        place_within,
        length-append (four (kept_count file)) bytes,
        length_four (kept_count file),
        length-take-le (first - count_width) file (omega (arith, place_within)),
        length_kept file first (whole_records file first) (whole_within file first place_within),
      )

module _ (file : List ℕ) (first : ℕ) where
  length_last : (t : Bool) → length (pick t (entry (whole_records file first) 2) []) ≡ entry_width * pick t 1 0
  length_last true = length_entry (whole_records file first) 2
  length_last false = refl

  pub length_list : length (list_from file first) ≡ list_count_width + entry_width * dropped_count file first
  unfolding list_from
  length_list =
      let n = whole_records file first in
      let last = pick (partial_record file first) (entry n 2) [] in
      length-append (eight (dropped_count file first)) (dropped file first n ++ last) ∙ omega (
        arith,
        length_eight (dropped_count file first),
        length-append (dropped file first n) last,
        length_dropped file first n,
        length_last (partial_record file first),
      )

pub dropped_most : (file : List ℕ) (first : ℕ) → dropped_count file first ≤ whole_records file first + 1
dropped_most file first = by_partial (partial_record file first)
  where
    by_partial : (t : Bool) → whole_records file first - kept file first (whole_records file first) + pick t 1 0 ≤ whole_records file first + 1
    by_partial true = omega arith
    by_partial false = omega arith

pub place_most : (file : List ℕ) → head_sound file ≡ true → command_place file 0 ≤ 3 * count_width + contract_width * max_contracts + account_width * max_accounts
place_most file sound = omega (arith, (sound_head file sound).contracts, (sound_head file sound).accounts, command_place_lem file 0)

module _ (file : List ℕ) (first n m : ℕ) (e : n ≡ whole_records file first) (g : m ≡ kept file first n) where
  pub count_whole : (length file - first) % command_width ≡ 0 → n - m ≡ dropped_count file first
  count_whole z = rw (← e, ← g, z) (sym (add-zero (n - m)))

  pub count_partial : ((length file - first) % command_width ≡ 0 → ⊥) → n - m + 1 ≡ dropped_count file first
  count_partial z = rw (← e, ← g, ne_eqb ((length file - first) % command_width) 0 z)

-- ---- a mended file: its head is sound, `first` is the place behind it, n whole records follow, m of them are kept

pub record Found (file : List ℕ) (first n m : ℕ) : Type 0 where
  pub sound : head_sound file ≡ true
  pub place : first ≡ command_place file 0
  pub records : n ≡ whole_records file first
  pub keeps : m ≡ kept file first n

-- what a head tells of the file whose bytes it has
pub of_head : {bytes file : List ℕ} {first : ℕ} → bytes ≡ file → head_sound bytes ≡ true → first ≡ command_place bytes 0
    → (head_sound file ≡ true) × (first ≡ command_place file 0)
of_head e sound place = (rw (← e) sound, rw (← e) place)

pub found : {file : List ℕ} {first n m : ℕ} → (head_sound file ≡ true) × (first ≡ command_place file 0) → (n ≡ whole_records file first) × (m ≡ kept file first n)
    → Found file first n m
found h k = record { sound = h.0; place = h.1; records = k.0; keeps = k.1 }

module _ {file : List ℕ} {first n m : ℕ} (f : Found file first n m) where
  pub first_within : (3 * count_width ≤ first) × (first ≤ length file)
  first_within = (omega (arith, f.place, place_least file f.sound), omega (arith, f.place, place_within file f.sound))

  all_within : first + command_width * n ≤ length file
  all_within = omega (arith, f.records, whole_within file first first_within.1)

  mended_is : length (mended_file file) ≡ first + command_width * m
  mended_is = rw (f.keeps, f.records, f.place) (length_mended file f.sound)

  pub mended_most : first + command_width * m ≤ file_most
  mended_most = omega (arith, f.place, place_most file f.sound, f.keeps, kept_limit file first n)

  -- what is not shorter than what the code counts is room for it
  pub mended_fits : {room : ℕ} → first + command_width * m ≤ room → length (mended_file file) ≤ room
  mended_fits h = omega (arith, mended_is)

  pub head_fits : {room : ℕ} → length (mended_file file) ≤ room → first ≤ room
  head_fits h = omega (arith, mended_is)

  -- behind its head there is room for the count, and behind that for the kept records
  module _ {before m₁ : List ℕ} {j₁ : ℕ} (w : Written (first - count_width) before 0 (take (first - count_width) (drop 0 file)) m₁ j₁) (room : length (mended_file file) ≤ length before) where
    count_place : j₁ + count_width ≡ first
    count_place = let h = first_within in omega (arith, w.ends, length_part file 0 (first - count_width) (omega arith))

    pub count_room : j₁ + count_width ≤ length m₁
    count_room = omega (arith, count_place, w.kept, head_fits room)

    pub kept_room : {m₂ : List ℕ} {j₂ : ℕ} → Written count_width m₁ j₁ (four m) m₂ j₂ → (first + command_width * n ≤ length file) × (j₂ + command_width * kept file first n ≤ length m₂)
    kept_room v = (all_within, omega (arith, count_place, v.ends, v.kept, w.kept, length_four m, mended_is, f.keeps))

  pub file_written : {before m₁ m₂ after : List ℕ} {j₁ j₂ next : ℕ} → Written (first - count_width) before 0 (take (first - count_width) (drop 0 file)) m₁ j₁
      → Written count_width m₁ j₁ (four m) m₂ j₂ → Written (command_width * n) m₂ j₂ (kept_bytes file first n) after next
      → after ≡ over before 0 (mended_file file)
  unfolding mended_file
  file_written w v u = rw (← f.place, ← f.records, ← f.keeps) (then w (then v u)).content

-- ---- a list: behind `first` stand n whole records, and d are dropped, a partial one among them

pub record Listed (file : List ℕ) (first n d : ℕ) : Type 0 where
  pub within : first ≤ length file
  pub records : n ≡ whole_records file first
  pub drops : d ≡ dropped_count file first

pub told : {file : List ℕ} {first n d : ℕ} → (first ≤ length file) × (n ≡ whole_records file first) × (d ≡ dropped_count file first) → Listed file first n d
told h = record { within = h.0; records = h.1; drops = h.2 }

module _ {file : List ℕ} {first n d : ℕ} (l : Listed file first n d) where
  pub listed_within : first + command_width * n ≤ length file
  listed_within = omega (arith, l.records, whole_within file first l.within)

  list_is : length (list_from file first) ≡ list_count_width + entry_width * d
  list_is = omega (arith, length_list file first, l.drops)

  pub list_fits : {room : ℕ} → list_count_width + entry_width * d ≤ room → length (list_from file first) ≤ room
  list_fits h = omega (arith, list_is)

  pub number_fits : {room : ℕ} → length (list_from file first) ≤ room → list_count_width ≤ room
  number_fits h = omega (arith, list_is)

  pub listed_most : list_count_width + entry_width * d ≤ length file + (list_count_width + entry_width)
  listed_most = omega (arith, l.drops, l.records, dropped_most file first, listed_within)

  whole_dropped : entry_width * (n - kept file first n) ≤ entry_width * d
  whole_dropped = rw (l.records, l.drops) (omega arith)

  -- behind the number there is room for the whole records' entries, and behind them for a partial one's
  module _ {before m₁ : List ℕ} {j₁ : ℕ} (w : Written list_count_width before 0 (eight d) m₁ j₁) where
    pub entries_room : length (list_from file first) ≤ length before → (first + command_width * n ≤ length file) × (j₁ + entry_width * (n - kept file first n) ≤ length m₁)
    entries_room room = (listed_within, omega (arith, w.ends, w.kept, length_eight d, list_is, whole_dropped))

    module _ {m₂ : List ℕ} {j₂ : ℕ} (v : Written (entry_width * n) m₁ j₁ (dropped file first n) m₂ j₂) where
      pub list_whole : (length file - first) % command_width ≡ 0 → m₂ ≡ over before 0 (list_from file first)
      unfolding list_from
      list_whole z = rw (← l.drops, ← l.records, z) (rw (append-nil (dropped file first n)) (then w v).content)

      module _ (z : (length file - first) % command_width ≡ 0 → ⊥) where
        pub last_room : length (list_from file first) ≤ length before → j₂ + entry_width ≤ length m₂
        last_room room =
            omega (
              arith,
              w.ends,
              w.kept,
              v.ends,
              v.kept,
              length_eight d,
              length_dropped file first n,
              list_is,
              l.drops,
              count_partial file first n (kept file first n) l.records refl z,
            )

        pub list_partial : {after : List ℕ} {next : ℕ} → Written entry_width m₂ j₂ (entry n 2) after next → after ≡ over before 0 (list_from file first)
        unfolding list_from
        list_partial u = rw (← l.drops, ← l.records, ne_eqb ((length file - first) % command_width) 0 z) (then w (then v u)).content

-- ---- the ways out of the call

pub head_broken : (file out list : List ℕ) → head_sound file ≡ false → MendIs file out list (record { code = 20; length = 0; listed = 0 }) out list
unfolding mend_code first_of
head_broken file out list h = record { code = rw h; out_is = refl; list_is = refl; length_is = refl; listed_is = refl }

module _ {file : List ℕ} {first n m d : ℕ} (f : Found file first n m) (k : d ≡ dropped_count file first) where
  pub listed : Listed file first n d
  listed = record { within = (first_within f).1; records = f.records; drops = k }

  length_dropped_list : length (dropped_list file) ≡ list_count_width + entry_width * d
  length_dropped_list = ap (λ (j : ℕ). length (list_from file j)) (sym f.place) ∙ list_is listed

  module _ (out list : List ℕ) where
    pub out_short : length out < first + command_width * m → MendIs file out list (record { code = 29; length = 0; listed = 0 }) out list
    unfolding mend_code first_of
    out_short h =
        let e = lt-ltb (length out) (length (mended_file file)) (omega (arith, mended_is f)) in
        record { code = rw (f.sound, e); out_is = refl; list_is = refl; length_is = refl; listed_is = refl }

    module _ (room : first + command_width * m ≤ length out) where
      fits_out : ltb (length out) (length (mended_file file)) ≡ false
      fits_out = le-ltb (length out) (length (mended_file file)) (mended_fits f room)

      pub list_short : length list < list_count_width + entry_width * d → MendIs file out list (record { code = 29; length = 0; listed = 0 }) out list
      unfolding mend_code first_of
      list_short h =
          let e = lt-ltb (length list) (length (dropped_list file)) (omega (arith, length_dropped_list)) in
          record { code = rw (f.sound, fits_out, e); out_is = refl; list_is = refl; length_is = refl; listed_is = refl }

      pub mended : {out' list' : List ℕ} → list_count_width + entry_width * d ≤ length list → out' ≡ over out 0 (mended_file file) → list' ≡ over list 0 (list_from file first)
          → MendIs file out list (record { code = 0; length = first + command_width * m; listed = list_count_width + entry_width * d }) out' list'
      unfolding mend_code first_of
      mended h o l =
          let e = le-ltb (length list) (length (dropped_list file)) (omega (arith, length_dropped_list)) in
          record {
            code = rw (f.sound, fits_out, e);
            out_is = o;
            list_is = l ∙ ap (λ (j : ℕ). over list 0 (list_from file j)) f.place;
            length_is = sym (mended_is f);
            listed_is = sym length_dropped_list;
          }
