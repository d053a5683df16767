-- Ticket 11 of document 02: mending a day file. Assumes nothing.
use Rattle.std.specs.Prelude.{Bool, not, ◌||◌, List, [], ◌∷◌, ◌++◌, ◌≡◌, ℕ, zero, suc, ◌+◌, ◌-◌, ◌*◌, ◌/◌, ◌%◌, leb, ltb, eqb, length, take, drop}
use Rattle.laws.specs.Choice.{pick}
use Rattle.areas.specs.Lists.{over}
use Rattle.endian.specs.Numbers.{four, eight}
use Rattle.dayfile.specs.FileHead.{head_sound}
use Rattle.rules.specs.Answers.{first_of, ◌when◌}
use Rattle.rules.specs.Command.{is_malformed}
use Rattle.rules.specs.DayFile.{max_commands, count_width, command_width, command_place, command_from}
use Rattle.mending.specs.declared.mend.Mended.{Mended}

-- ---- the records, the first of which begins at `first`

-- all bytes behind the head are records: the whole ones, and whether a partial one follows
abbrev pub whole_records : List ℕ → ℕ → ℕ
whole_records file first = (length file - first) / command_width

abbrev pub partial_record : List ℕ → ℕ → Bool
partial_record file first = not (eqb ((length file - first) % command_width) 0)

-- "a reason (1): 1 malformed, 2 partial, 3 surplus": of whole record k, counted from 0, where n are kept before it; 0 for a
-- record that is kept
unfoldable pub reason : List ℕ → ℕ → ℕ → ℕ → ℕ
reason file first k n =
    pick (is_malformed (command_from file (first + command_width * k))) 1 (pick (leb max_commands n) 3 0)

-- how many of the first k records are kept
unfoldable pub kept : List ℕ → ℕ → ℕ → ℕ
kept file first zero = 0
kept file first (suc k) = kept file first k + pick (eqb (reason file first k (kept file first k)) 0) 1 0

-- "Kept commands stay in order": their bytes, as they stand in the file
unfoldable pub kept_bytes : List ℕ → ℕ → ℕ → List ℕ
kept_bytes file first zero = []
kept_bytes file first (suc k) =
    kept_bytes file first k
    ++ pick (eqb (reason file first k (kept file first k)) 0) (take command_width (drop (first + command_width * k) file)) []

-- "The list is an 8-byte count, then each dropped record in file order": the widths in bytes
abbrev pub list_count_width : ℕ
list_count_width = 8

abbrev pub entry_width : ℕ
entry_width = 9

-- "its place from 1 (8) and a reason (1)"
abbrev pub entry : ℕ → ℕ → List ℕ
entry k why = eight (k + 1) ++ (why ∷ [])

-- "each dropped record in file order", of the first k
unfoldable pub dropped : List ℕ → ℕ → ℕ → List ℕ
dropped file first zero = []
dropped file first (suc k) =
    dropped file first k
    ++ pick (eqb (reason file first k (kept file first k)) 0) [] (entry k (reason file first k (kept file first k)))

-- ---- what mending gives

abbrev pub kept_count : List ℕ → ℕ
kept_count file = kept file (command_place file 0) (whole_records file (command_place file 0))

-- "the stored command count is ignored and rewritten"
unfoldable pub mended_file : List ℕ → List ℕ
mended_file file =
    take (command_place file 0 - count_width) file
    ++ (four (kept_count file) ++ kept_bytes file (command_place file 0) (whole_records file (command_place file 0)))

abbrev pub dropped_count : List ℕ → ℕ → ℕ
dropped_count file first =
    whole_records file first - kept file first (whole_records file first) + pick (partial_record file first) 1 0

-- "The list is an 8-byte count, then each dropped record"; a partial one is the last
unfoldable pub list_from : List ℕ → ℕ → List ℕ
list_from file first =
    eight (dropped_count file first)
    ++ (dropped file first (whole_records file first)
    ++ pick (partial_record file first) (entry (whole_records file first) 2) [])

abbrev pub dropped_list : List ℕ → List ℕ
dropped_list file = list_from file (command_place file 0)

-- "Refusals: 20; 29 if output or list area is too short"
unfoldable pub mend_code : List ℕ → ℕ → ℕ → ℕ
mend_code file room listRoom =
    first_of
    ((20 when not (head_sound file))
    ∷ (29 when (ltb room (length (mended_file file)) || ltb listRoom (length (dropped_list file))))
    ∷ [])

-- The code, the two lengths and the two areas; "nothing written" where refused. Bytes beyond the end stay.
pub record MendIs (file out list : List ℕ) (r : Mended) (out' list' : List ℕ) : Type 0 where
  pub code : r.code ≡ mend_code file (length out) (length list)
  pub out_is : out' ≡ pick (eqb r.code 0) (over out 0 (mended_file file)) out
  pub list_is : list' ≡ pick (eqb r.code 0) (over list 0 (dropped_list file)) list
  pub length_is : r.length ≡ pick (eqb r.code 0) (length (mended_file file)) 0
  pub listed_is : r.listed ≡ pick (eqb r.code 0) (length (dropped_list file)) 0
