-- The records kept and dropped, one more a turn. Assumes nothing.
use Rattle.laws.specs.Logic.{Bool, true, false, List, [], ◌++◌, append-nil, ◌≡◌, refl, sym, ap, ◌∙◌}
use Rattle.laws.specs.Numbers.{ℕ, zero, suc, ◌+◌, ◌-◌, ◌*◌, ◌<◌, ◌≤◌, add-zero, add-one, arith, ne_eqb, le-leb, lt-leb, eqb, length, take, drop, length-append}
use Rattle.laws.specs.Choice.{pick}
use Rattle.endian.specs.Written.{Written}
use Rattle.endian.specs.Numbers.{two, four, eight}
use Rattle.endian.proofs.Writes.{then, looser, no_byte, length_part}
use Rattle.rules.specs.Command.{command_of, is_malformed}
use Rattle.rules.specs.DayFile.{record_from, command_width, max_commands}
use Rattle.rules.specs.declared.{Command.Command, Record.Record}
use Rattle.std.specs.Option.{is_some}
use Rattle.std.specs.Prelude.{Option, Some, None}
use Rattle.mending.specs.Reasons.{reason_number, reason_in}
use Rattle.mending.specs.declared.reasons.Reason.{Reason}
use Rattle.mending.specs.declared.reasons.Reason.TheVariants.{Malformed, Partial, Surplus}
use Rattle.mending.specs.Mend.{reason, kept, kept_bytes, dropped, entry, entry_width}

pub length_entry : (k why : ℕ) → length (entry k why) ≡ entry_width
unfolding eight four two
length_entry k why = refl

-- ---- a record's verdict, from what the code reads

module _ (file : List ℕ) (first k n : ℕ) {r : Record} {command : Command} {t : Bool} (er : r ≡ record_from file (first + command_width * k))
    (ec : command ≡ command_of r) (et : t ≡ is_malformed command) where
  test_is : is_malformed (command_of (record_from file (first + command_width * k))) ≡ t
  test_is = sym (et ∙ ap is_malformed (ec ∙ ap command_of er))

  pub malformed : t ≡ true → 1 ≡ reason file first k n
  unfolding reason
  malformed e = rw (test_is, e)

  pub surplus : t ≡ false → max_commands ≤ n → 3 ≡ reason file first k n
  unfolding reason
  surplus e h = rw (test_is, e, le-leb max_commands n h)

  pub no_reason : t ≡ false → n < max_commands → 0 ≡ reason file first k n
  unfolding reason
  no_reason e h = rw (test_is, e, lt-leb max_commands n h)

-- a reason that is told is one
pub some_number : (why : Reason) → reason_number why ≡ 0 → ⊥
some_number Malformed e = cc
some_number Partial e = cc
some_number Surplus e = cc

-- what is told of a record, from the test that there is no reason
pub told_none : (r : Option Reason) → is_some r ≡ false → reason_in r ≡ 0
told_none None e = refl
told_none (Some why) e = cc

pub told_some : (r : Option Reason) → is_some r ≡ true → reason_in r ≡ 0 → ⊥
told_some None e = cc
told_some (Some why) e = some_number why

-- ---- how many are kept

module _ (file : List ℕ) (first : ℕ) where
  abbrev why : ℕ → ℕ
  why k = reason file first k (kept file first k)

  kept_next : (k : ℕ) → kept file first (k + 1) ≡ kept file first k + pick (eqb (why k) 0) 1 0
  unfolding kept
  kept_next k = ap (kept file first) (add-one k)

  bytes_next : (k : ℕ) → kept_bytes file first (k + 1)
      ≡ kept_bytes file first k ++ pick (eqb (why k) 0) (take command_width (drop (first + command_width * k) file)) []
  unfolding kept_bytes
  bytes_next k = ap (kept_bytes file first) (add-one k)

  dropped_next : (k : ℕ) → dropped file first (k + 1) ≡ dropped file first k ++ pick (eqb (why k) 0) [] (entry k (why k))
  unfolding dropped
  dropped_next k = ap (dropped file first) (add-one k)

  pub kept_none : 0 ≡ kept file first 0
  unfolding kept
  kept_none = refl

  at_most_one : (t : Bool) → pick {A = ℕ} t 1 0 ≤ 1
  at_most_one true = omega arith
  at_most_one false = omega arith

  grows : (k d : ℕ) → (kept file first k ≤ kept file first (k + d)) × (kept file first (k + d) ≤ kept file first k + d)
  grows k zero = rw (add-zero k) (omega arith, omega arith)
  grows k (suc d) =
      let e : k + suc d ≡ (k + d) + 1 = omega arith in
      let g = grows k d in
      let a = at_most_one (eqb (why (k + d)) 0) in
      rw (e, kept_next (k + d)) (omega arith, omega arith)

  pub kept_between : (k n : ℕ) → k ≤ n → (kept file first k ≤ kept file first n) × (kept file first n ≤ kept file first k + (n - k))
  kept_between k n h =
      let e : k + (n - k) ≡ n = omega arith in
      let g = grows k (n - k) in
      rw e at g

  pub kept_most : (k : ℕ) → kept file first k ≤ k
  kept_most k = let b = kept_between 0 k (omega arith) in omega (arith, kept_none)

-- ---- one more record

module _ (file : List ℕ) (first k : ℕ) where
  module _ (e : why file first k ≡ 0) where
    keeps : kept file first (k + 1) ≡ kept file first k + 1
    keeps = kept_next file first k ∙ rw e

    keeps_bytes : kept_bytes file first (k + 1) ≡ kept_bytes file first k ++ take command_width (drop (first + command_width * k) file)
    keeps_bytes = bytes_next file first k ∙ rw e

    keeps_list : dropped file first (k + 1) ≡ dropped file first k
    keeps_list = dropped_next file first k ∙ rw e (append-nil (dropped file first k))

  module _ (f : why file first k ≡ 0 → ⊥) where
    drops : kept file first (k + 1) ≡ kept file first k
    drops = kept_next file first k ∙ rw (ne_eqb (why file first k) 0 f) (add-zero (kept file first k))

    drops_bytes : kept_bytes file first (k + 1) ≡ kept_bytes file first k
    drops_bytes = bytes_next file first k ∙ rw (ne_eqb (why file first k) 0 f) (append-nil (kept_bytes file first k))

    drops_list : dropped file first (k + 1) ≡ dropped file first k ++ entry k (why file first k)
    drops_list = dropped_next file first k ∙ rw (ne_eqb (why file first k) 0 f)

-- ---- lengths

module _ (file : List ℕ) (first : ℕ) where
  pub length_kept : (k : ℕ) → first + command_width * k ≤ length file → length (kept_bytes file first k) ≡ command_width * kept file first k
  unfolding kept_bytes kept
  length_kept zero h = refl
  length_kept (suc k) h = by_reason (eqb (why file first k) 0) (length_kept k (omega arith))
    where
      by_reason : (t : Bool) → length (kept_bytes file first k) ≡ command_width * kept file first k
          → length (kept_bytes file first k ++ pick t (take command_width (drop (first + command_width * k) file)) []) ≡ command_width * (kept file first k + pick t 1 0)
      by_reason true i =
          length-append (kept_bytes file first k) (take command_width (drop (first + command_width * k) file))
          ∙ omega (arith, i, length_part file (first + command_width * k) command_width (omega arith))
      by_reason false i = rw (append-nil (kept_bytes file first k)) (omega (arith, i))

  pub length_dropped : (k : ℕ) → length (dropped file first k) ≡ entry_width * (k - kept file first k)
  unfolding dropped kept
  length_dropped zero = refl
  length_dropped (suc k) = by_reason (eqb (why file first k) 0) (length_dropped k) (kept_most file first k)
    where
      by_reason : (t : Bool) → length (dropped file first k) ≡ entry_width * (k - kept file first k) → kept file first k ≤ k
          → length (dropped file first k ++ pick t [] (entry k (why file first k))) ≡ entry_width * (suc k - (kept file first k + pick t 1 0))
      by_reason true i h = rw (append-nil (dropped file first k)) (omega (arith, i))
      by_reason false i h =
          length-append (dropped file first k) (entry k (why file first k)) ∙ omega (arith, i, length_entry k (why file first k))

-- ---- a turn of the code: n are kept so far, and w is the reason that it finds

pub none_kept : {before : List ℕ} {at : ℕ} (file : List ℕ) (first : ℕ) → at ≤ length before → Written 0 before at (kept_bytes file first 0) before at
unfolding kept_bytes
none_kept {before} {at} file first h = no_byte before at h

pub none_dropped : {before : List ℕ} {at : ℕ} (file : List ℕ) (first : ℕ) → at ≤ length before → Written 0 before at (dropped file first 0) before at
unfolding dropped
none_dropped {before} {at} file first h = no_byte before at h

module _ (file : List ℕ) (first k n w : ℕ) (en : n ≡ kept file first k) (ew : w ≡ reason file first k n) where
  found : w ≡ why file first k
  found = ew ∙ ap (reason file first k) en

  module _ (e : w ≡ 0) where
    pub count_keeps : n + 1 ≡ kept file first (k + 1)
    count_keeps = omega (arith, en, keeps file first k (sym found ∙ e))

    pub list_keeps : {before after : List ℕ} {at next : ℕ} → Written (entry_width * k) before at (dropped file first k) after next
        → Written (entry_width * (k + 1)) before at (dropped file first (k + 1)) after next
    list_keeps v = rw (keeps_list file first k (sym found ∙ e)) (looser v (entry_width * (k + 1)) (omega arith))

    pub file_keeps : {before middle after : List ℕ} {at j next : ℕ} → Written (command_width * k) before at (kept_bytes file first k) middle j
        → Written command_width middle j (take command_width (drop (first + command_width * k) file)) after next
        → Written (command_width * (k + 1)) before at (kept_bytes file first (k + 1)) after next
    file_keeps v u = rw (keeps_bytes file first k (sym found ∙ e)) (looser (then v u) (command_width * (k + 1)) (omega arith))

    -- room for one more record
    pub file_room : {before after : List ℕ} {at next : ℕ} (m : ℕ) → k < m → first + command_width * m ≤ length file
        → at + command_width * kept file first m ≤ length before → Written (command_width * k) before at (kept_bytes file first k) after next
        → next + command_width ≤ length after
    file_room m h i room v =
        omega (
          arith,
          v.ends,
          v.kept,
          length_kept file first k (omega arith),
          keeps file first k (sym found ∙ e),
          kept_between file first (k + 1) m (omega arith),
        )

  module _ (f : w ≡ 0 → ⊥) where
    not_found : why file first k ≡ 0 → ⊥
    not_found e = f (found ∙ e)

    pub count_drops : n ≡ kept file first (k + 1)
    count_drops = en ∙ sym (drops file first k not_found)

    pub file_drops : {before after : List ℕ} {at next : ℕ} → Written (command_width * k) before at (kept_bytes file first k) after next
        → Written (command_width * (k + 1)) before at (kept_bytes file first (k + 1)) after next
    file_drops v = rw (drops_bytes file first k not_found) (looser v (command_width * (k + 1)) (omega arith))

    pub list_drops : {before middle after : List ℕ} {at j next : ℕ} → Written (entry_width * k) before at (dropped file first k) middle j
        → Written entry_width middle j (entry k w) after next → Written (entry_width * (k + 1)) before at (dropped file first (k + 1)) after next
    list_drops v u = rw (drops_list file first k not_found, ← found) (looser (then v u) (entry_width * (k + 1)) (omega arith))

    -- room for one more entry
    pub list_room : {before after : List ℕ} {at next : ℕ} (m : ℕ) → k < m
        → at + entry_width * (m - kept file first m) ≤ length before → Written (entry_width * k) before at (dropped file first k) after next
        → next + entry_width ≤ length after
    list_room m h room v =
        omega (
          arith,
          v.ends,
          v.kept,
          length_dropped file first k,
          kept_most file first k,
          drops file first k not_found,
          kept_between file first (k + 1) m (omega arith),
        )
