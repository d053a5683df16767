-- A DAY'S OUTPUT PART BY PART: what a part prints and what is then left to print is what was left before it, so THE PARTS ONE AFTER THE
-- OTHER ARE THE RULES' WHOLE OUTPUT, and no part is refused. Assumes nothing.
use mathlib.Core.Bool.{Bool, true, false, not, ◌&&◌, true≢false}
use mathlib.Core.List.{List, [], ◌∷◌, ◌++◌, append-nil}
use mathlib.Core.Path.{◌≡◌, refl, sym, ap, ◌∙◌}
use Prim.Native.Nat.{ℕ, zero, suc, ◌+◌, ◌<◌, ◌≤◌, ◌-◌}
use native.Mathlib.Nat.{le_refl}
use native.Mathlib.Omega.{arith}
use borrow.Author.Tests.{eqb-true, ltb-false, le-ltb, lt-ltb, not-true, not-false, eqb-false, ltb-true}
use lib.Dec.{eqb, ltb}
use lib.ListN.{length, take, drop}
use lib.Seq.{length-slice, slice_empty, take-append_seam, take-length}
use Rattle.areas.specs.Lists.{over}
use Rattle.areas.proofs.Lists.{over_nil}
use Rattle.endian.specs.Written.{Written}
use Rattle.rules.specs.Answers.{first_of}
use Rattle.rules.specs.Condition3.{MoneyKept, run}
use Rattle.rules.specs.DayFile.{sound, commands_in, commands_of}
use Rattle.rules.specs.Lines.{broken_line, output, run_lines}
use Rattle.rules.specs.Memory.{Declared, Memory, exchange_of, well_formed_memory, memory}
use Rattle.rules.specs.declared.State.{State}
use Rattle.dayfile.specs.Opened.{opened_from}
use Rattle.dayfile.specs.Opening.{opening_memory}
use Rattle.dayfile.proofs.Start.{opening_exchange}
use Rattle.invariants.proofs.Condition3.{money_left}
use Rattle.invariants.proofs.MemoryKeeps.{run_keeps}
use Rattle.runner.specs.Output.{Asked, Call, FileReady, LinesIs, PartIs, lines_refusals, output_from, played_in, together, untouched}
use Rattle.runner.specs.Parts.{part, Playable, PlayedIs}
use Rattle.runner.specs.Turns.{command_most}
use Rattle.runner.specs.declared.output.Printed.{Printed}
use Rattle.runner.specs.declared.play.Played.{Played}
use Rattle.runner.proofs.Opened.{opens_formed}
use Rattle.runner.proofs.Playing.{length_commands, lines_append, part_part}
use Rattle.laws.specs.Choice.{pick, both_true}

-- what stands in front of a buffer that was written from its start
front : {most end : ℕ} {before bytes after : List ℕ} → Written most before 0 bytes after end → take end after ≡ bytes
unfolding over
front {before = before} {bytes = bytes} w =
    let e : ◌≡◌ {A = ℕ} (0 + length bytes) (length bytes) = omega arith in
    rw (w.content, w.ends, e) (take-append_seam bytes (drop (length bytes) before))

-- nothing stands past a list's end
past_end : {A : Type 0} (n : ℕ) (l : List A) → length l ≤ n → drop n l ≡ []
past_end zero [] h = refl
past_end (suc n) [] h = refl
past_end zero (x ∷ xs) h = absurd (omega arith)
past_end (suc n) (x ∷ xs) h = past_end n xs (omega arith)

-- ---- what is left to print

module _ (file : List ℕ) (m : Memory) where
  pub left_sound : sound file ≡ true → (k : ℕ) → output_from file k m ≡ run_lines (k + 1) (exchange_of m) (drop k (commands_of file))
  unfolding output_from
  left_sound h k = rw h

  pub none_left : sound file ≡ true → (k : ℕ) → commands_in file ≤ k → output_from file k m ≡ []
  unfolding run_lines
  none_left h k l = left_sound h k ∙ ap (run_lines (k + 1) (exchange_of m)) (past_end k (commands_of file) (rw (length_commands file) l))

  pub left_broken : sound file ≡ false → output_from file 0 m ≡ broken_line
  unfolding output_from
  left_broken h = rw h

  pub none_left_broken : sound file ≡ false → (k : ℕ) → (k ≡ 0 → ⊥) → output_from file k m ≡ []
  unfolding output_from
  none_left_broken h k some = rw (h, not_zero (eqb k 0) refl)
    where
      not_zero : (b : Bool) → eqb k 0 ≡ b → eqb k 0 ≡ false
      not_zero true e = absurd (some (eqb-true k 0 e))
      not_zero false e = e

-- the commands from k on are those up to n and those from n on
from_there : (file : List ℕ) (k n : ℕ) → k ≤ n → n ≤ commands_in file → drop k (commands_of file) ≡ part file k n ++ drop n (commands_of file)
from_there file k n h l =
    let whole : take (commands_in file) (commands_of file) ≡ commands_of file = rw (← length_commands file) (take-length (commands_of file)) in
    rw whole at (part_part file k n (commands_in file) h l (le_refl _))

-- ---- one part

module _ (file : List ℕ) (k : ℕ) {state : State} {buys sells trades out : List ℕ} (can : Playable file 0 state buys sells trades out) where
  abbrev m : Memory
  m = memory state buys sells trades

  played_sound : (n : ℕ) → played_in file k n ≡ part file k n
  played_sound n = rw can.whole

  money_stays : (n : ℕ) {m' : Memory} → m' ≡ run m (part file k n) → MoneyKept m (played_in file k n) m'
  money_stays n {m'} e = rw (played_sound n) (money_left m can.formed.declared (part file k n) m' e)

  -- nothing is left to play
  pub nothing_more : {n : ℕ} → n ≡ commands_in file → n ≤ k → PartIs file k m out (untouched 0 k state) m out
  unfolding run
  nothing_more {n} e l =
      let stays : m ≡ run m (part file k k) = rw (slice_empty k (commands_of file)) in
      record {
        accepted = refl;
        lines = refl;
        within = omega arith;
        buffer = sym (over_nil out 0);
        memory = rw (played_sound k) stays;
        money = money_stays k stays;
        more = rw (can.whole, le-ltb k (commands_in file) (omega arith));
        onward = λ q. absurd (true≢false (sym q));
        last = λ q. none_left file m can.whole k (omega arith);
      }

  module _ {n : ℕ} (e : n ≡ commands_in file) (l : k < n) where
    pub can_go_on : Playable file k state buys sells trades out
    can_go_on = record { whole = can.whole; within = omega arith; formed = can.formed; room = can.room }

    module _ {p : Played} {buys' sells' trades' out' : List ℕ} (is : PlayedIs file k m out p (memory p.state buys' sells' trades') out') where
      abbrev m' : Memory
      m' = memory p.state buys' sells' trades'

      -- the lines of the commands played, and those of the commands left
      lines_in_two : output_from file k m ≡ run_lines (k + 1) (exchange_of m) (part file k p.next) ++ output_from file p.next m'
      lines_in_two =
          let count : k + 1 + length (part file k p.next) ≡ p.next + 1 = rw (length-slice k p.next (commands_of file) (rw (length_commands file) is.within)) (omega (arith, is.onward)) in
          rw (left_sound file m can.whole k, left_sound file m' can.whole p.next, from_there file k p.next is.onward is.within, is.memory, ← count)
          (lines_append m can.formed.formed (k + 1) (part file k p.next) (drop p.next (commands_of file)))

      pub part_printed : PartIs file k m out (record { code = 0; length = p.end; next = p.next; more = ltb p.next n; state = p.state }) m' out'
      part_printed =
          record {
            accepted = refl;
            lines = rw (front is.lines) lines_in_two;
            within = is.lines.inside;
            buffer = rw (front is.lines) is.lines.content;
            memory = rw (played_sound p.next) is.memory;
            money = money_stays p.next is.memory;
            more = rw (can.whole, e);
            onward = λ q. is.further (omega arith);
            last = λ q. none_left file m' can.whole p.next (rw (← e) (ltb-false p.next n q));
          }

-- ---- a broken file

module _ (file : List ℕ) (h : sound file ≡ false) {state : State} (d : Declared state) (buys sells trades out : List ℕ) where
  abbrev kept : Memory
  kept = memory state buys sells trades

  none_played : (k n : ℕ) → kept ≡ run kept (played_in file k n)
  unfolding run
  none_played k n = rw h

  pub line_printed : {out' : List ℕ} {most end : ℕ} → Written most out 0 broken_line out' end
      → PartIs file 0 kept out (record { code = 0; length = end; next = 1; more = false; state = state }) kept out'
  line_printed w =
      record {
        accepted = refl;
        lines = rw (left_broken file kept h, none_left_broken file kept h 1 (λ e. omega arith), front w) (sym (append-nil broken_line));
        within = w.inside;
        buffer = rw (front w) w.content;
        memory = none_played 0 1;
        money = money_left kept d (played_in file 0 1) kept (none_played 0 1);
        more = rw h;
        onward = λ q. absurd (true≢false (sym q));
        last = λ q. none_left_broken file kept h 1 (λ e. omega arith);
      }

  pub line_stood : {k : ℕ} → (k ≡ 0 → ⊥) → PartIs file k kept out (untouched 0 k state) kept out
  line_stood {k} some =
      record {
        accepted = refl;
        lines = refl;
        within = omega arith;
        buffer = sym (over_nil out 0);
        memory = none_played k k;
        money = money_left kept d (played_in file k k) kept (none_played k k);
        more = rw h;
        onward = λ q. absurd (true≢false (sym q));
        last = λ q. none_left_broken file kept h k some;
      }

pub not_not : (b : Bool) → b ≡ not (not b)
not_not true = refl
not_not false = refl

-- ---- a call

module _ (file : List ℕ) (k : ℕ) (state : State) (buys sells trades out : List ℕ) where
  abbrev lent : Memory
  lent = memory state buys sells trades

  not_printed : (code : ℕ) → code ≡ first_of (lines_refusals file lent out) → (code ≡ 0 → ⊥) → LinesIs file k lent out (untouched code k state) lent out
  not_printed code e some = record { code = e; printed = λ q. absurd (some q); refused = λ q. (refl, refl, refl) }

  pub not_formed : not (sound file && not (well_formed_memory lent)) ≡ false → LinesIs file k lent out (untouched 21 k state) lent out
  unfolding first_of
  not_formed h = not_printed 21 (rw (not-false (sound file && not (well_formed_memory lent)) h)) (λ q. omega arith)

  module _ (formed : not (sound file && not (well_formed_memory lent)) ≡ true) where
    playable : (sound file && not (well_formed_memory lent)) ≡ false
    playable = not-true (sound file && not (well_formed_memory lent)) formed

    pub too_short : length out < command_most → LinesIs file k lent out (untouched 29 k state) lent out
    unfolding first_of
    too_short l = not_printed 29 (rw (playable, lt-ltb (length out) command_most l)) (λ q. omega arith)

    pub formed_state : sound file ≡ true → well_formed_memory lent ≡ true
    formed_state h = not-false (well_formed_memory lent) (rw h at playable)

    pub printed_part : command_most ≤ length out → {r : Printed} {m' : Memory} {out' : List ℕ} → PartIs file k lent out r m' out' → LinesIs file k lent out r m' out'
    unfolding first_of
    printed_part l p = record { code = p.accepted ∙ rw (playable, le-ltb (length out) command_most l); printed = λ q. p; refused = λ some. absurd (some p.accepted) }

-- what a caller may do with it: the part is within its buffer, and behind one that has more the next begins further on, at a command
module _ {file : List ℕ} {k : ℕ} {m m' : Memory} {out out' : List ℕ} {r : Printed} (is : LinesIs file k m out r m' out') where
  by_code : {P : Type 0} → (PartIs file k m out r m' out' → P) → (r ≡ untouched r.code k m.state → P) → (b : Bool) → eqb r.code 0 ≡ b → P
  by_code p q true e = p (is.printed (eqb-true r.code 0 e))
  by_code p q false e = q (is.refused (eqb-false r.code 0 e)).0

  pub inside_buffer : r.length ≤ length out
  inside_buffer = by_code (λ p. p.within) (λ e. rw (ap (λ (v : Printed). v.length) e) (omega arith)) (eqb r.code 0) refl

  pub goes_further : r.more ≡ true → (k < r.next) × (r.next < commands_in file)
  goes_further more =
      by_code
      (λ p. (p.onward more, ltb-true r.next (commands_in file) (both_true (sound file) (ltb r.next (commands_in file)) (sym p.more ∙ more)).1))
      (λ e. absurd (true≢false (sym more ∙ ap (λ (v : Printed). v.more) e)))
      (eqb r.code 0) refl

-- whoever asks again only then has fewer commands left
pub fewer_left : {more again now : Bool} (written : Bool) {n k next : ℕ} → (more ≡ true → (k < next) × (next < n)) → again ≡ (more && written) → now ≡ true
    → pick again (1 + (n - next)) 0 < pick now (1 + (n - k)) 0
fewer_left {more} {again} {now} written {n} {k} {next} further e here = rw here (by_again again refl)
  where
    by_again : (b : Bool) → again ≡ b → pick again (1 + (n - next)) 0 < 1 + (n - k)
    by_again true q = let f = further (both_true more written (sym e ∙ q)).0 in rw q (omega (arith, f.0, f.1))
    by_again false q = rw q (omega arith)

-- ---- all parts

-- WHAT A CALLER GETS WHO ASKS UNTIL THERE IS NO MORE is all that was left to print
pub all_parts : (file : List ℕ) (k : ℕ) (m : Memory) (cs : List Call) → Asked file k m cs → together cs ≡ output_from file k m
unfolding Asked together
all_parts file k m [] a = absurd a
all_parts file k m (c ∷ []) a =
    let part : List ℕ = take c.given.length c.written in
    sym (a.0.lines ∙ ap (λ (l : List ℕ). part ++ l) (a.0.last a.1))
all_parts file k m (c ∷ d ∷ cs) a =
    let part : List ℕ = take c.given.length c.written in
    ap (λ (l : List ℕ). part ++ l) (all_parts file c.given.next c.after (d ∷ cs) a.2) ∙ sym a.0.lines

-- at place 0 of an opened file that is its whole output, whatever the areas hold
pub from_start : (file buys sells trades : List ℕ) → output_from file 0 (memory (opened_from file).state buys sells trades) ≡ output file
unfolding opened_from output
from_start file buys sells trades = by_sound (sound file) refl
  where
    by_sound : (b : Bool) → sound file ≡ b → output_from file 0 (memory (opened_from file).state buys sells trades) ≡ output file
    by_sound true h =
        left_sound file (memory (opened_from file).state buys sells trades) h 0
        ∙ rw (h, opening_exchange file buys sells trades h)
    by_sound false h = left_broken file (memory (opened_from file).state buys sells trades) h ∙ rw h

pub parts_are_the_output : (file buys sells trades : List ℕ) (cs : List Call) → Asked file 0 (memory (opened_from file).state buys sells trades) cs → together cs ≡ output file
parts_are_the_output file buys sells trades cs a =
    all_parts file 0 (memory (opened_from file).state buys sells trades) cs a ∙ from_start file buys sells trades

-- no call is refused whose buffer has room: a sound file opens on a well-formed state where the areas have room, and each part leaves one
pub opens_playable : {file buys sells trades : List ℕ} → FileReady file buys sells trades → well_formed_memory (opening_memory file buys sells trades) ≡ true
opens_playable {file} ready = (opens_formed file ready).formed

and_false : (b : Bool) → (b && false) ≡ false
and_false true = refl
and_false false = refl

pub never_refused : {file : List ℕ} {k : ℕ} {m m' : Memory} {out out' : List ℕ} {r : Printed} → well_formed_memory m ≡ true → command_most ≤ length out → LinesIs file k m out r m' out'
    → PartIs file k m out r m' out' × (well_formed_memory m' ≡ true)
unfolding first_of
never_refused {file} {k} {m} {m'} {out} {out'} {r} w l is =
    let none : r.code ≡ 0 = is.code ∙ rw (w, and_false (sound file), le-ltb (length out) command_most l) in
    let part : PartIs file k m out r m' out' = is.printed none in
    (part, rw part.memory (run_keeps m (played_in file k r.next) w))
