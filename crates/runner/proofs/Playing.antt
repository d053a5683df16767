-- Parts of a day: the run and the lines of one part after another are those of both together. Assumes nothing.
use mathlib.Core.Bool.{Bool, true, false}
use mathlib.Core.List.{List, [], ◌∷◌, ◌++◌, append_assoc, append-nil}
use mathlib.Core.Path.{◌≡◌, refl, sym, ap, ◌∙◌, subst⁻¹}
use Prim.Native.Nat.{ℕ, suc, ◌+◌, ◌-◌, ◌<◌, ◌≤◌}
use native.Mathlib.Nat.{add-zero}
use native.Mathlib.Numerals.{add-one}
use native.Mathlib.Omega.{arith}
use lib.Dec.{eqb}
use borrow.Author.Tests.{eqb-true, eqb-false}
use lib.ListN.{length, take, drop, get_or, take-append-drop}
use lib.Seq.{drop-append-le, length-slice, length-take-le, slice_empty, take-suc, take-take}
use Rattle.laws.specs.Tabulate.{length_tabulate}
use Rattle.rules.specs.Condition3.{run}
use Rattle.rules.specs.DayFile.{command_place, command_from, commands_in, commands_of}
use Rattle.rules.specs.Exchange.{Exchange}
use Rattle.rules.specs.Lines.{run_lines, step_lines}
use Rattle.rules.specs.Memory.{Declared, Memory, exchange_of, respond, well_formed_memory, memory, WellFormedState}
use Rattle.rules.specs.Kinds.{step}
use Rattle.rules.specs.declared.Command.{Command}
use Rattle.rules.specs.declared.State.{State}
use Rattle.accounting.proofs.Runs.{run_append}
use Rattle.invariants.proofs.MemoryKeeps.{memory_keeps, read_back, run_keeps}
use Rattle.exchange.proofs.Runs.{run_declared}
use Rattle.dayfile.proofs.Places.{command_of_lem}
use Rattle.endian.specs.Written.{Written}
use Rattle.endian.proofs.Writes.{looser, no_byte, then}
use Rattle.runner.specs.Parts.{part, Playable, PlayedIs}
use Rattle.runner.specs.Turns.{command_most, TurnIs}
use Rattle.runner.specs.declared.turn.Turn.{Turn}

-- ---- a run and its lines, of a list in two parts

pub lines_append : (m : Memory) → well_formed_memory m ≡ true → (k : ℕ) (cs ds : List Command)
    → run_lines k (exchange_of m) (cs ++ ds) ≡ run_lines k (exchange_of m) cs ++ run_lines (k + length cs) (exchange_of (run m cs)) ds
unfolding run_lines run
lines_append m w k [] ds = rw (add-zero k)
lines_append m w k (c ∷ cs) ds =
    let e : k + 1 + length cs ≡ k + suc (length cs) = omega arith in
    let x : Exchange = exchange_of m in
    let h : run_lines (k + 1) (step x c) (cs ++ ds)
    ≡ run_lines (k + 1) (step x c) cs ++ run_lines (k + suc (length cs)) (exchange_of (run (respond m c).memory cs)) ds
    = rw (e, read_back m c w) at (lines_append (respond m c).memory (memory_keeps m c w) (k + 1) cs ds) in
    rw h (sym (append_assoc (step_lines k x c) (run_lines (k + 1) (step x c) cs) (run_lines (k + suc (length cs)) (exchange_of (run (respond m c).memory cs)) ds)))

-- ---- parts of a file

module _ (file : List ℕ) where
  pub length_commands : length (commands_of file) ≡ commands_in file
  unfolding commands_of
  length_commands = length_tabulate (commands_in file) (λ k. command_from file (command_place file k))

  part_none : (k : ℕ) → part file k k ≡ []
  part_none k = slice_empty k (commands_of file)

  part_length : (k n : ℕ) → n ≤ commands_in file → length (part file k n) ≡ n - k
  part_length k n h = length-slice k n (commands_of file) (rw length_commands h)

  -- one command more
  part_more : (k i : ℕ) → k ≤ i → i < commands_in file → part file k (i + 1) ≡ part file k i ++ (command_from file (command_place file i) ∷ [])
  part_more k i h l =
      let none = command_from file 0 in
      let l' : i < length (commands_of file) = rw length_commands l in
      let n : length (take i (commands_of file)) ≡ i = length-take-le i (commands_of file) (omega arith) in
      rw (add-one i, take-suc (commands_of file) i none l', drop-append-le k (take i (commands_of file)) (get_or (commands_of file) i none ∷ []) (omega arith), command_of_lem file i none l)

  -- one part after another
  pub part_part : (k i n : ℕ) → k ≤ i → i ≤ n → n ≤ commands_in file → part file k n ≡ part file k i ++ part file i n
  part_part k i n h l b =
      let rs = commands_of file in
      let e : take i (take n rs) ++ drop i (take n rs) ≡ take n rs = take-append-drop i (take n rs) in
      let s : length (take i rs) ≡ i = length-take-le i rs (rw length_commands (omega arith)) in
      ap (drop k) (sym e)
      ∙ rw (take-take i n rs l) (drop-append-le k (take i rs) (drop i (take n rs)) (omega arith))

-- ---- the loop: commands from k up to i have been played

-- areas as long as they were
pub record SameRoom (m m' : Memory) : Type 0 where
  pub buys : length m'.buys ≡ length m.buys
  pub sells : length m'.sells ≡ length m.sells
  pub trades : length m'.trades ≡ length m.trades

-- and still so after a call that kept them
pub room_kept : {m m' m'' : Memory} → SameRoom m m' → length m''.buys ≡ length m'.buys → length m''.sells ≡ length m'.sells
    → length m''.trades ≡ length m'.trades → SameRoom m m''
room_kept r b s t = record { buys = b ∙ r.buys; sells = s ∙ r.sells; trades = t ∙ r.trades }

-- what a part has come to at command i: the memory is the run of the commands from k up to i, and the buffer has their lines
pub record PlayedTo (file : List ℕ) (k : ℕ) (m : Memory) (before : List ℕ) (i : ℕ) (m' : Memory) (after : List ℕ) (at : ℕ) : Type 0 where
  pub onward : k ≤ i
  pub within : i ≤ commands_in file
  pub room : SameRoom m m'
  pub memory : m' ≡ run m (part file k i)
  pub lines : Written (length before) before 0 (run_lines (k + 1) (exchange_of m) (part file k i)) after at

module _ (file : List ℕ) (k : ℕ) {s₀ : State} {buys₀ sells₀ trades₀ out₀ : List ℕ} (p : Playable file k s₀ buys₀ sells₀ trades₀ out₀) where
  abbrev m : Memory
  m = memory s₀ buys₀ sells₀ trades₀

  abbrev played : ℕ → Memory
  played i = run m (part file k i)

  abbrev lines : ℕ → List ℕ
  lines i = run_lines (k + 1) (exchange_of m) (part file k i)

  none_played : m ≡ played k
  unfolding run
  none_played = sym (ap (run m) (part_none file k))

  none_printed : Written (length out₀) out₀ 0 (lines k) out₀ 0
  unfolding run_lines
  none_printed = rw (part_none file k) (looser (no_byte out₀ 0 (omega arith)) (length out₀) (omega arith))

  pub part_begun : PlayedTo file k m out₀ k m out₀ 0
  part_begun = record { onward = omega arith; within = p.within; room = record { buys = refl; sells = refl; trades = refl }; memory = none_played; lines = none_printed }

  module _ {i at : ℕ} {s : State} {buys sells trades out : List ℕ} (g : PlayedTo file k m out₀ i (memory s buys sells trades) out at) where
    -- what is played leaves a well-formed state
    pub still_formed : WellFormedState s buys sells trades
    still_formed =
        record {
          declared = subst⁻¹ (λ (v : Memory). Declared v.state) g.memory (run_declared m (part file k i) p.formed.declared);
          formed = subst⁻¹ (λ (v : Memory). well_formed_memory v ≡ true) g.memory (run_keeps m (part file k i) p.formed.formed);
        }

    -- the command at i is played and printed
    module _ (l : i < commands_in file) {r : Command} (f : r ≡ command_from file (command_place file i)) {buys' sells' trades' after : List ℕ} {t : Turn}
        (is : TurnIs (memory s buys sells trades) r (i + 1) out at t (memory t.state buys' sells' trades') after) where
      one_played : memory t.state buys' sells' trades' ≡ played (i + 1)
      unfolding run respond
      one_played =
          is.memory ∙ ap (λ (v : Memory). (respond v r).memory) g.memory
          ∙ sym (rw (part_more file k i g.onward l, ← f) (run_append m (part file k i) (r ∷ [])))

      lines_more : lines (i + 1) ≡ lines i ++ step_lines (i + 1) (exchange_of (memory s buys sells trades)) r
      unfolding run_lines
      lines_more =
          let n : k + 1 + length (part file k i) ≡ i + 1 = rw (part_length file k i (omega arith)) (omega (arith, g.onward)) in
          rw (part_more file k i g.onward l, ← f, lines_append m p.formed.formed (k + 1) (part file k i) (r ∷ []), n, ← g.memory)
          (ap (λ (b : List ℕ). lines i ++ b) (append-nil (step_lines (i + 1) (exchange_of (memory s buys sells trades)) r)))

      one_printed : Written (length out₀) out₀ 0 (lines (i + 1)) after t.end
      one_printed =
          let u = then g.lines is.lines in
          let w : Written (length out₀) out₀ 0 (lines i ++ step_lines (i + 1) (exchange_of (memory s buys sells trades)) r) after t.end =
          record { content = u.content; ends = u.ends; short = omega (arith, u.ends, u.inside); kept = u.kept; inside = u.inside } in
          rw lines_more w

      pub one_more : length buys' ≡ length buys → length sells' ≡ length sells → length trades' ≡ length trades
          → PlayedTo file k m out₀ (i + 1) (memory t.state buys' sells' trades') after t.end
      one_more b o d =
          record {
            onward = omega (arith, g.onward);
            within = omega arith;
            room = room_kept g.room b o d;
            memory = one_played;
            lines = one_printed;
          }

    -- the two ways out: all commands are played, or less room is left than one command can need
    ways_out : (k < commands_in file → k < i) → PlayedIs file k m out₀ (record { state = s; next = i; end = at }) (memory s buys sells trades) out
    ways_out h = record { onward = g.onward; further = h; within = g.within; memory = g.memory; lines = g.lines }

    pub all_played : commands_in file ≤ i → PlayedIs file k m out₀ (record { state = s; next = i; end = at }) (memory s buys sells trades) out
    all_played d = ways_out (λ (o : k < commands_in file). omega arith)

    none_yet : k ≡ i → at ≡ 0
    unfolding run_lines
    none_yet q =
        let e : length (lines i) ≡ 0 =
        ap (λ (n : ℕ). length (lines n)) (sym q) ∙ ap (λ (cs : List Command). length (run_lines (k + 1) (exchange_of m) cs)) (part_none file k) in
        omega (arith, g.lines.ends)

    pub room_played : length out - at < command_most → PlayedIs file k m out₀ (record { state = s; next = i; end = at }) (memory s buys sells trades) out
    room_played d = ways_out (λ (o : k < commands_in file). by_none_played (eqb k i) refl)
      where
        by_none_played : (b : Bool) → eqb k i ≡ b → k < i
        by_none_played true q = absurd (omega (arith, d, none_yet (eqb-true k i q), g.lines.kept, p.room))
        by_none_played false q = omega (arith, g.onward, eqb-false k i q)
