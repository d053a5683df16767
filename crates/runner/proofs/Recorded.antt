-- T lines of recorded trades, one more a turn. Assumes nothing.
use mathlib.Core.Bool.{Bool, true, false}
use mathlib.Core.List.{List, [], ◌∷◌, ◌++◌}
use mathlib.Core.Path.{◌≡◌, refl, sym, ap, ◌∙◌}
use Prim.Native.Nat.{ℕ, ◌+◌, ◌*◌, ◌≤◌, max}
use native.Mathlib.Omega.{arith}
use lib.Dec.{leb}
use borrow.Author.Tests.{leb-true, leb-false}
use lib.ListN.{length, drop, length-drop, drop_of_length-le}
use lib.Seq.{drop-append-le}
use Rattle.areas.specs.Records.{decode, records}
use Rattle.areas.proofs.Records.{records_add}
use Rattle.rules.specs.Lines.{trade_line, trade_lines}
use Rattle.rules.specs.Memory.{recorded_trades, trade_from, trade_stride}
use Rattle.rules.specs.declared.Trade.{Trade}
use Rattle.theory.proofs.Codecs.{trade_codec, length_trades}
use Rattle.endian.specs.Written.{Written}
use Rattle.endian.proofs.Writes.{no_byte, looser, then}
use Rattle.lines.specs.Tables.{trade_line_most}
use Rattle.lines.proofs.Turns.{trade_turn}

module _ (area : List ℕ) where
  recorded_more : (i : ℕ) → recorded_trades area (i + 1) ≡ recorded_trades area i ++ (trade_from (drop (trade_stride * i) area) ∷ [])
  unfolding recorded_trades records decode
  recorded_more i = let e : 0 + trade_stride * i ≡ trade_stride * i = omega arith in rw e at (records_add trade_codec area 0 i 1)

  module _ (first : ℕ) where
    none_past : (count : ℕ) → count ≤ first → drop first (recorded_trades area count) ≡ []
    none_past count h = drop_of_length-le (recorded_trades area count) {i = first} (rw (length_trades area count) h)

    -- the trades from `first` on, once i of them are passed
    recorded_turn : (i : ℕ) → first ≤ i → trade_lines (first + 1) (drop first (recorded_trades area (i + 1)))
        ≡ trade_lines (first + 1) (drop first (recorded_trades area i)) ++ trade_line (i + 1) (trade_from (drop (trade_stride * i) area))
    recorded_turn i h =
        let ts = recorded_trades area i in
        let l : length ts ≡ i = length_trades area i in
        let n : first + 1 + length (drop first ts) ≡ i + 1 = rw (length-drop first ts) (omega arith) in
        rw (recorded_more i, drop-append-le first ts (trade_from (drop (trade_stride * i) area) ∷ []) (omega arith), trade_turn (first + 1) (drop first ts) (trade_from (drop (trade_stride * i) area)), n)

    module _ {before : List ℕ} {at : ℕ} where
      pub trades_none : at ≤ length before → Written 0 before at (trade_lines (first + 1) (drop first (recorded_trades area first))) before at
      unfolding trade_lines
      trades_none room = rw (none_past first (omega arith)) (no_byte before at room)

      pub trades_more : (i most more : ℕ) (t : Trade) {middle after : List ℕ} {next end : ℕ} → first ≤ i → most + trade_line_most ≤ more → t ≡ trade_from (drop (trade_stride * i) area)
          → Written most before at (trade_lines (first + 1) (drop first (recorded_trades area i))) middle next → Written trade_line_most middle next (trade_line (i + 1) t) after end
          → Written more before at (trade_lines (first + 1) (drop first (recorded_trades area (i + 1)))) after end
      trades_more i most more t h m e w v = rw (recorded_turn i h, ← e) (looser (then w v) more m)

    -- past the last of them
    pub trades_done : (i count : ℕ) → first ≤ i → count ≤ i → i ≤ max first count → drop first (recorded_trades area i) ≡ drop first (recorded_trades area count)
    trades_done i count h k m = by_recorded (leb first count) refl
      where
        by_recorded : (b : Bool) → leb first count ≡ b → drop first (recorded_trades area i) ≡ drop first (recorded_trades area count)
        by_recorded true q = ap (λ (n : ℕ). drop first (recorded_trades area n)) (omega (arith, leb-true first count q))
        by_recorded false q = none_past i (omega (arith, leb-false first count q)) ∙ sym (none_past count (omega (arith, leb-false first count q)))
