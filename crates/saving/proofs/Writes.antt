-- The whole answer of `write_state`, by the test that decides it. Assumes nothing.
use mathlib.Core.Bool.{true, false}
use mathlib.Core.List.{List}
use mathlib.Core.Path.{◌≡◌, refl, sym, ap, ◌∙◌}
use Prim.Native.Nat.{ℕ, ◌+◌, ◌≤◌, ◌<◌}
use native.Mathlib.Omega.{arith}
use lib.Dec.{eqb}
use lib.ListN.{length}
use borrow.Author.Tests.{lt-ltb}
use Rattle.areas.specs.Lists.{over}
use Rattle.rules.specs.Answers.{first_of}
use Rattle.rules.specs.Memory.{Declared, Memory, exchange_of, well_formed_memory}
use Rattle.theory.proofs.InUse.{contracts_in_use}
use Rattle.invariants.proofs.MemoryRoom.{CountsOk, memory_ok}
use Rattle.statefile.specs.StateFile.{WrittenIs, saved_bytes, settlements_place, writable, write_code, settlements_width}
use Rattle.statefile.proofs.Continued.{savable, writes}
use Rattle.statefile.proofs.Reading.{length_saved}
use Rattle.saving.specs.Parts.{Fitting, state_bytes, state_writable}
use Rattle.saving.proofs.Lying.{account_count, bytes_are, low_marks, short_terms, writable_is}

not_written : (m : Memory) (out : List ℕ) (code : ℕ) → code ≡ write_code m (length out) → eqb code 0 ≡ false → WrittenIs m out code 0 out
not_written m out code e h = record { code_is = e; length_is = rw (← e, h); out_is = rw (← e, h) }

pub by_21 : (m : Memory) (out : List ℕ) → well_formed_memory m ≡ false → WrittenIs m out 21 0 out
unfolding write_code first_of
by_21 m out w = not_written m out 21 (rw w) refl

module _ (m : Memory) (d : Declared m.state) (w : well_formed_memory m ≡ true) where
  pub few : CountsOk m.state
  few = (memory_ok m w).counts

  module _ (out : List ℕ) where
    pub by_28 : state_writable m.state ≡ false → WrittenIs m out 28 0 out
    unfolding write_code first_of
    by_28 h = not_written m out 28 (rw (w, writable_is m d w, h)) refl

    module _ (h : state_writable m.state ≡ true) (n : ℕ) (e : n ≡ settlements_place m.state.contractcount m.state.accountcount + settlements_width) where
      ready : writable (exchange_of m) ≡ true
      ready = writable_is m d w ∙ h

      size : length (saved_bytes (exchange_of m)) ≡ n
      size =
          length_saved (exchange_of m) (savable m d w ready)
          ∙ rw (contracts_in_use m, account_count m d w) (sym e)

      pub by_29 : length out < n → WrittenIs m out 29 0 out
      unfolding write_code first_of
      by_29 l = not_written m out 29 (rw (w, ready, size, lt-ltb (length out) n l)) refl

      pub fitting : n ≤ length out → Fitting m.state out
      fitting l =
          record {
            contracts = few.contracts_high;
            accounts = few.accounts_high;
            short = short_terms m d w;
            marks = low_marks m d w;
            room = omega (arith, size, ap length (bytes_are m d w));
          }

      pub by_0 : n ≤ length out → {out' : List ℕ} → out' ≡ over out 0 (state_bytes m.state) → WrittenIs m out 0 n out'
      by_0 l f =
          let k = writes m d w ready (length out) (omega (arith, size)) in
          record {
            code_is = sym k;
            length_is = rw k (sym size);
            out_is = rw k (f ∙ ap (over out 0) (sym (bytes_are m d w)));
          }
