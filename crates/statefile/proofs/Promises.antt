-- TICKET 10'S PROMISES ON THE FILE: reading back what was written, writing what was read, and what an accepted file leaves. Two days
-- in one run stand in Continued.antt. Assumes nothing.
use mathlib.Core.Bool.{Bool, true, false, not}
use mathlib.Core.List.{List, [], ◌∷◌}
use mathlib.Core.Path.{◌≡◌, refl, sym, ap, ◌∙◌}
use Prim.Native.Nat.{ℕ, ◌+◌, ◌*◌, ◌≤◌}
use native.Mathlib.Omega.{arith}
use lib.ListN.{length}
use Rattle.rules.specs.Answers.{◌when◌}
use Rattle.rules.specs.Condition3.{Loaded}
use Rattle.rules.specs.DayFile.{count_width}
use Rattle.rules.specs.Exchange.{Exchange}
use Rattle.rules.specs.Memory.{Declared, Memory, exchange_of, has_room, well_formed_memory}
use Rattle.theory.proofs.Refusals.{failed}
use Rattle.statefile.specs.StateFile.{all_equal, loaded_from, loaded_into, read_code, saved_bytes, saved_sound, writable, write_code, saved_account_width, saved_contract_width, settlements_width}
use Rattle.statefile.proofs.Again.{loaded_savable, loaded_writable, sound_parts, write_again}
use Rattle.statefile.proofs.Continued.{loadable, writable_loaded, writes}
use Rattle.statefile.proofs.Loaded.{Loadable, loaded_declared, loaded_formed, loaded_in_use}
use Rattle.endian.proofs.Numbers.{Bytes}
use Rattle.statefile.proofs.Reading.{length_saved, read_back, sound_back}
use Rattle.statefile.proofs.Savable.{Savable}
use Rattle.sections.specs.Sections.{holding_width}

-- a state that can be saved: its file is sound, so long, and gives the state again
module _ (x : Exchange) (s : Savable x) where
  pub saved_length : length (saved_bytes x)
      ≡ 4 * count_width + settlements_width + saved_contract_width * length x.listings + saved_account_width * length x.accounts + holding_width * length x.listings * length x.accounts
  saved_length = omega (arith, length_saved x s)

  -- "Reading back what was written gives the same state in every place in use"
  pub same_state : (saved_sound (saved_bytes x) ≡ true) × (loaded_from (saved_bytes x) ≡ x)
  same_state = (sound_back x s, read_back x s)

-- ---- a file that is read into a memory without a refusal

not-false : (t : Bool) → not t ≡ false → t ≡ true
not-false true e = refl
not-false false e = sym e

record Read (m : Memory) (bs : List ℕ) : Type 0 where
  sound : saved_sound bs ≡ true
  equal : all_equal (loaded_from bs) ≡ true
  room : has_room (loaded_into m bs) ≡ true

read : (m : Memory) (bs : List ℕ) → read_code m bs ≡ 0 → Read m bs
unfolding read_code
read m bs e =
    let p = failed ((20 when not (saved_sound bs)) ∷ (30 when not (all_equal (loaded_from bs))) ∷ (29 when not (has_room (loaded_into m bs))) ∷ [])
    (omega arith, (omega arith, (omega arith, tt))) e in
    record { sound = not-false _ p.0; equal = not-false _ p.1.0; room = not-false _ p.1.1.0 }

module _ (m : Memory) (d : Declared m.state) (bs : List ℕ) (e : read_code m bs ≡ 0) where
  its : Loadable (loaded_from bs)
  its = loadable (loaded_from bs) (loaded_savable bs (read m bs e).sound (read m bs e).equal)

  -- what is in use is the file's, and it is well formed
  pub read_in_use : exchange_of (loaded_into m bs) ≡ loaded_from bs
  read_in_use = loaded_in_use m d (loaded_from bs) its

  pub read_formed : well_formed_memory (loaded_into m bs) ≡ true
  read_formed = loaded_formed m d (loaded_from bs) its (read m bs e).room (sound_parts bs (read m bs e).sound).formed

  read_writable : writable (exchange_of (loaded_into m bs)) ≡ true
  read_writable = ap writable read_in_use ∙ loaded_writable bs (read m bs e).equal

  -- so the claims of condition 3 "for a loaded run" hold of it
  pub read_loaded : Loaded (loaded_into m bs)
  read_loaded = writable_loaded (loaded_into m bs) read_writable

  pub read_declared : Declared (loaded_into m bs).state
  read_declared = loaded_declared m d (loaded_from bs) its

  -- "writing what was read gives the same bytes", and it can be written
  module _ (b : Bytes bs) where
    pub same_bytes : saved_bytes (exchange_of (loaded_into m bs)) ≡ bs
    same_bytes =
        let s = sound_parts bs (read m bs e).sound in
        ap saved_bytes read_in_use ∙ write_again bs b s.shape_is

    pub writes_again : (room : ℕ) → length bs ≤ room → write_code (loaded_into m bs) room ≡ 0
    writes_again room h =
        writes (loaded_into m bs) read_declared read_formed read_writable room (rw same_bytes h)
