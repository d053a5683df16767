-- The whole answer of `read_state`, by the test that decides it. Assumes nothing.
use mathlib.Core.Bool.{true, false}
use mathlib.Core.List.{List}
use mathlib.Core.Path.{◌≡◌, refl, sym, ap, ap₂, ◌∙◌}
use Prim.Native.Nat.{ℕ}
use native.Mathlib.Omega.{arith}
use lib.Dec.{eqb}
use lib.ListN.{length, take, length-replicate}
use Rattle.laws.specs.Choice.{all}
use Rattle.rules.specs.Answers.{first_of}
use Rattle.rules.specs.Exchange.{Exchange}
use Rattle.rules.specs.Memory.{Declared, Memory, counts_in_range, exchange_of, has_room, memory, used, well_formed_memory, trades_words}
use Rattle.rules.specs.WellFormed.{well_formed_contents}
use Rattle.rules.specs.declared.Account.{Account}
use Rattle.rules.specs.declared.State.{State}
use Rattle.invariants.proofs.MemoryRoom.{room_test}
use Rattle.statefile.specs.StateFile.{ReadIs, all_equal, loaded_from, loaded_into, loaded_state, mark_sound, read_code, saved_accounts_in, saved_sound, shaped, totals_equal}
use Rattle.statefile.proofs.Again.{loaded_accounts, loaded_empty, loaded_contracts, loaded_places, loaded_start, shape}
use Rattle.statefile.proofs.Fields.{nothing_in}
use Rattle.statefile.proofs.Loaded.{Loadable, loaded_counts, loaded_in_use}
use Rattle.saving.specs.Parts.{Laid, in_spare, spare}
use Rattle.saving.proofs.Lying.{totals_in_use}

not_read : (m : Memory) (bs : List ℕ) (code : ℕ) → code ≡ read_code m bs → eqb code 0 ≡ false → ReadIs m bs code m.state
not_read m bs code e h = record { code_is = e; state_is = rw (← e, h) }

-- a file whose shape and marks passed, with c contracts and a accounts, and the state that it gives over the one that was there
pub record Given (m : Memory) (bs : List ℕ) (c a : ℕ) (next : State) : Type 0 where
  pub shape_is : shaped bs ≡ true
  pub laid : Laid bs c a
  pub declared : Declared m.state
  pub marks : all (mark_sound bs) a ≡ true
  pub next_is : next ≡ loaded_state m.state (loaded_from bs)

pub given : (m : Memory) {bytes bs : List ℕ} {c a : ℕ} {next : State} → bytes ≡ bs → shaped bs ≡ true → Laid bytes c a → Declared m.state → all (mark_sound bytes) a ≡ true
    → next ≡ loaded_state m.state (loaded_from bytes) → Given m bs c a next
given m e s l d k n = record { shape_is = s; laid = rw (← e) l; declared = d; marks = rw (← e) k; next_is = rw (← e) n }

module _ (m : Memory) (bs : List ℕ) where
  unsound : saved_sound bs ≡ false → ReadIs m bs 20 m.state
  unfolding read_code first_of
  unsound h = not_read m bs 20 (rw h) refl

  pub misshapen_20 : shaped bs ≡ false → ReadIs m bs 20 m.state
  unfolding saved_sound
  misshapen_20 h = unsound (rw h)

  marks_at : {bytes : List ℕ} {c a : ℕ} → bytes ≡ bs → Laid bytes c a → all (mark_sound bs) (saved_accounts_in bs) ≡ all (mark_sound bytes) a
  marks_at e l = rw (← e) (ap (all (mark_sound _)) (sym l.accounts_are))

  pub marks_20 : {bytes : List ℕ} {c a : ℕ} → bytes ≡ bs → shaped bs ≡ true → Laid bytes c a → all (mark_sound bytes) a ≡ false → ReadIs m bs 20 m.state
  unfolding saved_sound
  marks_20 e s l h = unsound (rw (s, marks_at e l ∙ h))

module _ {m : Memory} {bs : List ℕ} {c a : ℕ} {next : State} (g : Given m bs c a next) where
  its_loadable : Loadable (loaded_from bs)
  its_loadable =
      let p = shape bs g.shape_is in
      record {
        contracts = rw (loaded_contracts bs) p.contracts;
        accounts = rw (loaded_accounts bs) p.accounts;
        places = loaded_places bs;
        empty_all = loaded_empty bs;
        no_trades = nothing_in (loaded_from bs).trades (rw (loaded_start bs).0);
      }

  counted : (next.contractcount ≡ c) × (next.accountcount ≡ a)
  unfolding loaded_state
  counted =
      (ap (λ (n : State). n.contractcount) g.next_is ∙ loaded_contracts bs ∙ sym g.laid.contracts_are, ap (λ (n : State). n.accountcount) g.next_is ∙ loaded_accounts bs ∙ sym g.laid.accounts_are)

  -- ---- in areas that have room it is well formed where what it holds is

  spare_room : has_room (in_spare next) ≡ true
  spare_room =
      let e : length spare ≡ trades_words = length-replicate {A = ℕ} trades_words 0 in
      room_test (in_spare next)
      (record {
        buys = omega (arith, g.laid.few_contracts, e, counted.0);
        sells = omega (arith, g.laid.few_contracts, e, counted.0);
        trades = omega (arith, e);
      })

  spare_in_use : exchange_of (in_spare next) ≡ loaded_from bs
  spare_in_use = ap (λ (n : State). exchange_of (in_spare n)) g.next_is ∙ loaded_in_use (in_spare m.state) g.declared (loaded_from bs) its_loadable

  pub counts_are : counts_in_range next ≡ true
  counts_are = ap counts_in_range g.next_is ∙ loaded_counts (in_spare m.state) g.declared (loaded_from bs) its_loadable

  spare_formed : well_formed_memory (in_spare next) ≡ well_formed_contents (loaded_from bs)
  unfolding well_formed_memory
  spare_formed = rw (counts_are, spare_room, spare_in_use)

  pub formed_20 : well_formed_memory (in_spare next) ≡ false → ReadIs m bs 20 m.state
  unfolding saved_sound
  formed_20 h = unsound m bs (rw (g.shape_is, marks_at m bs refl g.laid ∙ g.marks, sym spare_formed ∙ h))

  module _ (formed : well_formed_memory (in_spare next) ≡ true) where
    contents : well_formed_contents (loaded_from bs) ≡ true
    contents = sym spare_formed ∙ formed

    sound : saved_sound bs ≡ true
    unfolding saved_sound
    sound = rw (g.shape_is, marks_at m bs refl g.laid ∙ g.marks, contents)

    -- ---- the totals of the accounts as they lie

    accounts_here : used c a next.accounts ≡ (loaded_from bs).accounts
    unfolding exchange_of
    accounts_here =
        ap₂ (λ (k n : ℕ). used k n next.accounts) (sym counted.0) (sym counted.1) ∙ ap (λ (x : Exchange). x.accounts) spare_in_use

    equal_here : all (totals_equal (take a next.accounts)) c ≡ all_equal (loaded_from bs)
    unfolding all_equal
    equal_here =
        sym (totals_in_use c a next.accounts)
        ∙ ap (λ (as' : List Account). all (totals_equal as') c) accounts_here
        ∙ ap (all (totals_equal (loaded_from bs).accounts)) (g.laid.contracts_are ∙ sym (loaded_contracts bs))

    pub totals_30 : all (totals_equal (take a next.accounts)) c ≡ false → ReadIs m bs 30 m.state
    unfolding read_code first_of
    totals_30 h = not_read m bs 30 (rw (sound, sym equal_here ∙ h)) refl

    module _ (equal : all (totals_equal (take a next.accounts)) c ≡ true) where
      -- the state in the areas lent for it
      abbrev here : Memory
      here = memory next m.buys m.sells m.trades

      here_room : has_room here ≡ has_room (loaded_into m bs)
      here_room = ap (λ (n : State). has_room (memory n m.buys m.sells m.trades)) g.next_is

      pub room_29 : has_room here ≡ false → ReadIs m bs 29 m.state
      unfolding read_code first_of
      room_29 h = not_read m bs 29 (rw (sound, sym equal_here ∙ equal, sym here_room ∙ h)) refl

      pub loaded_0 : has_room here ≡ true → ReadIs m bs 0 next
      unfolding read_code first_of
      loaded_0 h =
          let k : read_code m bs ≡ 0 = rw (sound, sym equal_here ∙ equal, sym here_room ∙ h) in
          record { code_is = sym k; state_is = rw k g.next_is }
