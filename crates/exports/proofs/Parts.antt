-- One side's orders as a part of their area: where the part stands. Assumes nothing.
use mathlib.Core.Bool.{Bool, true, false, ◌||◌}
use mathlib.Core.List.{List, [], ◌∷◌}
use mathlib.Core.Path.{◌≡◌, refl, sym, ap, ◌∙◌}
use Prim.Native.Nat.{ℕ, ◌-◌, ◌*◌, ◌≤◌}
use native.Mathlib.Omega.{arith}
use borrow.Author.Tests.{eq-eqb, eqb-false, ltb-false, ne_eqb}
use lib.Dec.{eqb, ltb}
use lib.ListN.{length, take, drop}
use Rattle.laws.specs.Choice.{either_false, pick}
use Rattle.rules.specs.Bounds.{max_contracts, max_resting}
use Rattle.rules.specs.Memory.{first_word, queue_stride}
use Rattle.rules.specs.declared.State.{State}
use Rattle.rules.specs.Side.{no_queue, queue_words, side_words}
use Rattle.book.proofs.Sides.{side_length}
use Rattle.exports.specs.Calls.{SideIs, asked_count, asked_words}

module _ (buys sells : List ℕ) (sell : Bool) (contract contracts count : ℕ) where
  no_words : no_queue (pick sell sells buys) contract contracts count ≡ true → side_words buys sells sell contract contracts count ≡ []
  unfolding side_words queue_words
  no_words e = rw e

  -- where there are words there is a queue
  has_queue : (length (side_words buys sells sell contract contracts count) ≡ 0 → ⊥) → no_queue (pick sell sells buys) contract contracts count ≡ false
  has_queue some = by_test (no_queue (pick sell sells buys) contract contracts count) refl
    where
      by_test : (t : Bool) → no_queue (pick sell sells buys) contract contracts count ≡ t → no_queue (pick sell sells buys) contract contracts count ≡ false
      by_test true e = absurd (some (ap length (no_words e)))
      by_test false e = e

  -- a contract with a queue has a place in the state
  in_place : no_queue (pick sell sells buys) contract contracts count ≡ false → (1 ≤ contract) × (contract ≤ max_contracts)
  unfolding no_queue
  in_place e =
      let short = ltb (length (pick sell sells buys)) (first_word (contract - 1) count) in
      let fits = (either_false (eqb contract 0 || ltb contracts contract || ltb max_contracts contract || ltb max_resting count) short e).0 in
      let few = (either_false (eqb contract 0 || ltb contracts contract || ltb max_contracts contract) (ltb max_resting count) fits).0 in
      let placed = either_false (eqb contract 0 || ltb contracts contract) (ltb max_contracts contract) few in
      let some = eqb-false contract 0 (either_false (eqb contract 0) (ltb contracts contract) placed.0).0 in (
        omega (arith, some),
        ltb-false max_contracts contract placed.1,
      )

  held : no_queue (pick sell sells buys) contract contracts count ≡ false
      → take (length (side_words buys sells sell contract contracts count)) (drop (queue_stride * (contract - 1)) (pick sell sells buys)) ≡ side_words buys sells sell contract contracts count
  unfolding side_words queue_words
  held e = rw (side_length buys sells sell contract contracts count e, e)

nothing : (l : List ℕ) → length l ≡ 0 → [] ≡ l
nothing [] e = refl
nothing (x ∷ l) e = absurd (omega arith)

module _ (state : State) (buys sells : List ℕ) (sell : Bool) (contract : ℕ) {count : ℕ} {queue : List ℕ}
    (counted : count ≡ asked_count state sell contract) (given : queue ≡ side_words buys sells sell contract state.contractcount count) where
  is : queue ≡ asked_words state buys sells sell contract
  is = rw counted at given

  pub empty_part : length queue ≡ 0 → SideIs state buys sells sell contract (record { first = 0; words = 0 })
  empty_part e =
      let none : length (asked_words state buys sells sell contract) ≡ 0 = ap length (sym is) ∙ e in
      record { first = rw (eq-eqb (length (asked_words state buys sells sell contract)) 0 none); words = sym none; part = nothing (asked_words state buys sells sell contract) none }

  module _ (some : length queue ≡ 0 → ⊥) where
    some_words : length (asked_words state buys sells sell contract) ≡ 0 → ⊥
    some_words e = some (ap length is ∙ e)

    a_queue : no_queue (pick sell sells buys) contract state.contractcount (asked_count state sell contract) ≡ false
    a_queue = has_queue buys sells sell contract state.contractcount (asked_count state sell contract) some_words

    pub placed : (1 ≤ contract) × (contract ≤ max_contracts)
    placed = in_place buys sells sell contract state.contractcount (asked_count state sell contract) a_queue

    pub whole_part : SideIs state buys sells sell contract (record { first = queue_stride * (contract - 1); words = length queue })
    whole_part =
        record {
          first = rw (ne_eqb (length (asked_words state buys sells sell contract)) 0 some_words);
          words = ap length is;
          part = rw is (held buys sells sell contract state.contractcount (asked_count state sell contract) a_queue);
        }
