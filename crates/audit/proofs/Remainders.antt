-- Values met from the last to the first, with a mark for the remainder of each: a value whose remainder has no mark is none of those met.
-- Assumes nothing.
use Rattle.std.specs.List.{list_any}
use Rattle.laws.specs.Logic.{Bool, true, false, true≢false, not, ◌||◌, List, [], ◌∷◌, ◌≡◌, refl, sym, ap, subst, ◌∙◌}
use Rattle.laws.specs.Numbers.{ℕ, zero, suc, ◌+◌, ◌-◌, ◌%◌, ◌<◌, ◌≤◌, add-one, mod-lt, arith, eqb-true, eqb-false, eq-eqb, ne_eqb, eqb, length, get_or, set, take, drop, replicate}
use Rattle.laws.specs.Numbers.{drop-cons, drop_of_length-le, length-drop, length-replicate, length-set, take_all, get_or-drop, get_or-set_same, get_or-set_other}
use Rattle.laws.specs.Choice.{all_of, all_of_true, both, both_false, by_test}
use Rattle.rules.specs.WellFormed.{used_once}
use Rattle.audit.proofs.FieldLists.{once_none, once_off, once_on}

-- the values from place i on are used once, and the remainder of each is marked
pub record Marked (l : List ℕ) (marks : List Bool) (i : ℕ) : Type 0 where
  pub room : length marks ≡ 4_096
  pub once : used_once (drop i l) ≡ true
  pub marked : (j : ℕ) → i ≤ j → j < length l → get_or marks (get_or l j 0 % 4_096) false ≡ true

-- a value is looked for behind its place, or held against each
among : (n : ℕ) (ns : List ℕ) → all_of (λ k. not (eqb n k)) ns ≡ not (list_any (λ k. eqb k n) ns)
unfolding all_of
among n [] = refl
among n (k ∷ ns) = rw (among n ns, same) (neither (eqb k n) (list_any (λ k. eqb k n) ns))
  where
    same : eqb n k ≡ eqb k n
    same = by_test (eqb k n) (λ t. eq-eqb n k (sym (eqb-true k n t)) ∙ sym t) (λ t. ne_eqb n k (λ (q : n ≡ k). eqb-false k n t (sym q)) ∙ sym t)

    neither : (a b : Bool) → both (not a) (not b) ≡ not (a || b)
    neither true b = refl
    neither false b = refl

-- what is not used once behind a place is not used once
once_drop : (k : ℕ) (ns : List ℕ) → used_once (drop k ns) ≡ false → used_once ns ≡ false
unfolding used_once
once_drop zero ns h = h
once_drop (suc k) [] h = h
once_drop (suc k) (n ∷ ns) h = both_false (all_of (λ k. not (eqb n k)) ns) (used_once ns) (once_drop k ns h)

pub marked_none : (l : List ℕ) → Marked l (replicate 4_096 false) (length l)
marked_none l =
    record {
      room = length-replicate {A = Bool} 4_096 false;
      once = ap used_once (drop_of_length-le l {i = length l} (omega arith)) ∙ once_none;
      marked = λ j low high. absurd (omega arith);
    }

pub marked_all : {l : List ℕ} {marks : List Bool} {i : ℕ} → Marked l marks i → i ≡ 0 → true ≡ used_once l
marked_all {l} m e = sym (subst (λ (k : ℕ). used_once (drop k l) ≡ true) e m.once)

-- the value before place i
module _ {l : List ℕ} {marks : List Bool} {i : ℕ} (m : Marked l marks i) (at : ℕ) (e : at + 1 ≡ i) (h : i ≤ length l) where
  it : drop at l ≡ get_or l at 0 ∷ drop (at + 1) l
  it = rw add-one (drop-cons l at 0 (omega arith))

  -- those behind it, as code takes them
  abbrev found : Bool
  found = list_any (λ k. eqb k (get_or l at 0)) (take (length l - (at + 1)) (drop (at + 1) l))

  looked_for : {b : Bool} → found ≡ b → all_of (λ k. not (eqb (get_or l at 0) k)) (drop (at + 1) l) ≡ not b
  looked_for t =
      let rest : take (length l - (at + 1)) (drop (at + 1) l) ≡ drop (at + 1) l = take_all _ (drop (at + 1) l) (omega (arith, length-drop (at + 1) l)) in
      among (get_or l at 0) (drop (at + 1) l) ∙ ap not (rw rest at t)

  -- is once more behind
  pub marked_again : found ≡ true → false ≡ used_once l
  marked_again t = sym (once_drop at l (ap used_once it ∙ once_off _ _ (looked_for t)))

  abbrev marks₁ : List Bool
  marks₁ = set marks (get_or l at 0 % 4_096) true

  marked_more : all_of (λ k. not (eqb (get_or l at 0) k)) (drop (at + 1) l) ≡ true → Marked l marks₁ at
  marked_more t =
      record {
        room = length-set marks (get_or l at 0 % 4_096) true ∙ m.room;
        once = ap used_once it ∙ once_on _ _ t ∙ subst (λ (k : ℕ). used_once (drop k l) ≡ true) (sym e) m.once;
        marked = λ j low high. by_mark j (eqb (get_or l j 0 % 4_096) (get_or l at 0 % 4_096)) refl low high;
      }
    where
      by_mark : (j : ℕ) (b : Bool) → eqb (get_or l j 0 % 4_096) (get_or l at 0 % 4_096) ≡ b → at ≤ j → j < length l → get_or marks₁ (get_or l j 0 % 4_096) false ≡ true
      by_mark j true q low high =
          rw (eqb-true _ _ q) (get_or-set_same marks (get_or l at 0 % 4_096) true false (omega (arith, m.room, mod-lt (get_or l at 0) {m = 4_096} (omega arith))))
      by_mark j false q low high =
          let other : get_or l j 0 % 4_096 ≡ get_or l at 0 % 4_096 → ⊥ = eqb-false _ _ q in
          let elsewhere : j ≡ at → ⊥ = λ y. other (ap (λ (k : ℕ). get_or l k 0 % 4_096) y) in
          get_or-set_other marks (get_or l at 0 % 4_096) _ true false other ∙ m.marked j (omega arith) high

  -- is not behind
  pub marked_fresh : found ≡ false → Marked l marks₁ at
  marked_fresh t = marked_more (looked_for t)

  -- its remainder was not met
  pub marked_new : get_or marks (get_or l at 0 % 4_096) false ≡ false → Marked l marks₁ at
  marked_new none =
      marked_more (all_of_true (λ k. not (eqb (get_or l at 0) k)) (drop (at + 1) l) 0 (λ k b. ap not (ne_eqb (get_or l at 0) _ (apart k b))))
    where
      apart : (k : ℕ) → k < length (drop (at + 1) l) → get_or l at 0 ≡ get_or (drop (at + 1) l) k 0 → ⊥
      apart k b q =
          let behind : at + 1 + k < length l = omega (arith, length-drop (at + 1) l) in
          let x : get_or l at 0 ≡ get_or l (at + 1 + k) 0 = q ∙ get_or-drop (at + 1) l k 0 in
          true≢false (sym (m.marked (at + 1 + k) (omega arith) behind) ∙ ap (λ (y : ℕ). get_or marks (y % 4_096) false) (sym x) ∙ none)
