-- A list whose first places are written anew, and a loop that writes them one after the other. Assumes nothing.
use mathlib.Core.List.{List, [], ◌∷◌, ◌++◌, append_assoc}
use Rattle.std.specs.Prelude.{◌≡◌, ℕ, suc, ◌+◌, ◌<◌, ◌≤◌, length, get_or, set}
use Rattle.std.proofs.Math.Path.{refl, sym, ap}
use Rattle.std.proofs.Common.{◌∙◌, add-one, arith, length-append, length-drop}
use Rattle.std.proofs.Math.ListN.{drop}
use Rattle.std.proofs.Math.Seq.{drop-cons, set_at}
use Rattle.laws.specs.Tabulate.{tabulate, length_tabulate, tabulate_last}

-- the first n places hold f's values, the rest is as it was
unfoldable pub overwritten : {A : Type 0} → (ℕ → A) → List A → ℕ → List A
overwritten f l n = tabulate n f ++ drop n l

module _ {A : Type 0} (f : ℕ → A) (l : List A) where
  pub overwritten_none : l ≡ overwritten f l 0
  unfolding overwritten tabulate
  overwritten_none = refl

  pub overwritten_more : (i : ℕ) (v : A) → i < length l → v ≡ f i → set (overwritten f l i) i v ≡ overwritten f l (i + 1)
  unfolding overwritten
  overwritten_more i v h e =
      rw (add-one i, drop-cons l i v h, set_at (tabulate i f) (get_or l i v) (drop (suc i) l) v i (length_tabulate i f))
      (ap (λ (x : A). tabulate i f ++ (x ∷ drop (suc i) l)) e
      ∙ sym (append_assoc (tabulate i f) (f i ∷ []) (drop (suc i) l))
      ∙ ap (λ (xs : List A). xs ++ drop (suc i) l) (sym (tabulate_last i f)))

  pub length_overwritten : (n : ℕ) → n ≤ length l → length (overwritten f l n) ≡ length l
  unfolding overwritten
  length_overwritten n h = simp (length-append, length_tabulate, length-drop) (omega arith)

-- ---- the loop: the first c of `count` places are written

pub record Writing {A : Type 0} (f : ℕ → A) (l : List A) (count c : ℕ) (next : List A) : Type 0 where
  pub within : c ≤ count
  pub places : next ≡ overwritten f l c

module _ {A : Type 0} (f : ℕ → A) (l : List A) (count : ℕ) where
  pub writing_none : Writing f l count 0 l
  writing_none = record { within = omega arith; places = overwritten_none f l }

  pub writing_more : count ≤ length l → (c : ℕ) (v : A) (next : List A) → c < count → v ≡ f c → Writing f l count c next → Writing f l count (c + 1) (set next c v)
  writing_more room c v next h e w =
      record { within = omega arith; places = rw w.places (overwritten_more f l c v (omega arith) e) }

  pub writing_done : (c : ℕ) (next : List A) → count ≤ c → Writing f l count c next → next ≡ overwritten f l count
  writing_done c next h w =
      let e : c ≡ count = omega (arith, w.within) in
      w.places ∙ rw e
