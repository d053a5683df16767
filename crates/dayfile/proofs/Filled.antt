-- A list filled from the front, one store a turn: the values of f in the first k places, z in the others. Assumes nothing.
use Rattle.laws.specs.Logic.{List, [], ◌∷◌, ◌++◌, append_assoc, ◌≡◌, refl, sym, ap}
use Rattle.laws.specs.Numbers.{ℕ, zero, suc, ◌+◌, ◌-◌, ◌<◌, add-one, arith, length, set, replicate, set_at}
use Rattle.areas.specs.Lists.{padded}
use Rattle.areas.proofs.Lists.{padded_nil}
use Rattle.laws.specs.Tabulate.{tabulate, length_tabulate}

module _ {A : Type 0} where
  pub tabulate_more : (k : ℕ) (f : ℕ → A) → tabulate (k + 1) f ≡ tabulate k f ++ (f k ∷ [])
  unfolding tabulate
  tabulate_more k f = rw add-one (tabulate_suc k f)
    where
      tabulate_suc : (k : ℕ) (f : ℕ → A) → tabulate (suc k) f ≡ tabulate k f ++ (f k ∷ [])
      tabulate_suc zero f = refl
      tabulate_suc (suc k) f = ap (λ (l : List A). f 0 ∷ l) (tabulate_suc k (λ i. f (suc i)))

  module _ (n : ℕ) (z : A) (f : ℕ → A) where
    abbrev pub filled : ℕ → List A
    filled k = padded n z (tabulate k f)

    pub filled_none : filled 0 ≡ replicate n z
    unfolding tabulate
    filled_none = padded_nil n z

    filled_more : (k : ℕ) → k < n → set (filled k) k (f k) ≡ filled (k + 1)
    unfolding padded
    filled_more k h =
        let l : length (tabulate k f) ≡ k = length_tabulate k f in
        let m : length (tabulate (k + 1) f) ≡ k + 1 = length_tabulate (k + 1) f in
        let e : n - k ≡ suc (n - (k + 1)) = omega arith in
        rw (
          l,
          m,
          e,
          set_at (tabulate k f) z (replicate (n - (k + 1)) z) (f k) k l,
          tabulate_more k f,
        ) (sym (append_assoc (tabulate k f) (f k ∷ []) (replicate (n - (k + 1)) z)))

    -- one store of a loop that fills
    pub fill : {l : List A} {v : A} (k : ℕ) → k < n → l ≡ filled k → v ≡ f k → set l k v ≡ filled (k + 1)
    fill k h e d = rw (e, d) (filled_more k h)
