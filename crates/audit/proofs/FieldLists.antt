-- A field of the orders of all queues listed one after the other, and each value held against those behind it. Assumes nothing.
use borrow.Rule.Slice.PartMut.{post_of, put_mid}
use Rattle.std.proofs.lemmas.Grind.{same_number_lists}
use Rattle.std.proofs.lemmas.Slice.{take-put_mid}
use Rattle.laws.specs.Logic.{true, false, not, List, [], ◌∷◌, ◌++◌, append-nil, append_assoc, ◌≡◌, refl, sym, ap, ◌∙◌}
use Rattle.laws.specs.Numbers.{ℕ, zero, suc, ◌+◌, ◌<◌, ◌≤◌, le_of_suc-le-suc, add-one, arith, eqb, length, get_or, take, eq-eqb, ne_eqb}
use Rattle.laws.specs.Numbers.{length-append, length-take-le}
use Rattle.laws.specs.Choice.{all_of}
use Rattle.laws.specs.Tabulate.{tabulate, tabulate_last}
use Rattle.rules.specs.Exchange.{Listing, no_order}
use Rattle.rules.specs.WellFormed.{listed, all_listed, used_once}
use Rattle.rules.specs.declared.Order.{Order}

-- ---- a queue's values, written behind others

module _ (field : Order → ℕ) where
  length_listed : (q : List Order) → length (listed field q) ≡ length q
  unfolding listed
  length_listed [] = refl
  length_listed (o ∷ os) = ap suc (length_listed os)

  value_at_lem : (q : List Order) (i : ℕ) → i < length q → get_or (listed field q) i 0 ≡ field (get_or q i no_order)
  unfolding listed
  value_at_lem [] i h = absurd (omega arith)
  value_at_lem (o ∷ os) zero h = refl
  value_at_lem (o ∷ os) (suc i) h = value_at_lem os i (le_of_suc-le-suc h)

  -- values written one after the other, the field of each order of a queue
  pub queue_values : (vs : List ℕ) (q : List Order) → length vs ≡ length q → ((k : ℕ) → k < length vs → get_or vs k 0 ≡ field (get_or q k no_order))
      → vs ≡ listed field q
  queue_values vs q n e =
      same_number_lists vs (listed field q) (n ∙ sym (length_listed q)) (λ k h. e k h ∙ sym (value_at_lem q k (rw (← n) h)))

  -- ---- all contracts

  all_last : (ls : List Listing) (l : Listing)
      → all_listed field (ls ++ (l ∷ [])) ≡ all_listed field ls ++ (listed field l.buys ++ listed field l.sells)
  unfolding all_listed
  all_last [] l = ap (λ (ns : List ℕ). listed field l.buys ++ ns) (append-nil (listed field l.sells))
  all_last (k ∷ ls) l =
      let last : List ℕ = listed field l.buys ++ listed field l.sells in
      rw (all_last ls l)
      (sym (append_assoc (listed field k.buys) (listed field k.sells ++ all_listed field ls) last
      ∙ ap (λ (ns : List ℕ). listed field k.buys ++ ns) (append_assoc (listed field k.sells) (all_listed field ls) last)))

  pub listed_none : (f : ℕ → Listing) → [] ≡ all_listed field (tabulate 0 f)
  unfolding all_listed tabulate
  listed_none f = refl

  -- the buys of the next contract written behind those listed, and its sells behind them
  pub listed_more : (f : ℕ → Listing) (c : ℕ) (l ys zs : List ℕ) (count middle end j k : ℕ)
      → take count l ≡ all_listed field (tabulate c f) → middle ≡ count + length ys → end ≡ middle + length zs → middle ≤ length l
      → ys ≡ listed field (f c).buys → zs ≡ listed field (f c).sells
      → take end (put_mid middle k (put_mid count j l ys) zs) ≡ all_listed field (tabulate (c + 1) f)
  listed_more f c l ys zs count middle end j k so_far e₁ e₂ room y z =
      let room₁ : count ≤ length l = omega arith in
      let first : take middle (put_mid count j l ys) ≡ take count l ++ ys = take-put_mid count j l ys middle e₁ room₁ in
      let room₂ : middle ≤ length (put_mid count j l ys) =
      omega (arith, length-append (take count l) (ys ++ post_of count j l), length-append ys (post_of count j l), length-take-le count l room₁) in
      rw (add-one c, tabulate_last c f, all_last (tabulate c f) (f c), ← so_far, ← y, ← z)
      (take-put_mid middle k (put_mid count j l ys) zs end e₂ room₂ ∙ ap (λ (xs : List ℕ). xs ++ zs) first ∙ append_assoc (take count l) ys zs)

-- ---- used once

pub once_on : (n : ℕ) (ns : List ℕ) → all_of (λ k. not (eqb n k)) ns ≡ true → used_once (n ∷ ns) ≡ used_once ns
unfolding used_once
once_on n ns h = rw h

pub once_off : (n : ℕ) (ns : List ℕ) → all_of (λ k. not (eqb n k)) ns ≡ false → used_once (n ∷ ns) ≡ false
unfolding used_once
once_off n ns h = rw h

pub once_none : used_once [] ≡ true
unfolding used_once
once_none = refl

-- the test of one number against another, as code makes it
pub same_number : {a b : ℕ} → a ≡ b → not (eqb b a) ≡ false
same_number {a} {b} e = ap not (eq-eqb b a (sym e))

pub other_number : {a b : ℕ} → (a ≡ b → ⊥) → not (eqb b a) ≡ true
other_number {a} {b} n = ap not (ne_eqb b a (λ e. n (sym e)))
