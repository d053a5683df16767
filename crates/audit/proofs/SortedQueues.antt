-- A queue is sorted where each order is ahead of the one behind it. Assumes nothing.
use Rattle.std.specs.List.{list_all, range_with_len}
use Rattle.laws.specs.Logic.{Bool, List, [], ◌∷◌, ◌≡◌, refl}
use Rattle.laws.specs.Numbers.{ℕ, zero, suc, ◌+◌, ◌-◌, arith, length, get_or}
use Rattle.rules.specs.Exchange.{no_order}
use Rattle.rules.specs.WellFormed.{ahead, ahead_of_first, sorted}
use Rattle.rules.specs.declared.Order.{Order}

-- tests of the numbers one further on
one_on : (p r : ℕ → Bool) → ((i : ℕ) → p (suc i) ≡ r i) → (a k : ℕ) → list_all p (range_with_len (suc a) k) ≡ list_all r (range_with_len a k)
one_on p r e a zero = refl
one_on p r e a (suc k) = let s : suc a + 1 ≡ suc (a + 1) = omega arith in rw (s, e a, one_on p r e (a + 1) k) refl

module _ (sell : Bool) where
  -- the order before place i is ahead of that at i
  abbrev pub in_order : List Order → ℕ → Bool
  in_order q i = ahead sell (get_or q (i - 1) no_order) (get_or q i no_order)

  abbrev next : List Order → ℕ → Bool
  next q i = ahead sell (get_or q i no_order) (get_or q (suc i) no_order)

  from_first : (o : Order) (os : List Order) → list_all (next (o ∷ os)) (range_with_len 0 (length os)) ≡ sorted sell (o ∷ os)
  unfolding sorted ahead_of_first
  from_first o [] = refl
  from_first o (p ∷ os) = rw (one_on (next (o ∷ (p ∷ os))) (next (p ∷ os)) (λ i. refl) 0 (length os), from_first p os) refl

  pub sorted_queue : (q : List Order) → list_all (in_order q) (range_with_len 1 (length q - 1)) ≡ sorted sell q
  unfolding sorted
  sorted_queue [] = refl
  sorted_queue (o ∷ os) =
      let e : length (o ∷ os) - 1 ≡ length os = omega arith in
      rw (e, one_on (in_order (o ∷ os)) (next (o ∷ os)) (λ i. let s : suc i - 1 ≡ i = omega arith in rw s refl) 0 (length os)) (from_first o os)
