-- A queue as the list of its orders: the order at a place, and a loop over the queue that counts, or that looks for the first order
-- that satisfies a test. Assumes nothing.
use Rattle.laws.specs.Logic.{Bool, true, false, List, [], ◌∷◌, ◌≡◌, ◌∙◌}
use Rattle.laws.specs.Numbers.{ℕ, ◌+◌, ◌<◌, ◌≤◌, add-one, arith, length, get_or, drop, drop_of_length-le, drop-cons}
use Rattle.rules.specs.Exchange.{no_order}
use Rattle.rules.specs.Memory.{queue_in}
use Rattle.rules.specs.declared.Order.{Order}
use Rattle.theory.proofs.Codecs.{length_queue}
use Rattle.book.specs.Places.{first_where}
use Rattle.book.proofs.Places.{first_nil, first_here, first_on}

-- a place in the list is one in the area
pub within : (area : List ℕ) (c n : ℕ) {os : List Order} → queue_in area c n ≡ os → {i : ℕ} → i < length os → i < n
within area c n e h = omega (arith, length_queue area c n, rw (← e) at h)

module _ (os : List Order) (i : ℕ) where
  pub rest_at : i < length os → drop i os ≡ get_or os i no_order ∷ drop (i + 1) os
  rest_at h = drop-cons os i no_order h ∙ rw add-one

  pub no_rest : length os ≤ i → drop i os ≡ []
  no_rest h = drop_of_length-le os {i = i} h

-- `done` is counted of the orders before place i, and `f` counts those from there on
module _ (f : List Order → ℕ) (os : List Order) (i done answer : ℕ) (so_far : done + f (drop i os) ≡ answer) where
  pub none_left : length os ≤ i → f [] ≡ 0 → done ≡ answer
  none_left h k = let e : f (drop i os) ≡ 0 = rw (no_rest os i h) k in omega arith

  -- neither the order at i nor any behind it counts
  pub none_counts : i < length os → ((rest : List Order) → f (get_or os i no_order ∷ rest) ≡ 0) → done ≡ answer
  none_counts h k = let e : f (drop i os) ≡ 0 = rw (rest_at os i h) (k _) in omega arith

  -- the order at i counts a, and g counts those behind it
  pub counts : i < length os → (g : List Order → ℕ) (a : ℕ) → ((rest : List Order) → f (get_or os i no_order ∷ rest) ≡ a + g rest)
      → done + a + g (drop (i + 1) os) ≡ answer
  counts h g a k = let e : f (drop i os) ≡ a + g (drop (i + 1) os) = rw (rest_at os i h) (k _) in omega arith

-- a search for the first order that satisfies a test counts those before it
module _ (test : Order → Bool) (os : List Order) (i answer : ℕ) (so_far : i + first_where test (drop i os) ≡ answer) where
  pub looks_on : i < length os → test (get_or os i no_order) ≡ false → i + 1 + first_where test (drop (i + 1) os) ≡ answer
  looks_on h t = counts (first_where test) os i i answer so_far h (first_where test) 1 (λ rest. first_on test _ rest t ∙ omega arith)

  pub stands_here : i < length os → test (get_or os i no_order) ≡ true → i ≡ answer
  stands_here h t = none_counts (first_where test) os i i answer so_far h (λ rest. first_here test _ rest t)

  pub stands_nowhere : length os ≤ i → i ≡ answer
  stands_nowhere h = none_left (first_where test) os i i answer so_far h (first_nil test)
