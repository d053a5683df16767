-- A cancel, whether it finds its order or not. Assumes nothing.
use mathlib.Core.List.{List, append-nil}
use mathlib.Core.Path.{◌≡◌, sym, ap, ◌∙◌}
use Prim.Native.Nat.{ℕ, suc, ◌-◌, ◌≤◌, ◌<◌}
use native.Mathlib.Omega.{arith}
use lib.ListN.{length, drop_of_length-le}
use lib.Seq.{take_all}
use Rattle.areas.proofs.Lists.{length_remove_at}
use Rattle.areas.specs.Lists.{remove_at}
use Rattle.theory.proofs.Codecs.{length_queue, put_queue_lem}
use Rattle.rules.specs.Memory.{queue_in, put_queue, first_word}
use Rattle.rules.specs.declared.Order.{Order}
use Rattle.book.specs.Places.{index_of}

remove_at_past : {A : Type 0} (i : ℕ) (os : List A) → length os ≤ i → remove_at i os ≡ os
unfolding remove_at
remove_at_past i os h = rw (take_all i os h, drop_of_length-le os {i = suc i} (omega arith), append-nil)

module _ (area : List ℕ) (c n number : ℕ) where
  abbrev q : List Order
  q = queue_in area c n

  -- the order is found at place i, and taken out
  module _ {i : ℕ} (here : i < length q) (found : i ≡ index_of number q) where
    pub place_within : i < n
    place_within = rw length_queue at here

    pub taken_out : {area' : List ℕ} → area' ≡ put_queue area c n (remove_at i q) → area' ≡ put_queue area c n (remove_at (index_of number q) q)
    taken_out e = e ∙ ap (λ (k : ℕ). put_queue area c n (remove_at k q)) found

    pub one_fewer : n - 1 ≡ length (remove_at (index_of number q) q)
    one_fewer = rw (← found) (sym (length_remove_at i q here ∙ rw length_queue))

  -- there is none
  module _ (nowhere : index_of number q ≡ length q) where
    none_gone : remove_at (index_of number q) q ≡ q
    none_gone = remove_at_past (index_of number q) q (omega (arith, nowhere))

    pub as_many : n ≡ length (remove_at (index_of number q) q)
    as_many = rw (none_gone, length_queue)

    pub unchanged : first_word c n ≤ length area → area ≡ put_queue area c n (remove_at (index_of number q) q)
    unchanged room = sym (ap (put_queue area c n) none_gone ∙ put_queue_lem area c n room)
