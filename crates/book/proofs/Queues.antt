-- One queue of an area: the orders that code reads there in turn, and what the words that it writes there make of the queue.
-- `part` is what a lent part of the area came back as. Assumes nothing.
use borrow.Rule.Slice.PartMut.{put_mid, Post-is}
use lib.Seq.{drop-set-add, take-set-le}
use Rattle.laws.specs.Logic.{Bool, List, [], ◌∷◌, ◌++◌, append-nil, ◌≡◌, refl, sym, ap, ◌∙◌}
use Rattle.laws.specs.Numbers.{ℕ, ◌+◌, ◌-◌, ◌*◌, ◌<◌, ◌≤◌, add-one, arith, length, get_or, set, take, drop, length-drop, length-set, take-append-drop}
use Rattle.laws.specs.Numbers.{drop_of_length-le, length-take-le, take_all, take-take, drop_at, drop-cons, drop-drop, drop-length}
use Rattle.areas.specs.Lists.{over, insert_at, remove_at, padded}
use Rattle.areas.specs.Moves.{moved_back, closed_up}
use Rattle.areas.specs.Records.{store}
use Rattle.areas.proofs.Changes.{removed_at, removed_first}
use Rattle.areas.proofs.Lists.{length_insert_at}
use Rattle.areas.proofs.Moves.{lent_over}
use Rattle.areas.proofs.Records.{insert_store, set_store}
use Rattle.rules.specs.Change.{unmarked}
use Rattle.rules.specs.Exchange.{no_order}
use Rattle.rules.specs.Matching.{rest_in, with_lots}
use Rattle.rules.specs.Memory.{order_words, order_from, queue_in, put_queue, order_stride, queue_stride, first_word, lots_word, quote_word}
use Rattle.book.specs.Places.{first_where, place_in}
use Rattle.rules.specs.declared.Order.{Order}
use Rattle.theory.proofs.Codecs.{order_codec, length_queue, order_at_lem}
use Rattle.book.proofs.Places.{first_within, rest_in_insert_at}

-- ---- an order written and moved

-- an order is written over the gap in front of what was moved back
pub shift_in : (part moved : List ℕ) (o : Order) → order_stride ≤ length part → moved ≡ moved_back order_stride part
    → order_words o ++ drop order_stride moved ≡ order_words o ++ take (length part - order_stride) part
unfolding moved_back
shift_in part moved o h e = rw (e, drop_at (take order_stride part) (take (length part - order_stride) part) order_stride (length-take-le order_stride part h))

-- an order is written in front of a part that reaches to the end of the area
pub put_over : (area : List ℕ) (s : ℕ) (o : Order) (part : List ℕ) → s + order_stride ≤ length area → part ≡ order_words o ++ drop order_stride (take (length area - s) (drop s area))
    → put_mid s (length area - s) area part ≡ over area s (order_words o)
unfolding over
put_over area s o part h e =
    let p : part ≡ order_words o ++ drop (s + order_stride) area = e ∙ rw (take_all (length area - s) (drop s area) (rw length-drop (omega arith)), drop-drop order_stride s area) in
    rw (Post-is s (length area) area (omega arith), drop-length, append-nil, p)

-- ---- the queue read in turn

module _ (area : List ℕ) (c n i : ℕ) where
  pub next_order : (o : Order) → i < n → o ≡ order_from (drop (first_word c i) area) → drop i (queue_in area c n) ≡ o ∷ drop (i + 1) (queue_in area c n)
  next_order o h e = drop-cons (queue_in area c n) i no_order (rw (length_queue area c n) h) ∙ rw (order_at_lem area c n i h, e, add-one)

  pub no_more : n ≤ i → drop i (queue_in area c n) ≡ []
  no_more h = drop_of_length-le (queue_in area c n) {i = i} (rw (length_queue area c n) h)

-- ---- a loop that counts over a queue: those from there on count nothing

pub tally_none : (done rest answer : ℕ) → done + rest ≡ answer → rest ≡ 0 → done ≡ answer
tally_none done rest answer so_far k = omega arith

-- ---- the queue written

-- a queue that leaves none of its places free
put_full : (area : List ℕ) (c n : ℕ) (q : List Order) → n ≤ length q → put_queue area c n q ≡ store order_words area (queue_stride * c) q
unfolding put_queue padded
put_full area c n q h =
    let e : n - length q ≡ 0 = omega arith in
    rw (e, append-nil)

-- the fourth word of an order is its lots
set_fourth : (area : List ℕ) (s lots : ℕ) → s + order_stride ≤ length area → set area (s + lots_word) lots ≡ over area s (order_words (with_lots (order_from (drop s area)) lots))
unfolding over
set_fourth area s lots h =
    let o : Order = order_from (drop s area) in
    let f : order_words o ≡ take order_stride (drop s area) = order_codec.forth (drop s area) (rw length-drop (omega arith)) in
    let w : drop s area ≡ order_words o ++ drop (s + order_stride) area = sym (take-append-drop order_stride (drop s area)) ∙ ap (λ (l : List ℕ). l ++ drop order_stride (drop s area)) (sym f) ∙ ap (λ (l : List ℕ). order_words o ++ l) (drop-drop order_stride s area) in
    let t : take s (set area (s + lots_word) lots) ≡ take s area = take-set-le s area (s + lots_word) lots (omega arith) in
    let d : drop s (set area (s + lots_word) lots) ≡ order_words (with_lots o lots) ++ drop (s + order_stride) area = drop-set-add s area lots_word lots ∙ ap (λ (l : List ℕ). set l lots_word lots) w in
    sym (take-append-drop s (set area (s + lots_word) lots)) ∙ rw (t, d)

-- and the seventh its mark
set_unmarked : (area : List ℕ) (s lots : ℕ) → s + order_stride ≤ length area
    → set (set area (s + lots_word) lots) (s + quote_word) 0 ≡ over area s (order_words (unmarked (with_lots (order_from (drop s area)) lots)))
unfolding over
set_unmarked area s lots h =
    let o : Order = order_from (drop s area) in
    let f : order_words o ≡ take order_stride (drop s area) = order_codec.forth (drop s area) (rw length-drop (omega arith)) in
    let w : drop s area ≡ order_words o ++ drop (s + order_stride) area = sym (take-append-drop order_stride (drop s area)) ∙ ap (λ (l : List ℕ). l ++ drop order_stride (drop s area)) (sym f) ∙ ap (λ (l : List ℕ). order_words o ++ l) (drop-drop order_stride s area) in
    let t : take s (set (set area (s + lots_word) lots) (s + quote_word) 0) ≡ take s area = take-set-le s (set area (s + lots_word) lots) (s + quote_word) 0 (omega arith) ∙ take-set-le s area (s + lots_word) lots (omega arith) in
    let d : drop s (set (set area (s + lots_word) lots) (s + quote_word) 0) ≡ order_words (unmarked (with_lots o lots)) ++ drop (s + order_stride) area =
    drop-set-add s (set area (s + lots_word) lots) quote_word 0 ∙ ap (λ (l : List ℕ). set l quote_word 0) (drop-set-add s area lots_word lots) ∙ ap (λ (l : List ℕ). set (set l lots_word lots) quote_word 0) w in
    sym (take-append-drop s (set (set area (s + lots_word) lots) (s + quote_word) 0)) ∙ rw (t, d)

module _ (area : List ℕ) (c n : ℕ) where
  -- a place that was searched for is at most the number of orders
  pub found_within : (test : Order → Bool) (i : ℕ) → i ≡ first_where test (queue_in area c n) → i ≤ n
  found_within test i found = omega (arith, first_within test (queue_in area c n), length_queue area c n)

  -- o put in at place i: from there on the orders and one place more were lent, and came back moved one place back behind o
  pub inserted_order : (i : ℕ) (o : Order) (s e : ℕ) (part : List ℕ) → i ≤ n → s ≡ first_word c i → e ≡ first_word c n + order_stride → e ≤ length area
      → part ≡ order_words o ++ take (length (take (e - s) (drop s area)) - order_stride) (take (e - s) (drop s area))
      → put_mid s (e - s) area part ≡ put_queue area c n (insert_at i o (queue_in area c n))
  unfolding queue_in
  inserted_order i o s e part h hs he room ep =
      let r : ℕ = order_stride * (n - i) in
      let k : e - s - order_stride ≡ r = omega arith in
      let hd : e - s ≤ length (drop s area) = rw length-drop (omega arith) in
      let p : part ≡ order_words o ++ take r (drop s area) = ep ∙ rw (length-take-le (e - s) (drop s area) hd, k, take-take r (e - s) (drop s area) (omega arith)) in
      let lp : length (order_words o ++ take r (drop s area)) ≡ e - s = rw (length-take-le r (drop s area) (omega arith)) (omega arith) in
      let lq : n ≤ length (insert_at i o (queue_in area c n)) = omega (arith, length_insert_at i o (queue_in area c n), length_queue area c n) in
      rw (p, lent_over area (order_words o ++ take r (drop s area)) s e (omega arith) lp, hs, put_full area c n (insert_at i o (queue_in area c n)) lq)
      (insert_store order_codec area (queue_stride * c) n i o h (omega arith))

  -- an order comes to rest at the place that was searched for
  pub rested_order : (sell : Bool) (i : ℕ) (o : Order) {after : List ℕ} → i ≡ place_in sell o.price (queue_in area c n)
      → after ≡ put_queue area c n (insert_at i o (queue_in area c n)) → after ≡ put_queue area c n (rest_in sell o (queue_in area c n))
  rested_order sell i o found e = e ∙ rw (found, ← rest_in_insert_at sell o (queue_in area c n))

  -- the order at place i taken out: from there on the orders were lent, and came back closed up
  pub removed_order : (i : ℕ) (s e : ℕ) (part : List ℕ) → i < n → s ≡ first_word c i → e ≡ first_word c n → e ≤ length area
      → part ≡ closed_up order_stride (take (e - s) (drop s area)) → put_mid s (e - s) area part ≡ put_queue area c n (remove_at i (queue_in area c n))
  unfolding queue_in put_queue
  removed_order i s e part h hs he room ep = removed_at order_codec area (queue_stride * c) n no_order refl i s e part h hs he room ep

  -- the first k orders taken out
  pub dropped_orders : (k : ℕ) (e : ℕ) (part : List ℕ) → k ≤ n → e ≡ first_word c n → e ≤ length area
      → part ≡ closed_up (order_stride * k) (take (e - queue_stride * c) (drop (queue_stride * c) area)) → put_mid (queue_stride * c) (e - queue_stride * c) area part ≡ put_queue area c n (drop k (queue_in area c n))
  unfolding queue_in put_queue
  dropped_orders k e part h he room ep = removed_first order_codec area (queue_stride * c) n no_order refl k e (order_stride * k) part h he refl room ep

  -- an order written over the one at place i
  stored_order : (i : ℕ) (o : Order) → i < n → first_word c n ≤ length area
      → over area (first_word c i) (order_words o) ≡ store order_words area (queue_stride * c) (set (queue_in area c n) i o)
  unfolding queue_in
  stored_order i o h room = set_store order_codec area (queue_stride * c) n i o h room

  -- the order at place i changed: what was written there is the order as f makes it
  replaced_order : (f : Order → Order) (i : ℕ) {after : List ℕ} → i < n → first_word c n ≤ length area
      → after ≡ over area (first_word c i) (order_words (f (order_from (drop (first_word c i) area))))
      → after ≡ put_queue area c n (set (queue_in area c n) i (f (get_or (queue_in area c n) i no_order)))
  replaced_order f i h room e =
      let o : Order = f (order_from (drop (first_word c i) area)) in
      let lq : n ≤ length (set (queue_in area c n) i o) = omega (arith, length-set (queue_in area c n) i o, length_queue area c n) in
      e ∙ rw (order_at_lem area c n i h, put_full area c n (set (queue_in area c n) i o) lq) (stored_order i o h room)

  -- the lots of the order at place i written over
  pub changed_lots : (i lots : ℕ) → i < n → first_word c n ≤ length area
      → set area (first_word c i + lots_word) lots ≡ put_queue area c n (set (queue_in area c n) i (with_lots (get_or (queue_in area c n) i no_order) lots))
  changed_lots i lots h room = replaced_order (λ o. with_lots o lots) i h room (set_fourth area (first_word c i) lots (omega arith))

  -- and its mark
  pub unmarked_lots : (i lots : ℕ) → i < n → first_word c n ≤ length area
      → set (set area (first_word c i + lots_word) lots) (first_word c i + quote_word) 0 ≡ put_queue area c n (set (queue_in area c n) i (unmarked (with_lots (get_or (queue_in area c n) i no_order) lots)))
  unmarked_lots i lots h room = replaced_order (λ o. unmarked (with_lots o lots)) i h room (set_unmarked area (first_word c i) lots (omega arith))

-- the first order taken out
pub removed_front : (os : List Order) → remove_at 0 os ≡ drop 1 os
unfolding remove_at
removed_front os = refl
