-- One side of a match as it lies: the area differs from what it was in one queue alone, of which the first orders are filled.
-- Assumes nothing.
use lib.Seq.{take-set-le}
use Rattle.laws.specs.Logic.{List, [], ◌∷◌, ◌++◌, append_assoc, ◌≡◌, sym, ap, ◌∙◌}
use Rattle.laws.specs.Numbers.{ℕ, ◌+◌, ◌-◌, ◌<◌, ◌≤◌, add-one, arith, lt-ltb, le-ltb, length, get_or, set, take, drop, length-drop, length-set, take-append-drop}
use Rattle.laws.specs.Numbers.{length-take-le, take-suc, drop_at, set_split}
use Rattle.rules.specs.Auction.{less_first}
use Rattle.rules.specs.Exchange.{no_order}
use Rattle.rules.specs.Matching.{with_lots}
use Rattle.rules.specs.Memory.{order_from, put_queue, queue_in, first_word}
use Rattle.rules.specs.declared.{Order.Order, Trade.Trade}
use Rattle.theory.proofs.AuctionTurns.{less_filled, less_part}
use Rattle.theory.proofs.Codecs.{length_queue, order_at_lem, put_queue_lem, put_queue_again, queue_put}
use Rattle.book.proofs.Queues.{next_order}
use Rattle.auction.specs.Matched.{LeftIn, standing}

pub record Side (area₀ : List ℕ) (c n : ℕ) (area : List ℕ) (i : ℕ) : Type 0 where
  pub room : first_word c n ≤ length area₀
  pub long : length area ≡ length area₀
  pub within : i ≤ n
  pub lies : area ≡ put_queue area₀ c n (queue_in area c n)

-- what the trades still to come make of a queue, of which i orders are filled, is what all make of the queue at first
pub record Stands (queue₀ : List Order) (all : List Trade) (queue : List Order) (i : ℕ) (ts : List Trade) : Type 0 where
  pub stands : take i queue ++ standing ts (drop i queue) ≡ standing all queue₀

pub side_begins : {area : List ℕ} {c n : ℕ} → first_word c n ≤ length area → Side area c n area 0
side_begins {area} {c} {n} room = record { room = room; long = omega arith; within = omega arith; lies = sym (put_queue_lem area c n room) }

module _ {area₀ : List ℕ} {c n : ℕ} {area : List ℕ} {i : ℕ} (s : Side area₀ c n area i) where
  abbrev queue : List Order
  queue = queue_in area c n

  -- another queue of as many orders written over it is written over what was
  over_first : (q : List Order) → put_queue area c n q ≡ put_queue area₀ c n q
  over_first q =
      ap (λ (a : List ℕ). put_queue a c n q) s.lies ∙ put_queue_again area₀ c n queue q (omega (arith, length_queue area c n)) (omega (arith, s.room))

  pub left_in : {q : List Order} {ts : List Trade} → Stands (queue_in area₀ c n) ts queue i [] → drop i queue ≡ q → LeftIn ts q area₀ c n i area
  unfolding standing
  left_in {q} stood e =
      record {
        whole = s.lies ∙ ap (put_queue area₀ c n) (sym (take-append-drop i queue) ∙ stood.stands);
        within = s.within;
        count = rw (← e, length-drop) (omega (arith, s.within, length_queue area c n));
        dropped = rw e (over_first q);
      }

  module _ {o : Order} (here : i < n) (read : o ≡ order_from (drop (first_word c i) area)) where
    -- the order is filled: the queue goes on behind it
    pub side_filled : Side area₀ c n area (i + 1)
    side_filled = record { room = s.room; long = s.long; within = omega arith; lies = s.lies }

    next : drop i queue ≡ o ∷ drop (i + 1) queue
    next = next_order area c n i o here read

    pub stands_filled : {queue₀ : List Order} {all ts : List Trade} (t : Trade) → o.lots ≤ t.lots → Stands queue₀ all queue i (t ∷ ts) → Stands queue₀ all queue (i + 1) ts
    unfolding standing
    stands_filled {queue₀} {all} {ts} t full stood =
        record {
          stands =
              rw (add-one, take-suc queue i no_order (rw length_queue here), order_at_lem area c n i here, ← read, append_assoc, ← add-one)
              (rw (next, le-ltb t.lots o.lots full) at stood.stands);
        }

    pub left_filled : (k : ℕ) → o.lots ≤ k → drop (i + 1) queue ≡ less_first k o (drop (i + 1) queue)
    left_filled k h = sym (less_filled k o (drop (i + 1) queue) h)

    -- k of its lots are, and the others are written
    module _ (k : ℕ) (part : k < o.lots) {area' : List ℕ} (same : length area' ≡ length area) (written : area' ≡ put_queue area c n (set queue i (with_lots (get_or queue i no_order) (o.lots - k)))) where
      changed : List Order
      changed = set queue i (with_lots o (o.lots - k))

      length_changed : length changed ≡ n
      unfolding changed
      length_changed = rw length-set (length_queue area c n)

      lies_changed : area' ≡ put_queue area₀ c n changed
      unfolding changed
      lies_changed =
          written ∙ ap (λ (p : Order). put_queue area c n (set queue i (with_lots p (o.lots - k)))) (order_at_lem area c n i here ∙ sym read)
          ∙ over_first (set queue i (with_lots o (o.lots - k)))

      queue_changed : queue_in area' c n ≡ changed
      queue_changed =
          ap (λ (a : List ℕ). queue_in a c n) lies_changed
          ∙ ap (queue_in (put_queue area₀ c n changed) c) (sym length_changed) ∙ queue_put area₀ c n changed (omega (arith, s.room))

      pub side_part : Side area₀ c n area' i
      side_part = record { room = s.room; long = same ∙ s.long; within = s.within; lies = lies_changed ∙ ap (put_queue area₀ c n) (sym queue_changed) }

      pub left_part : drop i (queue_in area' c n) ≡ less_first k o (drop (i + 1) queue)
      unfolding changed
      left_part =
          let l : length (take i queue) ≡ i = length-take-le i queue (rw length_queue (omega arith)) in
          rw (queue_changed, set_split queue i (with_lots o (o.lots - k)) (rw length_queue here), drop_at (take i queue) _ i l, ← add-one)
          (sym (less_part k o (drop (i + 1) queue) part))

      pub stands_part : {queue₀ : List Order} {all ts : List Trade} (t : Trade) → t.lots ≡ k → Stands queue₀ all queue i (t ∷ ts) → Stands queue₀ all (queue_in area' c n) i ts
      unfolding standing changed
      stands_part {queue₀} {all} {ts} t e stood =
          record {
            stands =
                rw (left_part ∙ less_part k o (drop (i + 1) queue) part, queue_changed, take-set-le i queue i (with_lots o (o.lots - k)) (omega arith))
                (rw (next, e, lt-ltb k o.lots part) at stood.stands);
          }
