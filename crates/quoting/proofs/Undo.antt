-- Words written within a part of an area are undone by writing the part as it was. Assumes nothing.
use mathlib.Core.Bool.{Bool, true, false}
use mathlib.Core.List.{List}
use mathlib.Core.Path.{◌≡◌, refl, sym, ap, ◌∙◌}
use Prim.Native.Nat.{ℕ, ◌+◌, ◌-◌, ◌*◌, ◌<◌, ◌≤◌}
use native.Mathlib.Omega.{arith}
use borrow.Author.Tests.{leb-true, leb-false}
use lib.Dec.{leb}
use lib.ListN.{length, take, drop, length-append, length-drop, length-replicate}
use lib.Seq.{length-take-le}
use Rattle.laws.specs.Choice.{pick}
use Rattle.areas.specs.Lists.{over, padded}
use Rattle.areas.specs.Records.{store, encode}
use Rattle.areas.proofs.Lists.{length_over, over_inside, over_over, over_part}
use Rattle.areas.proofs.Records.{length_encode, store_over}
use Rattle.rules.specs.Bounds.{max_resting, max_trades, trades_with_room}
use Rattle.rules.specs.Exchange.{no_order}
use Rattle.rules.specs.Memory.{WellFormedState, order_words, put_queue, queue_stride, trade_stride, trade_words, trades_words}
use Rattle.rules.specs.declared.Order.{Order}
use Rattle.rules.specs.declared.State.{State}
use Rattle.rules.specs.declared.Trade.{Trade}
use Rattle.theory.proofs.Codecs.{order_codec, trade_codec}
use Rattle.engine.proofs.Formed.{formed}
use Rattle.quoting.specs.Placing.{Undoable, made_from}

part_length : (a : List ℕ) (at n : ℕ) → at + n ≤ length a → length (take n (drop at a)) ≡ n
part_length a at n h = length-take-le n (drop at a) (rw length-drop (omega arith))

-- one write
pub undo_write : (a : List ℕ) (at n j s : ℕ) (ys : List ℕ) → s ≡ at + j → j + length ys ≤ n → at + n ≤ length a → Undoable at n a (over a s ys)
undo_write a at n j s ys es h room =
    let p : List ℕ = take n (drop at a) in
    let lp : length p ≡ n = part_length a at n room in
    let lo : length (over p j ys) ≡ n = length_over p j ys (rw lp h) ∙ lp in
    record {
      long = length_over a s ys (omega arith);
      back = rw (es, over_inside a at n j ys h room) (over_over a at (over p j ys) (omega arith) p (lp ∙ sym lo) ∙ over_part a at n room);
    }

-- one after the other
pub undo_both : {a b d : List ℕ} (at n : ℕ) → at + n ≤ length a → Undoable at n a b → Undoable at n b d → Undoable at n a d
undo_both {a} {b} {d} at n room u v =
    let la : length (take n (drop at a)) ≡ n = part_length a at n room in
    let lb : length (take n (drop at b)) ≡ n = part_length b at n (rw u.long room) in
    record {
      long = v.long ∙ u.long;
      back =
          sym (over_over d at (take n (drop at b)) (omega (arith, v.long, u.long)) (take n (drop at a)) (la ∙ sym lb))
          ∙ ap (λ (l : List ℕ). over l at (take n (drop at a))) v.back ∙ u.back;
    }

-- ---- a queue written

pub undo_queue : (area : List ℕ) (c k : ℕ) (q : List Order) → k ≤ max_resting → length q ≤ max_resting → queue_stride * c + queue_stride ≤ length area
    → Undoable (queue_stride * c) queue_stride area (put_queue area c k q)
unfolding put_queue padded
undo_queue area c k q few short room =
    let os : List Order = padded k no_order q in
    let l : length os ≤ max_resting = rw (length-append, length-replicate) (omega arith) in
    rw (store_over order_codec area (queue_stride * c) os)
    (undo_write area (queue_stride * c) queue_stride 0 (queue_stride * c) (encode order_words os) (omega arith) (rw (length_encode order_codec os) (omega arith)) room)

-- ---- trades recorded behind the others

pub undo_trades : (area : List ℕ) (recorded : ℕ) (ts : List Trade) → length ts ≤ max_resting → recorded + length ts ≤ max_trades → trades_words ≤ length area
    → Undoable (made_from recorded) (trade_stride * max_resting) area (store trade_words area (trade_stride * recorded) ts)
undo_trades area recorded ts few fit room =
    rw (store_over trade_codec area (trade_stride * recorded) ts) (by_recorded (leb recorded trades_with_room) refl)
  where
    by_recorded : (b : Bool) → leb recorded trades_with_room ≡ b → Undoable (trade_stride * pick b recorded trades_with_room) (trade_stride * max_resting) area (over area (trade_stride * recorded) (encode trade_words ts))
    by_recorded true e =
        let h : recorded ≤ trades_with_room = leb-true recorded trades_with_room e in
        undo_write area (trade_stride * recorded) (trade_stride * max_resting) 0 (trade_stride * recorded) (encode trade_words ts) (omega arith) (rw (length_encode trade_codec ts) (omega arith)) (omega arith)
    by_recorded false e =
        let h = leb-false recorded trades_with_room e in
        undo_write area (trade_stride * trades_with_room) (trade_stride * max_resting) (trade_stride * (recorded - trades_with_room)) (trade_stride * recorded) (encode trade_words ts) (omega arith) (rw (length_encode trade_codec ts) (omega arith)) (omega arith)

-- the part that is kept of the trades lies within the day's room
pub made_room : (recorded : ℕ) → made_from recorded + trade_stride * max_resting ≤ trades_words
made_room recorded = by_recorded (leb recorded trades_with_room) refl
  where
    by_recorded : (b : Bool) → leb recorded trades_with_room ≡ b → trade_stride * pick b recorded trades_with_room + trade_stride * max_resting ≤ trades_words
    by_recorded true e =
        let h : recorded ≤ trades_with_room = leb-true recorded trades_with_room e in
        omega arith
    by_recorded false e = omega arith

-- nothing written
pub undo_nothing : (at n : ℕ) (a : List ℕ) → at + n ≤ length a → Undoable at n a a
undo_nothing at n a room = record { long = refl; back = over_part a at n room }

-- ---- what is kept before a quote is placed, and put back where it is refused

module _ {s : State} {buys sells trades : List ℕ} (w : WellFormedState s buys sells trades) where
  -- a queue of a contract in use
  pub queue_room : {c : ℕ} → c < s.contractcount → (side : Bool) {place n : ℕ} → place ≡ c → n ≡ queue_stride → queue_stride * place + n ≤ length (pick side sells buys)
  queue_room here true is en = rw (is, en) (omega (arith, (formed w).sells_room))
  queue_room here false is en = rw (is, en) (omega (arith, (formed w).buys_room))

  -- the trades that one order can make
  pub kept_room : {at n : ℕ} → at ≡ made_from s.tradecount → n ≡ trade_stride * max_resting → at + n ≤ length trades
  kept_room ea en = rw (ea, en) (omega (arith, made_room s.tradecount, (formed w).trades_room))

-- an area is as it was once the words kept of it are put back
pub undone : {at n : ℕ} {before after : List ℕ} → Undoable at n before after → {at' n' : ℕ} → at' ≡ at → n' ≡ n
    → {kept back : List ℕ} → kept ≡ take n' (drop at' before) → back ≡ over after at' kept → back ≡ before
undone u ea en e h = h ∙ rw (e, ea, en) u.back
