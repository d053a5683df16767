-- Resting orders and the day's trades cleared from their areas: what the cleared parts make of the whole area. Assumes nothing.
use borrow.Rule.Slice.PartMut.{put_mid}
use Rattle.laws.specs.Logic.{List, [], ◌++◌, ◌≡◌, refl, sym, ap, ◌∙◌}
use Rattle.laws.specs.Numbers.{ℕ, ◌+◌, ◌-◌, ◌*◌, ◌<◌, ◌≤◌, add-one, arith, length, get_or, take, drop, replicate}
use Rattle.areas.proofs.Changes.{emptied}
use Rattle.rules.specs.Exchange.{no_order, no_trade}
use Rattle.rules.specs.Memory.{put_queue, put_queues, put_trades, queue_stride, trade_stride, first_word}
use Rattle.rules.specs.declared.Order.{Order}
use Rattle.theory.proofs.Codecs.{order_codec, trade_codec, length_put_queue}
use Rattle.settlement.specs.Settling.{Clearable}

-- a queue cleared
one_queue : (area : List ℕ) (c n : ℕ) (part : List ℕ) → first_word c n ≤ length area → part ≡ replicate (length (take (first_word c n - queue_stride * c) (drop (queue_stride * c) area))) 0
    → put_mid (queue_stride * c) (first_word c n - queue_stride * c) area part ≡ put_queue area c n []
unfolding put_queue
one_queue area c n part room e = emptied order_codec area (queue_stride * c) n no_order refl (first_word c n) part refl room e

next_queue : (area counts : List ℕ) (queues : ℕ → List Order) (c : ℕ) → put_queue (put_queues area counts queues c) c (get_or counts c 0) (queues c) ≡ put_queues area counts queues (c + 1)
unfolding put_queues
next_queue area counts queues c = rw (add-one c)

-- ---- the loop over the contracts: the queues of the first c are cleared

pub record Clearing (area₀ counts : List ℕ) (contracts c : ℕ) (area : List ℕ) : Type 0 where
  pub within : c ≤ contracts
  pub cleared : area ≡ put_queues area₀ counts (λ c. []) c
  pub long : length area ≡ length area₀

pub clearing_none : (area counts : List ℕ) (contracts : ℕ) → Clearing area counts contracts 0 area
unfolding put_queues
clearing_none area counts contracts = record { within = omega arith; cleared = refl; long = refl }

module _ (area₀ counts : List ℕ) (contracts : ℕ) (g : Clearable area₀ counts contracts) (c : ℕ) (area : List ℕ) (h : c < contracts)
    (w : Clearing area₀ counts contracts c area) where
  -- the part of the area that the queue takes up
  pub queue_room : first_word c (get_or counts c 0) ≤ length area
  queue_room = omega (arith, g.counts c h, g.room, w.long)

  pub clearing_more : (part : List ℕ)
      → part ≡ replicate (length (take (first_word c (get_or counts c 0) - queue_stride * c) (drop (queue_stride * c) area))) 0
      → Clearing area₀ counts contracts (c + 1) (put_mid (queue_stride * c) (first_word c (get_or counts c 0) - queue_stride * c) area part)
  clearing_more part e =
      let p : put_mid (queue_stride * c) (first_word c (get_or counts c 0) - queue_stride * c) area part ≡ put_queue area c (get_or counts c 0) [] = one_queue area c (get_or counts c 0) part queue_room e in
      record {
        within = omega arith;
        cleared = p ∙ ap (λ (a : List ℕ). put_queue a c (get_or counts c 0) []) w.cleared ∙ next_queue area₀ counts (λ c. []) c;
        long = ap length p ∙ length_put_queue area c (get_or counts c 0) [] (g.counts c h) (omega arith) (omega (arith, g.room, w.long)) ∙ w.long;
      }

-- ---- the trades, at the front of their area

pub trades_cleared : (area : List ℕ) (n : ℕ) (part : List ℕ) → trade_stride * n ≤ length area → part ≡ replicate (length (take (trade_stride * n) area)) 0
    → part ++ drop (trade_stride * n) area ≡ put_trades area n []
unfolding put_trades
trades_cleared area n part room e =
    let f : trade_stride * n - 0 ≡ trade_stride * n = omega arith in
    ap (λ (k : ℕ). part ++ drop k area) (sym f)
    ∙ emptied trade_codec area 0 n no_trade refl (trade_stride * n) part (omega arith) room (e ∙ ap (λ (k : ℕ). replicate (length (take k area)) 0) (sym f))
