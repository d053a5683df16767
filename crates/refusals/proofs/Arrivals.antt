-- What is read of the opposite queue on an order's arrival: its best price, how many trades there can be, and the lots that can be
-- filled. Assumes nothing.
use mathlib.Core.Bool.{Bool, true, false, ◌&&◌}
use mathlib.Core.List.{List, [], ◌∷◌}
use mathlib.Core.Path.{◌≡◌, refl, sym, ap, ◌∙◌}
use Prim.Native.Nat.{ℕ, suc, ◌+◌, ◌-◌, ◌≤◌}
use native.Mathlib.Omega.{arith}
use borrow.Author.Tests.{le-ltb}
use lib.Dec.{ltb}
use lib.ListN.{length, get_or}
use Rattle.laws.specs.Choice.{pick}
use Rattle.rules.specs.Answers.{no_room_for, trades_against}
use Rattle.rules.specs.Bounds.{in_auction, max_resting, max_trades, trades_with_room}
use Rattle.book.specs.EarlyStop.{count_trades, fillable_front}
use Rattle.rules.specs.Exchange.{best_price, no_order}
use Rattle.rules.specs.Matching.{counterpart, fillable}
use Rattle.rules.specs.declared.Contract.{Contract}
use Rattle.rules.specs.declared.Order.{Order}
use Rattle.rules.specs.declared.Taker.{Taker}
use Rattle.book.proofs.EarlyStop.{front_fillable, trades_counted}
use Rattle.book.specs.Places.{front}
use Rattle.refusals.specs.Insertion.{Facing}
use Rattle.std.proofs.Common.{None, Some}

-- ---- the best price

best_at : (queue : List Order) → best_price queue ≡ (get_or queue 0 no_order).price
unfolding best_price
best_at [] = refl
best_at (o ∷ os) = refl

best_empty : (queue : List Order) → length queue ≡ 0 → best_price queue ≡ 0
unfolding best_price
best_empty [] e = refl
best_empty (o ∷ os) e = absurd (omega arith)

-- the best price is that of the order in front
pub best_none : (os : List Order) → front os ≡ None → 0 ≡ best_price os
best_none [] e = sym (best_empty [] refl)
best_none (o ∷ os) e = cc

pub best_there : (os : List Order) {o : Order} → front os ≡ Some o → o.price ≡ best_price os
best_there [] e = cc
best_there (p ∷ os) {o} e = let same : p ≡ o = cc in ap (λ (q : Order). q.price) (sym same) ∙ sym (best_at (p ∷ os))

-- ---- the trades: at most one with each order

pub count_within : (t : Taker) (left : ℕ) (os : List Order) → count_trades t left os ≤ length os
unfolding count_trades
count_within t left [] = omega arith
count_within t left (o ∷ os) = by_trade (ltb 0 left && counterpart t o) (count_within t (left - o.lots) os)
  where
    by_trade : (b : Bool) → count_trades t (left - o.lots) os ≤ length os → pick b (1 + count_trades t (left - o.lots) os) 0 ≤ suc (length os)
    by_trade true h = omega arith
    by_trade false h = omega arith

-- 12: in auction there are none; up to `trades_with_room` recorded trades there is room for one with each order
module _ (terms : Contract) (t : Taker) (lots : ℕ) (queue : List Order) (few : length queue ≤ max_resting) where
  pub few_trades : count_trades t lots queue ≤ max_resting
  few_trades = omega (arith, count_within t lots queue, few)

  pub trades_none : (recorded : ℕ) → recorded ≤ max_trades → in_auction terms ≡ true → false ≡ no_room_for recorded (trades_against terms t lots queue)
  unfolding trades_against
  trades_none recorded h e = sym (rw e (le-ltb max_trades (recorded + 0) (omega arith)))

  module _ (elsewhere : in_auction terms ≡ false) where
    trades_are : trades_against terms t lots queue ≡ count_trades t lots queue
    unfolding trades_against
    trades_are = rw elsewhere (trades_counted t lots terms.last queue)

    pub trades_fit : (recorded : ℕ) → recorded ≤ trades_with_room → false ≡ no_room_for recorded (trades_against terms t lots queue)
    trades_fit recorded h = sym (rw trades_are (le-ltb max_trades (recorded + count_trades t lots queue) (omega (arith, few_trades))))

    pub trades_told : (recorded : ℕ) {n : ℕ} → n ≡ count_trades t lots queue → ltb max_trades (recorded + n) ≡ no_room_for recorded (trades_against terms t lots queue)
    trades_told recorded e = rw (trades_are, e) refl

-- ---- the lots that can be filled

pub facing_fillable : {t : Taker} {queue : List Order} → Facing t queue → fillable_front t queue ≡ fillable t queue
facing_fillable {t} {queue} f = front_fillable t queue f.order f.best
