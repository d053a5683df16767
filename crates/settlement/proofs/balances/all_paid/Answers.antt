-- The day's sums, and what each account is paid from them.
use Rattle.std.proofs.Common.{refl}
use Rattle.dayprofit.proofs.Trading.{placed_day}
use Rattle.settlement.proofs.Carrying.{balance_at, paying_none, closing_reach, holding_reach, paying_more, paying_done}
use Rattle.settlement.proofs.Totals.{day_summed}
use Rattle.settlement.proofs.balances.all_paid.Goals as goal

pub add_up-requires : goal.add_up-requires
add_up-requires c = rw c.new-day.ensures (placed_day c.requires.placed, refl, refl)

pub add_up-requires-2 : goal.add_up-requires-2
add_up-requires-2 c = rw c.new-day.ensures (placed_day c.requires.placed, refl, refl)

pub take_first-requires : goal.take_first-requires
take_first-requires c = rw c.new-day.ensures (placed_day c.requires.placed, c.put_all_due.auto.left, refl)

-- the sums are the day's, in rooms of one word for each slot
pub loop-a-init : goal.loop-a-init
loop-a-init c = (
  day_summed c.requires
      (record {
        closing = rw c.new-day.ensures at c.add_up.ensures;
        opening = rw c.new-day.ensures at c.add_up-2.ensures;
        due = c.put_all_due.ensures;
        taken = rw c.new-day.ensures at c.take_first.ensures.0;
      })
      (record {
        closed_room = c.add_up.auto.lots;
        closes_room = c.add_up.auto.value;
        opened_room = c.add_up-2.auto.lots;
        opens_room = c.add_up-2.auto.value;
        used_room = c.take_first.auto.used;
      }),
  paying_none _ _ _,
)

pub total-p-requires : goal.total-p-requires
total-p-requires c = c.loop-a.invariant.0.totallable _ c.loop-a-test.true

pub paid-requires : goal.paid-requires
paid-requires c =
    let inv = c.loop-a.invariant in
    let gained = inv.0.total _ c.loop-a-test.true c.total-p.ensures in
    let pre = inv.0.payable in
    (pre.contracts, balance_at pre c.loop-a-test.true, closing_reach pre inv.1 gained, holding_reach pre inv.1 gained)

pub loop-a-preserved : goal.loop-a-preserved
loop-a-preserved c =
    let inv = c.loop-a.invariant in
    let gained = inv.0.total _ c.loop-a-test.true c.total-p.ensures in
    (inv.0, paying_more inv.0.payable inv.1 gained c.loop-a-test.true c.paid.ensures)

pub returns : goal.returns
returns c = paying_done c.loop-a.invariant.0.payable c.loop-a.invariant.1 c.loop-a-test.false
