-- What `quoting::trade` leaves: the tests on the state alone, and the room of what is kept. Assumes nothing.
use Rattle.std.proofs.Common.{true, false, refl, sym, arith}
use Rattle.theory.proofs.Codes.{not_accepted}
use Rattle.engine.proofs.Formed.{formed}
use Rattle.quoting.proofs.Placing.{contract_low, early_refused, part_room}
use Rattle.quoting.proofs.Undo.{kept_room}
use Rattle.quoting.proofs.trade.Goals as goal

pub early_code-requires : goal.early_code-requires
early_code-requires c = ((formed c.requires).contracts_high, (formed c.requires).accounts_high)

pub returns-in-Err : goal.returns-in-Err
returns-in-Err c =
    let q = c.args.q in
    early_refused c.requires q.account q.contract q.lots q.buy q.sell
    (c.in-Err.ensures c.requires.declared _ _ _) (not_accepted _) (rw c.number.ensures at c.refused.ensures)

pub place_of-queue-requires : goal.place_of-queue-requires
place_of-queue-requires c =
    let q = c.args.q in
    contract_low c.requires q.account q.contract q.lots q.buy q.sell (sym (c.in_default.ensures c.requires.declared _ _ _))

pub first_made-recorded-requires : goal.first_made-recorded-requires
first_made-recorded-requires c = (formed c.requires).trades_high

pub keep-requires : goal.keep-requires
keep-requires c =
    let q = c.args.q in
    part_room c.requires q.account q.contract q.lots q.buy q.sell (sym (c.in_default.ensures c.requires.declared _ _ _)) false c.place_of-queue.ensures refl

pub keep-requires-2 : goal.keep-requires-2
keep-requires-2 c =
    let q = c.args.q in
    part_room c.requires q.account q.contract q.lots q.buy q.sell (sym (c.in_default.ensures c.requires.declared _ _ _)) true c.place_of-queue.ensures refl

pub keep-requires-3 : goal.keep-requires-3
keep-requires-3 c = kept_room c.requires c.first_made-recorded.ensures refl

pub put_back-requires : goal.put_back-requires
put_back-requires c =
    let q = c.args.q in
    omega (
      arith,
      part_room c.requires q.account q.contract q.lots q.buy q.sell (sym (c.in_default.ensures c.requires.declared _ _ _)) false c.place_of-queue.ensures refl,
      (c.in-Err-place.ensures.outcome.buys_back (not_accepted _)).long,
    )

pub put_back-requires-in-Err-place : goal.put_back-requires-in-Err-place
put_back-requires-in-Err-place c =
    let q = c.args.q in
    omega (
      arith,
      part_room c.requires q.account q.contract q.lots q.buy q.sell (sym (c.in_default.ensures c.requires.declared _ _ _)) true c.place_of-queue.ensures refl,
      (c.in-Err-place.ensures.outcome.sells_back (not_accepted _)).long,
    )

pub put_back-requires-in-Err-place-2 : goal.put_back-requires-in-Err-place-2
put_back-requires-in-Err-place-2 c =
    omega (arith, kept_room c.requires c.first_made-recorded.ensures refl, (c.in-Err-place.ensures.outcome.trades_back (not_accepted _)).long)
