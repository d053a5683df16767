-- What `quoting::quote` leaves: the tests on the state alone, the room of what is kept, both orders at rest. Assumes
-- nothing.
use Rattle.std.proofs.Common.{true, false, refl, sym, ◌∙◌, arith}
use Rattle.theory.proofs.Codes.{not_accepted}
use Rattle.engine.proofs.Decisions.{held_here, refusal_decided, refusal_passed}
use Rattle.engine.proofs.Formed.{formed, no_account_lem}
use Rattle.quoting.proofs.Placing.{contract_low, early_refused, here, named_passed, part_room}
use Rattle.quoting.proofs.Resting.{quote_rests}
use Rattle.quoting.proofs.quote.Goals as goal

pub early_code-requires : goal.early_code-requires
early_code-requires c = ((formed c.requires.0).contracts_high, (formed c.requires.0).accounts_high)

pub returns-in_err-early_code : goal.returns-in_err-early_code
returns-in_err-early_code c =
    let q = c.args.q in
    refusal_decided (early_refused c.requires.0 q.account q.contract q.lots q.buy q.sell (c.in_err-early_code.ensures
    c.requires.0.declared _ _ _) (not_accepted _) refl) (refusal_passed _ _ c.from_residual.ensures.1)

pub place_of-queue-requires : goal.place_of-queue-requires
place_of-queue-requires c =
    let q = c.args.q in
    contract_low c.requires.0 q.account q.contract q.lots q.buy q.sell (sym (c.in_ok-early_code.ensures c.requires.0.declared _ _ _))

pub keep-requires : goal.keep-requires
keep-requires c =
    let q = c.args.q in
    part_room c.requires.0 q.account q.contract q.lots q.buy q.sell (sym (c.in_ok-early_code.ensures c.requires.0.declared _ _ _)) false c.place_of-queue.ensures refl

pub keep-requires-2 : goal.keep-requires-2
keep-requires-2 c =
    let q = c.args.q in
    part_room c.requires.0 q.account q.contract q.lots q.buy q.sell (sym (c.in_ok-early_code.ensures c.requires.0.declared _ _ _)) true c.place_of-queue.ensures refl

pub rest_both-requires : goal.rest_both-requires
rest_both-requires c =
    let q = c.args.q in
    let none = sym (c.in_ok-early_code.ensures c.requires.0.declared c.args.buys.now c.args.sells.now c.args.trades.now) in
    (c.requires.0, none, held_here c.args.state.now q.account (sym (no_account_lem _ (formed c.requires.0) _) ∙ (named_passed _ _ _ q.buy q.sell none).0) c.requires.1)

pub put_back-requires : goal.put_back-requires
put_back-requires c =
    let q = c.args.q in
    omega (
      arith,
      part_room c.requires.0 q.account q.contract q.lots q.buy q.sell (sym (c.in_ok-early_code.ensures c.requires.0.declared _ _ _)) false c.place_of-queue.ensures refl,
      (rw c.in-Ok-None.field-0-is at c.in-Ok-None.ensures).of_buys.long,
    )

pub put_back-requires-in-Ok-None : goal.put_back-requires-in-Ok-None
put_back-requires-in-Ok-None c =
    let q = c.args.q in
    omega (
      arith,
      part_room c.requires.0 q.account q.contract q.lots q.buy q.sell (sym (c.in_ok-early_code.ensures c.requires.0.declared _ _ _)) true c.place_of-queue.ensures refl,
      (rw c.in-Ok-None.field-0-is at c.in-Ok-None.ensures).of_sells.long,
    )

pub put_back-requires-in-Err : goal.put_back-requires-in-Err
put_back-requires-in-Err c =
    let q = c.args.q in
    omega (
      arith,
      part_room c.requires.0 q.account q.contract q.lots q.buy q.sell (sym (c.in_ok-early_code.ensures c.requires.0.declared _ _ _)) false c.place_of-queue.ensures refl,
      c.in-Err.ensures.back.of_buys.long,
    )

pub put_back-requires-in-Err-2 : goal.put_back-requires-in-Err-2
put_back-requires-in-Err-2 c =
    let q = c.args.q in
    omega (
      arith,
      part_room c.requires.0 q.account q.contract q.lots q.buy q.sell (sym (c.in_ok-early_code.ensures c.requires.0.declared _ _ _)) true c.place_of-queue.ensures refl,
      c.in-Err.ensures.back.of_sells.long,
    )

pub returns-in-Ok-Some : goal.returns-in-Ok-Some
returns-in-Ok-Some c =
    let q = c.args.q in
    let both = rw c.in-Ok-Some.field-0-is at c.in-Ok-Some.ensures in
    quote_rests both (omega (
      arith,
      both.place,
      here c.requires.0 q.account q.contract q.lots q.buy q.sell (sym (c.in_ok-early_code.ensures c.requires.0.declared _ _ _)),
      (formed c.requires.0).contracts_high,
    ))
