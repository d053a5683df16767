-- What `basket::submit` leaves: refused whole by `refusal`, or all carried out by `answer_all`. Assumes nothing.
use Rattle.std.proofs.Common.{refl, sym}
use Rattle.theory.proofs.Codes.{not_accepted}
use Rattle.engine.proofs.Declared.{declared}
use Rattle.baskets.proofs.Bundles.{all_carried, not_refused, refused}
use Rattle.baskets.proofs.basket.submit.Goals as goal

pub returns-in-Err : goal.returns-in-Err
returns-in-Err c = refused _ (declared c.well_formed.0) _ _ _ _ c.in-Err.ensures (not_accepted _) c.number.ensures

pub answer_all-next-requires : goal.answer_all-next-requires
answer_all-next-requires c =
    let free = not_refused _ _ _ (sym c.in_default.ensures) in
    (sym free.formed, free.few, free.room)

pub returns : goal.returns
returns c =
    all_carried _ (declared c.well_formed.0) _ _ _ (sym c.in_default.ensures) refl c.answer_all-next.ensures.trades_after c.answer_all-next.ensures.answers_after
