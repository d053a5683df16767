-- What `answers::put_answer` leaves: the part that is lent holds the answer's words. Assumes nothing.
use Rattle.std.proofs.Common.{◌∙◌, ◌*◌, ap, arith}
use Rattle.areas.specs.Lists.{over}
use Rattle.areas.proofs.Moves.{lent_over}
use Rattle.baskets.specs.Bundle.{answer_stride}
use Rattle.baskets.proofs.Answering.{stored_answer}
use Rattle.baskets.proofs.answers.put_answer.Goals as goal

pub returns : goal.returns
returns c =
    lent_over _ _ _ _ (omega arith) (omega (arith, c.copy_from_slice.ensures.len))
    ∙ ap (over c.args.area.now (answer_stride * c.args.k)) c.copy_from_slice.ensures.after ∙ stored_answer _ _ c.args.a
