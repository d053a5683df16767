-- What `list::run` leaves: the audit tells, and `answer_records` plays as many as there are places. Assumes nothing.
use Rattle.std.proofs.Common.{refl}
use Rattle.engine.proofs.Declared.{declared}
use Rattle.baskets.proofs.Bundles.{list_answered}
use Rattle.baskets.proofs.list.run.Goals as goal

pub returns : goal.returns
returns c = list_answered _ (declared c.well_formed.0) _ _ c.min-count.ensures refl c.answer_records-next.ensures.trades_after c.answer_records-next.ensures.answers_after
