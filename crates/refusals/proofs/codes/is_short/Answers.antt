-- What `codes::is_short` leaves: on a sorted queue reading stops at the first order that is no counterpart. Assumes nothing.
use Rattle.refusals.proofs.Arrivals.{facing_fillable}
use Rattle.refusals.proofs.codes.is_short.Goals as goal

pub returns : goal.returns
returns c = rw (c.from.ensures, c.fillable_front.ensures, facing_fillable c.requires)
