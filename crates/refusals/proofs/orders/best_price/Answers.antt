-- What `orders::best_price` leaves: the order in front, if there is one. Assumes nothing.
use Rattle.std.proofs.Common.{sym, ◌∙◌}
use Rattle.refusals.proofs.Arrivals.{best_none, best_there}
use Rattle.refusals.proofs.orders.best_price.Goals as goal

pub returns-in-Some : goal.returns-in-Some
returns-in-Some c = best_there _ (sym c.best.ensures ∙ c.in-Some.is)

pub returns-in-None : goal.returns-in-None
returns-in-None c = best_none _ (sym c.best.ensures ∙ c.in-None.is)
