-- The price of the order that is found, 0 of none. Assumes nothing.
use Rattle.laws.specs.Logic.{sym, ◌∙◌}
use Rattle.auction.proofs.Levels.{first_found, first_none}
use Rattle.auction.proofs.price.first_price.Goals as goal

pub returns-in-Some : goal.returns-in-Some
returns-in-Some c = first_found _ _ (rw (c.best.ensures, c.best-2.ensures) at (sym c.or.ensures ∙ c.in-Some.is))

pub returns-in-None : goal.returns-in-None
returns-in-None c = first_none _ _ (rw (c.best.ensures, c.best-2.ensures) at (sym c.or.ensures ∙ c.in-None.is))
