-- No bid, no offer, or both.
use Rattle.laws.specs.Logic.{sym, ◌∙◌}
use Rattle.dayprofit.proofs.Quoting.{no_bid, no_offer, both_quoted}
use Rattle.dayprofit.proofs.price.quoted.Goals as goal

pub returns-in_default : goal.returns-in_default
returns-in_default c = no_bid _ _ _ (sym c.best.ensures ∙ c.in_default.is)

pub returns-in_default-best : goal.returns-in_default-best
returns-in_default-best c = no_offer _ _ _ (sym c.best-2.ensures ∙ c.in_default-best.is)

pub returns : goal.returns
returns c =
    both_quoted _ _ _ (sym c.best.ensures ∙ c.in-Some.is) (sym c.best-2.ensures ∙ c.in-Some-best.is) c.middle.ensures
