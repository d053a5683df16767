-- None of another contract's trade, all of this one's.
use Rattle.dayprofit.proofs.Trading.{part_none, part_all}
use Rattle.dayprofit.proofs.price.part.Goals as goal

pub returns-then-t-contract : goal.returns-then-t-contract
returns-then-t-contract c = part_none _ _ c.if-t-contract.true

pub returns : goal.returns
returns c = rw (c.from.ensures, c.from-lots.ensures) (part_all _ _ c.if-t-contract.false)
