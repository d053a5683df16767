-- Both parts fit, and are those of the two sides.
use Rattle.dayprofit.proofs.Gains.{profit_is}
use Rattle.dayprofit.proofs.profit.profit_of.Goals as goal

pub returns : goal.returns
returns c =
    let pre = c.requires in
    let d = c.difference in
    let e = c.difference-2 in
    profit_is _ _ pre.0 pre.1 _ pre.2 _ _ (record { sfits = d.type_inv }) (record { sfits = e.type_inv }) d.ensures
    (rw (c.from-mark.ensures, c.from.ensures, c.from-2.ensures) at e.ensures)
