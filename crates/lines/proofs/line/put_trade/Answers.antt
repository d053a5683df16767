-- Its parts in turn. Assumes nothing.
use Rattle.rules.specs.Lines.{fields_of, trade_line}
use Rattle.endian.proofs.Writes.{then}
use Rattle.lines.proofs.line.put_trade.Goals as goal

pub returns : goal.returns
unfolding fields_of trade_line
returns c =
    then c.put_first-trade.ensures
    (then (rw c.from.ensures at c.put_field-contract.ensures)
    (then (rw c.from-2.ensures at c.put_field-price.ensures)
    (then (rw c.from-3.ensures at c.put_field-lots.ensures)
    (then (rw c.from-4.ensures at c.put_field-buyer.ensures)
    (rw c.from-5.ensures at c.put_last.ensures)))))
