-- Its parts in turn. Assumes nothing.
use Rattle.rules.specs.Lines.{fields_of, answer_line}
use Rattle.endian.proofs.Writes.{then}
use Rattle.lines.proofs.line.put_answer.Goals as goal

pub returns : goal.returns
unfolding fields_of answer_line
returns c =
    then c.put_first-command.ensures
    (then (rw c.from.ensures at c.put_field-code.ensures)
    (then (rw c.from-2.ensures at c.put_field-order.ensures)
    (then (rw c.from-3.ensures at c.put_field-traded.ensures)
    (rw c.from-4.ensures at c.put_last.ensures))))
