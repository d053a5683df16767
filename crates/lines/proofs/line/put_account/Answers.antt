-- Its parts in turn. Assumes nothing.
use mir.Facts.{to_z-of_z}
use Rattle.rules.specs.Lines.{fields_of}
use Rattle.endian.proofs.Writes.{then}
use Rattle.lines.proofs.line.put_account.Goals as goal

pub returns : goal.returns
unfolding fields_of
returns c =
    rw (to_z-of_z c.ranges.closing, to_z-of_z c.ranges.holding, to_z-of_z c.ranges.balance)
    at (then (rw c.from.ensures at c.put_first-account.ensures)
    (then c.put_signed_field-closed.ensures
    (then c.put_signed_field-held.ensures
    (then c.put_signed_field-owned.ensures
    c.put_last.ensures))))
