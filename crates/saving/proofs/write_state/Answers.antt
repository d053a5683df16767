-- The refusals in their order, then the file. Assumes nothing.
use Rattle.std.proofs.Common.{sym}
use Rattle.engine.proofs.Declared.{declared}
use Rattle.saving.proofs.Writes.{by_0, by_21, by_28, by_29, few, fitting}
use Rattle.saving.proofs.write_state.Goals as goal

pub returns-then-not-well_formed : goal.returns-then-not-well_formed
returns-then-not-well_formed c = rw c.not_written.ensures (by_21 _ _ (sym c.if-not-well_formed.ensures))

pub is_writable-requires : goal.is_writable-requires
is_writable-requires c =
    let f = few _ (declared c.well_formed.0) (sym c.if-not-well_formed.ensures) in
    (f.contracts_high, f.accounts_high)

pub returns-then-not-is_writable : goal.returns-then-not-is_writable
returns-then-not-is_writable c =
    rw c.not_written-then-not-is_writable.ensures
    (by_28 _ (declared c.well_formed.0) (sym c.if-not-well_formed.ensures) _ (sym c.if-not-is_writable.ensures))

pub file_length-length-requires : goal.file_length-length-requires
file_length-length-requires c =
    let f = few _ (declared c.well_formed.0) (sym c.if-not-well_formed.ensures) in
    (f.contracts_high, f.accounts_high)

pub returns-then-out-length : goal.returns-then-out-length
returns-then-out-length c =
    rw c.not_written-then-out-length.ensures
    (by_29 _ (declared c.well_formed.0) (sym c.if-not-well_formed.ensures) _ (sym c.if-not-is_writable.ensures) _ c.file_length-length.ensures.0 c.if-out-length.true)

pub put_state-requires : goal.put_state-requires
put_state-requires c =
    fitting _ (declared c.well_formed.0) (sym c.if-not-well_formed.ensures) _ (sym c.if-not-is_writable.ensures) _
    c.file_length-length.ensures.0 c.if-out-length.false

pub returns : goal.returns
returns c =
    by_0 _ (declared c.well_formed.0) (sym c.if-not-well_formed.ensures) _ (sym c.if-not-is_writable.ensures) _
    c.file_length-length.ensures.0 c.if-out-length.false c.put_state.ensures
