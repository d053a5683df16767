-- The refusals in their order, then the state. Assumes nothing.
use Rattle.std.proofs.Common.{sym}
use Rattle.rules.specs.Memory.{memory}
use Rattle.engine.proofs.Declared.{declared}
use Rattle.saving.proofs.Loads.{given, counts_are, formed_20, loaded_0, marks_20, misshapen_20, room_29, totals_30}
use Rattle.saving.proofs.read_state.Goals as goal

pub returns-in_default : goal.returns-in_default
returns-in_default c = rw c.not_loaded.ensures (misshapen_20 _ _ c.in_default.ensures)

pub returns-then-not-marks_sound : goal.returns-then-not-marks_sound
returns-then-not-marks_sound c =
    let e = c.in-Some.ensures in
    rw c.not_loaded-then-not-marks_sound.ensures (marks_20 _ _ e.1 e.0 c.in-Some.saved.laid (sym c.if-not-marks_sound.ensures))

pub returns-then-not-is_formed : goal.returns-then-not-is_formed
returns-then-not-is_formed c =
    let a = c.args in
    let g =
    given (memory a.state a.buys.now a.sells.now a.trades.now) c.in-Some.ensures.1 c.in-Some.ensures.0 c.in-Some.saved.laid
    (declared c.well_formed.1.0) (sym c.if-not-marks_sound.ensures) c.loaded_state-loaded.ensures in
    rw c.not_loaded-then-not-is_formed.ensures (formed_20 g (sym c.if-not-is_formed.ensures))

pub all_equal-requires : goal.all_equal-requires
all_equal-requires c = let laid = c.in-Some.saved.laid in (laid.few_accounts, laid.few_contracts)

pub returns-then-not-all_equal : goal.returns-then-not-all_equal
returns-then-not-all_equal c =
    let a = c.args in
    let g =
    given (memory a.state a.buys.now a.sells.now a.trades.now) c.in-Some.ensures.1 c.in-Some.ensures.0 c.in-Some.saved.laid
    (declared c.well_formed.1.0) (sym c.if-not-marks_sound.ensures) c.loaded_state-loaded.ensures in
    rw c.not_loaded-then-not-all_equal.ensures (totals_30 g (sym c.if-not-is_formed.ensures) (sym c.if-not-all_equal.ensures))

pub has_room-requires : goal.has_room-requires
has_room-requires c =
    let a = c.args in
    let g =
    given (memory a.state a.buys.now a.sells.now a.trades.now) c.in-Some.ensures.1 c.in-Some.ensures.0 c.in-Some.saved.laid
    (declared c.well_formed.1.0) (sym c.if-not-marks_sound.ensures) c.loaded_state-loaded.ensures in
    counts_are g

pub returns-then-not-has_room : goal.returns-then-not-has_room
returns-then-not-has_room c =
    let a = c.args in
    let g =
    given (memory a.state a.buys.now a.sells.now a.trades.now) c.in-Some.ensures.1 c.in-Some.ensures.0 c.in-Some.saved.laid
    (declared c.well_formed.1.0) (sym c.if-not-marks_sound.ensures) c.loaded_state-loaded.ensures in
    rw c.not_loaded-then-not-has_room.ensures
    (room_29 g (sym c.if-not-is_formed.ensures) (sym c.if-not-all_equal.ensures) (sym c.if-not-has_room.ensures))

pub returns : goal.returns
returns c =
    let a = c.args in
    let g =
    given (memory a.state a.buys.now a.sells.now a.trades.now) c.in-Some.ensures.1 c.in-Some.ensures.0 c.in-Some.saved.laid
    (declared c.well_formed.1.0) (sym c.if-not-marks_sound.ensures) c.loaded_state-loaded.ensures in
    loaded_0 g (sym c.if-not-is_formed.ensures) (sym c.if-not-all_equal.ensures) (sym c.if-not-has_room.ensures)
