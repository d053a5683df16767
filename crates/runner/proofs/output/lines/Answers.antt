-- The refusals in their order, then the part of a broken or of a sound file. Assumes nothing.
use Rattle.std.proofs.Common.{sym, arith}
use Rattle.engine.proofs.Declared.{declared}
use Rattle.runner.proofs.WholeOutput.{formed_state, not_formed, printed_part, too_short}
use Rattle.runner.proofs.output.lines.Goals as goal

pub returns-then-not-can_play : goal.returns-then-not-can_play
returns-then-not-can_play c = rw (c.nothing.ensures, c.number.ensures) (not_formed _ _ _ _ _ _ _ (sym c.if-not-can_play.ensures))

pub returns-then-out-lt-COMMAND_MOST : goal.returns-then-out-lt-COMMAND_MOST
returns-then-out-lt-COMMAND_MOST c =
    rw (c.nothing-then-out-lt-COMMAND_MOST.ensures, c.number-then-out-lt-COMMAND_MOST.ensures)
    (too_short _ _ _ _ _ _ _ (sym c.if-not-can_play.ensures) (omega (arith, c.if-out-lt-COMMAND_MOST.true)))

pub returns-in_default : goal.returns-in_default
returns-in_default c = printed_part _ _ _ _ _ _ _ (sym c.if-not-can_play.ensures) (omega (arith, c.if-out-lt-COMMAND_MOST.false)) (c.print_broken.ensures _ _ _)

pub print_sound-requires : goal.print_sound-requires
print_sound-requires c =
    let whole = rw c.in-Some.ensures at c.in-Some.sound.sound in
    rw c.in-Some.ensures
    (record {
      whole = whole;
      within = omega arith;
      formed = record { declared = declared c.well_formed.1.0; formed = formed_state _ c.args.next _ _ _ _ c.args.out.now (sym c.if-not-can_play.ensures) whole };
      room = omega (arith, c.if-out-lt-COMMAND_MOST.false);
    })

pub returns : goal.returns
returns c = printed_part _ _ _ _ _ _ _ (sym c.if-not-can_play.ensures) (omega (arith, c.if-out-lt-COMMAND_MOST.false)) (rw c.in-Some.ensures at c.print_sound.ensures)
