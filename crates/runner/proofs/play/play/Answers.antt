-- Assumes nothing.
use Rattle.std.proofs.Common.{◌≡◌, ap, arith}
use Rattle.rules.specs.Command.{command_of}
use Rattle.runner.proofs.Playing.{all_played, one_more, part_begun, room_played, still_formed}
use Rattle.runner.proofs.play.play.Goals as goal

pub loop-i-init : goal.loop-i-init
loop-i-init c = search part_begun

pub returns-then-out-at-lt-COMMAND_MOST : goal.returns-then-out-at-lt-COMMAND_MOST
returns-then-out-at-lt-COMMAND_MOST c = search room_played

pub play_record-t-requires : goal.play_record-t-requires
play_record-t-requires c =
    (still_formed _ _ c.requires c.loop-i.invariant, omega (arith, c.if-out-at-lt-COMMAND_MOST.false, c.loop-i.invariant.lines.inside, c.loop-i.invariant.lines.kept))

pub loop-i-preserved : goal.loop-i-preserved
loop-i-preserved c =
    let play = c.play_record-t in
    one_more _ _ c.requires c.loop-i.invariant (omega (arith, c.loop-i-test.true, c.commands_in-n.ensures))
    (ap command_of c.record_of-r.ensures) play.ensures play.auto.buys play.auto.sells play.auto.trades

pub returns : goal.returns
returns c =
    let e : c.loop-i.i ≡ c.commands_in-n.result = omega (arith, c.commands_in-n.ensures, c.loop-i.invariant.within) in
    rw (← e) (all_played _ _ c.requires c.loop-i.invariant (omega (arith, c.commands_in-n.ensures, c.loop-i-test.false)))
