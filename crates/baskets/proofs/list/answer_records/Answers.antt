-- What `list::answer_records` leaves: one more command is answered, and all are. Assumes nothing.
use Rattle.std.proofs.Common.{sym, ap, ◌∙◌, arith}
use Rattle.rules.specs.Command.{command_of}
use Rattle.baskets.proofs.Answering.{all_first, answering_more, answering_none, command_at, length_first, still_known}
use Rattle.baskets.proofs.list.answer_records.Goals as goal

pub loop-k-init : goal.loop-k-init
loop-k-init c = answering_none _ _ _

pub answer_command-current-requires : goal.answer_command-current-requires
answer_command-current-requires c = (still_known c.loop-k.invariant _ c.requires.0, omega (arith, c.requires.2))

pub loop-k-preserved : goal.loop-k-preserved
loop-k-preserved c =
    answering_more c.loop-k.invariant (omega (arith, length_first c.args.bytes.now c.args.count))
    (command_at _ _ _ c.loop-k-test.true ∙ sym (c.command_of-command.ensures ∙ ap command_of c.record_at-record.ensures))
    c.answer_command-current.ensures.trades_after c.answer_command-current.ensures.answers_after

pub returns : goal.returns
returns c =
    let done = all_first _ _ c.loop-k.invariant (omega arith) in
    record { trades_after = done.0; answers_after = done.1 }
