-- What `basket::answer_all` leaves: one more command is answered, and all are. Assumes nothing.
use Rattle.std.proofs.Common.{true, ◌≡◌, length, refl, rules, arith}
use Rattle.laws.specs.Lists.{unmapped}
use Rattle.baskets.proofs.Answering.{answering_done, answering_more, answering_none, still_known}
use Rattle.baskets.proofs.basket.answer_all.Goals as goal

pub loop-k-init : goal.loop-k-init
loop-k-init c = answering_none _ _ _

pub answer_command-current-requires : goal.answer_command-current-requires
answer_command-current-requires c = (still_known c.loop-k.invariant true c.requires.0, omega (arith, c.requires.2))

pub loop-k-preserved : goal.loop-k-preserved
loop-k-preserved c =
    let hundred : length c.args.commands ≡ 100 = search (rules, unmapped) in
    answering_more c.loop-k.invariant (omega (arith, c.requires.1)) refl c.answer_command-current.ensures.trades_after c.answer_command-current.ensures.answers_after

pub returns : goal.returns
returns c =
    let all : c.loop-k.k ≡ c.args.count = omega arith in
    let done = answering_done c.loop-k.invariant all in
    record { trades_after = done.0; answers_after = done.1 }
