-- The loop of `list::answer_records`: the first k records' commands leave the rules' run of them, and their answers stand in the area.
-- Assumes nothing.
use Rattle.rules.specs.Memory.{memory}
use Rattle.exchange.specs.Run.{first_commands}
use Rattle.baskets.proofs.Answering.{AnsweredTo}
use Rattle.baskets.proofs.list.answer_records.Given as goal

abbrev pub invariant-loop-k : goal.invariant-loop-k
invariant-loop-k l =
    AnsweredTo (memory l.initial.current l.initial.buys l.initial.sells l.initial.trades) (first_commands l.bytes l.count) l.initial.answers l.k (memory l.current l.buys l.sells l.trades) l.answers
