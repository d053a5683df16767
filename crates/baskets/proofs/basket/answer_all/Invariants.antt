-- The loop of `basket::answer_all`: the first k commands leave the rules' run of them, and their answers stand in the area. Assumes
-- nothing.
use Rattle.rules.specs.Memory.{memory}
use Rattle.baskets.proofs.Answering.{AnsweredTo}
use Rattle.baskets.proofs.basket.answer_all.Given as goal

abbrev pub invariant-loop-k : goal.invariant-loop-k
invariant-loop-k l =
    AnsweredTo (memory l.initial.current l.initial.buys l.initial.sells l.initial.trades) l.commands l.initial.answers l.k (memory l.current l.buys l.sells l.trades) l.answers
