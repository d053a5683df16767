-- What the first k commands leave is the rules' run of them. Assumes nothing.
use Rattle.exchange.proofs.Runs.{Running}
use Rattle.exchange.proofs.run.run_through.Given as goal

abbrev pub invariant-loop-k : goal.invariant-loop-k
invariant-loop-k l = Running l.initial.current l.initial.buys l.initial.sells l.initial.trades l.bytes l.current l.buys l.sells l.trades l.k
