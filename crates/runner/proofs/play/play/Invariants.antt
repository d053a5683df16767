-- What is played from k up to i is the rules' run and its lines. Assumes nothing.
use Rattle.rules.specs.Memory.{memory}
use Rattle.runner.proofs.Playing.{PlayedTo}
use Rattle.runner.proofs.play.play.Given as goal

abbrev pub invariant-loop-i : goal.invariant-loop-i
invariant-loop-i l =
    PlayedTo l.file l.k (memory l.fn.state l.fn.buys l.fn.sells l.fn.trades) l.fn.out l.i (memory l.current l.buys l.sells l.trades) l.out l.at
