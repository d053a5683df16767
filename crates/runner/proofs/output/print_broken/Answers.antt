-- The line at place 0, nothing behind it. Assumes nothing.
use Rattle.engine.proofs.Declared.{declared}
use Rattle.runner.proofs.WholeOutput.{line_printed, line_stood}
use Rattle.runner.proofs.output.print_broken.Goals as goal

pub returns-then-next-eq0 : goal.returns-then-next-eq0
returns-then-next-eq0 c =
    λ buys sells trades. rw c.if-next-eq0.true (line_printed _ c.requires.0 (declared c.well_formed.1.0) buys sells trades _ c.put_broken-length.ensures)

pub returns : goal.returns
returns c =
    λ buys sells trades. rw c.nothing.ensures (line_stood _ c.requires.0 (declared c.well_formed.1.0) buys sells trades _ c.if-next-eq0.false)
