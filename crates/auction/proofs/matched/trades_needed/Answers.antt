-- None without volume. Assumes nothing.
use Rattle.auction.proofs.Chosen.{needs_none, needs_some}
use Rattle.auction.proofs.matched.trades_needed.Goals as goal

pub returns-then-chosen-eq0 : goal.returns-then-chosen-eq0
returns-then-chosen-eq0 c n = needs_none n _ _ _ c.if-chosen-eq0.true

pub returns : goal.returns
returns c n = needs_some n _ _ _ c.if-chosen-eq0.false (c.count_trades.ensures n)
