use Rattle.theory.proofs.Codecs.{length_trades}
use Rattle.book.proofs.trades.Trades.len.Goals as goal

pub returns : goal.returns
returns c = rw (← c.self.view_is, length_trades)
