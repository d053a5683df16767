use Rattle.laws.specs.Logic.{sym, ◌∙◌}
use Rattle.laws.specs.Numbers.{arith}
use Rattle.theory.proofs.Codecs.{trade_at_lem}
use Rattle.book.proofs.Recorded.{recorded}
use Rattle.book.proofs.trades.Trades.trade.Goals as goal

pub trade_at-requires : goal.trade_at-requires
trade_at-requires c = omega (arith, recorded _ _ c.self.view_is c.requires)

pub returns : goal.returns
returns c = c.trade_at.ensures ∙ sym (trade_at_lem _ _ _ (recorded _ _ c.self.view_is c.requires)) ∙ rw c.self.view_is
