use Rattle.std.proofs.Common.{◌∙◌, ◌*◌, drop, rules, tests}
use Rattle.rules.specs.Exchange.{no_trade}
use Rattle.rules.specs.Memory.{trade_from, trade_stride}
use Rattle.theory.proofs.Codecs.{length_trades, trade_at_lem}
use Rattle.audit.proofs.Iterated.{count_tested, each_read}
use Rattle.audit.proofs.recorded.trades_in_range.Goals as goal

pub returns : goal.returns
returns c =
    count_tested _ _ c.all.ensures.ran (λ x b q k. search (rules, tests))
    ∙ each_read _ _ no_trade (λ i. trade_from (drop (trade_stride * i) c.args.area.now)) (length_trades c.args.area.now c.args.count) (trade_at_lem _ _)
