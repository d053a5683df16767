-- Assumes nothing.
use Rattle.std.proofs.Common.{arith}
use Rattle.endian.proofs.Writes.{looser}
use Rattle.runner.proofs.Recorded.{trades_none, trades_more, trades_done}
use Rattle.runner.proofs.printing.put_trades.Goals as goal

pub loop-i-init : goal.loop-i-init
loop-i-init c = record { within = omega arith; printed = looser (trades_none c.args.area.now c.args.first (omega arith)) _ (omega arith) }

pub loop-i-preserved : goal.loop-i-preserved
loop-i-preserved c =
    let a = c.args in
    record {
      within = omega arith;
      printed = trades_more a.area.now a.first c.loop-i.i _ _ _ (omega arith) (omega arith) c.trade_at-trade.ensures c.loop-i.invariant.printed c.put_trade-next.ensures;
    }

pub returns : goal.returns
returns c =
    let a = c.args in
    rw (← trades_done a.area.now a.first c.loop-i.i a.count (omega arith) (omega arith) c.loop-i.invariant.within)
    (looser c.loop-i.invariant.printed _ (omega arith))
