-- Each area by what clears it.
use Rattle.std.proofs.Common.{rules, ◌≡◌, ◌*◌, length, replicate}
use Rattle.std.proofs.Math.ListN.{take}
use Rattle.settlement.proofs.Clearing.{trades_cleared}
use Rattle.settlement.proofs.reopen.clear_areas.Goals as goal

pub returns : goal.returns
returns c =
    let zeros : c.fill.new.self ≡ replicate (length (take (9 * c.args.state.tradecount) c.args.trades.now)) 0 = search rules in
    record { buys = c.clear_queues.ensures; sells = c.clear_queues-2.ensures; trades = trades_cleared _ _ _ c.requires.trades zeros }
