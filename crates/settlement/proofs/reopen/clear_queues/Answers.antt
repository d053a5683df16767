-- One queue more is cleared.
use Rattle.std.proofs.Common.{rules, ◌≡◌, ◌+◌, ◌-◌, ◌*◌, length, replicate, get_or}
use Rattle.std.proofs.Math.ListN.{take, drop}
use Rattle.settlement.proofs.Clearing.{clearing_none, clearing_more}
use Rattle.settlement.proofs.reopen.clear_queues.Goals as goal

pub loop-c-init : goal.loop-c-init
loop-c-init c = clearing_none _ _ _

pub loop-c-preserved : goal.loop-c-preserved
loop-c-preserved c =
    let part = take (448 * c.loop-c.c + 7 * get_or c.args.counts c.loop-c.c 0 - 448 * c.loop-c.c) (drop (448 * c.loop-c.c) c.loop-c.area) in
    let zeros : c.fill.new.self ≡ replicate (length part) 0 = search rules in
    clearing_more _ _ _ c.requires _ _ c.loop-c-test.true c.loop-c.invariant _ zeros
