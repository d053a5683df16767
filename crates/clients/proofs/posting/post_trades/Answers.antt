-- A trade that is not posted ends it; any other is written.
use Rattle.std.proofs.Common.{ap, sym, ◌∙◌}
use Rattle.std.specs.Prelude.{not}
use Rattle.laws.specs.Tests.{passed, refused}
use Rattle.clients.proofs.PostedTrades.{going_first, going_more, not_posted, trade_posted_lem, all_posted}
use Rattle.clients.proofs.posting.post_trades.Goals as goal

pub loop-i-init : goal.loop-i-init
loop-i-init c = going_first _ _ _ _ _ _

pub returns-then-not-is_posted : goal.returns-then-not-is_posted
returns-then-not-is_posted c =
    not_posted _ _ _ _ _ _ _ _ _ c.loop-i-test.true c.loop-i.invariant _ c.trade_at-t.ensures
    (sym (trade_posted_lem _ _ _ c.requires.0 _ _ c.client_trade-u.ensures) ∙ refused c.is_posted.ensures (ap not c.if-not-is_posted.true))

pub loop-i-preserved : goal.loop-i-preserved
loop-i-preserved c =
    let pre = c.requires in
    going_more _ _ _ _ _ _ _ _ _ c.loop-i-test.true c.loop-i.invariant _ c.trade_at-t.ensures _ c.client_trade-u.ensures
    (sym (trade_posted_lem _ _ _ pre.0 _ _ c.client_trade-u.ensures) ∙ passed c.is_posted.ensures (ap not c.if-not-is_posted.false))
    _ _ pre.3 c.put_trade.ensures c.legs_in-legs.ensures.0 c.legs_in-legs.ensures.1

pub returns : goal.returns
returns c = all_posted _ _ _ _ _ _ _ _ _ c.loop-i-test.false c.loop-i.invariant
