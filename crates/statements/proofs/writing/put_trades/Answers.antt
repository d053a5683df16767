-- The trade read is the one recorded there; room for it, and it is written.
use native.Mathlib.Omega.{arith}
use Rattle.std.proofs.Common.{sym, ◌∙◌}
use Rattle.theory.proofs.Codecs.{trade_at_lem}
use Rattle.sections.proofs.Rows.{telling_none, telling_room, telling_more, telling_done}
use Rattle.statements.proofs.Sections.{trades_row}
use Rattle.statements.proofs.writing.put_trades.Goals as goal

pub loop-i-init : goal.loop-i-init
loop-i-init c = telling_none _ _ _ _ (omega (arith, c.requires.count_in_bounds.1))

pub put_trade-next-requires : goal.put_trade-next-requires
put_trade-next-requires c =
    let trade = c.trade_at.ensures ∙ sym (trade_at_lem _ _ _ c.loop-i-test.true) in
    rw trade (
      telling_room _ _ _ _ _ _ _ c.loop-i-test.true c.loop-i.invariant (rw (trades_row _ _) at c.requires.count_in_bounds.1),
      c.requires.by_index _ c.loop-i-test.true,
    )

pub loop-i-preserved : goal.loop-i-preserved
loop-i-preserved c =
    let trade = c.trade_at.ensures ∙ sym (trade_at_lem _ _ _ c.loop-i-test.true) in
    telling_more _ _ _ _ _ _ _ c.loop-i-test.true c.loop-i.invariant (rw trade at c.put_trade-next.ensures)

pub returns : goal.returns
returns c = rw (trades_row _ _) (telling_done _ _ _ _ _ _ _ c.loop-i-test.false c.loop-i.invariant)
