-- `test_book::submit` enters an order only where its tests have shown all that `enter` asks for. Assumes nothing.
use Rattle.std.proofs.Common.{arith}
use Rattle.test_book.proofs.Ready.{ready}
use Rattle.test_book.proofs.submit.Goals as goal

pub enter-e-requires : goal.enter-e-requires
enter-e-requires c =
    let t = c.limit_order-t.ensures in
    ready t.contract t.method t.account c.if-lots-gt-MAX_LOTS.false
    c.if-owncount-ge-MAX_RESTING.false c.if-oppositecount-gt-MAX_RESTING.false
    (omega arith) (omega arith) (omega arith) c.new-queue.ensures (c.accounts_known.ensures c.if-not-accounts_known.false)
    (omega (arith, c.count_trades-new.ensures, c.if-new-before.false, c.if-before-gt-TRADES.false)) c.no_holdings.ensures
