-- `bench_book::bench_sweeps` meets its contract: a turn enters the order once more. Assumes nothing.
use Rattle.std.proofs.Common.{arith}
use Rattle.bench_book.proofs.Runs.{begun, ready, once_more, done}
use Rattle.rules.specs.Exchange.{account_at, holding_at}
use Rattle.bench_book.proofs.bench_sweeps.Goals as goal

pub loop-done-init : goal.loop-done-init
loop-done-init c = begun _ c.accounts_with-accounts.ensures

pub enter-e-requires : goal.enter-e-requires
enter-e-requires c =
    ready _ c.taker-t.ensures _ _ c.loop-done.invariant (c.requires.each _ c.loop-done-test.true)

pub loop-done-preserved : goal.loop-done-preserved
loop-done-preserved c = once_more _ c.taker-t.ensures _ _ c.loop-done.invariant c.enter-e.ensures

pub returns : goal.returns
unfolding holding_at account_at
returns c = done _ c.taker-t.ensures _ _ c.loop-done.invariant (omega arith)
