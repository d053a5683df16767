-- The promises of its calls, put together. Assumes nothing.
use Rattle.bench_exchange.proofs.Probing.{ran_probed}
use Rattle.bench_exchange.proofs.bench_run.Goals as goal

pub returns : goal.returns
returns c = ran_probed _ c.opening_state-opening.ensures c.run-state.ensures _ _ c.probed.ensures
