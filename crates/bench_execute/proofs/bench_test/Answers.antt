-- The promises of its calls, put together. Assumes nothing.
use Rattle.bench_execute.proofs.Executing.{ran_tested}
use Rattle.bench_execute.proofs.bench_test.Goals as goal

pub returns : goal.returns
returns c = ran_tested _ c.opening_state-opening.ensures c.run-state.ensures c.well_formed-2.ensures
