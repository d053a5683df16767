-- The promises of its calls, put together. Assumes nothing.
use Rattle.bench_execute.proofs.Executing.{executed_probed}
use Rattle.bench_execute.proofs.bench_execute.Goals as goal

pub returns : goal.returns
returns c = executed_probed _ c.opening_state-opening.ensures c.run-state.ensures _ _ c.execute-response.ensures c.probed.ensures
