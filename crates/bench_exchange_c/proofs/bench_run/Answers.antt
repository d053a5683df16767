-- `bench_exchange_c::bench_run` meets its contract: it is the contract of the call. Assumes nothing.
use Rattle.bench_exchange_c.proofs.bench_run.Goals as goal

pub returns : goal.returns
returns c = c.bench_run.ensures
