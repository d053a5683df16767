-- Each holding is written.
use Rattle.std.proofs.Common.{arith}
use Rattle.std.proofs.lemmas.Grind.{common_steps}
use Rattle.laws.specs.Tabulate.{tabulate}
use Rattle.clients.specs.Clients.{client_account}
use Rattle.clients.proofs.starts.client_account.Goals as goal

pub returns : goal.returns
unfolding client_account tabulate
returns c = grind (arith, common_steps)
