-- Each place is written.
use Rattle.std.proofs.Common.{arith}
use Rattle.std.proofs.lemmas.Grind.{common_steps}
use Rattle.rules.specs.Exchange.{no_account}
use Rattle.clients.specs.Clients.{client_account}
use Rattle.clients.specs.Parts.{clients_with}
use Rattle.clients.proofs.StartLots.{made}
use Rattle.clients.proofs.starts.client_accounts.Goals as goal

pub returns : goal.returns
returns c =
    made (client_account (clients_with c.args.clients c.args.starts.now)) (λ i y q called. grind (arith, common_steps)) no_account c.from_fn.ensures.items
