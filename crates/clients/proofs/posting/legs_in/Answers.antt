-- A leg counts where its place is a client's.
use Rattle.std.proofs.Common.{rules}
use Rattle.clients.specs.Clients.{legs_in}
use Rattle.clients.proofs.posting.legs_in.Goals as goal

pub returns : goal.returns
unfolding legs_in
returns c = search rules
