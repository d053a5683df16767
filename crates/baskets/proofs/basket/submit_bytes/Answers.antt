-- What `basket::submit_bytes` leaves: `submit` takes the commands that `read_commands` read. Assumes nothing.
use Rattle.std.proofs.Common.{refl}
use Rattle.baskets.proofs.Bundles.{read_bundle, same_bundle}
use Rattle.baskets.proofs.basket.submit_bytes.Goals as goal

pub returns : goal.returns
returns c = same_bundle _ _ _ _ _ (read_bundle _ c.min.ensures c.read_commands-commands.ensures refl) c.submit.ensures
