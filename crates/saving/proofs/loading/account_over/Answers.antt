-- Assumes nothing.
use mir.Facts.{to_z-of_z}
use mir.Syntax.{w64}
use Rattle.std.proofs.Common.{ap, ◌∙◌}
use Rattle.endian.specs.Numbers.{signed_of}
use Rattle.saving.proofs.Placed.{account_made}
use Rattle.saving.proofs.loading.account_over.Goals as goal

pub returns : goal.returns
returns c =
    account_made _ _ _ _ c.args.room (to_z-of_z {w = w64} (record { sfits = c.signed.type_inv }) ∙ c.signed.ensures ∙ ap signed_of c.u64_at.ensures)
    (c.from.ensures ∙ c.u8_at.ensures) c.holdings_over.ensures
