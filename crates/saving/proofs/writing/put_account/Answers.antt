-- Assumes nothing.
use mir.Facts.{to_z-of_z}
use mir.Syntax.{w64}
use Rattle.std.proofs.Common.{rules, refl, ap, ◌∙◌}
use Rattle.endian.specs.Numbers.{unsigned}
use Rattle.saving.proofs.Sections.{account_written}
use Rattle.saving.proofs.writing.put_account.Goals as goal

pub returns : goal.returns
returns c = account_written c.args.a _ _ (c.unsigned.ensures ∙ ap unsigned (to_z-of_z {w = w64} (record { sfits = search rules }))) refl c.put_u64-next.ensures c.put_byte.ensures
