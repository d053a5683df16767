-- The places below a are filled. Assumes nothing.
use Rattle.std.proofs.Common.{◌≡◌}
use Rattle.rules.specs.Bounds.{max_accounts}
use Rattle.dayfile.specs.Opening.{account_with, opening_holder}
use Rattle.dayfile.proofs.Filled.{filled}
use Rattle.dayfile.proofs.open.opening_accounts.Given as goal

abbrev pub invariant-loop-a : goal.invariant-loop-a
invariant-loop-a l = l.places ≡ filled max_accounts (account_with 0 0) (opening_holder l.file.bytes.now) l.a
