-- The places below c are filled. Assumes nothing.
use Rattle.std.proofs.Common.{◌≡◌}
use Rattle.rules.specs.Bounds.{max_contracts}
use Rattle.rules.specs.Exchange.{no_contract}
use Rattle.dayfile.specs.Opening.{opening_contract}
use Rattle.dayfile.proofs.Filled.{filled}
use Rattle.dayfile.proofs.open.opening_contracts.Given as goal

abbrev pub invariant-loop-c : goal.invariant-loop-c
invariant-loop-c l = l.places ≡ filled max_contracts no_contract (opening_contract l.file.bytes.now) l.c
