-- Assumes nothing.
use Rattle.std.proofs.Common.{sym, ◌∙◌, arith}
use Rattle.dayfile.proofs.Places.{head}
use Rattle.dayfile.proofs.head.head_sound.Goals as goal

pub contract_count-contracts-requires : goal.contract_count-contracts-requires
contract_count-contracts-requires c = let l = head _ (sym c.head_whole.ensures ∙ c.if-not-head_whole.false) in omega arith
