-- Assumes nothing.
use Rattle.std.proofs.Common.{arith}
use Rattle.dayfile.proofs.Places.{sound_head}
use Rattle.dayfile.proofs.head.head_end.Goals as goal

pub contract_count-contracts-requires : goal.contract_count-contracts-requires
contract_count-contracts-requires c = let l = sound_head _ c.args.head.now.sound in omega arith
