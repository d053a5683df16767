-- Assumes nothing.
use Rattle.std.proofs.Common.{arith}
use Rattle.dayfile.proofs.Places.{sound_layout}
use Rattle.dayfile.proofs.open.opening_state.Goals as goal

pub contract_count-contractcount-requires : goal.contract_count-contractcount-requires
contract_count-contractcount-requires c = let l = sound_layout _ c.requires in omega arith
