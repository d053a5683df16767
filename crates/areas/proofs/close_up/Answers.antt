-- What moving forward and clearing the end promise, put together. Assumes nothing.
use Rattle.areas.proofs.Moves.{moved_cleared}
use Rattle.areas.proofs.close_up.Goals as goal

pub returns : goal.returns
returns c = moved_cleared _ _ _ _ c.requires c.move_forward.ensures c.clear.ensures
