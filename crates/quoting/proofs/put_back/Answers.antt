-- What `quoting::put_back` leaves: the part that is lent, given back. Assumes nothing.
use Rattle.std.proofs.Common.{◌∙◌, ap, arith}
use Rattle.areas.specs.Lists.{over}
use Rattle.areas.proofs.Moves.{lent_over}
use Rattle.quoting.proofs.put_back.Goals as goal

pub returns : goal.returns
returns c = lent_over _ _ _ _ (omega arith) (omega (arith, c.copy_from_slice.ensures.len)) ∙ ap (over c.args.area.now c.args.at) c.copy_from_slice.ensures.after
