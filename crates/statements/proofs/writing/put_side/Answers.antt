-- Nothing where the place is the others', else the leg.
use Rattle.statements.proofs.Sections.{side_none, side_room, side_one}
use Rattle.statements.proofs.writing.put_side.Goals as goal

pub returns-then-place-ge-MAX_CLIENTS : goal.returns-then-place-ge-MAX_CLIENTS
returns-then-place-ge-MAX_CLIENTS c = side_none _ _ _ _ _ _ _ c.if-place-ge-MAX_CLIENTS.true c.requires.0

pub put_leg-requires : goal.put_leg-requires
put_leg-requires c = (side_room _ _ _ _ _ _ _ c.if-place-ge-MAX_CLIENTS.false c.requires.0, c.if-place-ge-MAX_CLIENTS.false, c.requires.1)

pub returns : goal.returns
returns c = side_one _ _ _ _ _ c.if-place-ge-MAX_CLIENTS.false c.put_leg.ensures
