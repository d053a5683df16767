-- The buyer's side, then the seller's.
use Rattle.statements.proofs.Sections.{buyer_room, seller_room, trade_written}
use Rattle.statements.proofs.writing.put_trade.Goals as goal

pub put_side-next-requires : goal.put_side-next-requires
put_side-next-requires c = (buyer_room _ _ _ c.requires.0, c.requires.1)

pub put_side-requires : goal.put_side-requires
put_side-requires c = (seller_room _ _ _ 16 c.requires.0 c.put_side-next.ensures, c.requires.1)

pub returns : goal.returns
returns c = trade_written _ c.put_side-next.ensures c.put_side.ensures
