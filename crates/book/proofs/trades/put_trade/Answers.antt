-- The nine stores are the trade's words. Assumes nothing.
use native.Mathlib.Numerals.{add-one, add-two, add-three, add-four, add_five, add_six, add_seven, add_eight}
use Rattle.book.proofs.Recorded.{stored_trade}
use Rattle.book.proofs.trades.put_trade.Goals as goal

pub returns : goal.returns
returns c =
    simp (add-one, add-two, add-three, add-four, add_five, add_six, add_seven, add_eight) (stored_trade c.args.area.now _ c.args.t c.requires)
