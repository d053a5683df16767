-- All trades so far are posted, and written.
use Rattle.clients.proofs.PostedTrades.{Going}
use Rattle.clients.proofs.posting.post_trades.Given as goal

abbrev pub invariant-loop-i : goal.invariant-loop-i
invariant-loop-i l = Going l.a l.clients l.postings l.trades l.count l.initial.area l.i l.legs l.area
