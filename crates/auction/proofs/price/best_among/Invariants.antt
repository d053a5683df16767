-- The best so far, with the prices from order i on, gives the answer.
use Rattle.rules.specs.Auction.{best_from, better, prices}
use Rattle.auction.proofs.Levels.{Searching}
use Rattle.auction.proofs.price.best_among.Given as goal

abbrev pub invariant-loop-i : goal.invariant-loop-i
invariant-loop-i l =
    Searching l.last l.buys l.sells l.queue (best_from (better l.last l.buys l.sells) l.initial.chosen.price (prices l.queue)) l.chosen l.i
