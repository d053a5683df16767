-- In auction, against an empty queue, or by its first order. Assumes nothing.
use Rattle.std.proofs.Common.{sym, ◌∙◌}
use Rattle.insertion.proofs.Arriving.{alone_auction, alone_empty, alone_unmet}
use Rattle.insertion.proofs.rests_alone.Goals as goal

pub returns-then-a-eq-AUCTION : goal.returns-then-a-eq-AUCTION
returns-then-a-eq-AUCTION c = alone_auction c.args.a c.args.opposite.now c.if-a-eq-AUCTION.true

pub returns-in-Some : goal.returns-in-Some
returns-in-Some c = alone_unmet c.args.a c.args.opposite.now c.if-a-eq-AUCTION.false (sym c.best.ensures ∙ c.in-Some.is) c.is_counterpart.ensures

pub returns-in-None : goal.returns-in-None
returns-in-None c = alone_empty c.args.a c.args.opposite.now c.if-a-eq-AUCTION.false (sym c.best.ensures ∙ c.in-None.is)
