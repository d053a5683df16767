-- Without volume nothing happens; else the filled orders of the match are taken out. Assumes nothing.
use Rattle.auction.proofs.Chosen.{none_matched, ready_at, queues_left}
use Rattle.auction.proofs.matched.match_queues.Goals as goal

pub returns-then-chosen-eq0 : goal.returns-then-chosen-eq0
returns-then-chosen-eq0 c = none_matched _ c.requires _ c.if-chosen-eq0.true

pub match_at-m-requires : goal.match_at-m-requires
match_at-m-requires c = ready_at _ c.requires c.if-chosen-eq0.false

pub returns : goal.returns
returns c = queues_left _ c.requires c.if-chosen-eq0.false c.match_at-m.ensures c.drop_front.ensures c.drop_front-2.ensures
