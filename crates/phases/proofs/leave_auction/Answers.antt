-- `phases::leave_auction` meets its contract: one law for the refusal, one for the match. Assumes nothing.
use Rattle.std.proofs.Common.{arith}
use Rattle.phases.proofs.Uncrossing.{contract_low, place_fits, queues, few, needed_few, left_full, left_ready, left_accepted}
use Rattle.phases.proofs.leave_auction.Goals as goal

pub place_of-c-requires : goal.place_of-c-requires
place_of-c-requires c = contract_low c.requires.0 _ c.requires.1

pub bounds-state-c : goal.bounds-state-c
bounds-state-c c = place_fits c.requires.0 _ c.requires.1 c.place_of-c.ensures

pub bounds-state-c-2 : goal.bounds-state-c-2
bounds-state-c-2 c = place_fits c.requires.0 _ c.requires.1 c.place_of-c.ensures

pub bounds-state-c-3 : goal.bounds-state-c-3
bounds-state-c-3 c = place_fits c.requires.0 _ c.requires.1 c.place_of-c.ensures

pub new-bids-requires : goal.new-bids-requires
new-bids-requires c = (queues c.requires.0 _ c.requires.1 c.place_of-c.ensures).buys_room

pub new-offers-requires : goal.new-offers-requires
new-offers-requires c = (queues c.requires.0 _ c.requires.1 c.place_of-c.ensures).sells_room

pub chosen-chosen-requires : goal.chosen-chosen-requires
chosen-chosen-requires c = few c.requires.0 _ c.requires.1 c.place_of-c.ensures c.new-bids.ensures c.new-offers.ensures

pub trades_needed-needed-requires : goal.trades_needed-needed-requires
trades_needed-needed-requires c = few c.requires.0 _ c.requires.1 c.place_of-c.ensures c.new-bids.ensures c.new-offers.ensures

pub overflow_add-state : goal.overflow_add-state
overflow_add-state c =
    omega (arith, needed_few c.requires.0 _ c.requires.1 c.place_of-c.ensures c.new-bids.ensures c.new-offers.ensures c.chosen-chosen.ensures c.trades_needed-needed.ensures)

pub refused-requires : goal.refused-requires
refused-requires c = place_fits c.requires.0 _ c.requires.1 c.place_of-c.ensures

pub returns-then-state-needed-gt-MAX_TRADES : goal.returns-then-state-needed-gt-MAX_TRADES
returns-then-state-needed-gt-MAX_TRADES c =
    left_full c.requires.0 _ c.requires.1 c.place_of-c.ensures c.new-bids.ensures c.new-offers.ensures c.chosen-chosen.ensures
    c.trades_needed-needed.ensures c.if-state-needed-gt-MAX_TRADES.true c.refused.ensures

pub place_word-requires : goal.place_word-requires
place_word-requires c = contract_low c.requires.0 _ c.requires.1

pub match_queues-m-requires : goal.match_queues-m-requires
match_queues-m-requires c =
    left_ready c.requires.0 _ c.requires.1 c.place_of-c.ensures c.new-bids.ensures c.new-offers.ensures c.chosen-chosen.ensures
    c.trades_needed-needed.ensures c.if-state-needed-gt-MAX_TRADES.false c.place_word.ensures

pub with_match-requires : goal.with_match-requires
with_match-requires c = place_fits c.requires.0 _ c.requires.1 c.place_of-c.ensures

pub returns : goal.returns
returns c =
    left_accepted c.requires.0 _ c.requires.1 c.place_of-c.ensures c.new-bids.ensures c.new-offers.ensures c.chosen-chosen.ensures c.trades_needed-needed.ensures c.if-state-needed-gt-MAX_TRADES.false
    c.place_word.ensures c.match_queues-m.ensures c.with_match.ensures
