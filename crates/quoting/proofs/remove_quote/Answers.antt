-- What `quoting::remove_quote` leaves: both queues without the old quote. Assumes nothing.
use Rattle.std.proofs.Common.{true, false}
use Rattle.engine.proofs.Removals.{account_low, contract_fits, contract_low, side_few, side_room}
use Rattle.quoting.proofs.Placing.{gone_written}
use Rattle.quoting.proofs.remove_quote.Goals as goal

pub place_of-c-requires : goal.place_of-c-requires
place_of-c-requires c = contract_low c.requires.0 _ _ _ c.requires.1

pub place_word-a-requires : goal.place_word-a-requires
place_word-a-requires c = account_low c.requires.0 _ _ _ c.requires.1

pub bounds-state-c : goal.bounds-state-c
bounds-state-c c = contract_fits c.requires.0 _ _ _ c.requires.1 c.place_of-c.ensures

pub pull-bid-requires : goal.pull-bid-requires
pull-bid-requires c =
    (side_few c.requires.0 _ _ _ c.requires.1 c.place_of-c.ensures false, side_room c.requires.0 _ _ _ c.requires.1 c.place_of-c.ensures false)

pub bounds-state-c-2 : goal.bounds-state-c-2
bounds-state-c-2 c = contract_fits c.requires.0 _ _ _ c.requires.1 c.place_of-c.ensures

pub pull-offer-requires : goal.pull-offer-requires
pull-offer-requires c =
    (side_few c.requires.0 _ _ _ c.requires.1 c.place_of-c.ensures true, side_room c.requires.0 _ _ _ c.requires.1 c.place_of-c.ensures true)

pub with_counts-requires : goal.with_counts-requires
with_counts-requires c = contract_fits c.requires.0 _ _ _ c.requires.1 c.place_of-c.ensures

pub returns : goal.returns
returns c =
    gone_written c.requires.0 _ _ c.requires.1 c.place_of-c.ensures
    c.place_word-a.ensures c.pull-bid.ensures c.pull-offer.ensures c.with_counts.ensures
