-- The replay from the start of the day, then the holdings it leads to.
use Rattle.audit.proofs.Replaying.{goes_below, replayable, replayed_all}
use Rattle.audit.proofs.replay.replays.Goals as goal

pub replay-requires : goal.replay-requires
replay-requires c =
    let p = c.requires.contracts_le_max_contracts in
    replayable _ _ _ _ _ c.start_of_day-start.ensures p.0 p.1 p.2 p.3 c.requires.by_index c.requires.by_index_2

pub returns-in-Some : goal.returns-in-Some
returns-in-Some c = replayed_all _ _ _ _ _ c.start_of_day-start.ensures c.in-Some.ensures c.have_same_holdings.ensures

pub returns-in-None : goal.returns-in-None
returns-in-None c = goes_below _ _ _ _ _ c.start_of_day-start.ensures c.in-None.ensures
