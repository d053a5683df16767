-- The promises of the calls, put together. Assumes nothing.
use Rattle.laws.specs.Logic.{refl}
use Rattle.matching.proofs.Entries.{traded_within, rests_ready, entered}
use Rattle.matching.proofs.entry.enter.Goals as goal

pub remaining-rested-requires : goal.remaining-rested-requires
remaining-rested-requires c = traded_within c.requires c.sweep-f.ensures

pub rest-resting-requires : goal.rest-resting-requires
rest-resting-requires c = rests_ready c.requires c.sweep-f.ensures c.remaining-rested.ensures refl

pub returns : goal.returns
returns c = entered c.requires c.sweep-f.ensures c.remaining-rested.ensures refl c.drop_front.ensures (c.rest-resting.ensures.value, c.rest-resting.ensures.own_after)
