-- `insertion::arrive_on` meets its contract: left to trade, or its remainder rests. Assumes nothing.
use Rattle.std.proofs.Common.{sym, ◌∙◌}
use Rattle.insertion.proofs.Arriving.{alone_arrived, alone_room, left_trading}
use Rattle.insertion.proofs.arrive_on.Goals as goal

pub returns-then-not-rests_alone : goal.returns-then-not-rests_alone
returns-then-not-rests_alone c = left_trading (sym (rw c.new-facing.ensures at c.rests_alone.ensures) ∙ c.if-not-rests_alone.true) c.left.ensures

pub rest-resting-requires : goal.rest-resting-requires
rest-resting-requires c =
    alone_room c.requires c.limit_of-price.ensures (sym (rw c.new-facing.ensures at c.rests_alone.ensures) ∙ c.if-not-rests_alone.false) c.rested_alone-rested.ensures

pub returns : goal.returns
returns c =
    alone_arrived c.requires c.limit_of-price.ensures (sym (rw c.new-facing.ensures at c.rests_alone.ensures) ∙ c.if-not-rests_alone.false) c.rested_alone-rested.ensures
    (c.rest-resting.ensures.value, c.rest-resting.ensures.own_after) c.entered_on-after.ensures c.accepted.ensures
