-- What `codes::account_code` leaves: the own side's resting lots are those of the rules, and the two tests stand in their order. Assumes
-- nothing.
use Rattle.std.proofs.Common.{refl}
use Rattle.rules.specs.Answers.{first_of}
use Rattle.refusals.proofs.Inserting.{place_fits, own_room, own_few, rested_low, lots_are}
use Rattle.refusals.proofs.codes.account_code.Goals as goal

pub bounds-market-c : goal.bounds-market-c
bounds-market-c c = place_fits c.args.market.now.formed c.args.o c.requires.0 c.place_of-c.ensures

pub bounds-who-c : goal.bounds-who-c
bounds-who-c c = place_fits c.args.market.now.formed c.args.o c.requires.0 c.place_of-c.ensures

pub side_count-count-requires : goal.side_count-count-requires
side_count-count-requires c = place_fits c.args.market.now.formed c.args.o c.requires.0 c.place_of-c.ensures

pub new-own-requires : goal.new-own-requires
new-own-requires c =
    own_room c.args.market.now.formed c.args.o c.requires.0 c.place_of-c.ensures c.side_area.ensures c.side_count-count.ensures

pub resting-rested-requires : goal.resting-rested-requires
resting-rested-requires c =
    rw c.new-own.ensures (own_few c.args.market.now.formed c.args.o c.requires.0 c.place_of-c.ensures c.side_area.ensures c.side_count-count.ensures)

pub lots_refused-requires : goal.lots_refused-requires
lots_refused-requires c =
    rested_low c.args.market.now.formed c.args.o c.requires.0 c.place_of-c.ensures c.side_area.ensures
    c.side_count-count.ensures c.place_word.ensures c.mark.ensures c.new-own.ensures c.resting-rested.ensures

pub returns-then-lots_refused : goal.returns-then-lots_refused
unfolding first_of
returns-then-lots_refused c =
    let lots = lots_are c.args.market.now.formed c.args.o c.requires.0 c.place_of-c.ensures c.side_area.ensures c.side_count-count.ensures
    c.place_word.ensures c.mark.ensures c.new-own.ensures c.resting-rested.ensures c.requires.2 c.lots_refused.ensures in
    rw (← lots, c.if-lots_refused.true) refl

pub returns-then-money_refused : goal.returns-then-money_refused
unfolding first_of
returns-then-money_refused c =
    let lots = lots_are c.args.market.now.formed c.args.o c.requires.0 c.place_of-c.ensures c.side_area.ensures c.side_count-count.ensures
    c.place_word.ensures c.mark.ensures c.new-own.ensures c.resting-rested.ensures c.requires.2 c.lots_refused.ensures in
    rw (← lots, c.if-lots_refused.false, ← c.money_refused.ensures, c.if-money_refused.true) refl

pub returns : goal.returns
unfolding first_of
returns c =
    let lots = lots_are c.args.market.now.formed c.args.o c.requires.0 c.place_of-c.ensures c.side_area.ensures c.side_count-count.ensures
    c.place_word.ensures c.mark.ensures c.new-own.ensures c.resting-rested.ensures c.requires.2 c.lots_refused.ensures in
    rw (← lots, c.if-lots_refused.false, ← c.money_refused.ensures, c.if-money_refused.false) refl
