-- What `codes::reentry_code` leaves: the tests in the order of the list. Assumes nothing.
use Rattle.std.proofs.Common.{refl, ◌∙◌}
use Rattle.rules.specs.Memory.{exchange_of}
use Rattle.theory.proofs.Codes.{not_accepted}
use Rattle.engine.proofs.Decisions.{code_passed}
use Rattle.refusals.proofs.Inserting.{few, place_fits, opposite_room, recorded_high, trades_are}
use Rattle.refusals.proofs.Reentering.{reentry_account, reentry_stamps, reentry_trades, reentry_clear}
use Rattle.refusals.proofs.codes.reentry_code.Goals as goal

pub bounds-market-c : goal.bounds-market-c
bounds-market-c c = place_fits c.args.market.now.formed c.args.o c.requires.0 c.place_of-c.ensures

pub side_count-count-requires : goal.side_count-count-requires
side_count-count-requires c = place_fits c.args.market.now.formed c.args.o c.requires.0 c.place_of-c.ensures

pub returns-in_err-account_code : goal.returns-in_err-account_code
returns-in_err-account_code c = code_passed _ _ c.from_residual.ensures.1 ∙ reentry_account _ _ _ c.in_err-account_code.ensures (not_accepted _)

pub returns-then-nextstamp-ge-NUMBERS_END : goal.returns-then-nextstamp-ge-NUMBERS_END
unfolding exchange_of
returns-then-nextstamp-ge-NUMBERS_END c = reentry_stamps _ _ _ c.in_ok-account_code.ensures refl c.if-nextstamp-ge-NUMBERS_END.true

pub new-queue-requires : goal.new-queue-requires
new-queue-requires c =
    opposite_room c.args.market.now.formed c.args.o c.requires.0 c.place_of-c.ensures c.side_area.ensures c.side_count-count.ensures

pub taker_of-t-requires : goal.taker_of-t-requires
taker_of-t-requires c = (c.requires.0.account_low, c.requires.0.contract_low)

pub trades_refused-requires : goal.trades_refused-requires
trades_refused-requires c = (
  few c.args.market.now.formed c.args.o c.requires.0 c.place_of-c.ensures c.side_area.ensures c.side_count-count.ensures c.new-queue.ensures,
  recorded_high c.args.market.now.formed c.args.o,
)

pub returns-then-trades_refused : goal.returns-then-trades_refused
unfolding exchange_of
returns-then-trades_refused c =
    let trades = trades_are c.args.market.now.formed c.args.o c.requires.0 c.place_of-c.ensures c.side_area.ensures c.side_count-count.ensures c.new-queue.ensures _
    c.taker_of-t.ensures c.trades_refused.ensures in
    reentry_trades _ _ _ c.in_ok-account_code.ensures refl c.if-nextstamp-ge-NUMBERS_END.false trades c.if-trades_refused.true

pub returns : goal.returns
unfolding exchange_of
returns c =
    let trades = trades_are c.args.market.now.formed c.args.o c.requires.0 c.place_of-c.ensures c.side_area.ensures c.side_count-count.ensures c.new-queue.ensures _
    c.taker_of-t.ensures c.trades_refused.ensures in
    reentry_clear _ _ _ c.in_ok-account_code.ensures refl c.if-nextstamp-ge-NUMBERS_END.false trades c.if-trades_refused.false
