-- What `codes::order_code` leaves: the parts of the list one after the other. Assumes nothing.
use Rattle.std.proofs.Common.{refl, ◌∙◌}
use Rattle.theory.proofs.Codes.{not_accepted}
use Rattle.engine.proofs.Decisions.{code_passed}
use Rattle.refusals.proofs.Inserting.{place_fits, terms_in_range_lem, fields_are, code_fields, lots_few, code_lots_or_money, code_book, opposite_room, facing, recorded_high, meets, taker_here}
use Rattle.refusals.proofs.codes.order_code.Goals as goal

pub bounds-market-c : goal.bounds-market-c
bounds-market-c c = place_fits c.args.market.now.formed c.args.o c.requires.0 c.place_of-c.ensures

pub fields_code-requires : goal.fields_code-requires
fields_code-requires c = terms_in_range_lem c.args.market.now.formed c.args.o c.requires.0 c.place_of-c.ensures

pub returns-in_err-fields_code : goal.returns-in_err-fields_code
returns-in_err-fields_code c =
    let fields = fields_are c.args.market.now.formed c.args.o c.requires.0 c.place_of-c.ensures c.conditions_refused-conditions.ensures c.in_err-fields_code.ensures in
    code_passed _ _ c.from_residual.ensures.1 ∙ code_fields c.args.market.now.formed c.args.o fields (not_accepted _)

pub side_count-own-requires : goal.side_count-own-requires
side_count-own-requires c = place_fits c.args.market.now.formed c.args.o c.requires.0 c.place_of-c.ensures

pub side_count-count-requires : goal.side_count-count-requires
side_count-count-requires c = place_fits c.args.market.now.formed c.args.o c.requires.0 c.place_of-c.ensures

pub listed_at-listed-requires : goal.listed_at-listed-requires
listed_at-listed-requires c = place_fits c.args.market.now.formed c.args.o c.requires.0 c.place_of-c.ensures

pub account_code-requires : goal.account_code-requires
account_code-requires c =
    let fields = fields_are c.args.market.now.formed c.args.o c.requires.0 c.place_of-c.ensures c.conditions_refused-conditions.ensures c.in_ok-fields_code.ensures in
    (c.requires.0, lots_few c.args.market.now.formed c.args.o fields refl, c.requires.1)

pub returns-in_err-account_code : goal.returns-in_err-account_code
returns-in_err-account_code c =
    let fields = fields_are c.args.market.now.formed c.args.o c.requires.0 c.place_of-c.ensures c.conditions_refused-conditions.ensures c.in_ok-fields_code.ensures in
    code_passed _ _ c.from_residual-in_err-account_code.ensures.1 ∙ code_lots_or_money c.args.market.now.formed c.args.o fields refl c.in_err-account_code.ensures (not_accepted _)

pub new-queue-requires : goal.new-queue-requires
new-queue-requires c =
    opposite_room c.args.market.now.formed c.args.o c.requires.0 c.place_of-c.ensures c.side_area.ensures c.side_count-count.ensures

pub taker_of-t-requires : goal.taker_of-t-requires
taker_of-t-requires c = (c.requires.0.account_low, c.requires.0.contract_low)

pub book_code-requires : goal.book_code-requires
book_code-requires c =
    let place = c.place_of-c.ensures in
    let taker = taker_here c.args.market.now.formed c.args.o c.requires.0 place c.side_area.ensures c.side_count-count.ensures c.new-queue.ensures
    c.listed_at-listed.ensures c.taker_of-t.ensures in (
      facing c.args.market.now.formed c.args.o c.requires.0 place c.side_area.ensures c.side_count-count.ensures c.new-queue.ensures _ taker,
      rw c.listed_at-listed.ensures (recorded_high c.args.market.now.formed c.args.o),
    )

pub returns : goal.returns
returns c =
    let place = c.place_of-c.ensures in
    let fields = fields_are c.args.market.now.formed c.args.o c.requires.0 place c.conditions_refused-conditions.ensures c.in_ok-fields_code.ensures in
    let taker = taker_here c.args.market.now.formed c.args.o c.requires.0 place c.side_area.ensures c.side_count-count.ensures c.new-queue.ensures
    c.listed_at-listed.ensures c.taker_of-t.ensures in
    code_book c.args.market.now.formed c.args.o fields refl c.in_ok-account_code.ensures refl
    (c.book_code.ensures _
    (meets c.args.market.now.formed c.args.o c.requires.0 place c.side_area.ensures c.side_count-count.ensures c.new-queue.ensures
    c.listed_at-listed.ensures taker c.side_count-own.ensures))
