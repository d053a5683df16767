-- What `query::reading_of` leaves: the refusals in their order, then the queue read. Assumes nothing.
use Rattle.std.proofs.Common.{refl, ◌∙◌}
use Rattle.theory.proofs.Codes.{not_accepted}
use Rattle.engine.proofs.Formed.{formed}
use Rattle.refusals.proofs.Inserting.{opposite_room, place_fits, terms_in_range_lem}
use Rattle.query.proofs.Asking.{answered, facing, here, passed_on, refused_absent, refused_fields}
use Rattle.query.proofs.reading_of.Goals as goal

pub absent_code-requires : goal.absent_code-requires
absent_code-requires c = (formed c.args.market.now.formed).accounts_high

pub returns-in_err-absent_code : goal.returns-in_err-absent_code
returns-in_err-absent_code c =
    passed_on _ _ c.from_residual.ensures.1 ∙ refused_absent c.args.market.now.formed c.args.o c.in_err-absent_code.ensures (not_accepted _)

pub place_of-c-requires : goal.place_of-c-requires
place_of-c-requires c = (here c.args.market.now.formed c.args.o c.in_ok-absent_code.ensures refl).contract_low

pub bounds-state-c : goal.bounds-state-c
bounds-state-c c = place_fits c.args.market.now.formed c.args.o (here c.args.market.now.formed c.args.o c.in_ok-absent_code.ensures refl) c.place_of-c.ensures

pub fields_code-requires : goal.fields_code-requires
fields_code-requires c = terms_in_range_lem c.args.market.now.formed c.args.o (here c.args.market.now.formed c.args.o c.in_ok-absent_code.ensures refl) c.place_of-c.ensures

pub returns-in_err-fields_code : goal.returns-in_err-fields_code
returns-in_err-fields_code c =
    passed_on _ _ c.from_residual-in_err-fields_code.ensures.1
    ∙ refused_fields c.args.market.now.formed c.args.o c.in_ok-absent_code.ensures refl c.place_of-c.ensures c.in_err-fields_code.ensures (not_accepted _)

pub side_count-count-requires : goal.side_count-count-requires
side_count-count-requires c = place_fits c.args.market.now.formed c.args.o (here c.args.market.now.formed c.args.o c.in_ok-absent_code.ensures refl) c.place_of-c.ensures

pub new-queue-requires : goal.new-queue-requires
new-queue-requires c =
    opposite_room c.args.market.now.formed c.args.o (here c.args.market.now.formed c.args.o c.in_ok-absent_code.ensures refl) c.place_of-c.ensures
    c.side_area.ensures c.side_count-count.ensures

pub taker_of-t-requires : goal.taker_of-t-requires
taker_of-t-requires c =
    let p = here c.args.market.now.formed c.args.o c.in_ok-absent_code.ensures refl in (p.account_low, p.contract_low)

pub gather-requires : goal.gather-requires
gather-requires c =
    facing c.args.market.now.formed c.args.o c.in_ok-absent_code.ensures refl c.place_of-c.ensures c.in_ok-fields_code.ensures
    c.side_area.ensures c.side_count-count.ensures c.new-queue.ensures c.taker_of-t.ensures

pub returns : goal.returns
returns c =
    answered c.args.market.now.formed c.args.o c.in_ok-absent_code.ensures refl c.place_of-c.ensures c.in_ok-fields_code.ensures
    c.side_area.ensures c.side_count-count.ensures c.new-queue.ensures c.taker_of-t.ensures refl c.gather.ensures
