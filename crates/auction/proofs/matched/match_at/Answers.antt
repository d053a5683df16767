-- A turn that trades keeps `Going`, whichever of the two orders it fills; the loop is left where nothing more trades. Assumes nothing.
use Rattle.laws.specs.Logic.{⊎_elim, refl, sym, ◌∙◌}
use Rattle.laws.specs.Numbers.{arith}
use Rattle.holdings.proofs.Bookings.{holding_read, buyer_held, trade_booked}
use Rattle.auction.proofs.Turns.{going, meeting, stopped_buys, stopped_sells, stopped_unmet, trade_few, trade_total, trade_contract, trade_parties, trade_room}
use Rattle.auction.proofs.Turns.{on_sell, on_buy, on_both}
use Rattle.auction.proofs.matched.match_at.Goals as goal

pub turns-init : goal.turns-init
turns-init c =
    going _ c.requires

pub bounds-held-buyer : goal.bounds-held-buyer
bounds-held-buyer c =
    let m = meeting c.turns.invariant c.if-i-bought.false c.if-j-sold.false c.order_at-b.ensures c.order_at-s.ensures c.both_reach.ensures c.if-not-both_reach.false in
    let p = trade_parties c.turns.invariant m c.trade_at-trade.ensures in
    omega (arith, p.0, c.turns.invariant.parties.few)

pub bounds-held-buyer-in-turns : goal.bounds-held-buyer-in-turns
bounds-held-buyer-in-turns c =
    let m = meeting c.turns.invariant c.if-i-bought.false c.if-j-sold.false c.order_at-b.ensures c.order_at-s.ensures c.both_reach.ensures c.if-not-both_reach.false in
    let p = trade_parties c.turns.invariant m c.trade_at-trade.ensures in
    omega (arith, p.0, c.turns.invariant.parties.few)

pub bounds-held-seller : goal.bounds-held-seller
bounds-held-seller c =
    let m = meeting c.turns.invariant c.if-i-bought.false c.if-j-sold.false c.order_at-b.ensures c.order_at-s.ensures c.both_reach.ensures c.if-not-both_reach.false in
    let p = trade_parties c.turns.invariant m c.trade_at-trade.ensures in
    omega (arith, p.1, c.turns.invariant.parties.few)

pub bounds-held-seller-in-turns : goal.bounds-held-seller-in-turns
bounds-held-seller-in-turns c =
    let m = meeting c.turns.invariant c.if-i-bought.false c.if-j-sold.false c.order_at-b.ensures c.order_at-s.ensures c.both_reach.ensures c.if-not-both_reach.false in
    let p = trade_parties c.turns.invariant m c.trade_at-trade.ensures in
    omega (arith, p.1, c.turns.invariant.parties.few)

pub book_leg-requires : goal.book_leg-requires
book_leg-requires c =
    let m = meeting c.turns.invariant c.if-i-bought.false c.if-j-sold.false c.order_at-b.ensures c.order_at-s.ensures c.both_reach.ensures c.if-not-both_reach.false in
    let p = trade_parties c.turns.invariant m c.trade_at-trade.ensures in
    let few = trade_few c.turns.invariant m c.trade_at-trade.ensures in
    let total = trade_total c.turns.invariant m c.trade_at-trade.ensures c.requires.queues.few_buys c.requires.queues.few_sells in
    (c.requires.contract, few, holding_read _ c.turns.invariant.parties.holdings p.0 refl (omega (arith, total)))

pub book_leg-requires-in-turns : goal.book_leg-requires-in-turns
book_leg-requires-in-turns c =
    let m = meeting c.turns.invariant c.if-i-bought.false c.if-j-sold.false c.order_at-b.ensures c.order_at-s.ensures c.both_reach.ensures c.if-not-both_reach.false in
    let p = trade_parties c.turns.invariant m c.trade_at-trade.ensures in
    let few = trade_few c.turns.invariant m c.trade_at-trade.ensures in
    let total = trade_total c.turns.invariant m c.trade_at-trade.ensures c.requires.queues.few_buys c.requires.queues.few_sells in
    let place = trade_contract c.turns.invariant m c.trade_at-trade.ensures in
    let bought = buyer_held c.turns.held c.trade_at-trade.result (sym place) refl c.book_leg.ensures place p.0 c.turns.invariant.parties.holdings in
    (c.requires.contract, few, holding_read _ bought p.1 refl (omega (arith, few, total)))

pub put_trade-requires : goal.put_trade-requires
put_trade-requires c =
    let m = meeting c.turns.invariant c.if-i-bought.false c.if-j-sold.false c.order_at-b.ensures c.order_at-s.ensures c.both_reach.ensures c.if-not-both_reach.false in
    trade_room c.turns.invariant m c.trade_at-trade.ensures c.requires

pub overflow_add-made : goal.overflow_add-made
overflow_add-made c =
    let m = meeting c.turns.invariant c.if-i-bought.false c.if-j-sold.false c.order_at-b.ensures c.order_at-s.ensures c.both_reach.ensures c.if-not-both_reach.false in
    omega (arith, trade_room c.turns.invariant m c.trade_at-trade.ensures c.requires, c.turns.invariant.long, c.well_formed)

pub overflow_add-done : goal.overflow_add-done
overflow_add-done c =
    let m = meeting c.turns.invariant c.if-i-bought.false c.if-j-sold.false c.order_at-b.ensures c.order_at-s.ensures c.both_reach.ensures c.if-not-both_reach.false in
    omega (arith, trade_total c.turns.invariant m c.trade_at-trade.ensures c.requires.queues.few_buys c.requires.queues.few_sells)

pub turns-preserved-then-size-b : goal.turns-preserved-then-size-b
turns-preserved-then-size-b c =
    let m = meeting c.turns.invariant c.if-i-bought.false c.if-j-sold.false c.order_at-b.ensures c.order_at-s.ensures c.both_reach.ensures c.if-not-both_reach.false in
    let fits = trade_room c.turns.invariant m c.trade_at-trade.ensures c.requires in
    let legs = trade_booked c.turns.held c.trade_at-trade.result (sym (trade_contract c.turns.invariant m c.trade_at-trade.ensures)) refl c.book_leg.ensures refl c.book_leg-in-turns.ensures in
    on_sell c.turns.invariant m c.trade_at-trade.ensures fits legs c.put_trade.ensures c.if-size-b.true c.set_lots.auto.area c.set_lots.ensures

pub turns-preserved-then-size-s : goal.turns-preserved-then-size-s
turns-preserved-then-size-s c =
    let m = meeting c.turns.invariant c.if-i-bought.false c.if-j-sold.false c.order_at-b.ensures c.order_at-s.ensures c.both_reach.ensures c.if-not-both_reach.false in
    let fits = trade_room c.turns.invariant m c.trade_at-trade.ensures c.requires in
    let legs = trade_booked c.turns.held c.trade_at-trade.result (sym (trade_contract c.turns.invariant m c.trade_at-trade.ensures)) refl c.book_leg.ensures refl c.book_leg-in-turns.ensures in
    on_buy c.turns.invariant m c.trade_at-trade.ensures fits legs c.put_trade.ensures c.if-size-b.false c.if-size-s.true c.set_lots-then-size-s.auto.area c.set_lots-then-size-s.ensures

pub turns-preserved : goal.turns-preserved
turns-preserved c =
    let m = meeting c.turns.invariant c.if-i-bought.false c.if-j-sold.false c.order_at-b.ensures c.order_at-s.ensures c.both_reach.ensures c.if-not-both_reach.false in
    let fits = trade_room c.turns.invariant m c.trade_at-trade.ensures c.requires in
    let legs = trade_booked c.turns.held c.trade_at-trade.result (sym (trade_contract c.turns.invariant m c.trade_at-trade.ensures)) refl c.book_leg.ensures refl c.book_leg-in-turns.ensures in
    on_both c.turns.invariant m c.trade_at-trade.ensures fits legs c.put_trade.ensures c.if-size-b.false c.if-size-s.false

pub returns-then-i-bought : goal.returns-then-i-bought
returns-then-i-bought c =
    ⊎_elim (λ ended. stopped_buys c.turns.invariant ended) (λ ended. stopped_sells c.turns.invariant ended.1) c.then-i-bought.either

pub returns-then-not-both_reach : goal.returns-then-not-both_reach
returns-then-not-both_reach c =
    stopped_unmet c.turns.invariant (omega (arith, c.turns.invariant.buying.within, c.if-i-bought.false)) (omega (arith, c.turns.invariant.selling.within, c.if-j-sold.false))
    c.order_at-b.ensures c.order_at-s.ensures
    (sym c.both_reach.ensures ∙ c.if-not-both_reach.true)
