-- A turn that trades keeps `Going`; the loop is left where nothing more trades, or behind an order that is filled in part. Assumes nothing.
use Rattle.laws.specs.Logic.{⊎_elim, refl, sym, ◌∙◌}
use Rattle.laws.specs.Numbers.{arith}
use Rattle.holdings.proofs.Bookings.{holding_read, buyer_held, trade_booked}
use Rattle.matching.proofs.Turns.{meeting, order_read, trade_size, trade_contract, trade_parties, stopped}
use Rattle.matching.proofs.Turns.{queue_ended, lots_used, no_counterpart, trade_room, going_on, part_filled}
use Rattle.matching.proofs.sweep.sweep.Goals as goal

pub bounds-held-buyer : goal.bounds-held-buyer
bounds-held-buyer c =
    let m = meeting c.sweep.invariant c.if-filled-count.false c.if-left-eq0.false c.order_at-o.ensures c.is_counterpart.ensures c.if-not-is_counterpart.false c.trade_with-trade.ensures in
    let p = trade_parties m c.sweep.invariant.parties in
    omega (arith, p.0, c.sweep.invariant.parties.few)

pub bounds-held-buyer-in-sweep : goal.bounds-held-buyer-in-sweep
bounds-held-buyer-in-sweep c =
    let m = meeting c.sweep.invariant c.if-filled-count.false c.if-left-eq0.false c.order_at-o.ensures c.is_counterpart.ensures c.if-not-is_counterpart.false c.trade_with-trade.ensures in
    let p = trade_parties m c.sweep.invariant.parties in
    omega (arith, p.0, c.sweep.invariant.parties.few)

pub bounds-held-seller : goal.bounds-held-seller
bounds-held-seller c =
    let m = meeting c.sweep.invariant c.if-filled-count.false c.if-left-eq0.false c.order_at-o.ensures c.is_counterpart.ensures c.if-not-is_counterpart.false c.trade_with-trade.ensures in
    let p = trade_parties m c.sweep.invariant.parties in
    omega (arith, p.1, c.sweep.invariant.parties.few)

pub bounds-held-seller-in-sweep : goal.bounds-held-seller-in-sweep
bounds-held-seller-in-sweep c =
    let m = meeting c.sweep.invariant c.if-filled-count.false c.if-left-eq0.false c.order_at-o.ensures c.is_counterpart.ensures c.if-not-is_counterpart.false c.trade_with-trade.ensures in
    let p = trade_parties m c.sweep.invariant.parties in
    omega (arith, p.1, c.sweep.invariant.parties.few)

pub book_leg-requires : goal.book_leg-requires
book_leg-requires c =
    let m = meeting c.sweep.invariant c.if-filled-count.false c.if-left-eq0.false c.order_at-o.ensures c.is_counterpart.ensures c.if-not-is_counterpart.false c.trade_with-trade.ensures in
    let p = trade_parties m c.sweep.invariant.parties in (
      c.requires.contract,
      omega (arith, trade_size m, c.sweep.invariant.some, c.requires.size),
      holding_read _ c.sweep.invariant.parties.holdings p.0 refl (omega (arith, trade_size m, c.sweep.invariant.some, c.requires.size)),
    )

pub book_leg-requires-in-sweep : goal.book_leg-requires-in-sweep
book_leg-requires-in-sweep c =
    let m = meeting c.sweep.invariant c.if-filled-count.false c.if-left-eq0.false c.order_at-o.ensures c.is_counterpart.ensures c.if-not-is_counterpart.false c.trade_with-trade.ensures in
    let p = trade_parties m c.sweep.invariant.parties in
    let held = c.sweep.invariant.parties.holdings in
    let bought = buyer_held c.sweep.held c.trade_with-trade.result (sym (trade_contract m)) refl c.book_leg.ensures (trade_contract m) p.0 held in (
      c.requires.contract,
      omega (arith, trade_size m, c.sweep.invariant.some, c.requires.size),
      holding_read _ bought p.1 refl (omega (arith, trade_size m, c.sweep.invariant.some, c.requires.size)),
    )

pub put_trade-requires : goal.put_trade-requires
put_trade-requires c =
    let m = meeting c.sweep.invariant c.if-filled-count.false c.if-left-eq0.false c.order_at-o.ensures c.is_counterpart.ensures c.if-not-is_counterpart.false c.trade_with-trade.ensures in
    trade_room c.sweep.invariant c.requires.queue m c.requires.room

pub overflow_add-made : goal.overflow_add-made
overflow_add-made c =
    let m = meeting c.sweep.invariant c.if-filled-count.false c.if-left-eq0.false c.order_at-o.ensures c.is_counterpart.ensures c.if-not-is_counterpart.false c.trade_with-trade.ensures in
    omega (arith, trade_room c.sweep.invariant c.requires.queue m c.requires.room, c.sweep.invariant.long, c.well_formed)

pub overflow_add-done : goal.overflow_add-done
overflow_add-done c =
    let m = meeting c.sweep.invariant c.if-filled-count.false c.if-left-eq0.false c.order_at-o.ensures c.is_counterpart.ensures c.if-not-is_counterpart.false c.trade_with-trade.ensures in
    omega (arith, trade_size m, c.sweep.invariant.some, c.requires.size)

pub sweep-preserved : goal.sweep-preserved
sweep-preserved c =
    let m = meeting c.sweep.invariant c.if-filled-count.false c.if-left-eq0.false c.order_at-o.ensures c.is_counterpart.ensures c.if-not-is_counterpart.false c.trade_with-trade.ensures in
    let fits = trade_room c.sweep.invariant c.requires.queue m c.requires.room in
    let legs = trade_booked c.sweep.held c.trade_with-trade.result (sym (trade_contract m)) refl c.book_leg.ensures refl c.book_leg-in-sweep.ensures in
    going_on c.sweep.invariant c.requires.queue m fits legs c.put_trade.ensures c.if-size-o.false

pub returns-then-filled-count : goal.returns-then-filled-count
returns-then-filled-count c =
    stopped c.sweep.invariant c.requires.queue
    (⊎_elim (λ ended. queue_ended ended) (λ used. lots_used used.1) c.then-filled-count.either)

pub returns-then-not-is_counterpart : goal.returns-then-not-is_counterpart
returns-then-not-is_counterpart c =
    stopped c.sweep.invariant c.requires.queue
    (no_counterpart (omega (arith, c.sweep.invariant.within, c.if-filled-count.false))
    (order_read c.sweep.filled c.order_at-o.ensures refl c.sweep.invariant.same) (sym c.is_counterpart.ensures ∙ c.if-not-is_counterpart.true))

pub returns-then-size-o : goal.returns-then-size-o
returns-then-size-o c =
    let m = meeting c.sweep.invariant c.if-filled-count.false c.if-left-eq0.false c.order_at-o.ensures c.is_counterpart.ensures c.if-not-is_counterpart.false c.trade_with-trade.ensures in
    let fits = trade_room c.sweep.invariant c.requires.queue m c.requires.room in
    let legs = trade_booked c.sweep.held c.trade_with-trade.result (sym (trade_contract m)) refl c.book_leg.ensures refl c.book_leg-in-sweep.ensures in
    part_filled c.sweep.invariant c.requires.queue m fits legs c.put_trade.ensures c.if-size-o.true refl c.set_lots.ensures
