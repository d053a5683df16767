-- What `codes::code_of` leaves: 2, 3 and 4, then the order's code. Assumes nothing.
use Rattle.std.proofs.Common.{sym, ◌∙◌}
use Rattle.refusals.proofs.Inserting.{present, place_fits, code_account, code_contract, code_phase, code_order}
use Rattle.refusals.proofs.codes.code_of.Goals as goal

pub returns-then-is_absent : goal.returns-then-is_absent
returns-then-is_absent c = code_account c.args.market.now.formed c.args.o (sym c.is_absent.ensures ∙ c.if-is_absent.true)

pub returns-then-is_absent-2 : goal.returns-then-is_absent-2
returns-then-is_absent-2 c =
    code_contract c.args.market.now.formed c.args.o (sym c.is_absent.ensures ∙ c.if-is_absent.false) (sym c.is_absent-2.ensures ∙ c.if-is_absent-2.true)

pub bounds-market-c : goal.bounds-market-c
bounds-market-c c =
    let here = present c.args.market.now.formed c.args.o (sym c.is_absent.ensures ∙ c.if-is_absent.false) (sym c.is_absent-2.ensures ∙ c.if-is_absent-2.false) in
    place_fits c.args.market.now.formed c.args.o here c.place_of-c.ensures

pub returns-then-not-takes_orders : goal.returns-then-not-takes_orders
returns-then-not-takes_orders c =
    code_phase c.args.market.now.formed c.args.o (sym c.is_absent.ensures ∙ c.if-is_absent.false) (sym c.is_absent-2.ensures ∙ c.if-is_absent-2.false)
    c.place_of-c.ensures c.takes_orders.ensures c.if-not-takes_orders.true

pub returns : goal.returns
returns c =
    code_order c.args.market.now.formed c.args.o (sym c.is_absent.ensures ∙ c.if-is_absent.false) (sym c.is_absent-2.ensures ∙ c.if-is_absent-2.false)
    c.place_of-c.ensures c.takes_orders.ensures c.if-not-takes_orders.false c.order_code.ensures
