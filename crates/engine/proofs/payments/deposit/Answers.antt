-- `payments::deposit` meets its contract: each return by its law in Paying.antt. Assumes nothing.
use Rattle.std.proofs.Common.{◌^◌, arith, refl, sym, ◌∙◌}
use Rattle.rules.specs.Bounds.{balance_most}
use Rattle.laws.specs.Bound.{within_fits, within_pos}
use Rattle.laws.proofs.Signed.{add_fits, add_back, back}
use Rattle.engine.proofs.Paying.{amount_high, balance_fits, deposit_absent, deposit_amount, deposit_high, deposit_accepted}
use Rattle.engine.proofs.payments.deposit.Goals as goal

pub returns-then-is_absent : goal.returns-then-is_absent
returns-then-is_absent c = deposit_absent c.args.market.now.formed _ _ (sym c.is_absent.ensures ∙ c.if-is_absent.true) refl

pub returns-then-amount_refused : goal.returns-then-amount_refused
returns-then-amount_refused c =
    deposit_amount c.args.market.now.formed _ _ (sym c.is_absent.ensures ∙ c.if-is_absent.false) (sym c.amount_refused.ensures ∙ c.if-amount_refused.true) refl

pub lifts_too_high-requires : goal.lifts_too_high-requires
lifts_too_high-requires c =
    let formed = c.args.market.now.formed in
    let fits = balance_fits formed c.args.account (sym c.is_absent.ensures ∙ c.if-is_absent.false) c.requires in
    (rw (back balance_most (omega arith) fits) fits, amount_high _ (sym c.amount_refused.ensures ∙ c.if-amount_refused.false))

pub returns-then-lifts_too_high : goal.returns-then-lifts_too_high
returns-then-lifts_too_high c =
    let formed = c.args.market.now.formed in
    let present = sym c.is_absent.ensures ∙ c.if-is_absent.false in
    deposit_high formed _ _ present c.requires (sym c.amount_refused.ensures ∙ c.if-amount_refused.false)
    (back balance_most (omega arith) (balance_fits formed c.args.account present c.requires)) c.lifts_too_high.ensures
    c.if-lifts_too_high.true refl

pub overflow_cast-amount : goal.overflow_cast-amount
overflow_cast-amount c =
    within_fits (10 ^ 15) (omega arith) (within_pos (amount_high _ (sym c.amount_refused.ensures ∙ c.if-amount_refused.false)))

pub overflow_add-who : goal.overflow_add-who
overflow_add-who c =
    let formed = c.args.market.now.formed in
    add_fits (balance_fits formed c.args.account (sym c.is_absent.ensures ∙ c.if-is_absent.false) c.requires)
    (within_pos (amount_high _ (sym c.amount_refused.ensures ∙ c.if-amount_refused.false))) (omega arith)

pub returns : goal.returns
returns c =
    let formed = c.args.market.now.formed in
    let present = sym c.is_absent.ensures ∙ c.if-is_absent.false in
    let small = sym c.amount_refused.ensures ∙ c.if-amount_refused.false in
    let fits = balance_fits formed c.args.account present c.requires in
    deposit_accepted formed _ _ present c.requires small c.place_of.ensures
    (back balance_most (omega arith) fits) c.lifts_too_high.ensures c.if-lifts_too_high.false
    (add_back fits (within_pos (amount_high _ small)) (omega arith)) c.paid.ensures
