-- `payments::withdraw` meets its contract: each return by its law in Paying.antt. Assumes nothing.
use Rattle.std.proofs.Common.{◌^◌, arith, refl, sym, ◌∙◌}
use Rattle.laws.specs.Bound.{within_fits, within_pos}
use Rattle.laws.proofs.Signed.{sub_fits, sub_back}
use Rattle.engine.proofs.Paying.{amount_high, balance_fits, account_chargeable, withdraw_absent, withdraw_amount, withdraw_short, withdraw_accepted}
use Rattle.engine.proofs.payments.withdraw.Goals as goal

pub returns-then-is_absent : goal.returns-then-is_absent
returns-then-is_absent c = withdraw_absent c.args.market.now.formed _ _ (sym c.is_absent.ensures ∙ c.if-is_absent.true) refl

pub returns-then-amount_refused : goal.returns-then-amount_refused
returns-then-amount_refused c =
    withdraw_amount c.args.market.now.formed _ _ (sym c.is_absent.ensures ∙ c.if-is_absent.false) (sym c.amount_refused.ensures ∙ c.if-amount_refused.true) refl

pub overflow_cast-left : goal.overflow_cast-left
overflow_cast-left c = within_fits (10 ^ 15) (omega arith) (within_pos (amount_high _ (sym c.amount_refused.ensures ∙ c.if-amount_refused.false)))

pub overflow_sub-left : goal.overflow_sub-left
overflow_sub-left c =
    let formed = c.args.market.now.formed in
    sub_fits (balance_fits formed c.args.account (sym c.is_absent.ensures ∙ c.if-is_absent.false) c.requires)
    (within_pos (amount_high _ (sym c.amount_refused.ensures ∙ c.if-amount_refused.false))) (omega arith)

pub charged-charged-requires : goal.charged-charged-requires
charged-charged-requires c =
    let formed = c.args.market.now.formed in
    account_chargeable formed _ (sym c.is_absent.ensures ∙ c.if-is_absent.false) c.requires c.place_of-place.ensures

pub returns-then-too_little : goal.returns-then-too_little
returns-then-too_little c =
    let formed = c.args.market.now.formed in
    let present = sym c.is_absent.ensures ∙ c.if-is_absent.false in
    let small = sym c.amount_refused.ensures ∙ c.if-amount_refused.false in
    withdraw_short formed _ _ present c.requires small c.place_of-place.ensures c.charged-charged.ensures
    (sub_back (balance_fits formed c.args.account present c.requires) (within_pos (amount_high _ small)) (omega arith))
    c.too_little.ensures c.if-too_little.true refl

pub returns : goal.returns
returns c =
    let formed = c.args.market.now.formed in
    let present = sym c.is_absent.ensures ∙ c.if-is_absent.false in
    let small = sym c.amount_refused.ensures ∙ c.if-amount_refused.false in
    withdraw_accepted formed _ _ present c.requires small c.place_of-place.ensures c.charged-charged.ensures
    (sub_back (balance_fits formed c.args.account present c.requires) (within_pos (amount_high _ small)) (omega arith))
    c.too_little.ensures c.if-too_little.false c.paid.ensures
