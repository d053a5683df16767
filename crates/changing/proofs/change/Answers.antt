-- `changing::change` meets its contract: each return by its law in Changing.antt. Assumes nothing.
use Rattle.std.proofs.Common.{ap, arith, refl, sym, ◌∙◌}
use Rattle.theory.proofs.Codes.{not_accepted}
use Rattle.theory.proofs.Refusals.{failed}
use Rattle.engine.specs.Decision.{listed_in}
use Rattle.engine.proofs.Decisions.{held_here, refusal_passed}
use Rattle.engine.proofs.Formed.{formed}
use Rattle.refusals.proofs.Continuous.{account_low, contract_fits, contract_low}
use Rattle.changing.proofs.Changing.{changeable, equal_changed, fewer_changed, its_place, none_resting, one_there, order_refused, refused_early, rooms_at, terms_at, zero_changed}
use Rattle.changing.proofs.change.Goals as goal

pub continuous_code-requires : goal.continuous_code-requires
continuous_code-requires c = ((formed c.requires.0).contracts_high, (formed c.requires.0).accounts_high)

pub returns-in_err-continuous_code : goal.returns-in_err-continuous_code
returns-in_err-continuous_code c =
    refused_early c.requires.0 _ _ _ _ _ (c.in_err-continuous_code.ensures.first c.requires.0.declared _ _ _)
    (not_accepted _) (refusal_passed _ _ c.from_residual.ensures.1)

pub place_of-requires : goal.place_of-requires
place_of-requires c = contract_low c.requires.0 _ _ (failed _ (omega arith) (sym (c.in_ok-continuous_code.ensures.first c.requires.0.declared _ _ _)))

pub listed_at-listed-requires : goal.listed_at-listed-requires
listed_at-listed-requires c = contract_fits c.requires.0 _ _ (failed _ (omega arith) (sym (c.in_ok-continuous_code.ensures.first c.requires.0.declared _ _ _))) c.place_of.ensures

pub resting_order-requires : goal.resting_order-requires
resting_order-requires c =
    let st = sym (c.in_ok-continuous_code.ensures.first c.requires.0.declared _ _ _) in
    let is = c.listed_at-listed.ensures ∙ ap (listed_in c.args.state.now) c.place_of.ensures in
    rooms_at c.requires.0 _ _ c.args.asked.number c.args.asked.lots c.args.asked.price st is

pub returns-in_default : goal.returns-in_default
returns-in_default c =
    let st = sym (c.in_ok-continuous_code.ensures.first c.requires.0.declared _ _ _) in
    let is = c.listed_at-listed.ensures ∙ ap (listed_in c.args.state.now) c.place_of.ensures in
    none_resting c.requires.0 _ _ _ _ _ st is c.in_default.ensures

pub place_word-a-requires : goal.place_word-a-requires
place_word-a-requires c = account_low c.requires.0 _ _ (failed _ (omega arith) (sym (c.in_ok-continuous_code.ensures.first c.requires.0.declared _ _ _)))

pub resting_code-requires : goal.resting_code-requires
resting_code-requires c =
    let st = sym (c.in_ok-continuous_code.ensures.first c.requires.0.declared _ _ _) in
    let is = c.listed_at-listed.ensures ∙ ap (listed_in c.args.state.now) c.place_of.ensures in
    terms_at c.requires.0 _ _ c.args.asked.number c.args.asked.lots c.args.asked.price st is

pub returns-in_err-resting_code : goal.returns-in_err-resting_code
returns-in_err-resting_code c =
    let st = sym (c.in_ok-continuous_code.ensures.first c.requires.0.declared _ _ _) in
    let is = c.listed_at-listed.ensures ∙ ap (listed_in c.args.state.now) c.place_of.ensures in
    order_refused c.requires.0 _ _ _ _ _ st is
    c.in-Some.ensures c.place_word-a.ensures c.in_err-resting_code.ensures (not_accepted _) (refusal_passed _ _ c.from_residual-in_err-resting_code.ensures.1)

pub take_out-requires : goal.take_out-requires
take_out-requires c =
    let st = sym (c.in_ok-continuous_code.ensures.first c.requires.0.declared _ _ _) in
    let is = c.listed_at-listed.ensures ∙ ap (listed_in c.args.state.now) c.place_of.ensures in
    let passed = changeable c.requires.0 _ _ _ _ _ st is c.in-Some.ensures c.place_word-a.ensures c.in_ok-resting_code.ensures refl in
    its_place c.requires.0 _ _ _ _ _ passed is

pub one_less-less-requires : goal.one_less-less-requires
one_less-less-requires c =
    let st = sym (c.in_ok-continuous_code.ensures.first c.requires.0.declared _ _ _) in
    let is = c.listed_at-listed.ensures ∙ ap (listed_in c.args.state.now) c.place_of.ensures in
    let passed = changeable c.requires.0 _ _ _ _ _ st is c.in-Some.ensures c.place_word-a.ensures c.in_ok-resting_code.ensures refl in
    one_there c.requires.0 _ _ _ _ _ passed is

pub returns-then-lots-eq0 : goal.returns-then-lots-eq0
returns-then-lots-eq0 c =
    let st = sym (c.in_ok-continuous_code.ensures.first c.requires.0.declared _ _ _) in
    let is = c.listed_at-listed.ensures ∙ ap (listed_in c.args.state.now) c.place_of.ensures in
    let passed = changeable c.requires.0 _ _ _ _ _ st is c.in-Some.ensures c.place_word-a.ensures c.in_ok-resting_code.ensures refl in
    zero_changed c.requires.0 _ _ _ _ _ passed is c.one_less-less.ensures
    c.take_out.ensures.buys_after c.take_out.ensures.sells_after c.if-lots-eq0.true c.accepted.ensures

pub lose_place-requires : goal.lose_place-requires
lose_place-requires c =
    let st = sym (c.in_ok-continuous_code.ensures.first c.requires.0.declared _ _ _) in
    let is = c.listed_at-listed.ensures ∙ ap (listed_in c.args.state.now) c.place_of.ensures in
    let passed = changeable c.requires.0 _ _ _ _ _ st is c.in-Some.ensures c.place_word-a.ensures c.in_ok-resting_code.ensures refl in
    record {
      formed = c.requires.0;
      owner = held_here c.args.state.now c.args.asked.account (c.in_ok-continuous_code.ensures.account_in_use_lem refl) c.requires.1;
      listed = is;
      changeable = passed;
      some = c.if-lots-eq0.false;
      lost = sym c.loses_place.ensures ∙ c.if-loses_place.true;
    }

pub returns-then-lots-order : goal.returns-then-lots-order
returns-then-lots-order c =
    let st = sym (c.in_ok-continuous_code.ensures.first c.requires.0.declared _ _ _) in
    let is = c.listed_at-listed.ensures ∙ ap (listed_in c.args.state.now) c.place_of.ensures in
    let passed = changeable c.requires.0 _ _ _ _ _ st is c.in-Some.ensures c.place_word-a.ensures c.in_ok-resting_code.ensures refl in
    equal_changed c.requires.0 _ _ _ _ _ passed c.if-lots-eq0.false (sym c.loses_place.ensures ∙ c.if-loses_place.false) c.if-lots-order.true c.accepted-then-lots-order.ensures

pub lessen-requires : goal.lessen-requires
lessen-requires c =
    let st = sym (c.in_ok-continuous_code.ensures.first c.requires.0.declared _ _ _) in
    let is = c.listed_at-listed.ensures ∙ ap (listed_in c.args.state.now) c.place_of.ensures in
    let passed = changeable c.requires.0 _ _ _ _ _ st is c.in-Some.ensures c.place_word-a.ensures c.in_ok-resting_code.ensures refl in
    its_place c.requires.0 _ _ _ _ _ passed is

pub returns : goal.returns
returns c =
    let st = sym (c.in_ok-continuous_code.ensures.first c.requires.0.declared _ _ _) in
    let is = c.listed_at-listed.ensures ∙ ap (listed_in c.args.state.now) c.place_of.ensures in
    let passed = changeable c.requires.0 _ _ _ _ _ st is c.in-Some.ensures c.place_word-a.ensures c.in_ok-resting_code.ensures refl in
    fewer_changed c.requires.0 _ _ _ _ _ passed c.if-lots-eq0.false (sym c.loses_place.ensures ∙ c.if-loses_place.false) c.if-lots-order.false
    is c.lessen.ensures.buys_after c.lessen.ensures.sells_after c.accepted-2.ensures
