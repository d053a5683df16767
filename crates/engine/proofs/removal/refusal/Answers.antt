-- `removal::refusal` meets its contract: the three tests in their order. Assumes nothing.
use Rattle.std.proofs.Common.{Bool, [], refl, sym, ◌∙◌}
use Rattle.rules.specs.Answers.{first_of, pull_refusals, removal_refused}
use Rattle.rules.specs.declared.Contract.{Contract}
use Rattle.theory.proofs.Codes.{not_accepted}
use Rattle.engine.proofs.Decisions.{code_passed}
use Rattle.engine.proofs.Named.{one_absent, forbidden, allowed}
use Rattle.engine.proofs.removal.refusal.Goals as goal

-- the test of 4
abbrev refused : Bool → Contract → Bool
refused operator terms = removal_refused terms operator

pub returns-in_err-absent_code : goal.returns-in_err-absent_code
unfolding pull_refusals
returns-in_err-absent_code c = λ d buys sells trades.
    code_passed _ _ c.from_residual.ensures.1 ∙ one_absent d c.requires.1 buys sells trades _ _ _ c.in_err-absent_code.ensures (not_accepted _)

pub returns-then-is_refused : goal.returns-then-is_refused
unfolding pull_refusals
returns-then-is_refused c = λ d buys sells trades.
    forbidden d c.requires.1 buys sells trades (refused c.args.operator) _ _ [] (c.in_ok-absent_code.ensures.account_in_use_lem refl) (c.in_ok-absent_code.ensures.contract_in_use_lem refl)
    (sym (c.is_refused.ensures ∙ rw c.place_of-place.ensures) ∙ c.if-is_refused.true)

pub returns : goal.returns
unfolding pull_refusals first_of
returns c = λ d buys sells trades.
    sym (allowed d c.requires.1 buys sells trades (refused c.args.operator) _ _ [] (c.in_ok-absent_code.ensures.account_in_use_lem refl) (c.in_ok-absent_code.ensures.contract_in_use_lem refl)
    (sym (c.is_refused.ensures ∙ rw c.place_of-place.ensures) ∙ c.if-is_refused.false))
