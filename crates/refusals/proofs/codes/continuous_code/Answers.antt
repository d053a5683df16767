-- What `codes::continuous_code` leaves: the three tests in their order. Assumes nothing.
use Rattle.std.proofs.Common.{[], ap, arith, refl, sym, ◌∙◌}
use Rattle.std.specs.Prelude.{not}
use borrow.Author.Tests.{eq-eqb, ne_eqb}
use Rattle.rules.specs.Answers.{first_of, not_continuous}
use Rattle.theory.proofs.Codes.{not_accepted}
use Rattle.engine.proofs.Decisions.{code_passed}
use Rattle.engine.proofs.Named.{one_absent, forbidden, allowed}
use Rattle.engine.proofs.Tests.{place_below}
use Rattle.refusals.proofs.codes.continuous_code.Goals as goal

pub returns-in_err-absent_code : goal.returns-in_err-absent_code
returns-in_err-absent_code c =
    let passed = code_passed _ _ c.from_residual.ensures.1 in
    record {
      first = λ d buys sells trades. passed ∙ one_absent d c.requires.1 buys sells trades _ _ _ c.in_err-absent_code.ensures (not_accepted _);
      account_in_use_lem = λ e. absurd (not_accepted _ (sym passed ∙ e));
    }

pub place_of-place-requires : goal.place_of-place-requires
place_of-place-requires c = (place_below c.args.contract c.args.state.now.contractcount (c.in_ok-absent_code.ensures.contract_in_use_lem refl)).0

pub returns-then-terms-ne-CONTINUOUS : goal.returns-then-terms-ne-CONTINUOUS
returns-then-terms-ne-CONTINUOUS c =
    record {
      first = λ d buys sells trades.
          forbidden d c.requires.1 buys sells trades not_continuous _ _ [] (c.in_ok-absent_code.ensures.account_in_use_lem refl) (c.in_ok-absent_code.ensures.contract_in_use_lem refl)
          (ap not (ne_eqb _ _ (rw c.place_of-place.ensures at c.if-terms-ne-CONTINUOUS.true)));
      account_in_use_lem = λ e. absurd (omega arith);
    }

pub returns : goal.returns
unfolding first_of
returns c =
    record {
      first = λ d buys sells trades.
          sym (allowed d c.requires.1 buys sells trades not_continuous _ _ [] (c.in_ok-absent_code.ensures.account_in_use_lem refl) (c.in_ok-absent_code.ensures.contract_in_use_lem refl)
          (ap not (eq-eqb _ _ (rw c.place_of-place.ensures at c.if-terms-ne-CONTINUOUS.false))));
      account_in_use_lem = λ e. c.in_ok-absent_code.ensures.account_in_use_lem refl;
    }
