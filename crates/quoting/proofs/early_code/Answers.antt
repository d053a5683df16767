-- What `quoting::early_code` leaves: 2, 3 and 4, then 23 and 24 of the account. Assumes nothing.
use Rattle.std.proofs.Common.{refl, ◌∙◌}
use Rattle.theory.proofs.Codes.{not_accepted}
use Rattle.engine.proofs.Decisions.{code_passed}
use Rattle.quoting.proofs.Placing.{early_maker, early_named, early_none, early_prices}
use Rattle.quoting.proofs.early_code.Goals as goal

pub returns-in_err-continuous_code : goal.returns-in_err-continuous_code
returns-in_err-continuous_code c = λ d buys sells trades.
    let q = c.args.q in
    code_passed _ _ c.from_residual.ensures.1
    ∙ early_named d c.requires.1 buys sells trades q.account q.contract q.buy q.sell (c.in_err-continuous_code.ensures.first d _ _ _) (not_accepted _)

pub returns-then-state-a-ne1 : goal.returns-then-state-a-ne1
returns-then-state-a-ne1 c = λ d buys sells trades.
    let q = c.args.q in
    early_maker d c.requires.1 buys sells trades q.account q.contract q.buy q.sell (c.in_ok-continuous_code.ensures.first d _ _ _) refl c.place_of-a.ensures c.if-state-a-ne1.true

pub returns-then-q : goal.returns-then-q
returns-then-q c = λ d buys sells trades.
    let q = c.args.q in
    early_prices d c.requires.1 buys sells trades q.account q.contract q.buy q.sell (c.in_ok-continuous_code.ensures.first d _ _ _) refl c.place_of-a.ensures c.if-state-a-ne1.false c.if-q.true

pub returns : goal.returns
returns c = λ d buys sells trades.
    let q = c.args.q in
    early_none d c.requires.1 buys sells trades q.account q.contract q.buy q.sell (c.in_ok-continuous_code.ensures.first d _ _ _) refl c.place_of-a.ensures c.if-state-a-ne1.false c.if-q.false
