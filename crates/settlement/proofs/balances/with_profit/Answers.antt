-- Two sums that fit.
use native.Mathlib.Omega.{arith}
use Rattle.laws.proofs.Signed.{add_fits}
use Rattle.settlement.proofs.Carrying.{balance_fits, balance_back}
use Rattle.settlement.proofs.balances.with_profit.Goals as goal

pub overflow_add-result : goal.overflow_add-result
overflow_add-result c = add_fits c.requires.1 c.requires.2 (omega arith)

pub overflow_add-result-2 : goal.overflow_add-result-2
overflow_add-result-2 c = balance_fits _ _ _ c.requires.0 c.requires.1 c.requires.2

pub returns : goal.returns
returns c = balance_back _ _ _ c.requires.0 c.requires.1 c.requires.2
