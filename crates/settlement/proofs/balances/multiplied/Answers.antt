-- A product that fits.
use native.Mathlib.Omega.{arith}
use lib.IntN.{*ℤ_comm, pos}
use Rattle.std.proofs.Common.{◌∙◌}
use Rattle.laws.proofs.Signed.{mul_fits, mul_back}
use Rattle.settlement.proofs.balances.multiplied.Goals as goal

pub overflow_mul-result : goal.overflow_mul-result
overflow_mul-result c = rw c.from.ensures (mul_fits {n = 1_000} c.args.multiplier c.requires.0 c.requires.1 (omega arith) (omega arith))

pub returns : goal.returns
returns c = rw c.from.ensures (mul_back {n = 1_000} c.args.multiplier c.requires.0 c.requires.1 (omega arith) (omega arith)) ∙ *ℤ_comm c.args.profit (pos c.args.multiplier)
