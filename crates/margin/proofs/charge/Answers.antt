-- A quotient rounded up is the one that the rules tell. Assumes nothing.
use Rattle.laws.specs.Logic.{◌≡◌, ◌∙◌}
use Rattle.laws.specs.Numbers.{ℕ, ◌+◌, ◌*◌, ◌/◌, ◌%◌, min, arith}
use Rattle.rules.specs.Margin.{charge_of}
use Rattle.margin.proofs.charge.Goals as goal

rounded_up : (n : ℕ) → n / 10_000 + min 1 (n % 10_000) ≡ (n + 9_999) / 10_000
rounded_up n = omega arith

pub returns : goal.returns
unfolding charge_of
returns c =
    c.div_ceil.ensures ∙ rounded_up (c.from.result * c.from-2.result * c.from-3.result) ∙ rw (c.from.ensures, c.from-2.ensures, c.from-3.ensures)
