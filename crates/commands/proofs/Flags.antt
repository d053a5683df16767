-- Bits of a flags byte as shifts and masks read them. Assumes nothing.
use native.Mathlib.Nat.{div-one}
use lib.Bits.{bit_and, and_mask}
use Rattle.laws.specs.Logic.{◌≡◌, sym, ap, ◌∙◌}
use Rattle.laws.specs.Numbers.{ℕ, ◌-◌, ◌/◌, ◌%◌, ◌^◌}
use Rattle.rules.specs.Command.{bits}

-- a byte shifted by k and masked by w ones; with no shift where k is 0
pub masked : (flags k w : ℕ) → bit_and (flags / 2 ^ k) (2 ^ w - 1) ≡ bits k w flags
unfolding bits
masked flags k w = and_mask (flags / 2 ^ k) w

pub masked_low : (flags w : ℕ) → bit_and flags (2 ^ w - 1) ≡ bits 0 w flags
unfolding bits
masked_low flags w = and_mask flags w ∙ ap (λ (n : ℕ). n % 2 ^ w) (sym (div-one flags))
