-- A contract's pairing method has the tick that it rounds to. Assumes nothing.
use Rattle.laws.specs.Numbers.{ℕ, ◌≤◌}
use Rattle.rules.specs.Matching.{method_of}
use Rattle.rules.specs.declared.{Contract.Contract, PairingMethod.PairingMethod}
use Rattle.rules.specs.declared.PairingMethod.TheVariants.{Middle, Average, FirstIn}
use Rattle.theory.proofs.Prices.{RoundsTo, method_rounds}
use Rattle.prices.specs.Methods.{HasTick}

has_tick : (tick : ℕ) (method : PairingMethod) → 1 ≤ tick → RoundsTo tick method → HasTick method
has_tick tick Middle some r = tt
has_tick tick (Average its) some r = rw r some
has_tick tick FirstIn some r = tt

pub method_has_tick : (c : Contract) → 1 ≤ c.tick → HasTick (method_of c)
method_has_tick c some = has_tick c.tick (method_of c) some (method_rounds c)
