-- What a pairing method asks of the code: the average divides by its tick. Assumes nothing.
use Rattle.std.specs.Prelude.{◌≤◌}
use Rattle.rules.specs.declared.PairingMethod.{PairingMethod}
use Rattle.rules.specs.declared.PairingMethod.TheVariants.{Middle, Average, FirstIn}

abbrev pub HasTick : PairingMethod → Type 0
HasTick Middle = Unit {0}
HasTick (Average tick) = 1 ≤ tick
HasTick FirstIn = Unit {0}
