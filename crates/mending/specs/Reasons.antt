-- The reasons by name, and the number of each in the list of what is dropped. Assumes nothing.
use Rattle.std.specs.Prelude.{Option, Some, None, ℕ}
use Rattle.mending.specs.declared.reasons.Reason.{Reason}
use Rattle.mending.specs.declared.reasons.Reason.TheVariants.{Malformed, Partial, Surplus}

-- "a reason (1): 1 malformed, 2 partial, 3 surplus"
abbrev pub reason_number : Reason → ℕ
reason_number Malformed = 1
reason_number Partial = 2
reason_number Surplus = 3

-- the number that is told of a record: 0 for one that is kept
abbrev pub reason_in : Option Reason → ℕ
reason_in None = 0
reason_in (Some why) = reason_number why
