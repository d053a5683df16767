-- What cancel and pull test and do in one queue. Assumes nothing.
use Rattle.std.specs.Prelude.{Err, List, None, Ok, Option, Result, Some, ◌≡◌, ℕ}
use Rattle.rules.specs.Answers.{first_of, numbered, owner_refusals}
use Rattle.rules.specs.Memory.{queue_in}
use Rattle.rules.specs.Step.{has_number}
use Rattle.rules.specs.declared.codes.Code.{Code}
use Rattle.rules.specs.declared.codes.Code.TheVariants.{AnothersOrder}
use Rattle.book.specs.Removal.{RemovedIs}
use Rattle.engine.specs.declared.removal.Removed.{Removed}

-- the code of a cancel as one queue has it
abbrev pub code_there : ℕ → ℕ → List ℕ → ℕ → ℕ → ℕ
code_there account number area c n = first_of (owner_refusals account (numbered number (queue_in area c n)))

-- a cancel in one queue: the order is taken out; or no order there has the number, or another account's has, and the area is as it was
abbrev pub CancelledIs : ℕ → ℕ → List ℕ → ℕ → ℕ → Result (Option Removed) Code → List ℕ → Type 0
CancelledIs account number area c n (Ok (Some gone)) area' =
    (code_there account number area c n ≡ 0) × RemovedIs (has_number number) area c n gone.count gone.lots area'
CancelledIs account number area c n (Ok None) area' = (code_there account number area c n ≡ 14) × (area' ≡ area)
CancelledIs account number area c n (Err code) area' = (code ≡ AnothersOrder) × ((code_there account number area c n ≡ 15) × (area' ≡ area))
