use Rattle.std.proofs.Common.{◌≡◌, ◌*◌, ◌≤◌, length, take}
use Rattle.laws.specs.Tabulate.{tabulate}
use Rattle.rules.specs.Bounds.{max_resting}
use Rattle.rules.specs.Memory.{word_of}
use Rattle.rules.specs.WellFormed.{all_listed}
use Rattle.audit.specs.Lent.{listing_of}
use Rattle.audit.specs.Parts.{max_listed}
use Rattle.audit.proofs.numbers.list_all.Given as goal

-- the values of the contracts before place c are listed
abbrev pub invariant-loop-c : goal.invariant-loop-c
invariant-loop-c l =
    (length l.list ≡ max_listed)
    × (l.count ≤ 2 * max_resting * l.c)
    × (take l.count l.list ≡ all_listed (word_of l.word) (tabulate l.c (listing_of l.queues)))
