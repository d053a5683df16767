-- The first places hold reopened contracts.
use Rattle.std.proofs.Common.{get_or}
use Rattle.laws.specs.Written.{Writing}
use Rattle.rules.specs.Exchange.{no_contract}
use Rattle.rules.specs.Settlement.{settled_contract}
use Rattle.settlement.proofs.reopen.all_reopened.Given as goal

abbrev pub invariant-loop-c : goal.invariant-loop-c
invariant-loop-c l = Writing (λ i. settled_contract (get_or l.contracts i no_contract) (get_or l.prices i 0)) l.contracts l.count l.c l.next
