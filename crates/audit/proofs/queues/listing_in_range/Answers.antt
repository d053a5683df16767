use Rattle.std.proofs.Common.{true, ◌≡◌, get_or, arith}
use Rattle.std.proofs.lemmas.Grind.{common_steps}
use Rattle.rules.specs.Exchange.{no_contract}
use Rattle.rules.specs.Memory.{listing_in}
use Rattle.rules.specs.WellFormed.{contract_in_range}
use Rattle.theory.proofs.Terms.{terms_passed}
use Rattle.audit.proofs.Clauses.{listing_tests}
use Rattle.audit.proofs.queues.listing_in_range.Goals as goal

pub orders_in_range-requires : goal.orders_in_range-requires
orders_in_range-requires c =
    let passed : contract_in_range (get_or c.args.state.contracts c.args.c no_contract) ≡ true = grind (arith, common_steps) in
    terms_passed _ passed

pub orders_in_range-requires-then-orders_in_range : goal.orders_in_range-requires-then-orders_in_range
orders_in_range-requires-then-orders_in_range c =
    let passed : contract_in_range (get_or c.args.state.contracts c.args.c no_contract) ≡ true = grind (arith, common_steps) in
    terms_passed _ passed

pub returns-then-orders_in_range : goal.returns-then-orders_in_range
unfolding listing_in
returns-then-orders_in_range c = rw listing_tests (grind (arith, common_steps))

pub returns-else-orders_in_range : goal.returns-else-orders_in_range
unfolding listing_in
returns-else-orders_in_range c = rw listing_tests (grind (arith, common_steps))
