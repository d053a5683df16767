-- The array has its places, and one more is carried over.
use Rattle.std.proofs.Common.{rules, ◌≤◌, length}
use Rattle.laws.specs.Lists.{unmapped}
use Rattle.settlement.proofs.Carrying.{carrying_none, carrying_more, carrying_done}
use Rattle.settlement.proofs.balances.carried_over.Goals as goal

pub loop-c-init : goal.loop-c-init
loop-c-init c = carrying_none _ _

pub loop-c-preserved : goal.loop-c-preserved
loop-c-preserved c =
    let room : c.args.contracts ≤ length c.args.account.holdings = search (rules, unmapped) in
    carrying_more _ _ room _ _ c.loop-c.invariant c.loop-c-test.true _ c.carried.ensures

pub returns : goal.returns
returns c =
    let room : c.args.contracts ≤ length c.args.account.holdings = search (rules, unmapped) in
    carrying_done _ _ room _ _ c.loop-c.invariant c.loop-c-test.false
