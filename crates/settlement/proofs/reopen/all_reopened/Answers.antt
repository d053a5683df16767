-- The array has its places, and one more contract is reopened.
use Rattle.std.proofs.Common.{rules, ◌≤◌, ◌∙◌, sym, length}
use Rattle.laws.specs.Lists.{unmapped}
use Rattle.laws.specs.Written.{writing_none, writing_more, writing_done}
use Rattle.settlement.proofs.Places.{overwritten_first}
use Rattle.settlement.proofs.reopen.all_reopened.Goals as goal

pub loop-c-init : goal.loop-c-init
loop-c-init c = writing_none _ _ _

pub loop-c-preserved : goal.loop-c-preserved
loop-c-preserved c =
    let room : c.args.count ≤ length c.args.contracts = search (rules, unmapped) in
    writing_more _ _ _ room _ _ _ c.loop-c-test.true c.reopened.ensures c.loop-c.invariant

pub returns : goal.returns
returns c = writing_done _ _ _ _ _ c.loop-c-test.false c.loop-c.invariant ∙ sym (overwritten_first _ _ _)
