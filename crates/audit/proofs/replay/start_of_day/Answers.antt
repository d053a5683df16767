use Rattle.std.proofs.Common.{◌≡◌, length, arith, rules}
use Rattle.laws.specs.Lists.{unmapped}
use Rattle.rules.specs.Exchange.{no_account}
use Rattle.rules.specs.Holdings.{start_account, start_of_day}
use Rattle.audit.proofs.UsedAccounts.{mapped_all, mapped_more}
use Rattle.audit.proofs.replay.start_of_day.Goals as goal

pub loop-a-preserved : goal.loop-a-preserved
loop-a-preserved c =
    let all : length c.args.accounts ≡ 32 = search (rules, unmapped) in
    mapped_more start_account c.args.accounts _ c.loop-a.a-index no_account (omega arith) c.loop-a.invariant c.start_account.ensures

pub returns : goal.returns
unfolding start_of_day
returns c =
    let all : length c.args.accounts ≡ 32 = search (rules, unmapped) in
    mapped_all start_account c.args.accounts c.loop-a.a-index (omega arith) c.loop-a.invariant
