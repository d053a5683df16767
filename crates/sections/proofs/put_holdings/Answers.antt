-- Assumes nothing.
use Rattle.std.proofs.Common.{arith, get_or-take, length-take-le}
use Rattle.rules.specs.Exchange.{account_at, holding_at, no_account}
use Rattle.sections.specs.Sections.{holdings_bytes}
use Rattle.sections.proofs.Rows.{telling_none, telling_room, telling_more, telling_done}
use Rattle.sections.proofs.put_holdings.Goals as goal

pub loop-a-init : goal.loop-a-init
loop-a-init c = telling_none _ _ _ _ (omega (arith, c.requires.2))

pub put_account-next-requires : goal.put_account-next-requires
unfolding holdings_bytes holding_at account_at
put_account-next-requires c =
    let l = length-take-le c.args.count c.args.accounts (omega arith) in
    let e = get_or-take c.args.count c.args.accounts c.loop-a.a-index no_account (omega arith) in
    (c.requires.1, rw e (telling_room _ _ _ _ _ _ _ (omega arith) c.loop-a.invariant c.requires.2))

pub loop-a-preserved : goal.loop-a-preserved
loop-a-preserved c =
    let l = length-take-le c.args.count c.args.accounts (omega arith) in
    let e = get_or-take c.args.count c.args.accounts c.loop-a.a-index no_account (omega arith) in
    telling_more _ _ _ _ _ _ _ (omega arith) c.loop-a.invariant (rw e at c.put_account-next.ensures)

pub returns : goal.returns
unfolding holdings_bytes holding_at account_at
returns c =
    let l = length-take-le c.args.count c.args.accounts (omega arith) in
    telling_done _ _ _ _ _ _ _ (omega arith) c.loop-a.invariant
