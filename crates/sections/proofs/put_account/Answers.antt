-- Assumes nothing.
use Rattle.std.proofs.Common.{arith, get_or-take, length-take-le}
use Rattle.rules.specs.Exchange.{no_holding}
use Rattle.sections.proofs.Held.{length_holding}
use Rattle.sections.proofs.Rows.{telling_none, telling_fits, telling_more, telling_done}
use Rattle.sections.proofs.put_account.Goals as goal

pub loop-h-init : goal.loop-h-init
loop-h-init c = telling_none _ _ _ _ (omega (arith, c.requires.1))

pub put_holding-next-requires : goal.put_holding-next-requires
put_holding-next-requires c =
    let l = length-take-le c.args.contracts c.args.a.holdings (omega arith) in
    telling_fits _ _ _ _ _ _ _ (omega arith) c.loop-h.invariant (length_holding _) c.requires.1

pub loop-h-preserved : goal.loop-h-preserved
loop-h-preserved c =
    let l = length-take-le c.args.contracts c.args.a.holdings (omega arith) in
    let e = get_or-take c.args.contracts c.args.a.holdings c.loop-h.h-index no_holding (omega arith) in
    telling_more _ _ _ _ _ _ _ (omega arith) c.loop-h.invariant (rw e at c.put_holding-next.ensures)

pub returns : goal.returns
returns c =
    let l = length-take-le c.args.contracts c.args.a.holdings (omega arith) in
    telling_done _ _ _ _ _ _ _ (omega arith) c.loop-h.invariant
