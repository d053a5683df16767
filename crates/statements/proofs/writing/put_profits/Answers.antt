-- Room for one profit more, and it is written.
use native.Mathlib.Omega.{arith}
use lib.IntN.{pos}
use mir.Syntax.{w64}
use mir.Val.{to_z, of_z}
use Rattle.std.proofs.Common.{rules, ◌≡◌, get_or}
use Rattle.sections.proofs.Rows.{telling_none, telling_fits, telling_more, telling_done}
use Rattle.statements.proofs.Sections.{length_profit}
use Rattle.statements.proofs.writing.put_profits.Goals as goal

pub loop-k-init : goal.loop-k-init
loop-k-init c = telling_none _ _ _ _ (omega (arith, c.requires.1))

pub put_profit-next-requires : goal.put_profit-next-requires
put_profit-next-requires c = telling_fits _ _ _ _ _ _ _ c.loop-k-test.true c.loop-k.invariant (length_profit _ _) c.requires.1

pub loop-k-preserved : goal.loop-k-preserved
loop-k-preserved c =
    let closed : to_z w64 (of_z w64 (get_or c.args.closing c.loop-k.k (pos 0))) ≡ get_or c.args.closing c.loop-k.k (pos 0) = search rules in
    let held : to_z w64 (of_z w64 (get_or c.args.holding c.loop-k.k (pos 0))) ≡ get_or c.args.holding c.loop-k.k (pos 0) = search rules in
    telling_more _ _ _ _ _ _ _ c.loop-k-test.true c.loop-k.invariant (rw (closed, held) at c.put_profit-next.ensures)

pub returns : goal.returns
returns c = telling_done _ _ _ _ _ _ _ c.loop-k-test.false c.loop-k.invariant
