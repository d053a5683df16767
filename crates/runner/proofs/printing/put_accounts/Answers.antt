-- Assumes nothing.
use mir.Facts.{to_z-of_z}
use mir.Syntax.{w64}
use Rattle.std.proofs.Common.{rules, arith, get_or, pos}
use Rattle.rules.specs.Exchange.{no_account}
use Rattle.lines.specs.Tables.{account_line_most}
use Rattle.runner.proofs.Tables.{rows_none, rows_more}
use Rattle.runner.proofs.printing.put_accounts.Goals as goal

pub loop-a-init : goal.loop-a-init
loop-a-init c = rows_none _ (omega arith)

-- a signed number read from an array is the number that stands there
pub loop-a-preserved : goal.loop-a-preserved
loop-a-preserved c =
    let closing = to_z-of_z {w = w64} {z = get_or c.args.report.closing c.loop-a.a (pos 0)} (record { sfits = search rules }) in
    let holding = to_z-of_z {w = w64} {z = get_or c.args.report.holding c.loop-a.a (pos 0)} (record { sfits = search rules }) in
    let balance = to_z-of_z {w = w64} {z = (get_or c.args.accounts c.loop-a.a no_account).balance} (record { sfits = search rules }) in
    rows_more _ _ _ account_line_most _ (omega arith) c.loop-a.invariant (rw (closing, holding, balance) at c.put_account-next.ensures)
