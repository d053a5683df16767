-- The lines of a response as it lies in memory: a table has a line for each place below a count. Assumes nothing.
use Rattle.std.specs.Prelude.{◌&&◌, List, [], ◌++◌, ℕ, zero, suc, ◌+◌, eqb, ℤ, pos, get_or, drop}
use Rattle.laws.specs.Choice.{pick}
use Rattle.rules.specs.Command.{is_settle}
use Rattle.rules.specs.Exchange.{no_account}
use Rattle.rules.specs.Lines.{answer_line, trade_lines}
use Rattle.rules.specs.Memory.{recorded_trades}
use Rattle.rules.specs.declared.Account.{Account}
use Rattle.rules.specs.declared.Command.{Command}
use Rattle.rules.specs.declared.State.{State}
use Rattle.exchange.specs.declared.settling.Report.{Report}
use Rattle.exchange.specs.declared.settling.Response.{Response}
use Rattle.lines.specs.Tables.{price_line, account_line}

unfoldable pub rows : (ℕ → List ℕ) → ℕ → List ℕ
rows line zero = []
rows line (suc n) = rows line n ++ line n

-- a contract's P line
abbrev pub price_row : List ℕ → ℕ → List ℕ
price_row prices c = price_line c (get_or prices c 0)

-- an account's B line, its balance as it lies in the state
abbrev pub account_row : List ℤ → List ℤ → List ℕ → List Account → ℕ → List ℕ
account_row closing holding charged accounts a =
    account_line a (get_or closing a (pos 0)) (get_or holding a (pos 0)) (get_or accounts a no_account).balance (get_or charged a 0)

-- all P, then all B
unfoldable pub settlement_rows : State → Report → List ℕ
settlement_rows s report =
    rows (price_row report.prices) s.contractcount
    ++ rows (account_row report.closing report.holding report.charged s.accounts) s.accountcount

-- those of an accepted settlement, none otherwise
unfoldable pub report_rows : Command → Response → List ℕ
report_rows command r = pick (is_settle command && eqb r.answer.code 0) (settlement_rows r.state r.report) []

-- the C line, a T line for each trade recorded past the first `before`, and the report
unfoldable pub response_rows : ℕ → Command → ℕ → List ℕ → Response → List ℕ
response_rows k command before trades r =
    answer_line k r.answer ++ (trade_lines (before + 1) (drop before (recorded_trades trades r.state.tradecount)) ++ report_rows command r)
