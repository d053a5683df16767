-- What playing one command gives and leaves, and the room that its lines can need. Assumes nothing.
use Rattle.std.specs.Prelude.{List, ◌≡◌, ℕ, ◌+◌, ◌*◌, ◌≤◌, length}
use Rattle.rules.specs.Bounds.{max_accounts, max_contracts, max_trades}
use Rattle.rules.specs.Lines.{step_lines}
use Rattle.rules.specs.Memory.{Memory, exchange_of, respond, trades_words}
use Rattle.rules.specs.declared.Command.{Command}
use Rattle.lines.specs.Tables.{answer_line_most, trade_line_most, price_line_most, account_line_most}
use Rattle.exchange.specs.declared.settling.Response.{Response}
use Rattle.endian.specs.Written.{Written}
use Rattle.runner.specs.declared.turn.Turn.{Turn}

-- a P line for each contract and a B line for each account; with a C line and a T line for each trade of a day, what one
-- command can print
abbrev pub settlement_most : ℕ
settlement_most = price_line_most * max_contracts + account_line_most * max_accounts

abbrev pub command_most : ℕ
command_most = answer_line_most + trade_line_most * max_trades + settlement_most

-- a response whose counts are in range, with its trades
pub record InRange (r : Response) (trades : List ℕ) : Type 0 where
  pub contracts : r.state.contractcount ≤ max_contracts
  pub accounts : r.state.accountcount ≤ max_accounts
  pub count : r.state.tradecount ≤ max_trades
  pub room : trades_words ≤ length trades

-- the memory that the rules leave, and the rules' lines of command k in the buffer from `at` on
pub record TurnIs (m : Memory) (command : Command) (k : ℕ) (before : List ℕ) (at : ℕ) (turn : Turn) (m' : Memory) (after : List ℕ) : Type 0 where
  pub memory : m' ≡ (respond m command).memory
  pub lines : Written command_most before at (step_lines k (exchange_of m) command) after turn.end
