-- What a public call gives and leaves, against what the rules give and leave, and what a settlement reports. Assumes nothing.
use Rattle.std.specs.Prelude.{◌&&◌, List, ◌≡◌, ℕ, eqb, pos, replicate}
use Rattle.laws.specs.Choice.{pick}
use Rattle.laws.specs.Tabulate.{tabulate}
use Rattle.areas.specs.Lists.{padded}
use Rattle.rules.specs.Kinds.{code_of}
use Rattle.rules.specs.Bounds.{max_accounts, max_contracts}
use Rattle.rules.specs.Command.{is_settle}
use Rattle.rules.specs.Margin as margin
use Rattle.rules.specs.Memory.{Memory, exchange_of, respond, step_in, well_formed_memory, memory}
use Rattle.rules.specs.Settlement.{closing_profit, holding_profit, settled, settlement_price}
use Rattle.rules.specs.declared.Command.{Command}
use Rattle.engine.specs.declared.answers.Outcome.{Outcome}
use Rattle.exchange.specs.declared.settling.Report.{Report}
use Rattle.exchange.specs.declared.settling.Response.{Response}

abbrev pub no_report : Report
no_report = record { prices = replicate max_contracts 0; closing = replicate max_accounts (pos 0); holding = replicate max_accounts (pos 0); charged = replicate max_accounts 0 }

abbrev pub with_report : Outcome → Report → Response
with_report o report = record { answer = o.answer; state = o.state; report = report }

-- "P: contract, settlement price. B: account, closing and holding profit, balance, charged margin": the settlement's prices
-- and profits, and the margin after it, with zeros past the counts; the balance stands in the state
unfoldable pub settlement_report : Memory → Report
settlement_report m =
    record {
      prices = padded max_contracts 0 (tabulate m.state.contractcount (settlement_price (exchange_of m)));
      closing = padded max_accounts (pos 0) (tabulate m.state.accountcount (closing_profit (exchange_of m)));
      holding = padded max_accounts (pos 0) (tabulate m.state.accountcount (holding_profit (exchange_of m)));
      charged = padded max_accounts 0 (tabulate m.state.accountcount (margin.charged (settled (exchange_of m))));
    }

-- what a command reports: an accepted settlement's figures, otherwise nothing
unfoldable pub report_of : Memory → Command → Report
report_of m command = pick (is_settle command && eqb (code_of (exchange_of m) command) 0) (settlement_report m) no_report

-- the answer, the state, the full content of the three areas, and the report
pub record ResponseIs (m : Memory) (command : Command) (r : Response) (buys sells trades : List ℕ) : Type 0 where
  pub answer : r.answer ≡ (step_in m command).answer
  pub memory : memory r.state buys sells trades ≡ (step_in m command).memory
  pub report : r.report ≡ report_of m command

-- the same on any state: a state that is not well formed is answered 21 and reports nothing
pub record ExecutedIs (m : Memory) (command : Command) (r : Response) (buys sells trades : List ℕ) : Type 0 where
  pub answer : r.answer ≡ (respond m command).answer
  pub memory : memory r.state buys sells trades ≡ (respond m command).memory
  pub report : r.report ≡ pick (well_formed_memory m) (report_of m command) no_report
