-- What is decided of a command, against what the rules give and leave. Assumes nothing.
use Rattle.std.specs.Prelude.{true, Err, List, Ok, Result, ◌≡◌, ℕ, ◌<◌, get_or, set}
use Rattle.laws.specs.Choice.{pick}
use Rattle.rules.specs.Bounds.{continuous, max_accounts, max_contracts}
use Rattle.rules.specs.Codes.{code_number}
use Rattle.rules.specs.Exchange.{is_absent, no_account, no_contract, place_of}
use Rattle.rules.specs.Memory.{Memory, WellFormedState, memory, step_in}
use Rattle.rules.specs.Step.{answer_of}
use Rattle.rules.specs.declared.Account.{Account}
use Rattle.rules.specs.declared.Answer.{Answer}
use Rattle.rules.specs.declared.Command.{Command}
use Rattle.rules.specs.declared.Command.TheVariants.{Phase, Settle, Quote}
use Rattle.rules.specs.declared.State.{State}
use Rattle.rules.specs.declared.codes.Code.{Code}
use Rattle.engine.specs.Arrival.{ArrivedIs, Trades}
use Rattle.engine.specs.Outcome.{OutcomeIs, is_match, with_accounts_in, with_balance_at}
use Rattle.engine.specs.declared.answers.Outcome.{Outcome}
use Rattle.engine.specs.declared.updates.Carried.{Carried}
use Rattle.engine.specs.declared.updates.Decision.{Decision}
use Rattle.engine.specs.declared.updates.Listed.{Listed}
use Rattle.engine.specs.declared.updates.Pending.{Pending}
use Rattle.engine.specs.declared.updates.Pending.TheVariants.{Trading, Matching}
use Rattle.engine.specs.declared.updates.Remaining.{Remaining}
use Rattle.engine.specs.declared.updates.Remaining.TheVariants.{Quoting, Settling}
use Rattle.engine.specs.declared.updates.Update.{Update}
use Rattle.engine.specs.declared.updates.Update.TheVariants.{Nothing, Balance, Listing, Left, Whole}

-- ---- one contract

-- the contract at a place as it stands
abbrev pub listed_in : State → ℕ → Listed
listed_in s c =
    record {
      place = c;
      terms = get_or s.contracts c no_contract;
      bought = get_or s.buycounts c 0;
      sold = get_or s.sellcounts c 0;
      recorded = s.tradecount;
      next = s.next;
      nextstamp = s.nextstamp;
    }

-- the state in which it stands so
abbrev pub with_listed : State → Listed → State
with_listed s l =
    record {
      contracts = set s.contracts l.place l.terms;
      accounts = s.accounts;
      buycounts = set s.buycounts l.place l.bought;
      sellcounts = set s.sellcounts l.place l.sold;
      contractcount = s.contractcount;
      accountcount = s.accountcount;
      tradecount = l.recorded;
      next = l.next;
      nextstamp = l.nextstamp;
      settlements = s.settlements;
    }

-- the contract with other counts of resting orders
abbrev pub counted_as : Listed → ℕ → ℕ → Listed
counted_as l bought sold =
    record { place = l.place; terms = l.terms; bought = bought; sold = sold; recorded = l.recorded; next = l.next; nextstamp = l.nextstamp }

-- ---- the account that a command names

-- its record, read by whoever owns the state; that of the first account where it is none in use
abbrev pub HeldBy : State → ℕ → Account → Type 0
HeldBy s account who = get_or s.accounts (pick (is_absent account s.accountcount) 0 (place_of account)) no_account ≡ who

-- ---- what is left to do with all accounts

-- the state with what was carried out written, and the outcome that this is
abbrev pub with_carried : State → Carried → State
with_carried s r = with_listed (with_accounts_in s r.accounts) r.listed

abbrev pub outcome_of : State → Carried → Outcome
outcome_of s r = record { answer = r.answer; state = with_carried s r }

-- a command carried out: written, it leaves what the rules leave, and the contract is one of the array's
pub record CarriedOut (m : Memory) (command : Command) (r : Carried) (buys sells trades : List ℕ) : Type 0 where
  pub place : r.listed.place < max_contracts
  pub outcome : OutcomeIs (step_in m command) (outcome_of m.state r) buys sells trades

-- what it asks for when it is carried out; a match has to be due
abbrev pub PendingReady : State → Pending → List ℕ → List ℕ → List ℕ → Type 0
PendingReady s (Trading a) buys sells trades = Trades s.accounts a buys sells trades
PendingReady s (Matching contract) buys sells trades = WellFormedState s buys sells trades × (is_match s contract continuous ≡ true)

-- and what it then gives
abbrev pub PendingDone : State → Pending → List ℕ → List ℕ → List ℕ → Carried → List ℕ → List ℕ → List ℕ → Type 0
PendingDone s (Trading a) buys sells trades r buys' sells' trades' = ArrivedIs s.accounts a buys sells trades r buys' sells' trades'
PendingDone s (Matching contract) buys sells trades r buys' sells' trades' = CarriedOut (memory s buys sells trades) (Phase contract continuous) r buys' sells' trades'

pub record Carriable (s : State) (p : Pending) (buys sells trades : List ℕ) : Type 0 where
  pub told : PendingReady s p buys sells trades

pub record CarriedIs (s : State) (p : Pending) (buys sells trades : List ℕ) (r : Carried) (buys' sells' trades' : List ℕ) : Type 0 where
  pub told : PendingDone s p buys sells trades r buys' sells' trades'

-- it can be carried out on the areas as they are by now, and whatever that gives is the command carried out
pub record LeftIs (m : Memory) (command : Command) (p : Pending) (buys sells trades : List ℕ) : Type 0 where
  pub ready : Carriable m.state p buys sells trades
  pub gives : (r : Carried) (buys' sells' trades' : List ℕ) → CarriedIs m.state p buys sells trades r buys' sells' trades' → CarriedOut m command r buys' sells' trades'

-- ---- what is left to do with the whole state

-- the command that it is
abbrev pub command_left : Remaining → Command
command_left (Quoting q) = Quote q.account q.contract q.lots q.buy q.sell
command_left Settling = Settle

-- it is this very command, and the areas are as they were
pub record WholeIs (m : Memory) (command : Command) (p : Remaining) (buys sells trades : List ℕ) : Type 0 where
  pub same : command_left p ≡ command
  pub untouched : memory m.state buys sells trades ≡ m

-- ---- a decision

-- with the update written, the answer, the state and the full content of the three areas are the rules'; or it is left to do
abbrev pub UpdateIs : Memory → Command → Answer → Update → List ℕ → List ℕ → List ℕ → Type 0
UpdateIs m command answer Nothing buys sells trades = OutcomeIs (step_in m command) (record { answer = answer; state = m.state }) buys sells trades
UpdateIs m command answer (Balance a balance) buys sells trades =
    (a < max_accounts) × OutcomeIs (step_in m command) (record { answer = answer; state = with_balance_at m.state a balance }) buys sells trades
UpdateIs m command answer (Listing l) buys sells trades =
    (l.place < max_contracts) × OutcomeIs (step_in m command) (record { answer = answer; state = with_listed m.state l }) buys sells trades
UpdateIs m command answer (Left p) buys sells trades = LeftIs m command p buys sells trades
UpdateIs m command answer (Whole p) buys sells trades = WholeIs m command p buys sells trades

pub record DecisionIs (m : Memory) (command : Command) (d : Decision) (buys sells trades : List ℕ) : Type 0 where
  pub told : UpdateIs m command d.answer d.update buys sells trades

-- ---- a decision as the code makes it

abbrev pub refused_by : ℕ → Decision
refused_by code = record { answer = answer_of code 0 0 0; update = Nothing }

abbrev pub accepted_by : Update → ℕ → ℕ → Decision
accepted_by update number lots = record { answer = answer_of 0 number 0 lots; update = update }

abbrev pub left_for : Update → Decision
left_for update = record { answer = answer_of 0 0 0 0; update = update }

-- what is decided by a kind that may refuse
abbrev pub decided : Result Decision Code → Decision
decided (Ok d) = d
decided (Err code) = refused_by (code_number code)
