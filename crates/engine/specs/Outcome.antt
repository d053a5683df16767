-- What a kind gives and leaves, against what the rules give and leave. Assumes nothing.
use Rattle.std.specs.Prelude.{Bool, false, not, ◌&&◌, List, ◌≡◌, ℕ, eqb, ℤ, get_or, set}
use Rattle.rules.specs.Bounds.{continuous, in_auction}
use Rattle.rules.specs.Answers.{Refusal, absent_refusals, first_of}
use Rattle.rules.specs.Exchange.{Exchange, is_absent, no_account, no_contract, place_of}
use Rattle.rules.specs.Step.{answer_of, with_balance, with_phase}
use Rattle.rules.specs.Memory.{AfterCommand, Declared, exchange_of, memory}
use Rattle.rules.specs.declared.Account.{Account}
use Rattle.rules.specs.declared.Contract.{Contract}
use Rattle.rules.specs.declared.State.{State}
use Rattle.engine.specs.declared.answers.Outcome.{Outcome}

-- the answer, the state, and the full content of the three areas
pub record OutcomeIs (after : AfterCommand) (r : Outcome) (buys sells trades : List ℕ) : Type 0 where
  pub answer : r.answer ≡ after.answer
  pub memory : memory r.state buys sells trades ≡ after.memory

-- a code that is the first of some refusals on a state, whatever the areas lent with it hold: they are not read
abbrev pub CodeIn : State → (Exchange → List Refusal) → ℕ → Type 0
CodeIn s refusals code = Declared s → (buys sells trades : List ℕ) → code ≡ first_of (refusals (exchange_of (memory s buys sells trades)))

-- 2 and 3 in any state with so many accounts and contracts in use; code 0 says that the account and the contract are
pub record AbsentIs (accounts contracts account contract code : ℕ) : Type 0 where
  pub first : (s : State) → s.accountcount ≡ accounts → s.contractcount ≡ contracts → CodeIn s (λ x. absent_refusals x account contract) code
  pub account_in_use_lem : code ≡ 0 → is_absent account accounts ≡ false
  pub contract_in_use_lem : code ≡ 0 → is_absent contract contracts ≡ false

-- a change of a contract's state that makes a match: from auction to continuous
unfoldable pub is_match : State → ℕ → ℕ → Bool
is_match s contract phase =
    eqb phase continuous && not (is_absent contract s.contractcount) && in_auction (get_or s.contracts (place_of contract) no_contract)

-- ---- an outcome as the code makes it

abbrev pub refused_with : State → ℕ → Outcome
refused_with state code = record { answer = answer_of code 0 0 0; state = state }

abbrev pub accepted_with : State → ℕ → ℕ → ℕ → Outcome
accepted_with state number traded lots = record { answer = answer_of 0 number traded lots; state = state }

-- ---- states with a part replaced

abbrev pub with_contracts_in : State → List Contract → State
with_contracts_in s contracts =
    record {
      contracts = contracts;
      accounts = s.accounts;
      buycounts = s.buycounts;
      sellcounts = s.sellcounts;
      contractcount = s.contractcount;
      accountcount = s.accountcount;
      tradecount = s.tradecount;
      next = s.next;
      nextstamp = s.nextstamp;
      settlements = s.settlements;
    }

abbrev pub with_accounts_in : State → List Account → State
with_accounts_in s accounts =
    record {
      contracts = s.contracts;
      accounts = accounts;
      buycounts = s.buycounts;
      sellcounts = s.sellcounts;
      contractcount = s.contractcount;
      accountcount = s.accountcount;
      tradecount = s.tradecount;
      next = s.next;
      nextstamp = s.nextstamp;
      settlements = s.settlements;
    }

-- other counts of resting orders
abbrev pub with_counts_in : State → List ℕ → List ℕ → State
with_counts_in s buycounts sellcounts =
    record {
      contracts = s.contracts;
      accounts = s.accounts;
      buycounts = buycounts;
      sellcounts = sellcounts;
      contractcount = s.contractcount;
      accountcount = s.accountcount;
      tradecount = s.tradecount;
      next = s.next;
      nextstamp = s.nextstamp;
      settlements = s.settlements;
    }

-- another balance at one account's place, another phase at one contract's
abbrev pub with_balance_at : State → ℕ → ℤ → State
with_balance_at s a balance = with_accounts_in s (set s.accounts a (with_balance (get_or s.accounts a no_account) balance))

abbrev pub with_phase_at : State → ℕ → ℕ → State
with_phase_at s c phase = with_contracts_in s (set s.contracts c (with_phase (get_or s.contracts c no_contract) phase))
