-- The state that a day file's run opens with, as it lies in memory. Assumes nothing.
use Rattle.std.specs.Prelude.{List, ℕ, pos, replicate}
use Rattle.areas.specs.Lists.{padded}
use Rattle.laws.specs.Tabulate.{tabulate}
use Rattle.rules.specs.Bounds.{max_contracts, max_accounts}
use Rattle.rules.specs.DayFile.{contracts_in, accounts_in, contract_place, contract_from, balance_from, maker_from}
use Rattle.rules.specs.Exchange.{no_contract, no_holding}
use Rattle.rules.specs.Memory.{Memory, memory}
use Rattle.rules.specs.declared.Account.{Account}
use Rattle.rules.specs.declared.Contract.{Contract}
use Rattle.rules.specs.declared.State.{State}

-- an account with room for its holdings in every contract, and none of them
abbrev pub account_with : ℕ → ℕ → Account
account_with balance maker = record { balance = pos balance; maker = maker; holdings = replicate max_contracts no_holding }

abbrev pub opening_contract : List ℕ → ℕ → Contract
opening_contract file c = contract_from file (contract_place c)

abbrev pub opening_holder : List ℕ → ℕ → Account
opening_holder file a = account_with (balance_from file a) (maker_from file a)

-- the contracts and the accounts of the file in the first places, zeros in the others
unfoldable pub opening_contracts : List ℕ → List Contract
opening_contracts file = padded max_contracts no_contract (tabulate (contracts_in file) (opening_contract file))

unfoldable pub opening_accounts : List ℕ → List Account
opening_accounts file = padded max_accounts (account_with 0 0) (tabulate (accounts_in file) (opening_holder file))

-- "Its run opens in pre-open, with no orders, trades, holdings or settlements."
unfoldable pub opening_state : List ℕ → State
opening_state file =
    record {
      contracts = opening_contracts file;
      accounts = opening_accounts file;
      buycounts = replicate max_contracts 0;
      sellcounts = replicate max_contracts 0;
      contractcount = contracts_in file;
      accountcount = accounts_in file;
      tradecount = 0;
      next = 1;
      nextstamp = 1;
      settlements = 0;
    }

-- the memory that a run begins with: the opening state, and areas in which whatever stands plays no part
abbrev pub opening_memory : List ℕ → List ℕ → List ℕ → List ℕ → Memory
opening_memory file buys sells trades = memory (opening_state file) buys sells trades
