-- The saved file's bytes and tests as the code has them, on the state as it lies in memory. Assumes nothing.
use Rattle.std.specs.Prelude.{Bool, ◌&&◌, List, ◌++◌, ◌≡◌, ℕ, ◌+◌, ◌*◌, ◌^◌, ◌≤◌, ◌<◌, eqb, length, get_or, take, replicate}
use Rattle.laws.specs.Choice.{all}
use Rattle.rules.specs.Bounds.{pre_open, max_contracts, max_accounts}
use Rattle.rules.specs.DayFile.{contracts_in}
use Rattle.rules.specs.Exchange.{no_account, no_contract}
use Rattle.rules.specs.Memory.{Memory, memory, trades_words}
use Rattle.rules.specs.declared.Account.{Account}
use Rattle.rules.specs.declared.Contract.{Contract}
use Rattle.rules.specs.declared.State.{State}
use Rattle.endian.specs.Numbers.{four}
use Rattle.sections.specs.Sections.{holdings_bytes, in_row, section}
use Rattle.statefile.specs.StateFile.{account_bytes, saved_accounts_in, contract_bytes, settlements_place, totals_equal, settlements_width}

-- ---- the file of a state, section by section

abbrev pub contract_row : List Contract → ℕ → List ℕ
contract_row list n = in_row n (λ i. contract_bytes (get_or list i no_contract))

abbrev pub account_row : List Account → ℕ → List ℕ
account_row list n = in_row n (λ i. account_bytes (get_or list i no_account))

abbrev pub contract_section : List Contract → ℕ → List ℕ
contract_section list n = section n (contract_row list n)

abbrev pub account_section : List Account → ℕ → List ℕ
account_section list n = section n (account_row list n)

abbrev pub holding_section : List Account → ℕ → ℕ → List ℕ
holding_section list n contracts = section (n * contracts) (holdings_bytes list n contracts)

abbrev pub state_bytes : State → List ℕ
state_bytes s =
    contract_section s.contracts s.contractcount
    ++ (account_section s.accounts s.accountcount
    ++ (holding_section s.accounts s.accountcount s.contractcount ++ section 1 (four s.settlements)))

-- multiplier and tick as two bytes hold them
abbrev pub Short : Contract → Type 0
Short c = (c.multiplier < 2 ^ 16) × (c.tick < 2 ^ 16)

-- what writing a state asks for
pub record Fitting (s : State) (out : List ℕ) : Type 0 where
  pub contracts : s.contractcount ≤ max_contracts
  pub accounts : s.accountcount ≤ max_accounts
  pub short : (c : ℕ) → c < s.contractcount → Short (get_or s.contracts c no_contract)
  pub marks : (a : ℕ) → a < s.accountcount → (get_or s.accounts a no_account).maker ≤ 1
  pub room : length (state_bytes s) ≤ length out

-- ---- whether it may be written

abbrev pub empty_pre_open_at : State → ℕ → Bool
empty_pre_open_at s c = eqb (get_or s.contracts c no_contract).phase pre_open && eqb (get_or s.buycounts c 0) 0 && eqb (get_or s.sellcounts c 0) 0

unfoldable pub state_writable : State → Bool
state_writable s =
    all (empty_pre_open_at s) s.contractcount
    && all (totals_equal (take s.accountcount s.accounts)) s.contractcount
    && eqb s.tradecount 0
    && eqb s.next 1
    && eqb s.nextstamp 1

-- ---- a file of so many contracts and accounts, as long as they say

pub record Laid (bs : List ℕ) (contracts accounts : ℕ) : Type 0 where
  pub contracts_are : contracts ≡ contracts_in bs
  pub accounts_are : accounts ≡ saved_accounts_in bs
  pub few_contracts : contracts ≤ max_contracts
  pub few_accounts : accounts ≤ max_accounts
  pub ends : length bs ≡ settlements_place contracts accounts + settlements_width

-- the longest file: every contract and every account
abbrev pub saved_most : ℕ
saved_most = settlements_place max_contracts max_accounts + settlements_width

-- areas with room for any state, for the test of one with room aside
abbrev pub spare : List ℕ
spare = replicate trades_words 0

abbrev pub in_spare : State → Memory
in_spare s = memory s spare spare spare
