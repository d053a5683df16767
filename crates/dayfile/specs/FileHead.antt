-- The head of a day file, all that stands before its commands: what mending asks of it (ticket 11 of document 02), and what the
-- test of a whole file begins with. Assumes nothing.
use Rattle.std.specs.Prelude.{Bool, ◌&&◌, List, ℕ, ◌-◌, leb, length}
use Rattle.laws.specs.Choice.{pick, all}
use Rattle.rules.specs.Bounds.{within, max_contracts, max_accounts}
use Rattle.rules.specs.DayFile.{u32_at, contracts_in, accounts_in, command_place, contract_sound, account_sound, count_width}

-- the count of a section as a reader of any bytes takes it, ending at a place: 0 where the file ends before, or it is above the most
unfoldable pub count_before : List ℕ → ℕ → ℕ → ℕ
count_before file end most =
    pick (leb end (length file) && leb (u32_at file (end - count_width)) most) (u32_at file (end - count_width)) 0

-- "Contracts, accounts and the four bytes of the command count must be whole": the counts are in range, and the file reaches
-- to where the first command begins
unfoldable pub head_whole : List ℕ → Bool
head_whole file =
    within 1 max_contracts (contracts_in file)
    && within 1 max_accounts (accounts_in file)
    && leb (command_place file 0) (length file)

-- ".. contracts and accounts in range too"
unfoldable pub head_sound : List ℕ → Bool
head_sound file = head_whole file && all (contract_sound file) (contracts_in file) && all (account_sound file) (accounts_in file)
