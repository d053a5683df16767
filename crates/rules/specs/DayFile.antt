-- "The day file": when it is sound, the state its run opens with, and its commands. Assumes nothing.
use Rattle.std.specs.Prelude.{Bool, ◌&&◌, List, [], ℕ, ◌+◌, ◌*◌, ◌%◌, ◌^◌, leb, eqb, pos, length, get_or, replicate}
use Rattle.laws.specs.Choice.{all, pick}
use Rattle.laws.specs.Tabulate.{tabulate}
use Rattle.rules.specs.Bounds.{within, max_contracts, max_accounts, max_balance, terms_in_range, pre_open}
use Rattle.rules.specs.Command.{command_of}
use Rattle.rules.specs.Exchange.{Exchange, Listing, no_holding}
use Rattle.rules.specs.declared.Account.{Account}
use Rattle.rules.specs.declared.Command.{Command}
use Rattle.rules.specs.declared.Contract.{Contract}
use Rattle.rules.specs.declared.Record.{Record}

-- ---- "Little-endian."

unfoldable pub u8_at : List ℕ → ℕ → ℕ
u8_at file at = get_or file at 0

unfoldable pub u16_at : List ℕ → ℕ → ℕ
u16_at file at = u8_at file at + 2 ^ 8 * u8_at file (at + 1)

unfoldable pub u32_at : List ℕ → ℕ → ℕ
u32_at file at = u16_at file at + 2 ^ 16 * u16_at file (at + 2)

unfoldable pub u64_at : List ℕ → ℕ → ℕ
u64_at file at = u32_at file at + 2 ^ 32 * u32_at file (at + 4)

-- ---- the widths, in bytes: "each after its 4-byte count"; "A contract is 20 bytes"; "An account is 8 bytes"; "A command is 24 bytes"

abbrev pub count_width : ℕ
count_width = 4

abbrev pub contract_width : ℕ
contract_width = 20

abbrev pub account_width : ℕ
account_width = 8

abbrev pub command_width : ℕ
command_width = 24

-- ---- "Sections in a fixed order, each after its 4-byte count: contracts (1 to 4), accounts (1 to 32), commands (0 to
-- 2,000)."

abbrev pub max_commands : ℕ
max_commands = 2_000

-- no rule: how many bytes the largest sound file has
abbrev pub file_most : ℕ
file_most = 3 * count_width + contract_width * max_contracts + account_width * max_accounts + command_width * max_commands

unfoldable pub contracts_in : List ℕ → ℕ
contracts_in file = u32_at file 0

unfoldable pub contract_place : ℕ → ℕ
contract_place c = count_width + contract_width * c

-- the accounts' count stands behind the contracts
unfoldable pub accounts_in : List ℕ → ℕ
accounts_in file = u32_at file (contract_place (contracts_in file))

unfoldable pub account_place : List ℕ → ℕ → ℕ
account_place file a = contract_place (contracts_in file) + count_width + account_width * a

-- the commands' count stands behind the accounts
unfoldable pub commands_in : List ℕ → ℕ
commands_in file = u32_at file (account_place file (accounts_in file))

unfoldable pub command_place : List ℕ → ℕ → ℕ
command_place file k = account_place file (accounts_in file) + count_width + command_width * k

-- ---- the records

-- "A contract is 20 bytes: multiplier 2, tick 2, reference 4, band 4, limit 4, rate 2, zero 2." "The contract record's last two
-- bytes, zero until now, name the method" (document 02, ticket 6). Its run opens in pre-open; "The last price starts as the
-- reference".
unfoldable pub contract_from : List ℕ → ℕ → Contract
contract_from file at =
    record {
      multiplier = u16_at file at;
      tick = u16_at file (at + 2);
      reference = u32_at file (at + 4);
      band = u32_at file (at + 8);
      limit = u32_at file (at + 12);
      rate = u16_at file (at + 16);
      method = u16_at file (at + 18);
      phase = pre_open;
      last = u32_at file (at + 4);
    }

unfoldable pub contract_sound : List ℕ → ℕ → Bool
contract_sound file c = terms_in_range (contract_from file (contract_place c))

-- "An account is 8 bytes: opening balance, 0 to 10^18." "Bit 63 of an account's opening balance in the file marks a maker." (02,
-- ticket 7)
abbrev pub maker_bit : ℕ
maker_bit = 2 ^ 63

unfoldable pub balance_from : List ℕ → ℕ → ℕ
balance_from file a = u64_at file (account_place file a) % maker_bit

unfoldable pub maker_from : List ℕ → ℕ → ℕ
maker_from file a = pick (leb maker_bit (u64_at file (account_place file a))) 1 0

unfoldable pub account_sound : List ℕ → ℕ → Bool
account_sound file a = leb (balance_from file a) max_balance

-- "A command is 24 bytes: kind 1, account 1, contract 1, flags 1, lots 4, price 4, order number 4, amount 8."
unfoldable pub record_from : List ℕ → ℕ → Record
record_from file at =
    record {
      kind = u8_at file at;
      account = u8_at file (at + 1);
      contract = u8_at file (at + 2);
      flags = u8_at file (at + 3);
      lots = u32_at file (at + 4);
      price = u32_at file (at + 8);
      number = u32_at file (at + 12);
      amount = u64_at file (at + 16);
    }

abbrev pub command_from : List ℕ → ℕ → Command
command_from file at = command_of (record_from file at)

unfoldable pub commands_of : List ℕ → List Command
commands_of file = tabulate (commands_in file) (λ k. command_from file (command_place file k))

-- ---- the file

-- code 20, "day file broken: count, length or value out of range", is given to a file that is not sound. "The file ends
-- with the last command."
unfoldable pub sound : List ℕ → Bool
sound file =
    within 1 max_contracts (contracts_in file)
    && within 1 max_accounts (accounts_in file)
    && leb (commands_in file) max_commands
    && eqb (length file) (command_place file (commands_in file))
    && all (contract_sound file) (contracts_in file)
    && all (account_sound file) (accounts_in file)

-- "Its run opens in pre-open, with no orders, trades, holdings or settlements." Order numbers and time stamps begin with 1.
unfoldable pub opening_listing : List ℕ → ℕ → Listing
opening_listing file c = record { contract = contract_from file (contract_place c); buys = []; sells = [] }

unfoldable pub opening_account : List ℕ → ℕ → Account
opening_account file a = record { balance = pos (balance_from file a); maker = maker_from file a; holdings = replicate (contracts_in file) no_holding }

unfoldable pub opening : List ℕ → Exchange
opening file =
    record {
      listings = tabulate (contracts_in file) (opening_listing file);
      accounts = tabulate (accounts_in file) (opening_account file);
      trades = [];
      next = 1;
      nextstamp = 1;
      settlements = 0;
    }
