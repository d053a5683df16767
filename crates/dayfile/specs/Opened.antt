-- A day file opened, whatever its bytes. Assumes nothing.
use Rattle.std.specs.Prelude.{List, ℕ, replicate}
use Rattle.laws.specs.Choice.{pick}
use Rattle.rules.specs.Bounds.{max_accounts, max_contracts}
use Rattle.rules.specs.DayFile.{command_place, commands_in, sound}
use Rattle.rules.specs.Exchange.{no_contract}
use Rattle.rules.specs.declared.State.{State}
use Rattle.dayfile.specs.Opening.{account_with, opening_state}
use Rattle.dayfile.specs.declared.open.Opened.{Opened}

-- the state of a file that is broken: all zero, without a contract and an account
abbrev pub no_state : State
no_state =
    record {
      contracts = replicate max_contracts no_contract;
      accounts = replicate max_accounts (account_with 0 0);
      buycounts = replicate max_contracts 0;
      sellcounts = replicate max_contracts 0;
      contractcount = 0;
      accountcount = 0;
      tradecount = 0;
      next = 0;
      nextstamp = 0;
      settlements = 0;
    }

-- "Code 20 belongs to the file and carries out nothing."
unfoldable pub opened_from : List ℕ → Opened
opened_from file =
    pick
    (sound file)
    (record { code = 0; first = command_place file 0; commands = commands_in file; state = opening_state file })
    (record { code = 20; first = 0; commands = 0; state = no_state })
