-- The account that a command names. Assumes nothing.
use Rattle.std.specs.Prelude.{ℕ}
use Rattle.laws.specs.Choice.{pick}
use Rattle.rules.specs.Exchange.{is_absent, place_of}
use Rattle.rules.specs.declared.Command.{Command}
use Rattle.rules.specs.declared.Command.TheVariants.{Malformed, Deposit, Withdraw, Insert, Cancel, Pull, Phase, Settle, Quote, Change}

-- its number as given, 0 where the kind names none
abbrev pub account_number : Command → ℕ
account_number Malformed = 0
account_number (Deposit account amount) = account
account_number (Withdraw account amount) = account
account_number (Insert o) = o.account
account_number (Cancel account contract operator number) = account
account_number (Pull account contract operator) = account
account_number (Phase contract phase) = 0
account_number Settle = 0
account_number (Quote account contract lots buy sell) = account
account_number (Change account contract number lots price) = account

-- its place among so many accounts in use, the first where it is none of them
abbrev pub place_among : ℕ → ℕ → ℕ
place_among number accounts = pick (is_absent number accounts) 0 (place_of number)
