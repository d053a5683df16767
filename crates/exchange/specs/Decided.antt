-- What is decided of any command: a settlement is always left, with the whole state, for it reports. Assumes nothing.
use Rattle.std.specs.Prelude.{false, List, ◌≡◌, ℕ}
use Rattle.rules.specs.Command.{is_settle}
use Rattle.rules.specs.Memory.{Memory}
use Rattle.rules.specs.declared.Command.{Command}
use Rattle.engine.specs.Decision.{DecisionIs}
use Rattle.engine.specs.declared.updates.Decision.{Decision}
use Rattle.engine.specs.declared.updates.Update.{Update}
use Rattle.engine.specs.declared.updates.Update.TheVariants.{Nothing, Balance, Listing, Left, Whole}

-- what is done already, or left with all accounts, is no settlement
abbrev pub SettleLeft : Command → Update → Type 0
SettleLeft command Nothing = is_settle command ≡ false
SettleLeft command (Balance a balance) = is_settle command ≡ false
SettleLeft command (Listing l) = is_settle command ≡ false
SettleLeft command (Left p) = is_settle command ≡ false
SettleLeft command (Whole p) = Unit {0}

pub record DecidedIs (m : Memory) (command : Command) (d : Decision) (buys sells trades : List ℕ) : Type 0 where
  pub decision : DecisionIs m command d buys sells trades
  pub settles : SettleLeft command d.update
