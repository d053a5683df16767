-- `insertion::trade_on` meets its contract: the entry that the rules make. Assumes nothing.
use Rattle.insertion.proofs.Arriving.{enters, traded_on}
use Rattle.insertion.proofs.trade_on.Goals as goal

pub enter-e-requires : goal.enter-e-requires
enter-e-requires c = enters c.requires.arrives c.limit_of-price.ensures c.requires c.is_day-day.ensures

pub returns : goal.returns
returns c =
    traded_on c.requires.arrives c.limit_of-price.ensures c.requires c.is_day-day.ensures c.enter-e.ensures c.entered_on.ensures
