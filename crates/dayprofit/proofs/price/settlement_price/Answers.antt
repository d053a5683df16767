-- The quotes where nothing traded, else the weighted price.
use native.Mathlib.Omega.{arith}
use Rattle.dayprofit.proofs.Trading.{contract_sized, sized_day}
use Rattle.dayprofit.proofs.Quoting.{price_in, price_quoted, price_weighted, turnover_low}
use Rattle.dayprofit.proofs.price.settlement_price.Goals as goal

pub traded-day-requires : goal.traded-day-requires
traded-day-requires c = rw c.new.ensures (sized_day _ _ c.requires.trades)

pub returns-then-day-eq0 : goal.returns-then-day-eq0
returns-then-day-eq0 c =
    price_in _ _ _ _ _ _ _ _ _ (price_quoted _ _ _ _ _ _ _ (contract_sized _ _ (sized_day _ _ c.requires.trades))
    (rw c.new.ensures at c.traded-day.ensures) c.if-day-eq0.true (rw (c.new-bids.ensures, c.new-offers.ensures) at c.quoted.ensures))

pub weighted-requires : goal.weighted-requires
weighted-requires c = (omega arith, omega arith, turnover_low _ _ (contract_sized _ _ (sized_day _ _ c.requires.trades)) (rw c.new.ensures at c.traded-day.ensures))

pub returns : goal.returns
returns c = price_in _ _ _ _ _ _ _ _ _ (price_weighted _ _ _ _ _ _ _ (rw c.new.ensures at c.traded-day.ensures) c.if-day-eq0.false c.weighted.ensures)
