-- The parts make the state of the next day and the report.
use Rattle.settlement.proofs.Outcome.{settlements_left, few_contracts, all_clearable, all_priceable, all_payable, all_chargeable, settled_is}
use Rattle.settlement.proofs.settle.settle.Goals as goal

pub prices_due-prices-requires : goal.prices_due-prices-requires
prices_due-prices-requires c = all_priceable _ _ _ _ c.requires

pub all_paid-requires : goal.all_paid-requires
all_paid-requires c = all_payable _ _ _ _ c.requires _ c.prices_due-prices.ensures

pub clear_areas-requires : goal.clear_areas-requires
clear_areas-requires c = all_clearable _ _ _ _ c.requires

pub next_day-next-requires : goal.next_day-next-requires
next_day-next-requires c = (few_contracts _ _ _ _ c.requires, settlements_left _ _ _ _ c.requires)

pub charges-charged-requires : goal.charges-charged-requires
charges-charged-requires c =
    all_chargeable _ _ _ _ c.requires _ c.prices_due-prices.ensures _ _ _ c.all_paid.ensures
    _ _ _ c.clear_areas.ensures _ c.next_day-next.ensures

pub returns : goal.returns
returns c =
    settled_is _ _ _ _ c.requires _ c.prices_due-prices.ensures _ _ _ c.all_paid.ensures
    _ _ _ c.clear_areas.ensures _ _
    c.next_day-next.ensures c.charges-charged.ensures
