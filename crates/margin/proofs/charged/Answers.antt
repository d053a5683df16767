-- A turn adds the charge of one contract. Assumes nothing.
use Rattle.margin.proofs.Charging.{charged_in_areas, charging_none, total_fits, charging_more, charging_done}
use Rattle.margin.proofs.charged.Goals as goal

pub loop-c-init : goal.loop-c-init
loop-c-init c = charging_none _ _ _ _ _ _ _ _ c.requires

pub charged_in-total-requires : goal.charged_in-total-requires
charged_in-total-requires c =
    rw (c.new-bids.ensures, c.new-offers.ensures) (charged_in_areas _ _ _ _ _ _ _ _ (c.requires.each _ c.loop-c-test.true))

pub overflow_add-total : goal.overflow_add-total
overflow_add-total c = total_fits _ _ _ _ _ _ _ _ c.requires _ _ _ c.loop-c-test.true c.loop-c.invariant (rw (c.new-bids.ensures, c.new-offers.ensures) at c.charged_in-total.ensures)

pub loop-c-preserved : goal.loop-c-preserved
loop-c-preserved c = charging_more _ _ _ _ _ _ _ _ c.requires _ _ _ c.loop-c-test.true c.loop-c.invariant (rw (c.new-bids.ensures, c.new-offers.ensures) at c.charged_in-total.ensures)

pub returns : goal.returns
returns c = charging_done _ _ _ _ _ _ _ _ c.requires _ _ c.loop-c-test.false c.loop-c.invariant
