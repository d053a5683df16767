-- The sums are the day's, and the accounts below a are paid.
use Rattle.settlement.proofs.Carrying.{Paying}
use Rattle.settlement.proofs.Totals.{DaySummed}
use Rattle.settlement.proofs.balances.all_paid.Given as goal

abbrev pub invariant-loop-a : goal.invariant-loop-a
invariant-loop-a l =
    DaySummed l.state l.trades l.priced.prices l.closed l.closes l.opened l.opens l.used × Paying l.state l.trades l.priced.prices l.accounts l.closing l.holding l.a
