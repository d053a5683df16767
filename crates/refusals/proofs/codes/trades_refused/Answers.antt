-- What `codes::trades_refused` leaves: few recorded trades leave room for one trade with each order; in auction there are none. Assumes
-- nothing.
use Rattle.std.proofs.Common.{arith}
use borrow.Author.Tests.{eq-eqb, ne_eqb}
use Rattle.refusals.proofs.Arrivals.{few_trades, trades_fit, trades_none, trades_told}
use Rattle.refusals.proofs.codes.trades_refused.Goals as goal
use Rattle.refusals.proofs.codes.trades_refused.Goals.{then-terms-eq-AUCTION-via-then-terms-eq-AUCTION, then-terms-eq-AUCTION-via-else-terms-eq-AUCTION+then-recorded-le-TRADES_WITH_ROOM}

pub returns-then-terms-eq-AUCTION : goal.returns-then-terms-eq-AUCTION
returns-then-terms-eq-AUCTION c =
    elim c.then-terms-eq-AUCTION.branch [
      | then-terms-eq-AUCTION-via-then-terms-eq-AUCTION w ↦ trades_none _ _ _ _ c.requires.0 _ c.requires.1 (eq-eqb _ _ w.if-terms-eq-AUCTION.true)
      | then-terms-eq-AUCTION-via-else-terms-eq-AUCTION+then-recorded-le-TRADES_WITH_ROOM w ↦
          trades_fit _ _ _ _ c.requires.0 (ne_eqb _ _ w.if-terms-eq-AUCTION.false) _ w.if-recorded-le-TRADES_WITH_ROOM.true
    ]

pub overflow_add-result : goal.overflow_add-result
overflow_add-result c =
    omega (arith, c.count_trades.ensures, few_trades c.args.terms c.args.t c.args.lots _ c.requires.0, c.requires.1)

pub returns : goal.returns
returns c = trades_told _ _ _ _ c.requires.0 (ne_eqb _ _ c.if-terms-eq-AUCTION.false) _ c.count_trades.ensures
