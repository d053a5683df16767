-- What `quoting::rest_both` leaves: each way out by its law in Resting.antt. Assumes nothing.
use Rattle.std.proofs.Common.{arith}
use Rattle.quoting.proofs.Marking.{passed_on}
use Rattle.quoting.proofs.Placing.{buy_quotable, gone_formed, removable}
use Rattle.quoting.proofs.Resting.{after_formed, after_held, after_quotable, both_fit, both_rest, contract_fits, first_left, first_refused, second_left, second_refused}
use Rattle.quoting.proofs.rest_both.Goals as goal

pub remove_quote-gone-requires : goal.remove_quote-gone-requires
remove_quote-gone-requires c =
    let q = c.args.q in
    (c.requires.0, removable c.requires.0 q.account q.contract q.lots q.buy q.sell c.requires.1)

pub rest_marked-requires : goal.rest_marked-requires
rest_marked-requires c =
    let q = c.args.q in
    let gone = c.remove_quote-gone.ensures in (
      gone_formed c.requires.0 q.account q.contract q.lots q.buy q.sell c.requires.1 gone.lies,
      buy_quotable c.requires.0 q.account q.contract q.lots q.buy q.sell c.requires.1 gone.lies c.day_limit-bid.ensures,
      rw (c.day_limit-bid.ensures, gone.accounts) c.requires.2,
    )

pub returns-in_err-bought : goal.returns-in_err-bought
returns-in_err-bought c =
    rw (passed_on _ _ c.from_residual.ensures.1)
    (first_refused c.requires.0 c.args.q c.requires.1 c.remove_quote-gone.ensures c.day_limit-bid.ensures _ c.in_err-bought.ensures)

pub returns-in_default : goal.returns-in_default
returns-in_default c =
    first_left c.requires.0 c.args.q c.requires.1 c.remove_quote-gone.ensures c.day_limit-bid.ensures (rw c.in_default.is at c.in_ok-bought.ensures)

pub with_listed-after-requires : goal.with_listed-after-requires
with_listed-after-requires c =
    contract_fits c.requires.0 c.args.q c.requires.1 c.remove_quote-gone.ensures c.day_limit-bid.ensures (rw c.in-Some.is at c.in_ok-bought.ensures)

pub rest_marked-requires-2 : goal.rest_marked-requires-2
rest_marked-requires-2 c =
    let bought = rw c.in-Some.is at c.in_ok-bought.ensures in (
      after_formed c.requires.0 c.args.q c.requires.1 c.remove_quote-gone.ensures c.day_limit-bid.ensures bought c.with_listed-after.ensures,
      after_quotable c.requires.0 c.args.q c.requires.1 c.remove_quote-gone.ensures c.day_limit-bid.ensures bought
          c.with_listed-after.ensures c.day_limit-offer.ensures,
      rw c.day_limit-offer.ensures (after_held c.requires.0 c.args.q c.requires.1 c.remove_quote-gone.ensures
          c.day_limit-bid.ensures bought c.with_listed-after.ensures c.requires.2),
    )

pub returns-in_err-sold : goal.returns-in_err-sold
returns-in_err-sold c =
    rw (passed_on _ _ c.from_residual-in_err-sold.ensures.1)
    (second_refused c.requires.0 c.args.q c.requires.1 c.remove_quote-gone.ensures c.day_limit-bid.ensures (rw c.in-Some.is at c.in_ok-bought.ensures)
    c.with_listed-after.ensures c.day_limit-offer.ensures _ c.in_err-sold.ensures)

pub returns-in_default-2 : goal.returns-in_default-2
returns-in_default-2 c =
    second_left c.requires.0 c.args.q c.requires.1 c.remove_quote-gone.ensures c.day_limit-bid.ensures (rw c.in-Some.is at c.in_ok-bought.ensures)
    c.with_listed-after.ensures c.day_limit-offer.ensures (rw c.in_default-2.is at c.in_ok-sold.ensures)

pub overflow_add-result : goal.overflow_add-result
overflow_add-result c =
    omega (
      arith,
      both_fit c.requires.0 c.args.q c.requires.1 c.remove_quote-gone.ensures c.day_limit-bid.ensures (rw c.in-Some.is at c.in_ok-bought.ensures)
          c.with_listed-after.ensures c.day_limit-offer.ensures (rw c.in-Some-2.is at c.in_ok-sold.ensures),
    )

pub overflow_add-result-2 : goal.overflow_add-result-2
overflow_add-result-2 c =
    omega (
      arith,
      both_fit c.requires.0 c.args.q c.requires.1 c.remove_quote-gone.ensures c.day_limit-bid.ensures (rw c.in-Some.is at c.in_ok-bought.ensures)
          c.with_listed-after.ensures c.day_limit-offer.ensures (rw c.in-Some-2.is at c.in_ok-sold.ensures),
    )

pub returns : goal.returns
returns c =
    both_rest c.requires.0 c.args.q c.requires.1 c.remove_quote-gone.ensures c.day_limit-bid.ensures (rw c.in-Some.is at c.in_ok-bought.ensures)
    c.with_listed-after.ensures c.day_limit-offer.ensures (rw c.in-Some-2.is at c.in_ok-sold.ensures)
