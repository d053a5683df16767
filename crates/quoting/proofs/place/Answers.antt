-- What `quoting::place` leaves: each step by its law in Placing.antt. Assumes nothing.
use Rattle.std.proofs.Common.{arith, refl}
use Rattle.theory.proofs.Codes.{not_accepted}
use Rattle.quoting.proofs.Marking.{passed_on}
use Rattle.quoting.proofs.Placing.{bought_formed, buy_quotable, buy_refused, gone_formed, quote_accepted, removable, sell_quotable, sell_refused, sums_fit}
use Rattle.quoting.proofs.place.Goals as goal

pub remove_quote-gone-requires : goal.remove_quote-gone-requires
remove_quote-gone-requires c =
    let q = c.args.q in
    (c.requires.0, removable c.requires.0 q.account q.contract q.lots q.buy q.sell c.requires.1)

pub enter_marked-requires : goal.enter_marked-requires
enter_marked-requires c =
    let q = c.args.q in (
      gone_formed c.requires.0 q.account q.contract q.lots q.buy q.sell c.requires.1 c.remove_quote-gone.ensures.lies,
      buy_quotable c.requires.0 q.account q.contract q.lots q.buy q.sell c.requires.1 c.remove_quote-gone.ensures.lies c.day_limit-buy.ensures,
    )

pub returns-in_err-bought-clause-outcome : goal.returns-in_err-bought-clause-outcome
returns-in_err-bought-clause-outcome c =
    let q = c.args.q in
    rw (passed_on _ _ c.from_residual.ensures.1)
    (buy_refused c.requires.0 q.account q.contract q.lots q.buy q.sell c.requires.1 c.remove_quote-gone.ensures.lies
    c.day_limit-buy.ensures c.in_err-bought.ensures.outcome (not_accepted _) refl)

pub enter_marked-requires-2 : goal.enter_marked-requires-2
enter_marked-requires-2 c =
    let q = c.args.q in
    let bought = c.in_ok-bought.ensures in (
      bought_formed c.requires.0 q.account q.contract q.lots q.buy q.sell c.requires.1 c.remove_quote-gone.ensures.lies
          c.day_limit-buy.ensures bought.outcome bought.code,
      sell_quotable c.requires.0 q.account q.contract q.lots q.buy q.sell c.requires.1 c.remove_quote-gone.ensures.lies
          c.day_limit-buy.ensures bought.outcome bought.code c.day_limit-sell.ensures,
    )

pub returns-in_err-sold-clause-outcome : goal.returns-in_err-sold-clause-outcome
returns-in_err-sold-clause-outcome c =
    let q = c.args.q in
    let bought = c.in_ok-bought.ensures in
    rw (passed_on _ _ c.from_residual-in_err-sold.ensures.1)
    (sell_refused c.requires.0 q.account q.contract q.lots q.buy q.sell c.requires.1 c.remove_quote-gone.ensures.lies
    c.day_limit-buy.ensures bought.outcome bought.code c.day_limit-sell.ensures c.in_err-sold.ensures.outcome (not_accepted _) refl)

pub overflow_add-bought : goal.overflow_add-bought
overflow_add-bought c =
    let q = c.args.q in
    let bought = c.in_ok-bought.ensures in
    let sold = c.in_ok-sold.ensures in
    omega (
      arith,
      (sums_fit c.requires.0 q.account q.contract q.lots q.buy q.sell c.requires.1 c.remove_quote-gone.ensures.lies
          c.day_limit-buy.ensures bought.outcome bought.code c.day_limit-sell.ensures sold.outcome sold.code).0,
    )

pub overflow_add-bought-2 : goal.overflow_add-bought-2
overflow_add-bought-2 c =
    let q = c.args.q in
    let bought = c.in_ok-bought.ensures in
    let sold = c.in_ok-sold.ensures in
    omega (
      arith,
      (sums_fit c.requires.0 q.account q.contract q.lots q.buy q.sell c.requires.1 c.remove_quote-gone.ensures.lies
          c.day_limit-buy.ensures bought.outcome bought.code c.day_limit-sell.ensures sold.outcome sold.code).1,
    )

pub returns-clause-outcome : goal.returns-clause-outcome
returns-clause-outcome c =
    let q = c.args.q in
    let bought = c.in_ok-bought.ensures in
    let sold = c.in_ok-sold.ensures in
    quote_accepted c.requires.0 q.account q.contract q.lots q.buy q.sell c.requires.1 c.remove_quote-gone.ensures.lies
    c.day_limit-buy.ensures bought.outcome bought.code c.day_limit-sell.ensures sold.outcome sold.code c.accepted.ensures
