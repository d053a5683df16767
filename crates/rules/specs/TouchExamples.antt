-- What a command may touch, worked out by hand: for each law, by its number in docs/RULES.md, a command that it concerns. One table, one
-- statement. Assumes nothing.
use Rattle.std.specs.Prelude.{Bool, true, false, List, [], ◌∷◌, ◌≡◌, refl, ℕ, pos, length, get_or}
use Rattle.laws.specs.Choice.{all_of}
use Rattle.laws.specs.Sums.{sum_of}
use Rattle.laws.specs.Tabulate.{tabulate}
use Rattle.rules.specs.Answers.{amount_refused, cancel_refusals, conditions_refused, day_limit_order, deposit_refusals, fillable_lots, first_of, holding_refused, insert_refusals, leaves_too_little, lifts_too_high, listing_of, lots_refused, mark, money_refused, no_such_order, numbered, of_another, order_refusals, price_refused_by, pull_refusals, removal_refused, resting_order, taker_of, takes_orders, trades_against, trades_needed, trades_refused, withdraw_refusals}
use Rattle.rules.specs.Bounds.{allowed_today, continuous, day_high, day_low, on_tick}
use Rattle.rules.specs.Change.{arriving, change_refusals, changed, gone, is_sell, loses_place, old_order, place_lost, reentered}
use Rattle.rules.specs.Command.{is_payment}
use Rattle.rules.specs.Examples.{Row, ◌gives◌, all_right, up}
use Rattle.rules.specs.Exchange.{Exchange, absent, account_at, best_price, held_at, holder_at, holding_at, listing_at, lots_where, no_holding, no_order, no_trade, own, resting}
use Rattle.rules.specs.Holdings.{after_leg, book_leg, book_trade, book_trades}
use Rattle.rules.specs.Kinds.{code_of, decide, kind_of, step}
use Rattle.rules.specs.Margin.{charge_of, charged_lots, charged_to}
use Rattle.rules.specs.Matching.{enter, fillable, last_price, meets, method_of, middle, paired_price, remainder, rest_in, rest_lots, rested_lots, stays, sweep, trade_price, trade_with, traded_lots}
use Rattle.rules.specs.Quote.{half, quote_refusals, quoted, with_buy, with_sell, without_quote}
use Rattle.rules.specs.Step.{cancelled, deposited, entered_of, exchange_after, inserted, listing_after, paid, pulled, removed, withdrawn, without}
use Rattle.rules.specs.Touches.{orders_of, orders_where}
use Rattle.rules.specs.declared.Account.{Account}
use Rattle.rules.specs.declared.Command.{Command}
use Rattle.rules.specs.declared.Command.TheVariants.{Cancel, Change, Deposit, Insert, Pull, Quote, Withdraw}
use Rattle.rules.specs.declared.Contract.{Contract}
use Rattle.rules.specs.declared.Order.{Order}

-- Contract 1: accounts 1 and 2 bid 2 and 3 at 99 (orders 1 and 2) and offer 3 and 4 at 101 (orders 3 and 4). Contract 2: account 1 bids 1 at
-- 50 (order 5), account 2 offers 5 at 52 (order 6). Account 3 is a maker and has no order. Nobody holds anything.

order : ℕ → ℕ → ℕ → ℕ → Order
order number account lots price = record { price = price; number = number; account = account; lots = lots; close = 0; stamp = number; quote = 0 }

contract : ℕ → Contract
contract reference =
    record { multiplier = 10; tick = 1; reference = reference; band = 20; limit = 1_000; rate = 1_000; method = 0; phase = continuous; last = reference }

account : ℕ → Account
account maker = record { balance = pos 10_000; maker = maker; holdings = no_holding ∷ no_holding ∷ [] }

state : Exchange
state =
    record {
      listings =
          record { contract = contract 100; buys = order 1 0 2 99 ∷ order 2 1 3 99 ∷ []; sells = order 3 0 3 101 ∷ order 4 1 4 101 ∷ [] }
          ∷ record { contract = contract 51; buys = order 5 0 1 50 ∷ []; sells = order 6 1 5 52 ∷ [] }
          ∷ [];
      accounts = account 0 ∷ account 0 ∷ account 1 ∷ [];
      trades = [];
      next = 7;
      nextstamp = 7;
      settlements = 0;
    }

after : Command → Exchange
after command = step state command

-- how many orders rest in a contract on a side; the number, lots and time stamp of one of them
rest : Exchange → ℕ → Bool → ℕ
rest x c sell = length (own sell (listing_at x c))

at : Exchange → ℕ → Bool → ℕ → Order
at x c sell i = get_or (own sell (listing_at x c)) i no_order

balance : Exchange → ℕ → ℕ
balance x a = up (holder_at x a).balance

-- account 3 buys, account 2 offers
buys : ℕ → ℕ → Command
buys lots price = Insert (day_limit_order 3 1 false false lots price)

offers : ℕ → ℕ → Command
offers lots price = Insert (day_limit_order 2 1 true false lots price)

pub table : List Row
table =
    -- 1. an order of 0 lots is refused, uses up no number, and is refused again
    (code_of state (buys 0 101) gives 5)
    ∷ ((after (buys 0 101)).next gives 7)
    ∷ (code_of (after (buys 0 101)) (buys 0 101) gives 5)
    -- 2. a pull with a blank contract gets 3, with a contract that is not there too, with a blank account 2; all orders rest
    ∷ (code_of state (Pull 1 0 false) gives 3)
    ∷ (rest (after (Pull 1 0 false)) 0 false gives 2)
    ∷ (rest (after (Pull 1 0 false)) 0 true gives 2)
    ∷ (rest (after (Pull 1 0 false)) 1 false gives 1)
    ∷ (code_of state (Pull 1 3 false) gives 3)
    ∷ (code_of state (Pull 0 1 false) gives 2)
    ∷ (rest (after (Pull 0 1 false)) 0 false gives 2)
    -- 3. account 3 buys 6 in contract 2 and meets order 6: contract 1 has its orders, its last price, and nobody's lots
    ∷ ((listing_at (after (Insert (day_limit_order 3 2 false false 6 52))) 1).contract.last gives 52)
    ∷ ((held_at (after (Insert (day_limit_order 3 2 false false 6 52))) 2 1).long gives 5)
    ∷ ((listing_at (after (Insert (day_limit_order 3 2 false false 6 52))) 0).contract.last gives 100)
    ∷ ((held_at (after (Insert (day_limit_order 3 2 false false 6 52))) 2 0).long gives 0)
    ∷ (rest (after (Insert (day_limit_order 3 2 false false 6 52))) 0 false gives 2)
    -- 4. a pull of account 1 in contract 1 leaves account 2's orders there, and account 1's in contract 2
    ∷ (rest (after (Pull 1 1 false)) 0 false gives 1)
    ∷ ((at (after (Pull 1 1 false)) 0 false 0).number gives 2)
    ∷ (rest (after (Pull 1 1 false)) 0 true gives 1)
    ∷ ((at (after (Pull 1 1 false)) 0 true 0).number gives 4)
    ∷ (rest (after (Pull 1 1 false)) 1 false gives 1)
    -- of account 2 order 2 rests among the buys, before it and after it
    ∷ ((get_or (orders_of 1 (own false (listing_at state 0))) 0 no_order).number gives 2)
    ∷ ((get_or (orders_of 1 (own false (listing_at (after (Pull 1 1 false)) 0))) 0 no_order).number gives 2)
    -- a cancel of order 3 takes that one; account 1 cannot cancel order 4, which is account 2's
    ∷ (rest (after (Cancel 1 1 false 3)) 0 true gives 1)
    ∷ (rest (after (Cancel 1 1 false 3)) 0 false gives 2)
    ∷ (code_of state (Cancel 1 1 false 4) gives 15)
    ∷ (rest (after (Cancel 1 1 false 4)) 0 true gives 2)
    -- 5. account 3 buys 5 at 101: order 3 is filled, order 4 has lost 2 of its 4 lots and nothing else, each at its limit
    ∷ (rest (after (buys 5 101)) 0 true gives 1)
    ∷ ((at (after (buys 5 101)) 0 true 0).number gives 4)
    ∷ ((at (after (buys 5 101)) 0 true 0).lots gives 2)
    ∷ ((at (after (buys 5 101)) 0 true 0).stamp gives 4)
    ∷ ((get_or (after (buys 5 101)).trades 0 no_trade).price gives 101)
    ∷ ((get_or (after (buys 5 101)).trades 1 no_trade).lots gives 2)
    -- an offer at the same price stands behind both
    ∷ ((at (after (offers 1 101)) 0 true 0).number gives 3)
    ∷ ((at (after (offers 1 101)) 0 true 1).number gives 4)
    ∷ ((at (after (offers 1 101)) 0 true 2).number gives 7)
    -- 6. account 2's withdrawal is its own; a trade moves lots and no money
    ∷ (balance (after (Withdraw 2 400)) 0 gives 10_000)
    ∷ (balance (after (Withdraw 2 400)) 1 gives 9_600)
    ∷ (balance (after (Deposit 2 400)) 1 gives 10_400)
    ∷ (balance (after (buys 5 101)) 2 gives 10_000)
    ∷ (balance (after (buys 5 101)) 1 gives 10_000)
    ∷ ((held_at (after (buys 5 101)) 1 0).short gives 2)
    ∷ ((held_at (after (buys 5 101)) 2 0).long gives 5)
    -- deposit and withdraw are the payments
    ∷ (mark (is_payment (Deposit 2 400)) gives 1)
    ∷ (mark (is_payment (Withdraw 2 400)) gives 1)
    ∷ (mark (is_payment (buys 5 101)) gives 0)
    -- 7. an insert gets number 7, a quote 7 and 8, a change of order 1's price keeps number 1 and gets the time stamp 7
    ∷ ((at (after (buys 1 98)) 0 false 2).number gives 7)
    ∷ ((after (buys 1 98)).next gives 8)
    ∷ ((at (after (Quote 3 1 1 98 102)) 0 false 2).number gives 7)
    ∷ ((at (after (Quote 3 1 1 98 102)) 0 true 2).number gives 8)
    ∷ ((after (Quote 3 1 1 98 102)).next gives 9)
    ∷ ((at (after (Change 1 1 1 2 98)) 0 false 1).number gives 1)
    ∷ ((at (after (Change 1 1 1 2 98)) 0 false 1).stamp gives 7)
    ∷ ((after (Change 1 1 1 2 98)).next gives 7)
    ∷ ((after (Change 1 1 1 2 98)).nextstamp gives 8)
    ∷ []

pub touch_examples : all_right table ≡ true
unfolding all_right table order contract account state after rest at balance buys offers up absent account_at after_leg all_of allowed_today amount_refused arriving best_price book_leg book_trade book_trades cancel_refusals cancelled charge_of charged_lots charged_to change_refusals changed code_of conditions_refused day_high day_low decide deposit_refusals deposited enter entered_of exchange_after fillable fillable_lots first_of gone half holding_at holding_refused insert_refusals inserted is_sell kind_of last_price leaves_too_little lifts_too_high listing_after listing_at listing_of loses_place lots_refused lots_where meets method_of middle money_refused no_such_order numbered of_another old_order on_tick order_refusals orders_where paid paired_price place_lost price_refused_by pull_refusals pulled quote_refusals quoted reentered remainder removal_refused removed rest_in rest_lots rested_lots resting resting_order stays step sum_of sweep tabulate taker_of takes_orders trade_price trade_with traded_lots trades_against trades_needed trades_refused with_buy with_sell withdraw_refusals withdrawn without without_quote
touch_examples = refl
