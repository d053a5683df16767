-- Laws 14 to 16 where they bite, worked out by hand: an account that meets its own order, a loss that nobody can be charged for, a
-- balance that a refusal may not tell. One table, one statement. Assumes nothing.
use Rattle.std.specs.Prelude.{Bool, true, false, List, [], ◌∷◌, ◌≡◌, refl, ℕ, ℤ, pos, negsuc, get_or}
use Rattle.laws.specs.Choice.{all_of}
use Rattle.laws.specs.Sums.{sum_of}
use Rattle.rules.specs.Answers.{amount_refused, cancel_refusals, conditions_refused, fillable_lots, first_of, holding_refused, insert_refusals, leaves_too_little, listing_of, lots_refused, money_refused, no_such_order, numbered, of_another, order_refusals, price_refused_by, resting_order, taker_of, takes_orders, trades_against, trades_needed, trades_refused, withdraw_refusals}
use Rattle.rules.specs.Bounds.{allowed_today, continuous, day_high, day_low, on_tick}
use Rattle.rules.specs.Change.{arriving, change_refusals, changed, gone, is_sell, loses_place, old_order, place_lost, reentered}
use Rattle.rules.specs.Examples.{Row, ◌gives◌, all_right}
use Rattle.rules.specs.Exchange.{Exchange, absent, account_at, best_price, holding_at, listing_at, lots_where, no_holding, resting}
use Rattle.rules.specs.Holdings.{after_leg, book_leg, book_trade, book_trades}
use Rattle.rules.specs.Kinds.{code_of, decide, kind_of, step}
use Rattle.rules.specs.Margin.{charged, charged_lots, charged_to, charge_of}
use Rattle.rules.specs.Matching.{enter, fillable, last_price, meets, method_of, middle, paired_price, remainder, rest_in, rest_lots, rest_whole, rested_lots, stays, sweep, trade_price, trade_with, traded_lots}
use Rattle.rules.specs.Quote.{half, quote_refusals, quoted, with_buy, with_sell, without_quote}
use Rattle.rules.specs.Step.{entered_of, exchange_after, inserted, listing_after, paid, withdrawn, without}
use Rattle.rules.specs.declared.Account.{Account}
use Rattle.rules.specs.declared.Command.{Command}
use Rattle.rules.specs.declared.Command.TheVariants.{Change, Insert, Quote, Withdraw}
use Rattle.rules.specs.declared.Contract.{Contract}
use Rattle.rules.specs.declared.Holding.{Holding}
use Rattle.rules.specs.declared.Order.{Order}
use Rattle.rules.specs.declared.PriceCondition.TheVariants.{Limit}
use Rattle.rules.specs.declared.TimeCondition.TheVariants.{GoodForDay}

-- a lot is charged 100
contract : Contract
contract = record { multiplier = 10; tick = 1; reference = 100; band = 10; limit = 1_000; rate = 1_000; method = 0; phase = continuous; last = 100 }

order : ℕ → ℕ → ℕ → ℕ → ℕ → Order
order number account price lots close = record { price = price; number = number; account = account; lots = lots; close = close; stamp = number; quote = 0 }

held : ℕ → ℕ → Holding
held long short = record { long = long; short = short; startlong = long; startshort = short }

account : ℤ → ℕ → Holding → Account
account balance maker h = record { balance = balance; maker = maker; holdings = h ∷ [] }

-- account 1, a maker, is long 5 and offers them to close at 100; account 2 is short 5, bids 95 for 2 to open, and has a balance of its own
x : ℤ → Exchange
x balance =
    record {
      listings = record { contract = contract; buys = order 2 1 95 2 0 ∷ []; sells = order 1 0 100 5 1 ∷ [] } ∷ [];
      accounts = account (pos 1_000) 1 (held 5 0) ∷ account balance 0 (held 0 5) ∷ [];
      trades = [];
      next = 3;
      nextstamp = 3;
      settlements = 0;
    }

-- a good-for-day limit open
insert : Bool → ℕ → ℕ → ℕ → Command
insert sell who lots price =
    Insert (record { account = who; contract = 1; sell = sell; close = false; lots = lots; price = price; condition = Limit price; time = GoodForDay })

buy : ℕ → ℕ → ℕ → Command
buy = insert false

sell : ℕ → ℕ → ℕ → Command
sell = insert true

long : Exchange → ℕ
long y = sum_of (λ a. (get_or a.holdings 0 no_holding).long) y.accounts

short : Exchange → ℕ
short y = sum_of (λ a. (get_or a.holdings 0 no_holding).short) y.accounts

-- where account 2 has lost more than it had, and where it is rich
poor : Exchange
poor = x (negsuc 99)

rich : Exchange
rich = x (pos 1_000_000)

pub table : List Row
table =
    -- 14: account 1 buys 5 from itself, to open what it offers to close: 5 long and 5 short, as before
    (long (step poor (buy 1 5 100)) gives 5)
    ∷ (short (step poor (buy 1 5 100)) gives 5)
    -- it sells 2 to account 2, to open: 7 and 7
    ∷ (long (step poor (sell 1 2 95)) gives 7)
    ∷ (short (step poor (sell 1 2 95)) gives 7)
    -- 15: the 5 lots are tested beside the 5 that it holds, 1,000, which passes; once they are traded 500 are charged
    ∷ (code_of poor (buy 1 5 100) gives 0)
    ∷ (charged (step poor (buy 1 5 100)) 0 gives 500)
    ∷ (code_of poor (buy 1 6 100) gives 9)
    -- 3 that rest, then changed to 5 at another price: 1,000 are charged, all that it has; 6 are refused
    ∷ (charged (step poor (buy 1 3 96)) 0 gives 800)
    ∷ (charged (step (step poor (buy 1 3 96)) (Change 1 1 3 5 97)) 0 gives 1_000)
    ∷ (code_of (step poor (buy 1 3 96)) (Change 1 1 3 6 97) gives 9)
    -- a quote of 5 charges its buy beside the holding: 1,000; one of 6 is refused
    ∷ (charged (step poor (Quote 1 1 5 98 99)) 0 gives 1_000)
    ∷ (code_of poor (Quote 1 1 6 98 99) gives 9)
    -- with 800 charged it may take out 200, and no more
    ∷ (code_of (step poor (buy 1 3 96)) (Withdraw 1 200) gives 0)
    ∷ (code_of (step poor (buy 1 3 96)) (Withdraw 1 201) gives 9)
    -- what account 1 does raises nobody else's charge: 2 bid for and 5 short are 5 lots, and when the bid is filled 5 still
    ∷ (charged poor 1 gives 500)
    ∷ (charged (step poor (sell 1 2 95)) 1 gives 500)
    -- 16: account 1's order meets account 2's with the same answer, whether account 2 is poor or rich
    ∷ ((decide poor (sell 1 2 95)).answer.traded gives 2)
    ∷ ((decide rich (sell 1 2 95)).answer.traded gives 2)
    ∷ (code_of poor (buy 1 6 100) gives 9)
    ∷ (code_of rich (buy 1 6 100) gives 9)
    -- only account 2's own order tells
    ∷ (code_of poor (buy 2 1 95) gives 9)
    ∷ (code_of rich (buy 2 1 95) gives 0)
    ∷ []

pub accounts_examples : all_right table ≡ true
unfolding all_right table contract order held account x insert buy sell long short poor rich absent account_at after_leg all_of allowed_today amount_refused arriving best_price book_leg book_trade book_trades cancel_refusals change_refusals changed charge_of charged_lots charged_to code_of conditions_refused day_high day_low decide enter entered_of exchange_after fillable fillable_lots first_of gone half holding_at holding_refused insert_refusals inserted is_sell kind_of last_price leaves_too_little listing_after listing_at listing_of loses_place lots_refused lots_where meets method_of middle money_refused no_such_order numbered of_another old_order on_tick order_refusals paid paired_price place_lost price_refused_by quote_refusals quoted reentered remainder rest_in rest_lots rest_whole rested_lots resting resting_order stays step sum_of sweep taker_of takes_orders trade_price trade_with traded_lots trades_against trades_needed trades_refused with_buy with_sell withdraw_refusals withdrawn without without_quote
accounts_examples = refl
