-- "There fill or kill at 111 for 12 trades; for 13 it is code 11": on document 01's own book, sells 7 at 110 and 5 at 111, in a
-- well-formed state of two accounts. One table, one statement, as in Examples.antt. Assumes nothing.
use Rattle.std.specs.Prelude.{true, false, List, [], ◌∷◌, ◌≡◌, refl, ℕ, pos, length, get_or}
use Rattle.laws.specs.Choice.{all, all_of}
use Rattle.laws.specs.Sums.{sum_of}
use Rattle.rules.specs.Answers.{conditions_refused, fillable_lots, first_of, holding_refused, insert_refusals, listing_of, money_refused, order_refusals, price_refused_by, taker_of, takes_orders, trades_needed, trades_refused, lots_refused, trades_against}
use Rattle.rules.specs.Bounds.{allowed_today, day_high, day_low, on_tick, terms_in_range, tick_multiple}
use Rattle.rules.specs.Examples.{Row, ◌gives◌, all_right}
use Rattle.rules.specs.Exchange.{Exchange, absent, account_at, best_price, holding_at, listing_at, lots_where, no_holding, no_trade, resting}
use Rattle.rules.specs.Holdings.{after_leg, book_leg, book_trade, book_trades, leg_covered, never_below_zero, same_holdings, same_lots, start_of_day}
use Rattle.rules.specs.Kinds.{code_of, decide, kind_of, step}
use Rattle.rules.specs.Margin.{charge_of, charged_lots, charged_to}
use Rattle.rules.specs.Matching.{enter, fillable, last_price, meets, method_of, middle, paired_price, remainder, rest_in, rest_lots, rested_lots, stays, sweep, trade_price, trade_with, traded_lots}
use Rattle.rules.specs.Step.{entered_of, exchange_after, inserted, listing_after}
use Rattle.rules.specs.WellFormed.{ahead, ahead_of_first, all_listed, balance_in_range, contract_in_range, counters_in_range, held_in_range, holding_in_range, holdings_in_range, listed, listing_quoted, mark_allowed, mark_in_range, order_in_range, orders_in_range, queue_quoted, queues_sorted, quotes, ranges_kept, replays, resting_in_range, sorted, trade_in_range, uncrossed, used_once, well_formed_contents}
use Rattle.rules.specs.declared.Account.{Account}
use Rattle.rules.specs.declared.Command.{Command}
use Rattle.rules.specs.declared.Command.TheVariants.{Insert}
use Rattle.rules.specs.declared.Order.{Order}
use Rattle.rules.specs.declared.PriceCondition.TheVariants.{Limit}
use Rattle.rules.specs.declared.TimeCondition.TheVariants.{FillOrKill}

-- a sell open of account 1
unfoldable pub order : ℕ → ℕ → ℕ → Order
order number price lots = record { price = price; number = number; account = 0; lots = lots; close = 0; stamp = number; quote = 0 }

unfoldable pub account : Account
account = record { balance = pos 100_000; maker = 0; holdings = no_holding ∷ [] }

unfoldable pub book : Exchange
book =
    record {
      listings = record {
        contract = record { multiplier = 10; tick = 1; reference = 110; band = 10; limit = 1_000; rate = 1_000; method = 0; phase = 1; last = 110 };
        buys = [];
        sells = order 1 110 7 ∷ order 2 111 5 ∷ [];
      } ∷ [];
      accounts = account ∷ account ∷ [];
      trades = [];
      next = 3;
      nextstamp = 3;
      settlements = 0;
    }

-- account 2 buys to open
fill_or_kill : ℕ → Command
fill_or_kill lots =
    Insert (record { account = 2; contract = 1; sell = false; close = false; lots = lots; price = 111; condition = Limit 111; time = FillOrKill })

after : ℕ → Exchange
after lots = step book (fill_or_kill lots)

pub table : List Row
table =
    -- "for 12 trades": all 12, as order 3, 7 at the middle of 111, 110, 110 and 5 at the middle of 111, 111, 110; none rests
    ((decide book (fill_or_kill 12)).answer.code gives 0)
    ∷ ((decide book (fill_or_kill 12)).answer.number gives 3)
    ∷ ((decide book (fill_or_kill 12)).answer.traded gives 12)
    ∷ ((decide book (fill_or_kill 12)).answer.lots gives 0)
    ∷ (length (after 12).trades gives 2)
    ∷ ((get_or (after 12).trades 0 no_trade).price gives 110)
    ∷ ((get_or (after 12).trades 0 no_trade).lots gives 7)
    ∷ ((get_or (after 12).trades 0 no_trade).sellorder gives 1)
    ∷ ((get_or (after 12).trades 1 no_trade).price gives 111)
    ∷ ((get_or (after 12).trades 1 no_trade).lots gives 5)
    ∷ ((get_or (after 12).trades 1 no_trade).sellorder gives 2)
    ∷ (length (listing_at (after 12) 0).sells gives 0)
    ∷ ((listing_at (after 12) 0).contract.last gives 111)
    ∷ ((holding_at (after 12).accounts 1 0).long gives 12)
    ∷ ((holding_at (after 12).accounts 0 0).short gives 12)
    -- "for 13 it is code 11": nothing trades, and the last price stays
    ∷ ((decide book (fill_or_kill 13)).answer.code gives 11)
    ∷ ((decide book (fill_or_kill 13)).answer.traded gives 0)
    ∷ (length (after 13).trades gives 0)
    ∷ (length (listing_at (after 13) 0).sells gives 2)
    ∷ ((listing_at (after 13) 0).contract.last gives 110)
    ∷ ((after 13).next gives 3)
    ∷ []

pub fill_or_kill_examples : all_right table ≡ true
unfolding all_right table order account book fill_or_kill after absent account_at after_leg allowed_today best_price book_leg book_trade book_trades charge_of charged_lots charged_to code_of conditions_refused day_high day_low decide enter entered_of exchange_after fillable fillable_lots first_of holding_at holding_refused insert_refusals inserted kind_of last_price listing_after listing_at listing_of lots_where meets method_of middle money_refused on_tick order_refusals lots_refused trades_against paired_price price_refused_by remainder rest_in rest_lots rested_lots resting stays step sum_of sweep taker_of takes_orders trade_price trade_with traded_lots trades_needed trades_refused
fill_or_kill_examples = refl

-- the state that it is asked of is well formed
pub book_well_formed : well_formed_contents book ≡ true
unfolding order account book all all_of sum_of account_at after_leg ahead ahead_of_first all_listed allowed_today balance_in_range book_leg book_trade book_trades contract_in_range counters_in_range day_high day_low holding_at held_in_range holding_in_range holdings_in_range leg_covered listed listing_at ranges_kept queues_sorted orders_in_range resting_in_range listing_quoted mark_allowed mark_in_range queue_quoted quotes lots_where never_below_zero on_tick order_in_range replays resting same_holdings same_lots sorted start_of_day terms_in_range tick_multiple trade_in_range uncrossed used_once well_formed_contents
book_well_formed = refl
