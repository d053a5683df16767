-- Changes of a resting order worked out by hand (document 02, ticket 8): the code at the ends of each range and where two refusals
-- hold at once, who keeps the place and who loses it, and what is answered. Two tables, a statement each. Assumes nothing.
use Rattle.std.specs.Prelude.{true, List, [], ◌∷◌, ◌≡◌, refl, ℕ, ◌+◌, pos, length, get_or, replicate}
use Rattle.laws.specs.Sums.{sum_of}
use Rattle.laws.specs.Tabulate.{tabulate}
use Rattle.rules.specs.Answers.{first_of, holding_refused, listing_of, money_refused, no_such_order, numbered, of_another, resting_order, taker_of, trades_needed, trades_refused, lots_refused, trades_against}
use Rattle.rules.specs.Bounds.{allowed_today, auction, closed, continuous, day_high, day_low, no_trading, on_tick, pre_open}
use Rattle.rules.specs.Change.{Asked, arriving, asked, change_refusals, change_trades, changed, gone, is_sell, lessened, loses_place, old_order, place_kept, place_lost, reentered, unchanged}
use Rattle.rules.specs.Examples.{Row, ◌gives◌, all_right}
use Rattle.rules.specs.Exchange.{Exchange, absent, account_at, best_price, holding_at, listing_at, lots_where, no_order, no_trade, resting}
use Rattle.rules.specs.Holdings.{after_leg, book_leg, book_trade, book_trades}
use Rattle.rules.specs.Kinds.{last_of}
use Rattle.rules.specs.Margin.{charge_of, charged_lots, charged_to}
use Rattle.rules.specs.Matching.{enter, last_price, meets, method_of, middle, paired_price, remainder, rest_in, rest_lots, rested_lots, stays, sweep, trade_price, trade_with, traded_lots}
use Rattle.rules.specs.Step.{cancelled, entered_of, exchange_after, listing_after, removed, without}
use Rattle.rules.specs.declared.Account.{Account}
use Rattle.rules.specs.declared.Contract.{Contract}
use Rattle.rules.specs.declared.Order.{Order}
use Rattle.rules.specs.declared.Trade.{Trade}

order : ℕ → ℕ → ℕ → ℕ → ℕ → Order
order number price account lots close =
    record { price = price; number = number; account = account; lots = lots; close = close; stamp = number; quote = 0 }

account : ℕ → ℕ → ℕ → Account
account balance long short =
    record { balance = pos balance; maker = 0; holdings = record { long = long; short = short; startlong = long; startshort = short } ∷ [] }

contract : ℕ → ℕ → ℕ → ℕ → Contract
contract tick method phase last =
    record { multiplier = 10; tick = tick; reference = 110; band = 20; limit = 1_000; rate = 1_000; method = method; phase = phase; last = last }

-- ---- codes. Low 90 and high 130 by ticks of 2, a charge of 110 a lot, at most 1,000 lots a side. Account 1 offers 7 at 110 and bids
-- for as many lots at 100, an order each; account 2, short 995 lots, offers 3 at 112, and its money is just enough for them;
-- account 3 has no money and offers 4 of its 5 long lots at 112. The order numbers are used up: no change asks for one.

state : ℕ → ℕ → ℕ → ℕ → Exchange
state phase buys trades nextstamp =
    record {
      listings = record {
        contract = contract 2 0 phase 110;
        buys = tabulate buys (λ i. order (4 + i) 100 0 1 0);
        sells = order 1 110 0 7 0 ∷ order 2 112 1 3 0 ∷ order 3 112 2 4 1 ∷ [];
      } ∷ [];
      accounts = account 1_100_000 0 0 ∷ account 109_780 0 995 ∷ account 0 5 0 ∷ [];
      trades = replicate trades no_trade;
      next = 1_000_000;
      nextstamp = nextstamp;
      settlements = 0;
    }

code : Exchange → ℕ → ℕ → ℕ → ℕ → ℕ → ℕ
code x account contract number lots price = first_of (change_refusals x (asked account contract number lots price))

open' : Exchange
open' = state continuous 0 0 100

used_up : Exchange
used_up = state continuous 0 0 1_000_000

pub codes : List Row
codes =
    -- account before contract before state before number before owner before lots before price
    (code open' 4 2 1 7 110 gives 2)
    ∷ (code (state closed 0 0 100) 1 2 9 7 110 gives 3)
    ∷ (code (state pre_open 0 0 100) 1 1 9 7 110 gives 4)
    ∷ (code (state no_trading 0 0 100) 1 1 1 0 110 gives 4)
    ∷ (code (state closed 0 0 100) 1 1 1 7 110 gives 4)
    ∷ (code (state auction 0 0 100) 1 1 1 7 110 gives 4)
    ∷ (code open' 2 1 9 1_001 110 gives 14)
    ∷ (code open' 2 1 1 1_001 110 gives 15)
    ∷ (code open' 1 1 1 1_001 111 gives 5)
    ∷ (code open' 1 1 1 1_000 111 gives 7)
    ∷ (code open' 1 1 1 1 132 gives 7)
    -- 1,000 lots against a limit of 1,000, since the 7 are gone
    ∷ (code open' 1 1 1 1_000 130 gives 0)
    -- zero lots, equal and fewer: the price of zero lots is not looked at
    ∷ (code open' 1 1 1 0 111 gives 0)
    ∷ (code open' 1 1 1 7 110 gives 0)
    ∷ (code open' 1 1 1 1 110 gives 0)
    -- the old order's lots are free for 8, its margin for 9; price before holding before money
    ∷ (code open' 2 1 2 3 114 gives 0)
    ∷ (code open' 2 1 2 4 112 gives 9)
    ∷ (code open' 2 1 2 6 112 gives 8)
    ∷ (code open' 2 1 2 6 113 gives 7)
    -- a close stays a close: its own lots are free for 8, and it needs no money
    ∷ (code open' 3 1 3 5 112 gives 0)
    ∷ (code open' 3 1 3 6 112 gives 8)
    -- 999,999 is the last time stamp; place kept, equal and zero need none; money before stamps
    ∷ (code (state continuous 0 0 999_999) 1 1 1 8 110 gives 0)
    ∷ (code used_up 1 1 1 8 110 gives 10)
    ∷ (code used_up 1 1 1 6 112 gives 10)
    ∷ (code used_up 2 1 2 4 112 gives 9)
    ∷ (code used_up 1 1 1 6 110 gives 0)
    ∷ (code used_up 1 1 1 7 110 gives 0)
    ∷ (code used_up 1 1 1 0 110 gives 0)
    ∷ (code used_up 1 1 1 0 112 gives 0)
    -- two trades at 100 have room, or not, stamps before that; with all room used up an order that makes none is changed
    ∷ (code (state continuous 2 1_022 100) 1 1 1 7 100 gives 0)
    ∷ (code (state continuous 2 1_023 100) 1 1 1 7 100 gives 12)
    ∷ (code (state continuous 2 1_023 1_000_000) 1 1 1 7 100 gives 10)
    ∷ (code (state continuous 2 1_024 100) 1 1 1 8 110 gives 0)
    -- its own side has 64, and it is one of them
    ∷ (code (state continuous 64 0 100) 1 1 4 2 100 gives 0)
    ∷ []

pub change_codes : all_right codes ≡ true
unfolding all_right codes order account contract state code open' used_up absent account_at after_leg allowed_today arriving best_price book_leg change_refusals charge_of charged_lots charged_to day_high day_low first_of gone holding_at holding_refused is_sell listing_at listing_of loses_place lots_where meets method_of middle money_refused no_such_order numbered of_another old_order on_tick lots_refused trades_against paired_price resting resting_order stays sum_of sweep tabulate taker_of trade_price trade_with trades_needed trades_refused without
change_codes = refl

-- ---- effects. Account 1 offers 7 at 110 (number 1) before account 2's 3 at 110 (number 2) and 1 at 112 (number 3); account 2 bids
-- for 2 at 100 (number 4), account 1 for 3 at 100 (number 5). Account 2, 4 lots long, offers 2 of them at 115 to close (number 6). The
-- last price is 99; the next number is 7, the next time stamp 9.

book : ℕ → Exchange
book method =
    record {
      listings = record {
        contract = contract 1 method continuous 99;
        buys = order 4 100 1 2 0 ∷ order 5 100 0 3 0 ∷ [];
        sells = order 1 110 0 7 0 ∷ order 2 110 1 3 0 ∷ order 3 112 1 1 0 ∷ order 6 115 1 2 1 ∷ [];
      } ∷ [];
      accounts = account 0 0 0 ∷ account 0 4 0 ∷ [];
      trades = [];
      next = 7;
      nextstamp = 9;
      settlements = 0;
    }

-- order 1 with other lots and another price
to : ℕ → ℕ → Asked
to lots price = asked 1 1 1 lots price

-- order 5, account 1's buy, and order 6, account 2's close of what it is long, with other lots and another price
buy_to : ℕ → ℕ → Asked
buy_to lots price = asked 1 1 5 lots price

close_to : ℕ → ℕ → Asked
close_to lots price = asked 2 1 6 lots price

after : ℕ → Asked → Exchange
after method k = last_of (book method) (changed (book method) k).stages

buy_at : ℕ → Asked → Order
buy_at place k = get_or (listing_at (after 0 k) 0).buys place no_order

sell_at : ℕ → Asked → Order
sell_at place k = get_or (listing_at (after 0 k) 0).sells place no_order

trade_at' : ℕ → ℕ → Asked → Trade
trade_at' method place k = get_or (after method k).trades place no_trade

answered : Asked → List ℕ
answered k = (changed (book 0) k).number ∷ (changed (book 0) k).traded ∷ (changed (book 0) k).lots ∷ []

field : ℕ → List ℕ → ℕ
field i answer = get_or answer i 0

pub effects : List Row
effects =
    -- zero lots: number, 0, the lots removed; the order leaves and nothing else
    (field 0 (answered (to 0 1)) gives 1)
    ∷ (field 1 (answered (to 0 1)) gives 0)
    ∷ (field 2 (answered (to 0 1)) gives 7)
    ∷ ((sell_at 0 (to 0 1)).number gives 2)
    ∷ ((after 0 (to 0 1)).nextstamp gives 9)
    -- equal: number, 0, the lots resting, and nothing is done
    ∷ (field 0 (answered (to 7 110)) gives 1)
    ∷ (field 1 (answered (to 7 110)) gives 0)
    ∷ (field 2 (answered (to 7 110)) gives 7)
    ∷ (length (changed (book 0) (to 7 110)).stages gives 0)
    -- fewer lots at the same price: the place and the time stamp are kept
    ∷ (field 0 (answered (to 4 110)) gives 1)
    ∷ (field 2 (answered (to 4 110)) gives 4)
    ∷ ((sell_at 0 (to 4 110)).number gives 1)
    ∷ ((sell_at 0 (to 4 110)).lots gives 4)
    ∷ ((sell_at 0 (to 4 110)).stamp gives 1)
    ∷ ((sell_at 1 (to 4 110)).lots gives 3)
    ∷ ((after 0 (to 4 110)).nextstamp gives 9)
    -- more lots: behind the other at 110, with the number that it had and a new time stamp; no order number is given
    ∷ (field 0 (answered (to 8 110)) gives 1)
    ∷ (field 1 (answered (to 8 110)) gives 0)
    ∷ (field 2 (answered (to 8 110)) gives 8)
    ∷ ((sell_at 0 (to 8 110)).number gives 2)
    ∷ ((sell_at 1 (to 8 110)).number gives 1)
    ∷ ((sell_at 1 (to 8 110)).stamp gives 9)
    ∷ ((after 0 (to 8 110)).nextstamp gives 10)
    ∷ ((after 0 (to 8 110)).next gives 7)
    -- another price, with fewer lots too: behind those at 112
    ∷ ((sell_at 1 (to 3 112)).number gives 3)
    ∷ ((sell_at 2 (to 3 112)).number gives 1)
    ∷ ((sell_at 2 (to 3 112)).lots gives 3)
    -- a price that crosses: 2 and 3 lots traded at once under its old number, one rests with the new time stamp
    ∷ (field 0 (answered (to 6 98)) gives 1)
    ∷ (field 1 (answered (to 6 98)) gives 5)
    ∷ (field 2 (answered (to 6 98)) gives 1)
    ∷ ((trade_at' 0 0 (to 6 98)).buyorder gives 4)
    ∷ ((trade_at' 0 0 (to 6 98)).sellorder gives 1)
    ∷ ((trade_at' 0 1 (to 6 98)).lots gives 3)
    ∷ ((sell_at 0 (to 6 98)).stamp gives 9)
    ∷ (length (change_trades (book 0) (to 6 98)) gives 2)
    ∷ (length (change_trades (book 0) (to 6 110)) gives 0)
    -- the middle of 100, 98 and the last price; the first-in price is the other's, since the changed order arrives
    ∷ ((trade_at' 0 0 (to 6 98)).price gives 99)
    ∷ ((trade_at' 2 0 (to 6 98)).price gives 100)
    -- a buy stays a buy: it rests in front at 101, or trades whole with the sells at 110 and rests no more
    ∷ ((buy_at 0 (buy_to 3 101)).number gives 5)
    ∷ ((buy_at 1 (buy_to 3 101)).number gives 4)
    ∷ (field 1 (answered (buy_to 9 110)) gives 9)
    ∷ (field 2 (answered (buy_to 9 110)) gives 0)
    ∷ ((trade_at' 0 1 (buy_to 9 110)).buyorder gives 5)
    ∷ ((trade_at' 0 1 (buy_to 9 110)).sellorder gives 2)
    ∷ (length (listing_at (after 0 (buy_to 9 110)) 0).buys gives 1)
    -- a close stays a close: its 2 lots leave the long holding, which the account's own buy at 100 brings to 4 again
    ∷ (field 1 (answered (close_to 2 100)) gives 2)
    ∷ ((trade_at' 0 0 (close_to 2 100)).sellclose gives 1)
    ∷ ((holding_at (after 0 (close_to 2 100)).accounts 1 0).long gives 4)
    ∷ ((holding_at (after 0 (close_to 2 100)).accounts 1 0).short gives 0)
    ∷ []

pub change_effects : all_right effects ≡ true
unfolding all_right effects order account contract book to buy_to close_to after buy_at sell_at holding_at trade_at' answered field account_at after_leg arriving best_price book_leg book_trade book_trades cancelled change_trades changed enter entered_of exchange_after gone is_sell last_price lessened listing_after listing_at listing_of loses_place lots_where meets method_of middle no_such_order numbered old_order paired_price place_kept place_lost reentered remainder removed rest_in rest_lots rested_lots resting_order stays sum_of sweep taker_of trade_price trade_with traded_lots unchanged without
change_effects = refl
