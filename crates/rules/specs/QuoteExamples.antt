-- Quotes worked out by hand (document 02, ticket 7): the code of the buy and of the sell at the ends of each range and where two refusals
-- hold at once, what the two orders do and what is answered, and a place that is in use only between the steps. Four
-- tables, a statement each. Assumes nothing.
use Rattle.std.specs.Prelude.{true, false, List, [], ◌∷◌, ◌++◌, ◌≡◌, refl, ℕ, ◌+◌, ◌*◌, ◌^◌, pos, length, get_or, replicate}
use Rattle.laws.specs.Choice.{all_of}
use Rattle.laws.specs.Sums.{sum_of}
use Rattle.laws.specs.Tabulate.{tabulate}
use Rattle.areas.specs.Lists.{over, padded}
use Rattle.areas.specs.Records.{decode, encode, records, store}
use Rattle.rules.specs.Answers.{conditions_refused, day_limit_order, fillable_lots, first_of, holding_refused, listing_of, mark, money_refused, no_such_order, numbered, of_another, order_refusals, price_refused_by, resting_order, taker_of, trades_needed, trades_refused, lots_refused, trades_against}
use Rattle.rules.specs.Bounds.{allowed_today, auction, closed, continuous, day_high, day_low, no_trading, on_tick, pre_open}
use Rattle.rules.specs.Change.{arriving, asked, change_refusals, changed, gone, is_sell, lessened, loses_place, old_order, place_kept, place_lost, reentered, unchanged}
use Rattle.rules.specs.Command.{command_of, quote_of, zeros}
use Rattle.rules.specs.DayFile.{account_place, account_sound, balance_from, contract_place, contracts_in, maker_from, opening_account, u16_at, u32_at, u64_at, u8_at}
use Rattle.rules.specs.Examples.{Row, ◌gives◌, all_right}
use Rattle.rules.specs.Exchange.{Exchange, absent, account_at, best_price, holding_at, listing_at, lots_where, no_order, no_trade, resting}
use Rattle.rules.specs.Holdings.{after_leg, book_leg, book_trade, book_trades}
use Rattle.rules.specs.Kinds.{code_of, decide, kind_of, last_of}
use Rattle.rules.specs.Margin.{charge_of, charged_lots, charged_to}
use Rattle.rules.specs.Matching.{enter, fillable, last_price, meets, method_of, middle, paired_price, remainder, rest_in, rest_lots, rested_lots, stays, sweep, trade_price, trade_with, traded_lots}
use Rattle.rules.specs.Memory.{Memory, exchange_of, listing_in, memory, order_words, put, put_accounts, put_queue, put_queues, put_state, put_trades, queue_in, recorded_trades, step_in}
use Rattle.rules.specs.Quote.{Offered, half, offered, quote_refusals, quote_trades, quoted, with_buy, with_sell, without_quote}
use Rattle.rules.specs.Settlement.{settled_account}
use Rattle.rules.specs.Step.{Effect, cancelled, entered_of, exchange_after, inserted, listing_after, removed, without}
use Rattle.rules.specs.declared.Account.{Account}
use Rattle.rules.specs.declared.Command.{Command}
use Rattle.rules.specs.declared.Command.TheVariants.{Change, Quote}
use Rattle.rules.specs.declared.Contract.{Contract}
use Rattle.rules.specs.declared.Order.{Order}
use Rattle.rules.specs.declared.Trade.{Trade}

-- an open of account 1 (place 0), a maker, or of account 2; its number is its time stamp too
order : ℕ → ℕ → ℕ → ℕ → ℕ → Order
order number price account lots quote =
    record { price = price; number = number; account = account; lots = lots; close = 0; stamp = number; quote = quote }

account : ℕ → ℕ → ℕ → ℕ → Account
account maker balance long short =
    record { balance = pos balance; maker = maker; holdings = record { long = long; short = short; startlong = long; startshort = short } ∷ [] }

contract : ℕ → ℕ → ℕ → Contract
contract tick limit phase =
    record { multiplier = 10; tick = tick; reference = 110; band = 20; limit = limit; rate = 1_000; method = 0; phase = phase; last = 110 }

-- ---- codes. Low 90 and high 130 by ticks of 2, a charge of 110 a lot, at most 20 lots a side.

state : ℕ → List Order → List Order → ℕ → ℕ → ℕ → Account → Exchange
state phase buys sells trades next nextstamp maker =
    record {
      listings = record { contract = contract 2 20 phase; buys = buys; sells = sells } ∷ [];
      accounts = maker ∷ account 0 1_000_000 0 0 ∷ [];
      trades = replicate trades no_trade;
      next = next;
      nextstamp = nextstamp;
      settlements = 0;
    }

rich : Account
rich = account 1 1_000_000 0 0

-- account 2 bids 3 at 100 and offers 5 at 112
phased : ℕ → Exchange
phased phase = state phase (order 1 100 1 3 0 ∷ []) (order 2 112 1 5 0 ∷ []) 0 100 100 rich

open' : Exchange
open' = phased continuous

held : ℕ → ℕ → ℕ → Exchange
held balance long short = state continuous [] [] 0 100 100 (account 1 balance long short)

numbered' : ℕ → ℕ → Exchange
numbered' next nextstamp = state continuous [] [] 0 next nextstamp rich

traded' : ℕ → Exchange
traded' trades = state continuous (order 1 100 1 3 0 ∷ []) (order 2 112 1 5 0 ∷ []) trades 100 100 rich

-- so many bids of account 2 at 100, so many offers at 112, a lot each
crowded : ℕ → ℕ → Exchange
crowded buys sells = state continuous (tabulate buys (λ i. order (1 + i) 100 1 1 0)) (tabulate sells (λ i. order (65 + i) 112 1 1 0)) 0 200 200 rich

-- account 1 rests 6 lots on either side, as its quote or not, and has money for so many lots
replacing : ℕ → ℕ → Exchange
replacing mark balance = state continuous (order 1 98 0 6 mark ∷ []) (order 2 120 0 6 mark ∷ []) 0 100 100 (account 1 balance 0 0)

-- 24 bytes of kind 8: account 1 quotes 5 lots in contract 1
sent : ℕ → ℕ → ℕ → ℕ → ℕ
sent flags price number amount =
    code_of open' (command_of record { kind = 8; account = 1; contract = 1; flags = flags; lots = 5; price = price; number = number; amount = amount })

code : Exchange → ℕ → ℕ → ℕ → ℕ → ℕ → ℕ
code x account contract lots buy sell = first_of (quote_refusals x (offered account contract lots buy sell))

pub codes : List Row
codes =
    -- account before contract before state before maker before prices before lots
    (code open' 3 2 0 112 100 gives 2)
    ∷ (code (phased closed) 2 2 0 112 100 gives 3)
    ∷ (code (phased closed) 2 1 0 112 100 gives 4)
    ∷ (code (phased pre_open) 1 1 5 104 106 gives 4)
    ∷ (code (phased no_trading) 1 1 5 104 106 gives 4)
    ∷ (code (phased auction) 1 1 5 104 106 gives 4)
    ∷ (code open' 2 1 0 112 100 gives 23)
    ∷ (code open' 2 1 5 104 106 gives 23)
    ∷ (code open' 1 1 0 106 104 gives 24)
    ∷ (code open' 1 1 0 104 104 gives 24)
    ∷ (code open' 1 1 5 103 103 gives 24)
    ∷ (code open' 1 1 5 104 106 gives 0)
    -- lots before the buy's price, that before all of the sell's
    ∷ (code open' 1 1 0 103 107 gives 5)
    ∷ (code open' 1 1 1_001 103 107 gives 5)
    ∷ (code open' 1 1 21 103 107 gives 7)
    ∷ (code open' 1 1 5 88 106 gives 7)
    ∷ (code open' 1 1 21 104 107 gives 8)
    ∷ (code open' 1 1 20 104 107 gives 7)
    ∷ (code open' 1 1 20 104 132 gives 7)
    ∷ (code open' 1 1 20 104 106 gives 0)
    -- the holding on each side and the lots keep the limit
    ∷ (code (held 1_000_000 3 0) 1 1 18 104 106 gives 8)
    ∷ (code (held 1_000_000 0 3) 1 1 18 104 106 gives 8)
    ∷ (code (held 1_000_000 3 3) 1 1 17 104 106 gives 0)
    -- money for 10 lots on the larger side: the buy's 11, the sell's 10 with 1 short; price of the sell after money of the buy
    ∷ (code (held 1_100 0 0) 1 1 10 104 106 gives 0)
    ∷ (code (held 1_100 0 0) 1 1 11 104 107 gives 9)
    ∷ (code (held 1_100 0 1) 1 1 9 104 106 gives 0)
    ∷ (code (held 1_100 0 1) 1 1 10 104 106 gives 9)
    ∷ (code (held 1_100 0 1) 1 1 10 104 107 gives 7)
    -- two order numbers and two time stamps are needed; with one left the buy passes
    ∷ (code (numbered' 999_998 1) 1 1 5 104 106 gives 0)
    ∷ (code (numbered' 999_999 1) 1 1 5 104 106 gives 10)
    ∷ (code (numbered' 999_999 1) 1 1 5 104 107 gives 7)
    ∷ (code (numbered' 1_000_000 1) 1 1 5 104 107 gives 10)
    ∷ (code (numbered' 1 999_998) 1 1 5 104 106 gives 0)
    ∷ (code (numbered' 1 999_999) 1 1 5 104 106 gives 10)
    ∷ (code (numbered' 1 999_999) 1 1 5 104 107 gives 7)
    -- a trade of the buy, of the sell: the last of the day, one too many
    ∷ (code (traded' 1_023) 1 1 5 112 114 gives 0)
    ∷ (code (traded' 1_024) 1 1 5 112 115 gives 12)
    ∷ (code (traded' 1_023) 1 1 5 98 100 gives 0)
    ∷ (code (traded' 1_024) 1 1 5 98 100 gives 12)
    ∷ (code (traded' 1_024) 1 1 5 104 106 gives 0)
    -- 64 on the buy's side, on the sell's; a buy that takes one of the 64 offers makes room for the sell
    ∷ (code (crowded 63 63) 1 1 5 104 106 gives 0)
    ∷ (code (crowded 64 0) 1 1 5 104 107 gives 13)
    ∷ (code (crowded 0 64) 1 1 5 104 106 gives 13)
    ∷ (code (crowded 0 64) 1 1 1 112 114 gives 0)
    ∷ (code (crowded 64 0) 1 1 3 98 100 gives 13)
    -- the old quote's lots are free for 8 and for 9, other orders' are not
    ∷ (code (replacing 1 2_200) 1 1 20 104 106 gives 0)
    ∷ (code (replacing 0 2_200) 1 1 15 104 106 gives 8)
    ∷ (code (replacing 1 1_100) 1 1 10 104 106 gives 0)
    ∷ (code (replacing 0 1_100) 1 1 10 104 106 gives 9)
    -- "the price field holds the buy price, the order number field the sell price"; flags and amount are unused
    ∷ (sent 0 104 106 0 gives 0)
    ∷ (sent 0 106 104 0 gives 24)
    ∷ (sent 1 106 104 0 gives 1)
    ∷ (sent 0 106 104 1 gives 1)
    ∷ []

pub quote_codes : all_right codes ≡ true
unfolding all_right codes order account contract state rich phased open' held numbered' traded' crowded replacing sent code absent account_at after_leg all_of allowed_today best_price book_leg book_trade book_trades charge_of charged_lots charged_to code_of command_of conditions_refused day_high day_low enter entered_of exchange_after fillable fillable_lots first_of half holding_at holding_refused kind_of last_price listing_after listing_at listing_of lots_where meets method_of middle money_refused on_tick order_refusals lots_refused trades_against paired_price price_refused_by quote_of quote_refusals remainder rest_in rest_lots rested_lots resting stays sum_of sweep tabulate taker_of trade_price trade_with traded_lots trades_needed trades_refused with_buy without without_quote zeros
quote_codes = refl

-- ---- effects. By ticks of 1. Account 1's quote is half filled: 2 lots to buy at 104 (number 1), 5 to sell at 108 (number 2); it bids
-- for 1 at 102 beside it (number 3) and offers 1 at 116 (number 4). Account 2 bids 4 at 101 (number 5) and offers 4 at 115 (number 6).

-- with account 2 no maker, and with account 2 one whose two orders are its quote
book_of : ℕ → Exchange
book_of second =
    record {
      listings = record {
        contract = contract 1 1_000 continuous;
        buys = order 1 104 0 2 1 ∷ order 3 102 0 1 0 ∷ order 5 101 1 4 second ∷ [];
        sells = order 2 108 0 5 1 ∷ order 6 115 1 4 second ∷ order 4 116 0 1 0 ∷ [];
      } ∷ [];
      accounts = account 1 1_000_000 0 0 ∷ account second 1_000_000 0 0 ∷ [];
      trades = [];
      next = 7;
      nextstamp = 9;
      settlements = 0;
    }

book : Exchange
book = book_of 0

-- account 1 quotes so many lots
at : ℕ → ℕ → ℕ → Offered
at lots buy sell = offered 1 1 lots buy sell

effect : Offered → Effect
effect q = quoted book q

after : Offered → Exchange
after q = last_of book (effect q).stages

buy_at : ℕ → Offered → Order
buy_at place q = get_or (listing_at (after q) 0).buys place no_order

sell_at : ℕ → Offered → Order
sell_at place q = get_or (listing_at (after q) 0).sells place no_order

trade_at' : ℕ → Offered → Trade
trade_at' place q = get_or (after q).trades place no_trade

-- the quote marks on either side
buy_marks : Exchange → ℕ
buy_marks x = sum_of (λ o. o.quote) (listing_at x 0).buys

sell_marks : Exchange → ℕ
sell_marks x = sum_of (λ o. o.quote) (listing_at x 0).sells

-- an order of the quote changed to other lots, at another price
fewer : ℕ → ℕ → ℕ → Exchange
fewer number lots price = last_of book (changed book (asked 1 1 number lots price)).stages

-- account 2 sells one lot at 104, to open
partly : Exchange
partly = last_of book (inserted book (day_limit_order 2 1 true false 1 104)).stages

-- account 1 quotes beside the quote of account 2
beside : Exchange
beside = last_of (book_of 1) (quoted (book_of 1) (at 5 105 107)).stages

pub effects : List Row
effects =
    -- both rest: the buy's number, no lots traded, those of both rested; the numbers and time stamps are one apart
    ((effect (at 5 105 107)).number gives 7)
    ∷ ((effect (at 5 105 107)).traded gives 0)
    ∷ ((effect (at 5 105 107)).lots gives 10)
    ∷ ((after (at 5 105 107)).next gives 9)
    ∷ ((after (at 5 105 107)).nextstamp gives 11)
    ∷ ((buy_at 0 (at 5 105 107)).number gives 7)
    ∷ ((buy_at 0 (at 5 105 107)).stamp gives 9)
    ∷ ((buy_at 0 (at 5 105 107)).quote gives 1)
    ∷ ((sell_at 0 (at 5 105 107)).number gives 8)
    ∷ ((sell_at 0 (at 5 105 107)).stamp gives 10)
    ∷ ((sell_at 0 (at 5 105 107)).quote gives 1)
    -- the old quote is gone, whatever was left of it, and nothing else: the account's other orders stand
    ∷ (length (listing_at (after (at 5 105 107)) 0).buys gives 3)
    ∷ ((buy_at 1 (at 5 105 107)).number gives 3)
    ∷ ((buy_at 2 (at 5 105 107)).number gives 5)
    ∷ (length (listing_at (after (at 5 105 107)) 0).sells gives 3)
    ∷ ((sell_at 1 (at 5 105 107)).number gives 6)
    ∷ (buy_marks (after (at 5 105 107)) gives 1)
    ∷ (sell_marks (after (at 5 105 107)) gives 1)
    -- the buy trades with account 2's offer, then with the account's own: 5 lots, one rests, and the sell's 6
    ∷ ((effect (at 6 116 117)).traded gives 5)
    ∷ ((effect (at 6 116 117)).lots gives 7)
    ∷ ((trade_at' 0 (at 6 116 117)).buyorder gives 7)
    ∷ ((trade_at' 0 (at 6 116 117)).sellorder gives 6)
    ∷ ((trade_at' 0 (at 6 116 117)).price gives 115)
    ∷ ((trade_at' 1 (at 6 116 117)).sellorder gives 4)
    ∷ ((trade_at' 1 (at 6 116 117)).buyer gives 0)
    ∷ ((trade_at' 1 (at 6 116 117)).seller gives 0)
    ∷ (buy_marks (after (at 6 116 117)) gives 1)
    -- filled whole it leaves no mark
    ∷ (buy_marks (after (at 5 116 117)) gives 0)
    ∷ (sell_marks (after (at 5 116 117)) gives 1)
    -- the sell trades with the account's own bid, then with account 2's: 5 lots, one rests, and the buy's 6
    ∷ ((effect (at 6 100 101)).traded gives 5)
    ∷ ((effect (at 6 100 101)).lots gives 7)
    ∷ ((trade_at' 0 (at 6 100 101)).buyorder gives 3)
    ∷ ((trade_at' 0 (at 6 100 101)).sellorder gives 8)
    ∷ ((trade_at' 1 (at 6 100 101)).buyer gives 1)
    ∷ (length (quote_trades book (at 6 100 101)) gives 2)
    ∷ ((sell_at 0 (at 6 100 101)).lots gives 1)
    ∷ (sell_marks (after (at 6 100 101)) gives 1)
    -- "any other change of an order drops that order's mark": fewer lots too, the equal change not
    ∷ (buy_marks (fewer 1 1 104) gives 0)
    ∷ (sell_marks (fewer 1 1 104) gives 1)
    ∷ (buy_marks (fewer 1 2 104) gives 1)
    -- so do more lots and another price, with which it loses its place
    ∷ (buy_marks (fewer 1 3 104) gives 0)
    ∷ (buy_marks (fewer 1 2 103) gives 0)
    ∷ (sell_marks (fewer 2 6 108) gives 0)
    -- an order of the quote that is filled in part stays marked
    ∷ ((get_or (listing_at partly 0).buys 0 no_order).lots gives 1)
    ∷ (buy_marks partly gives 1)
    -- another maker's quote stands
    ∷ (length (listing_at beside 0).buys gives 3)
    ∷ (buy_marks beside gives 2)
    ∷ (sell_marks beside gives 2)
    ∷ []

pub quote_effects : all_right effects ≡ true
unfolding all_right effects order account contract book_of book at effect after buy_at sell_at trade_at' buy_marks sell_marks fewer partly beside account_at after_leg arriving best_price book_leg book_trade book_trades changed enter entered_of exchange_after gone half inserted is_sell last_price lessened listing_after listing_at listing_of loses_place lots_where meets method_of middle no_such_order numbered old_order paired_price place_kept place_lost quote_trades quoted reentered remainder rest_in rest_lots rested_lots resting_order stays sum_of sweep taker_of trade_price trade_with traded_lots unchanged with_buy with_sell without without_quote
quote_effects = refl

-- ---- "a place in use only between the steps is set to zero". Account 2 bids for 1 at 100 and 1 at 99; account 1 quotes 2 lots at 90 and
-- 98. The buy stands third; the sell fills both bids, and one order is left. The room of the buys, past the two bids, is all 7.

lying : Memory
lying =
    memory
    record {
      contracts = contract 1 1_000 continuous ∷ [];
      accounts = account 1 1_000_000 0 0 ∷ account 0 1_000_000 0 0 ∷ [];
      buycounts = 2 ∷ [];
      sellcounts = 0 ∷ [];
      contractcount = 1;
      accountcount = 2;
      tradecount = 0;
      next = 3;
      nextstamp = 4;
      settlements = 0;
    }
    (order_words (order 1 100 1 1 0) ++ (order_words (order 2 99 1 1 0) ++ replicate 14 7)) (replicate 14 7) (replicate 18 7)

-- the words of the buys after a command, those at one place added up
words_at : Command → ℕ → ℕ
words_at command place = sum_of (λ i. get_or (step_in lying command).memory.buys (7 * place + i) 0) (tabulate 7 (λ i. i))

left : ℕ → ℕ
left place = words_at (Quote 1 1 2 90 98) place

pub places : List Row
places =
    (get_or (step_in lying (Quote 1 1 2 90 98)).memory.state.buycounts 0 9 gives 1)
    -- the buy: 90, number 3, place 0, 2 lots, time stamp 4, marked
    ∷ (left 0 gives 100)
    ∷ (left 1 gives 0)
    ∷ (left 2 gives 0)
    -- room that no step used
    ∷ (left 3 gives 49)
    -- two numbers and two time stamps are taken, and written
    ∷ ((step_in lying (Quote 1 1 2 90 98)).memory.state.next gives 5)
    ∷ ((step_in lying (Quote 1 1 2 90 98)).memory.state.nextstamp gives 6)
    -- a change to zero lots: the second bid moves up (99, number 2, place 1, a lot, time stamp 2), its place is set to zero, room is not
    ∷ (words_at (Change 2 1 1 0 0) 0 gives 105)
    ∷ (words_at (Change 2 1 1 0 0) 1 gives 0)
    ∷ (words_at (Change 2 1 1 0 0) 2 gives 49)
    -- a change that loses its place: behind the second bid, at 98 with time stamp 4; no place is set to zero
    ∷ (words_at (Change 2 1 1 1 98) 0 gives 105)
    ∷ (words_at (Change 2 1 1 1 98) 1 gives 105)
    ∷ (words_at (Change 2 1 1 1 98) 2 gives 49)
    ∷ []

pub quote_places : all_right places ≡ true
unfolding all_right places order account contract lying words_at left absent account_at after_leg allowed_today arriving best_price book_leg book_trade book_trades cancelled change_refusals changed charge_of charged_lots charged_to code_of conditions_refused day_high day_low decide decode encode enter entered_of exchange_after exchange_of fillable fillable_lots first_of gone half holding_at holding_refused is_sell kind_of last_price listing_after listing_at listing_in listing_of loses_place lots_where meets method_of middle money_refused no_such_order numbered of_another old_order on_tick order_refusals over lots_refused trades_against padded paired_price place_lost price_refused_by put put_accounts put_queue put_queues put_state put_trades queue_in quote_refusals quoted records recorded_trades reentered remainder removed rest_in rest_lots rested_lots resting resting_order stays step_in store sum_of sweep tabulate taker_of trade_price trade_with traded_lots trades_needed trades_refused with_buy with_sell without without_quote
quote_places = refl

-- ---- "Bit 63 of an account's opening balance in the file marks a maker." A file of one account whose balance has these first and last
-- bytes, and between them those of 10^18, whose own are 0 and 13

file : ℕ → ℕ → List ℕ
file low high = 0 ∷ 0 ∷ 0 ∷ 0 ∷ 1 ∷ 0 ∷ 0 ∷ 0 ∷ low ∷ 0 ∷ 100 ∷ 167 ∷ 179 ∷ 182 ∷ 224 ∷ high ∷ []

-- two accounts that open with nothing, the second a maker
pair : List ℕ
pair = 0 ∷ 0 ∷ 0 ∷ 0 ∷ 2 ∷ 0 ∷ 0 ∷ 0 ∷ 0 ∷ 0 ∷ 0 ∷ 0 ∷ 0 ∷ 0 ∷ 0 ∷ 0 ∷ 0 ∷ 0 ∷ 0 ∷ 0 ∷ 0 ∷ 0 ∷ 0 ∷ 128 ∷ []

-- one account, its balance 0 but for the last byte
bare : ℕ → List ℕ
bare high = 0 ∷ 0 ∷ 0 ∷ 0 ∷ 1 ∷ 0 ∷ 0 ∷ 0 ∷ 0 ∷ 0 ∷ 0 ∷ 0 ∷ 0 ∷ 0 ∷ 0 ∷ high ∷ []

pub makers : List Row
makers =
    (balance_from (file 0 13) 0 gives 10 ^ 18)
    ∷ (maker_from (file 0 13) 0 gives 0)
    ∷ (balance_from (file 0 141) 0 gives 10 ^ 18)
    ∷ (maker_from (file 0 141) 0 gives 1)
    ∷ (mark (account_sound (file 0 141) 0) gives 1)
    -- the other 63 bits are 0 to 10^18 as before
    ∷ (mark (account_sound (file 1 141) 0) gives 0)
    ∷ (mark (account_sound (file 0 127) 0) gives 0)
    ∷ (maker_from (file 0 127) 0 gives 0)
    -- a maker that opens with nothing
    ∷ (maker_from (bare 128) 0 gives 1)
    ∷ (balance_from (bare 128) 0 gives 0)
    -- each account opens with its own mark, and a settlement leaves it
    ∷ ((opening_account pair 0).maker gives 0)
    ∷ ((opening_account pair 1).maker gives 1)
    ∷ ((settled_account (state closed [] [] 0 1 1 (account 1 1_000 0 0)) 0).maker gives 1)
    ∷ ((settled_account (state closed [] [] 0 1 1 (account 1 1_000 0 0)) 1).maker gives 0)
    ∷ []

pub maker_bits : all_right makers ≡ true
unfolding all_right makers file pair bare account contract state account_at account_place account_sound balance_from contract_place contracts_in maker_from opening_account settled_account u16_at u32_at u64_at u8_at
maker_bits = refl
