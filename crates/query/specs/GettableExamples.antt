-- Answers worked out by hand: document 01's book of sells 7 at 110 and 5 at 111, with 4 at 112 behind them. One table, one
-- statement. The states asked need not be well formed. Assumes nothing.
use Rattle.std.specs.Prelude.{Bool, true, false, ◌&&◌, List, [], ◌∷◌, ◌≡◌, refl, ℕ, eqb, pos, replicate}
use Rattle.laws.specs.Choice.{all, all_of}
use Rattle.laws.specs.Sums.{sum_of}
use Rattle.laws.specs.Tabulate.{tabulate}
use Rattle.areas.specs.Records.{decode, records}
use Rattle.rules.specs.Answers.{fillable_lots, first_of, listing_of, price_refused_by, taker_of}
use Rattle.rules.specs.Bounds.{allowed_today, auction, closed, continuous, day_high, day_low, no_trading, on_tick, pre_open, terms_in_range, tick_multiple}
use Rattle.rules.specs.Exchange.{Exchange, absent, account_at, best_price, holding_at, listing_at, lots_where, no_holding, resting}
use Rattle.rules.specs.Command.{bits, command_of, insert_flags, insert_of, new_order, price_condition, pull_of, time_condition, zeros}
use Rattle.rules.specs.Holdings.{after_leg, book_leg, book_trade, book_trades, leg_covered, never_below_zero, same_holdings, same_lots, start_of_day}
use Rattle.rules.specs.Matching.{fillable, meets}
use Rattle.rules.specs.Memory.{Memory, counts_in_range, exchange_of, has_room, listing_in, queue_in, recorded_trades, well_formed_memory, queue_stride, trades_words}
use Rattle.rules.specs.WellFormed.{ahead, ahead_of_first, all_listed, balance_in_range, contract_in_range, counters_in_range, held_in_range, holding_in_range, holdings_in_range, listed, listing_quoted, mark_allowed, mark_in_range, order_in_range, orders_in_range, queue_quoted, queues_sorted, quotes, ranges_kept, replays, resting_in_range, sorted, trade_in_range, uncrossed, used_once, well_formed_contents}
use Rattle.rules.specs.declared.NewOrder.{NewOrder}
use Rattle.rules.specs.declared.Order.{Order}
use Rattle.rules.specs.declared.PriceCondition.{PriceCondition}
use Rattle.rules.specs.declared.PriceCondition.TheVariants.{Limit, Market, Best}
use Rattle.rules.specs.declared.Record.{Record}
use Rattle.rules.specs.declared.TimeCondition.{TimeCondition}
use Rattle.rules.specs.declared.TimeCondition.TheVariants.{GoodForDay, ImmediateOrCancel, FillOrKill}
use Rattle.query.specs.Gettable.{ask_refusals, gettable_now, lots_now, order_reading, question_refusals, orders_read, read_now, reading_with}
use Rattle.query.specs.declared.Reading.{Reading}

order : ℕ → ℕ → ℕ → Order
order number price lots = record { price = price; number = number; account = 0; lots = lots; close = 0; stamp = number; quote = 0 }

-- one contract in a phase, its low 100 and high 120, two accounts; 3 are bid for at 109
book : ℕ → List Order → Exchange
book phase sells =
    record {
      listings = record {
        contract = record { multiplier = 10; tick = 1; reference = 110; band = 10; limit = 1_000; rate = 1_000; method = 0; phase = phase; last = 110 };
        buys = order 4 109 3 ∷ [];
        sells = sells;
      } ∷ [];
      accounts = record { balance = pos 0; maker = 0; holdings = no_holding ∷ [] } ∷ record { balance = pos 0; maker = 0; holdings = no_holding ∷ [] } ∷ [];
      trades = [];
      next = 5;
      nextstamp = 1;
      settlements = 0;
    }

sells : List Order
sells = order 1 110 7 ∷ order 2 111 5 ∷ order 3 112 4 ∷ []

-- an order of account 2 in contract 1; a buy and a sell at a limit; a market and a best buy
asking : Bool → ℕ → ℕ → PriceCondition → TimeCondition → NewOrder
asking sell lots price condition time =
    record { account = 2; contract = 1; sell = sell; close = false; lots = lots; price = price; condition = condition; time = time }

buy_at : ℕ → ℕ → NewOrder
buy_at price lots = asking false lots price (Limit price) GoodForDay

sell_at : ℕ → ℕ → NewOrder
sell_at price lots = asking true lots price (Limit price) GoodForDay

market : ℕ → NewOrder
market lots = asking false lots 0 Market ImmediateOrCancel

best : ℕ → NewOrder
best lots = asking false lots 0 Best ImmediateOrCancel

from : ℕ → ℕ → NewOrder
from account contract =
    record { account = account; contract = contract; sell = false; close = false; lots = 0; price = 110; condition = Limit 110; time = GoodForDay }

-- the answer in continuous
now' : NewOrder → Reading
now' o = order_reading (book continuous sells) o

-- ---- a state in memory with one contract and one account, its arrays and areas empty but for these; so many contracts in use
memory_of : ℕ → Memory
memory_of contracts =
    record {
      state = record {
        contracts = record { multiplier = 10; tick = 1; reference = 110; band = 10; limit = 1_000; rate = 1_000; method = 0; phase = pre_open; last = 110 } ∷ [];
        accounts = record { balance = pos 0; maker = 0; holdings = no_holding ∷ [] } ∷ [];
        buycounts = 0 ∷ [];
        sellcounts = 0 ∷ [];
        contractcount = contracts;
        accountcount = 1;
        tradecount = 0;
        next = 1;
        nextstamp = 1;
        settlements = 0;
      };
      buys = replicate queue_stride 0;
      sells = replicate queue_stride 0;
      trades = replicate trades_words 0;
    }

-- 24 bytes of a kind, an account, flags and lots, for contract 1 and no price
bytes : ℕ → ℕ → ℕ → ℕ → Record
bytes kind account flags lots = record { kind = kind; account = account; contract = 1; flags = flags; lots = lots; price = 0; number = 0; amount = 0 }

-- an answer beside the code, the lots and the orders read that it must have
pub data Case : Type 0 where
  case : Reading → ℕ → ℕ → ℕ → Case

unfoldable pub all_right : List Case → Bool
all_right [] = true
all_right ((case r code lots read) ∷ cases) = eqb r.code code && eqb r.lots lots && eqb r.read read && all_right cases

pub table : List Case
table =
    -- fillable 12 and 7, as in document 01; the order at 112, or at 111, is no counterpart, and is counted where it is met
    case (now' (buy_at 111 12)) 0 12 2
    ∷ case (now' (buy_at 111 13)) 0 12 3
    ∷ case (now' (buy_at 110 12)) 0 7 2
    -- covered by the first order, with nothing or something of it left; one lot more, and the next is read
    ∷ case (now' (buy_at 111 7)) 0 7 1
    ∷ case (now' (buy_at 111 6)) 0 6 1
    ∷ case (now' (buy_at 111 8)) 0 8 2
    ∷ case (now' (buy_at 110 8)) 0 7 2
    -- the first order is no counterpart
    ∷ case (now' (buy_at 109 1)) 0 0 1
    -- market reads to the end of the queue where it is not covered before; best as far as the best price
    ∷ case (now' (market 1_000)) 0 16 3
    ∷ case (now' (market 16)) 0 16 3
    ∷ case (now' (market 12)) 0 12 2
    ∷ case (now' (best 1_000)) 0 7 2
    ∷ case (now' (best 7)) 0 7 1
    -- a sell reads the buys
    ∷ case (now' (sell_at 109 5)) 0 3 1
    ∷ case (now' (sell_at 110 5)) 0 0 1
    -- nothing rests
    ∷ case (order_reading (book continuous []) (buy_at 111 12)) 0 0 0
    ∷ case (order_reading (book continuous []) (best 12)) 0 0 0
    -- the time condition plays no part: fill or kill for 13, which an insert would refuse, gets 12 lots
    ∷ case (now' (asking false 13 111 (Limit 111) ImmediateOrCancel)) 0 12 3
    ∷ case (now' (asking false 13 111 (Limit 111) FillOrKill)) 0 12 3
    -- nor does the contract's state
    ∷ case (order_reading (book pre_open sells) (buy_at 111 13)) 0 12 3
    ∷ case (order_reading (book no_trading sells) (buy_at 111 13)) 0 12 3
    ∷ case (order_reading (book closed sells) (buy_at 111 13)) 0 12 3
    -- in auction neither, crossed or not: its own 6 is for inserts alone
    ∷ case (order_reading (book auction sells) (buy_at 111 13)) 0 12 3
    ∷ case (order_reading (book auction (order 1 108 7 ∷ [])) (buy_at 108 9)) 0 7 1
    ∷ case (order_reading (book auction sells) (asking false 13 111 (Limit 111) FillOrKill)) 0 12 3
    ∷ case (order_reading (book auction sells) (market 12)) 0 12 2
    ∷ case (order_reading (book auction sells) (asking false 1 5 Market GoodForDay)) 6 0 0
    -- account before contract before lots, lots before 6, 6 before 7; both numbers are then 0
    ∷ case (now' (from 0 0)) 2 0 0
    ∷ case (now' (from 3 1)) 2 0 0
    ∷ case (now' (from 1 0)) 3 0 0
    ∷ case (now' (from 1 2)) 3 0 0
    ∷ case (now' (from 1 1)) 5 0 0
    ∷ case (now' (buy_at 111 1_000)) 0 12 3
    ∷ case (now' (buy_at 111 1_001)) 5 0 0
    ∷ case (now' (asking false 1_001 5 Market GoodForDay)) 5 0 0
    ∷ case (now' (asking false 1 5 Market GoodForDay)) 6 0 0
    ∷ case (now' (asking false 1 5 Market ImmediateOrCancel)) 7 0 0
    ∷ case (now' (asking false 1 5 Best FillOrKill)) 7 0 0
    -- both ends of the band may be asked for
    ∷ case (now' (buy_at 120 1)) 0 1 1
    ∷ case (now' (buy_at 121 1)) 7 0 0
    ∷ case (now' (buy_at 100 1)) 0 0 1
    ∷ case (now' (buy_at 99 1)) 7 0 0
    -- any state and any bytes: 21 before 1, 1 before 2; a kind that does not exist, a pull and an unknown flag give 1
    ∷ case (gettable_now (memory_of 0) (bytes 10 0 0 0)) 21 0 0
    ∷ case (gettable_now (memory_of 1) (bytes 10 0 0 0)) 1 0 0
    ∷ case (gettable_now (memory_of 1) (bytes 5 1 0 0)) 1 0 0
    ∷ case (gettable_now (memory_of 1) (bytes 3 0 64 0)) 1 0 0
    ∷ case (gettable_now (memory_of 1) (bytes 3 0 0 0)) 2 0 0
    -- market, immediate or cancel
    ∷ case (gettable_now (memory_of 1) (bytes 3 1 20 0)) 5 0 0
    ∷ case (gettable_now (memory_of 1) (bytes 3 1 20 5)) 0 0 0
    ∷ []

pub gettable_examples : all_right table ≡ true
unfolding all_right table order book sells asking buy_at sell_at market best from now' memory_of bytes absent account_at after_leg ahead ahead_of_first all all_listed all_of allowed_today ask_refusals balance_in_range best_price bits book_leg book_trade book_trades command_of contract_in_range counters_in_range counts_in_range day_high day_low decode exchange_of fillable fillable_lots first_of gettable_now has_room holding_at held_in_range holding_in_range holdings_in_range insert_flags insert_of leg_covered listing_at listing_in ranges_kept queues_sorted orders_in_range resting_in_range listing_of lots_now lots_where meets never_below_zero new_order listed on_tick order_in_range order_reading question_refusals orders_read price_condition price_refused_by pull_of queue_in read_now reading_with recorded_trades records replays resting same_holdings same_lots sorted start_of_day sum_of tabulate taker_of terms_in_range tick_multiple time_condition trade_in_range uncrossed used_once quotes mark_allowed queue_quoted listing_quoted mark_in_range well_formed_contents well_formed_memory zeros
gettable_examples = refl
