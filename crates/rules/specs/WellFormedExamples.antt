-- A state that is well formed, and near misses that are not, a clause each: three tables, a statement each, as in
-- Examples.antt. Assumes nothing.
use Rattle.std.specs.Prelude.{true, List, [], ◌∷◌, ◌≡◌, refl, ℕ, ◌+◌, ◌*◌, ◌^◌, ℤ, pos, neg_ℤ, replicate}
use Rattle.laws.specs.Choice.{all, all_of}
use Rattle.laws.specs.Sums.{sum_of}
use Rattle.laws.specs.Tabulate.{tabulate}
use Rattle.areas.specs.Records.{decode, records}
use Rattle.rules.specs.Bounds.{allowed_today, day_high, day_low, on_tick, terms_in_range, tick_multiple, auction, closed, continuous, no_trading, pre_open}
use Rattle.rules.specs.Examples.{Row, ◌gives◌, all_right}
use Rattle.rules.specs.Exchange.{Exchange, Listing, account_at, holding_at, listing_at, lots_where, no_holding, resting}
use Rattle.rules.specs.Holdings.{after_leg, book_leg, book_trade, book_trades, leg_covered, never_below_zero, same_holdings, same_lots, start_of_day}
use Rattle.rules.specs.Answers.{mark}
use Rattle.rules.specs.Memory.{Memory, counts_in_range, exchange_of, has_room, listing_in, memory, queue_in, recorded_trades, well_formed_memory}
use Rattle.rules.specs.WellFormed.{ahead, ahead_of_first, all_listed, balance_in_range, contract_in_range, counters_in_range, held_in_range, holding_in_range, holdings_in_range, listed, listing_quoted, mark_allowed, mark_in_range, order_in_range, orders_in_range, queue_quoted, queues_sorted, quotes, ranges_kept, replays, resting_in_range, sorted, trade_in_range, uncrossed, used_once, well_formed_contents}
use Rattle.rules.specs.declared.Account.{Account}
use Rattle.rules.specs.declared.Contract.{Contract}
use Rattle.rules.specs.declared.Holding.{Holding}
use Rattle.rules.specs.declared.Order.{Order}
use Rattle.rules.specs.declared.State.{State}
use Rattle.rules.specs.declared.Trade.{Trade}

contract : ℕ → ℕ → Contract
contract phase last = record { multiplier = 10; tick = 2; reference = 110; band = 10; limit = 10; rate = 1_000; method = 0; phase = phase; last = last }

order : ℕ → ℕ → ℕ → ℕ → Order
order number price lots close = record { price = price; number = number; account = 0; lots = lots; close = close; stamp = number; quote = 0 }

-- a buy of 4 at 108 with a number and another time stamp
stamped : ℕ → ℕ → Order
stamped number stamp = record { price = 108; number = number; account = 0; lots = 4; close = 0; stamp = stamp; quote = 0 }

-- account 2 buys 3 of account 1, both to open
trade : ℕ → ℕ → ℕ → Trade
trade price lots sellorder =
    record { contract = 0; price = price; lots = lots; buyorder = 1; sellorder = sellorder; buyer = 1; seller = 0; buyclose = 0; sellclose = 0 }

account : ℤ → ℕ → ℕ → ℕ → ℕ → Account
account balance long short startlong startshort =
    record { balance = balance; maker = 0; holdings = record { long = long; short = short; startlong = startlong; startshort = startshort } ∷ [] }

-- account 1 starts with 2 long, account 2 with 2 short
asked : ℕ → ℕ → List Order → List Order → List Trade → ℕ → ℕ → ℤ → Exchange
asked phase last buys sells trades short next balance =
    record {
      listings = record { contract = contract phase last; buys = buys; sells = sells } ∷ [];
      accounts = account balance 2 short 2 0 ∷ account (pos 0) 3 2 0 2 ∷ [];
      trades = trades;
      next = next;
      nextstamp = next;
      settlements = 1;
    }

buys : List Order
buys = order 3 108 4 0 ∷ order 4 108 4 0 ∷ order 6 106 1 1 ∷ []

sells : List Order
sells = order 5 110 7 0 ∷ order 7 112 2 1 ∷ []

trades : List Trade
trades = trade 110 3 2 ∷ []

-- the state with the given parts, in continuous, 1 where it is well formed
test : ℕ → List Order → List Order → List Trade → ℕ → ℕ → ℤ → ℕ
test last b s t short next balance = mark (well_formed_contents (asked continuous last b s t short next balance))

-- a contract's state with its buys
test_in : ℕ → List Order → ℕ
test_in phase b = mark (well_formed_contents (asked phase 110 b sells trades 3 8 (pos 0)))

-- a buy of one lot at 108 of the account at a place
of : ℕ → Order
of account = record { price = 108; number = 3; account = account; lots = 1; close = 0; stamp = 3; quote = 0 }

-- a recorded trade by contract, buyer, seller, buy order and sell order, 1 where it keeps its ranges
kept : ℕ → ℕ → ℕ → ℕ → ℕ → ℕ
kept contract buyer seller buyorder sellorder =
    mark (trade_in_range (asked continuous 110 [] [] [] 0 8 (pos 0))
    record { contract = contract; price = 110; lots = 3; buyorder = buyorder; sellorder = sellorder; buyer = buyer; seller = seller; buyclose = 0; sellclose = 0 })

-- the same by contract, price and what each leg does: 0 opens, 1 closes
does : ℕ → ℕ → ℕ → ℕ → ℕ
does contract price buyclose sellclose =
    mark (trade_in_range (asked continuous 110 [] [] [] 0 8 (pos 0))
    record { contract = contract; price = price; lots = 3; buyorder = 2; sellorder = 1; buyer = 1; seller = 0; buyclose = buyclose; sellclose = sellclose })

pub table : List Row
table =
    (test 130 buys sells trades 3 8 (neg_ℤ (pos (10 ^ 18 + 3 * 10 ^ 15))) gives 1)
    -- the last price off the tick; the next number at 0, and a number not below it
    ∷ (test 111 buys sells trades 3 8 (pos 0) gives 0)
    ∷ (test 110 [] [] trades 3 0 (pos 0) gives 0)
    ∷ (test 110 buys sells trades 3 7 (pos 0) gives 0)
    -- a queue out of order, by price, behind its first two orders, among the sells, and by time stamp; a crossed book
    ∷ (test 110 (order 6 106 1 1 ∷ order 3 108 4 0 ∷ []) sells trades 3 8 (pos 0) gives 0)
    ∷ (test 110 (order 3 108 4 0 ∷ order 6 106 1 1 ∷ order 4 108 4 0 ∷ []) sells trades 3 8 (pos 0) gives 0)
    ∷ (test 110 buys (order 7 112 2 1 ∷ order 5 110 7 0 ∷ []) trades 3 8 (pos 0) gives 0)
    ∷ (test 110 (order 4 108 4 0 ∷ order 3 108 4 0 ∷ []) sells trades 3 8 (pos 0) gives 0)
    ∷ (test 110 (order 3 110 4 0 ∷ []) sells trades 3 8 (pos 0) gives 0)
    -- that in auction, the one state in which it may be; a queue out of order in auction; a state that is unknown
    ∷ (test_in auction (order 3 110 4 0 ∷ []) gives 1)
    ∷ (test_in pre_open (order 3 110 4 0 ∷ []) gives 0)
    ∷ (test_in no_trading (order 3 110 4 0 ∷ []) gives 0)
    ∷ (test_in closed (order 3 110 4 0 ∷ []) gives 0)
    ∷ (test_in auction (order 4 112 1 0 ∷ order 3 112 1 0 ∷ []) gives 0)
    ∷ (test_in 5 buys gives 0)
    -- no lots, a price past the band, a third mark, a number used twice
    ∷ (test 110 (order 3 108 0 0 ∷ []) sells trades 3 8 (pos 0) gives 0)
    ∷ (test 110 buys (order 5 122 1 0 ∷ []) trades 3 8 (pos 0) gives 0)
    ∷ (test 110 (order 3 108 1 2 ∷ []) sells trades 3 8 (pos 0) gives 0)
    ∷ (test 110 (order 5 108 1 0 ∷ []) sells trades 3 8 (pos 0) gives 0)
    -- sorted by time stamp, whatever the numbers, and by number alone; a stamp used twice, over two queues
    ∷ (test 110 (stamped 4 3 ∷ stamped 3 4 ∷ []) sells trades 3 8 (pos 0) gives 1)
    ∷ (test 110 (stamped 3 4 ∷ stamped 4 3 ∷ []) sells trades 3 8 (pos 0) gives 0)
    ∷ (test 110 (stamped 3 5 ∷ []) sells trades 3 8 (pos 0) gives 0)
    -- an order of an account that is not there; one of the last account
    ∷ (test 110 (of 2 ∷ []) sells trades 3 8 (pos 0) gives 0)
    ∷ (test 110 (of 1 ∷ []) sells trades 3 8 (pos 0) gives 1)
    -- a trade at a price past the band, of no lots, of one order with itself
    ∷ (test 110 buys sells (trade 122 3 2 ∷ []) 3 8 (pos 0) gives 0)
    ∷ (test 110 buys sells (trade 110 3 2 ∷ trade 110 0 2 ∷ []) 3 8 (pos 0) gives 0)
    ∷ (test 110 buys sells (trade 110 3 1 ∷ []) 3 8 (pos 0) gives 0)
    -- a trade whose order has the next number, which none has yet; in a contract that is not there, by a buyer or a seller that is not
    ∷ (test 110 buys sells (trade 110 3 8 ∷ []) 3 8 (pos 0) gives 0)
    ∷ (kept 0 1 0 2 1 gives 1)
    ∷ (kept 0 1 0 2 8 gives 0)
    ∷ (kept 0 1 0 8 1 gives 0)
    ∷ (kept 0 1 0 2 0 gives 0)
    ∷ (kept 0 1 0 0 1 gives 0)
    ∷ (kept 1 1 0 2 1 gives 0)
    ∷ (kept 0 2 0 2 1 gives 0)
    ∷ (kept 0 1 2 2 1 gives 0)
    ∷ (does 1 0 0 0 gives 0)
    -- a leg that opens or closes, and one that does neither
    ∷ (does 0 110 1 1 gives 1)
    ∷ (does 0 110 2 0 gives 0)
    ∷ (does 0 110 0 2 gives 0)
    -- holdings now that are not the trades replayed
    ∷ (test 110 buys sells trades 2 8 (pos 0) gives 0)
    -- holding and resting opens together past the limit of 10; resting closes past the holding
    ∷ (test 110 (order 3 108 9 0 ∷ []) sells trades 3 8 (pos 0) gives 0)
    ∷ (test 110 buys (order 5 110 8 0 ∷ []) trades 3 8 (pos 0) gives 0)
    ∷ (test 110 buys (order 7 112 3 1 ∷ []) trades 3 8 (pos 0) gives 0)
    ∷ (test 110 (order 6 106 3 1 ∷ []) sells trades 3 8 (pos 0) gives 1)
    ∷ (test 110 (order 6 106 4 1 ∷ []) sells trades 3 8 (pos 0) gives 0)
    -- a balance one past its bound, either sign
    ∷ (test 110 buys sells trades 3 8 (pos (10 ^ 18 + 3 * 10 ^ 15 + 1)) gives 0)
    ∷ (test 110 buys sells trades 3 8 (neg_ℤ (pos (10 ^ 18 + 3 * 10 ^ 15 + 1))) gives 0)
    ∷ []

pub well_formed_examples : all_right table ≡ true
unfolding all_right table contract order stamped trade account asked buys sells trades test test_in of kept does all all_of sum_of account_at after_leg ahead ahead_of_first all_listed allowed_today balance_in_range book_leg book_trade book_trades contract_in_range counters_in_range day_high day_low holding_at held_in_range holding_in_range holdings_in_range leg_covered listing_at ranges_kept queues_sorted orders_in_range resting_in_range lots_where never_below_zero listed on_tick order_in_range replays resting same_holdings same_lots sorted start_of_day terms_in_range tick_multiple trade_in_range uncrossed used_once well_formed_contents quotes mark_allowed queue_quoted listing_quoted mark_in_range
well_formed_examples = refl

-- ---- counts and room, on a state as it lies, and the replay of closes

-- so many contracts, accounts, trades, and buys and sells of the first contract
counts : ℕ → ℕ → ℕ → ℕ → ℕ → State
counts contracts accounts trades buyorders sellorders =
    record {
      contracts = contract continuous 110 ∷ [];
      accounts = account (pos 0) 0 0 0 0 ∷ account (pos 0) 0 0 0 0 ∷ [];
      buycounts = buyorders ∷ [];
      sellcounts = sellorders ∷ [];
      contractcount = contracts;
      accountcount = accounts;
      tradecount = trades;
      next = 1;
      nextstamp = 1;
      settlements = 0;
    }

-- areas of so many words
lying : ℕ → ℕ → Memory
lying queue day = memory (counts 1 2 0 0 0) (replicate queue 0) (replicate queue 0) (replicate day 0)

-- the buys' area, and the sells', of so many words
sides : ℕ → ℕ → Memory
sides buywords sellwords = memory (counts 1 2 0 0 0) (replicate buywords 0) (replicate sellwords 0) (replicate 9_216 0)

-- areas with just the room that one contract needs, 1 where the whole is well formed
whole : State → ℕ
whole s = mark (well_formed_memory (memory s (replicate 448 0) (replicate 448 0) (replicate 9_216 0)))

-- account 1 starts with 2 long and 3 short and sells so many to close, account 2 buys them to open
replayed : ℕ → Exchange
replayed lots =
    record {
      listings = record { contract = contract continuous 110; buys = []; sells = [] } ∷ [];
      accounts = account (pos 0) 0 3 2 3 ∷ account (pos 0) lots 0 0 0 ∷ [];
      trades = record { contract = 0; price = 110; lots = lots; buyorder = 1; sellorder = 2; buyer = 1; seller = 0; buyclose = 0; sellclose = 1 } ∷ [];
      next = 3;
      nextstamp = 3;
      settlements = 0;
    }

-- account 1 starts with 3 long and 2 short and buys so many to close, then so many more; account 2 sells them to open
closing : ℕ → ℕ → Exchange
closing lots more =
    record {
      listings = record { contract = contract continuous 110; buys = []; sells = [] } ∷ [];
      accounts = account (pos 0) 3 0 3 2 ∷ account (pos 0) 0 (lots + more) 0 0 ∷ [];
      trades = back lots ∷ back more ∷ [];
      next = 3;
      nextstamp = 3;
      settlements = 0;
    }
  where
    back : ℕ → Trade
    back lots = record { contract = 0; price = 110; lots = lots; buyorder = 1; sellorder = 2; buyer = 0; seller = 1; buyclose = 1; sellclose = 0 }

-- what two accounts hold, the second long in two contracts: 1 where another pair of accounts holds the same lots
same : ℕ → ℕ → ℕ → ℕ → ℕ
same long short second other = mark (same_holdings (pair 1 2 3 4) (pair long short second other))
  where
    lots : ℕ → ℕ → Holding
    lots long short = record { long = long; short = short; startlong = 0; startshort = 0 }

    pair : ℕ → ℕ → ℕ → ℕ → List Account
    pair long short second other =
        record { balance = pos 0; maker = 0; holdings = lots long short ∷ [] }
        ∷ record { balance = pos 0; maker = 0; holdings = lots second 0 ∷ lots other 0 ∷ [] }
        ∷ []

-- an order that is in range but for its time stamp and its quote mark
marked : ℕ → ℕ → Order
marked stamp quote = record { price = 110; number = 1; account = 0; lots = 1; close = 0; stamp = stamp; quote = quote }

-- an order that is in range but for its number
numbered : ℕ → Order
numbered number = record { price = 110; number = number; account = 0; lots = 1; close = 0; stamp = 1; quote = 0 }

-- a state of which only the two counters matter, and the count of settlements
counting : ℕ → ℕ → ℕ → Exchange
counting next nextstamp settlements = record { listings = []; accounts = []; trades = []; next = next; nextstamp = nextstamp; settlements = settlements }

-- the terms of a contract, 1 where they keep their ranges
terms : ℕ → ℕ → ℕ → ℕ → ℕ → ℕ → ℕ → ℕ
terms multiplier tick reference band limit rate method =
    mark (contract_in_range record { multiplier = multiplier; tick = tick; reference = reference; band = band; limit = limit; rate = rate; method = method; phase = continuous; last = tick })

-- a holding at the start of the day, against a limit of 10
starting : ℕ → ℕ → ℕ
starting long short = mark (held_in_range record { long = 0; short = 0; startlong = long; startshort = short } 10 0 0 0 0)

-- an order in each of two contracts: the numbers and the time stamps of the two
across : ℕ → ℕ → ℕ → ℕ → ℕ
across number stamp number' stamp' =
    mark (well_formed_contents record {
      listings = resting' number stamp ∷ resting' number' stamp' ∷ [];
      accounts = record { balance = pos 0; maker = 0; holdings = no_holding ∷ no_holding ∷ [] } ∷ [];
      trades = [];
      next = 9;
      nextstamp = 9;
      settlements = 0;
    })
  where
    resting' : ℕ → ℕ → Listing
    resting' number stamp =
        record { contract = contract continuous 110; buys = record { price = 108; number = number; account = 0; lots = 1; close = 0; stamp = stamp; quote = 0 } ∷ []; sells = [] }

pub laid : List Row
laid =
    -- each parameter at the ends of its range, and past them
    (terms 1 1 1 1 1 1 0 gives 1)
    ∷ (terms 1_000 1_000 1_000_000 1_000_000 100_000 10_000 2 gives 1)
    ∷ (terms 0 1 1 1 1 1 0 gives 0)
    ∷ (terms 1_001 1 1 1 1 1 0 gives 0)
    ∷ (terms 1 1_001 1_001 1_001 1 1 0 gives 0)
    ∷ (terms 1 2 3 2 1 1 0 gives 0)
    ∷ (terms 1 2 2 3 1 1 0 gives 0)
    ∷ (terms 1 2 0 2 1 1 0 gives 0)
    ∷ (terms 1 2 2 0 1 1 0 gives 0)
    ∷ (terms 1 1 1_000_001 1 1 1 0 gives 0)
    ∷ (terms 1 1 1 1_000_001 1 1 0 gives 0)
    ∷ (terms 1 1 1 1 0 1 0 gives 0)
    ∷ (terms 1 1 1 1 100_001 1 0 gives 0)
    ∷ (terms 1 1 1 1 1 0 0 gives 0)
    ∷ (terms 1 1 1 1 1 10_001 0 gives 0)
    ∷ (terms 1 1 1 1 1 1 3 gives 0)
    -- starting holdings at the limit, and past it
    ∷ (starting 10 10 gives 1)
    ∷ (starting 11 0 gives 0)
    ∷ (starting 0 11 gives 0)
    -- numbers and time stamps are used once over all contracts
    ∷ (across 1 2 2 1 gives 1)
    ∷ (across 1 1 1 2 gives 0)
    ∷ (across 1 1 2 1 gives 0)
    ∷ (mark (used_once (1 ∷ 2 ∷ 3 ∷ [])) gives 1)
    ∷ (mark (used_once (1 ∷ 2 ∷ 2 ∷ [])) gives 0)
    -- counts and room
    ∷ (mark (counts_in_range (counts 4 32 1_024 64 64)) gives 1)
    ∷ (mark (counts_in_range (counts 5 32 1_024 64 64)) gives 0)
    ∷ (mark (counts_in_range (counts 0 32 1_024 64 64)) gives 0)
    ∷ (mark (counts_in_range (counts 4 33 1_024 64 64)) gives 0)
    ∷ (mark (counts_in_range (counts 4 0 1_024 64 64)) gives 0)
    ∷ (mark (counts_in_range (counts 4 32 1_025 64 64)) gives 0)
    ∷ (mark (counts_in_range (counts 4 32 1_024 65 64)) gives 0)
    ∷ (mark (counts_in_range (counts 4 32 1_024 64 65)) gives 0)
    -- 64 orders of seven words, 1,024 trades of nine, and a word less
    ∷ (mark (has_room (lying 448 9_216)) gives 1)
    ∷ (mark (has_room (lying 447 9_216)) gives 0)
    ∷ (mark (has_room (lying 448 9_215)) gives 0)
    ∷ (mark (has_room (sides 447 448)) gives 0)
    ∷ (mark (has_room (sides 448 447)) gives 0)
    -- counts, room and contents together: no account is there, a trade of no lots is recorded, a word of room is missing
    ∷ (whole (counts 1 2 0 0 0) gives 1)
    ∷ (whole (counts 1 0 0 0 0) gives 0)
    ∷ (whole (counts 1 2 1 0 0) gives 0)
    ∷ (mark (well_formed_memory (lying 448 9_215)) gives 0)
    -- a close of what is held, and of one lot more: the short lots do not cover it
    ∷ (mark (replays (replayed 2)) gives 1)
    ∷ (mark (replays (replayed 3)) gives 0)
    ∷ (mark (replays (closing 1 1)) gives 1)
    ∷ (mark (replays (closing 3 0)) gives 0)
    ∷ (mark (replays (closing 1 2)) gives 0)
    -- the same lots, long and short, of each account and in each contract
    ∷ (same 1 2 3 4 gives 1)
    ∷ (same 0 2 3 4 gives 0)
    ∷ (same 1 0 3 4 gives 0)
    ∷ (same 1 2 0 4 gives 0)
    ∷ (same 1 2 3 0 gives 0)
    -- a time stamp from 1 and below the next one, whatever the next number; a quote mark is 0 or 1
    ∷ (mark (order_in_range 2 9 8 (contract continuous 110) (marked 7 0)) gives 1)
    ∷ (mark (order_in_range 2 9 8 (contract continuous 110) (marked 8 0)) gives 0)
    ∷ (mark (order_in_range 2 9 8 (contract continuous 110) (marked 0 0)) gives 0)
    ∷ (mark (order_in_range 2 9 8 (contract continuous 110) (marked 7 1)) gives 1)
    ∷ (mark (order_in_range 2 9 8 (contract continuous 110) (marked 7 2)) gives 0)
    -- a number from 1 and below the next one, whatever the next time stamp
    ∷ (mark (order_in_range 2 9 8 (contract continuous 110) (numbered 8)) gives 1)
    ∷ (mark (order_in_range 2 9 8 (contract continuous 110) (numbered 9)) gives 0)
    ∷ (mark (order_in_range 2 9 8 (contract continuous 110) (numbered 0)) gives 0)
    -- the next number and the next time stamp are each 1 to 1,000,000; settlements are at most 250
    ∷ (mark (counters_in_range (counting 1_000_000 1_000_000 250)) gives 1)
    ∷ (mark (counters_in_range (counting 1_000_001 1 0)) gives 0)
    ∷ (mark (counters_in_range (counting 0 1 0)) gives 0)
    ∷ (mark (counters_in_range (counting 1 1_000_001 0)) gives 0)
    ∷ (mark (counters_in_range (counting 1 0 0)) gives 0)
    ∷ (mark (counters_in_range (counting 1 1 251)) gives 0)
    ∷ (mark (well_formed_contents (counting 1 1 250)) gives 1)
    ∷ (mark (well_formed_contents (counting 1 1 251)) gives 0)
    -- at one price the lower time stamp is ahead, and no order is ahead of itself
    ∷ (mark (ahead true (marked 6 0) (marked 7 0)) gives 1)
    ∷ (mark (ahead true (marked 7 0) (marked 7 0)) gives 0)
    ∷ []

pub laid_examples : all_right laid ≡ true
unfolding all_right laid contract account terms starting across counts lying sides whole replayed closing same marked numbered counting all all_of sum_of ahead ahead_of_first all_listed balance_in_range contract_in_range held_in_range holding_in_range holdings_in_range listed listing_at listing_quoted lots_where mark_allowed mark_in_range orders_in_range queue_quoted queues_sorted quotes ranges_kept resting resting_in_range sorted terms_in_range tick_multiple trade_in_range uncrossed used_once well_formed_contents account_at after_leg allowed_today book_leg book_trade book_trades counters_in_range counts_in_range day_high day_low has_room holding_at leg_covered never_below_zero on_tick order_in_range replays same_holdings same_lots start_of_day tabulate decode records exchange_of listing_in queue_in recorded_trades well_formed_memory
laid_examples = refl

-- ---- quote marks: accounts 1 and 2, each long 2 lots, makers or not

quoting : ℕ → ℕ → List Order → List Order → ℕ
quoting first second b s =
    mark (well_formed_contents record {
      listings = record { contract = contract continuous 110; buys = b; sells = s } ∷ [];
      accounts = maker first ∷ maker second ∷ [];
      trades = [];
      next = 9;
      nextstamp = 9;
      settlements = 0;
    })
  where
    maker : ℕ → Account
    maker m = record { balance = pos 0; maker = m; holdings = record { long = 2; short = 0; startlong = 2; startshort = 0 } ∷ [] }

-- an order of one lot, its number its time stamp too
quote_at : ℕ → ℕ → ℕ → ℕ → ℕ → Order
quote_at number price account close quote =
    record { price = price; number = number; account = account; lots = 1; close = close; stamp = number; quote = quote }

pub quoted : List Row
quoted =
    -- a buy and a sell of each maker, beside an order of its own
    (quoting 1 1 (quote_at 1 108 0 0 1 ∷ quote_at 3 108 1 0 1 ∷ quote_at 5 108 0 0 0 ∷ []) (quote_at 2 110 0 0 1 ∷ quote_at 4 110 1 0 1 ∷ []) gives 1)
    -- two of one account on one side, the buys and the sells
    ∷ (quoting 1 1 (quote_at 1 108 0 0 1 ∷ quote_at 3 108 0 0 1 ∷ []) [] gives 0)
    ∷ (quoting 1 1 [] (quote_at 1 108 1 0 1 ∷ quote_at 3 108 1 0 1 ∷ []) gives 0)
    -- of an account that is no maker, buy and sell
    ∷ (quoting 1 0 (quote_at 1 108 1 0 1 ∷ []) [] gives 0)
    ∷ (quoting 0 1 [] (quote_at 1 108 0 0 1 ∷ []) gives 0)
    -- a close, marked and not
    ∷ (quoting 1 1 [] (quote_at 1 108 0 1 1 ∷ []) gives 0)
    ∷ (quoting 1 1 [] (quote_at 1 108 0 1 0 ∷ []) gives 1)
    -- a maker mark of 2, of either account
    ∷ (quoting 2 0 [] [] gives 0)
    ∷ (quoting 1 2 [] [] gives 0)
    ∷ []

pub quoted_examples : all_right quoted ≡ true
unfolding all_right quoted quoting quote_at contract all all_of sum_of account_at after_leg ahead ahead_of_first all_listed allowed_today balance_in_range book_leg book_trade book_trades contract_in_range counters_in_range day_high day_low holding_at held_in_range holding_in_range holdings_in_range leg_covered listing_at ranges_kept queues_sorted orders_in_range resting_in_range lots_where never_below_zero listed on_tick order_in_range replays resting same_holdings same_lots sorted start_of_day terms_in_range tick_multiple trade_in_range uncrossed used_once well_formed_contents quotes mark_allowed queue_quoted listing_quoted mark_in_range
quoted_examples = refl
