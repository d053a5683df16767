-- A broker's day worked out by hand. Account 2 has clients 1 and 2, with 3 and 2 of its 5 long lots at the start, at the reference of
-- 100. It buys 4 at 102 for client 1 (order 2), sells 2 at 104 to close for client 2 (order 3), and meets its own order for client 2: a
-- lot bought at 103 (order 5) is closed in the same trade (order 6). The settlement price due is 719 / 7, rounded down: 102.
-- Client 1 holds 7 and gains 3 x 2 x 10 on what it holds; client 2 holds nothing and gained 2 x 4 x 10 by closing. By the account's own
-- order the parts are 110 and 30. A second day, short in contract 2, and the codes follow. Assumes nothing.
use Rattle.std.specs.Prelude.{Bool, true, List, [], ◌∷◌, ◌++◌, ◌≡◌, refl, ℕ, eqb, pos, negsuc, replicate}
use Rattle.laws.specs.Choice.{all, all_of}
use Rattle.laws.specs.Sums.{sum_of, sum_to}
use Rattle.laws.specs.Tabulate.{tabulate}
use Rattle.rules.specs.Answers.{first_of}
use Rattle.rules.specs.Bounds.{allowed_today, day_high, day_low, on_tick, terms_in_range, tick_multiple}
use Rattle.rules.specs.Exchange.{Exchange, absent, account_at, holding_at, listing_at, lots_where, resting}
use Rattle.rules.specs.Holdings.{after_leg, book_leg, book_trade, book_trades, leg_covered, never_below_zero, same_holdings, same_lots, start_of_day}
use Rattle.rules.specs.Matching.{traded_lots}
use Rattle.rules.specs.Memory.{Memory, counts_in_range, has_room, well_formed_memory}
use Rattle.rules.specs.Settlement.{after_day_leg, after_legs, closing_profit, day_of, day_start, first_lots, gain, holding_gain, holding_profit, legs, only, other_lots, price_from, settlement_price, traded_value, trades_in, weighted_price}
use Rattle.rules.specs.WellFormed.{ahead, ahead_of_first, all_listed, balance_in_range, contract_in_range, counters_in_range, held_in_range, holding_in_range, holdings_in_range, listed, listing_quoted, mark_allowed, mark_in_range, order_in_range, orders_in_range, queue_quoted, queues_sorted, quotes, ranges_kept, replays, resting_in_range, sorted, trade_in_range, uncrossed, used_once, well_formed_contents}
use Rattle.rules.specs.declared.Trade.{Trade}
use Rattle.endian.specs.Numbers.{two, four, eight, unsigned}
use Rattle.sections.specs.Sections.{holding_bytes, holdings_bytes, in_row}
use Rattle.clients.specs.Clients.{Clients, client_account, client_exchange, client_place, client_trade, holdings_now, is_posted, leg_count, legs_in, never_closes_more, posted, posted_to, starts_add_up, total, trade_posted}
use Rattle.statements.specs.Statement.{broker_refusals, leg_bytes, profit_bytes, profits_bytes, statement_code, statement_of, trade_bytes, trades_bytes}

unfoldable pub trade : ℕ → ℕ → ℕ → ℕ → ℕ → ℕ → ℕ → ℕ → Trade
trade price lots buyorder sellorder buyer seller buyclose sellclose =
    record {
      contract = 0;
      price = price;
      lots = lots;
      buyorder = buyorder;
      sellorder = sellorder;
      buyer = buyer;
      seller = seller;
      buyclose = buyclose;
      sellclose = sellclose;
    }

-- a day with these trades: account 1 is short so many lots now, account 2 was long so many at its start and is so many now
unfoldable pub day_with : ℕ → ℕ → ℕ → List Trade → Exchange
day_with short startlong long trades =
    record {
      listings = record {
        contract = record { multiplier = 10; tick = 1; reference = 100; band = 10; limit = 1_000; rate = 1_000; method = 0; phase = 1; last = 103 };
        buys = [];
        sells = [];
      } ∷ [];
      accounts = record { balance = pos 0; maker = 0; holdings = record { long = 0; short = short; startlong = 0; startshort = 0 } ∷ [] }
          ∷ record { balance = pos 0; maker = 0; holdings = record { long = long; short = 0; startlong = startlong; startshort = 0 } ∷ [] }
          ∷ [];
      trades = trades;
      next = 7;
      nextstamp = 1;
      settlements = 0;
    }

unfoldable pub day : Exchange
day = day_with 2 5 7 (trade 102 4 2 1 1 0 0 0 ∷ trade 104 2 4 3 0 1 1 1 ∷ trade 103 1 5 6 1 1 0 1 ∷ [])

-- long lots of client 1 and of client 2 at the start of the day, in contract 1
unfoldable pub starts : ℕ → ℕ → List ℕ
starts first second = (first ∷ replicate 7 0) ++ (second ∷ [])

-- order 4 is another account's and order 7 did not trade: wherever they are posted, they are passed over
unfoldable pub postings : List ℕ
postings = 4 ∷ 9 ∷ 2 ∷ 1 ∷ 7 ∷ 0 ∷ 3 ∷ 2 ∷ 5 ∷ 2 ∷ 6 ∷ 2 ∷ 7 ∷ []

unfoldable pub broker : Clients
broker = record { count = 2; starts = starts 3 2; postings = postings }

-- the account's own parts, and the clients'
pub profits : (closing_profit day 1 ≡ pos 110) × (holding_profit day 1 ≡ pos 30)
    × (closing_profit (client_exchange day 1 broker) 0 ≡ pos 0) × (holding_profit (client_exchange day 1 broker) 0 ≡ pos 60)
    × (closing_profit (client_exchange day 1 broker) 1 ≡ pos 80) × (holding_profit (client_exchange day 1 broker) 1 ≡ pos 0)
unfolding day day_with trade broker starts postings sum_of sum_to tabulate listing_at account_at holding_at traded_lots after_day_leg after_legs closing_profit day_of day_start first_lots gain holding_gain holding_profit legs only other_lots price_from settlement_price traded_value trades_in weighted_price client_account client_exchange client_place client_trade in_row is_posted posted posted_to
profits = (refl, refl, refl, refl, refl, refl)

unfoldable pub word : ℕ → List ℕ
word n = n ∷ 0 ∷ 0 ∷ 0 ∷ []

unfoldable pub together : List (List ℕ) → List ℕ
together [] = []
together (xs ∷ xss) = xs ++ together xss

-- four legs; a holding for each client; a closing and a holding profit for each
pub statement_example : statement_of (client_exchange day 1 broker) 2
    ≡ together
    (word 4
    ∷ (1 ∷ 1 ∷ 0 ∷ 0 ∷ []) ∷ word 102 ∷ word 4 ∷ word 2
    ∷ (2 ∷ 1 ∷ 1 ∷ 1 ∷ []) ∷ word 104 ∷ word 2 ∷ word 3
    ∷ (2 ∷ 1 ∷ 0 ∷ 0 ∷ []) ∷ word 103 ∷ word 1 ∷ word 5
    ∷ (2 ∷ 1 ∷ 1 ∷ 1 ∷ []) ∷ word 103 ∷ word 1 ∷ word 6
    ∷ word 2
    ∷ word 7 ∷ word 0
    ∷ word 0 ∷ word 0
    ∷ word 2
    ∷ word 0 ∷ word 0 ∷ word 60 ∷ word 0
    ∷ word 80 ∷ word 0 ∷ word 0 ∷ word 0
    ∷ [])
unfolding day day_with trade broker starts postings word together sum_of sum_to tabulate listing_at account_at holding_at traded_lots after_leg book_leg book_trade book_trades start_of_day after_day_leg after_legs closing_profit day_of day_start first_lots gain holding_gain holding_profit legs only other_lots price_from settlement_price traded_value trades_in weighted_price two four eight client_account client_exchange client_place client_trade holding_bytes holdings_bytes holdings_now in_row is_posted leg_bytes leg_count legs_in posted posted_to profit_bytes profits_bytes statement_of total trade_bytes trades_bytes unsigned
statement_example = refl

-- a loss of 20
pub loss_example : eight (unsigned (negsuc 19)) ≡ 236 ∷ replicate 7 255
unfolding two four eight unsigned
loss_example = refl

-- ---- a second day: two contracts, short lots, losses. Account 2 is short 6 of contract 2 at the start, at the reference of 50: client 1
-- 4 and client 2 the other 2. It buys 3 at 54 to close for client 1 (order 1) and sells 2 of contract 1 at 101 to open for client 2 (order
-- 4); the prices due are 54 and 101. Client 1 loses 3 x 4 x 5 by closing and 1 x 4 x 5 on the lot left, client 2 loses 2 x 4 x 5 on its two;
-- the lots sold at 101 stand at 101.

unfoldable pub in_second : Trade → Trade
in_second t =
    record {
      contract = 1;
      price = t.price;
      lots = t.lots;
      buyorder = t.buyorder;
      sellorder = t.sellorder;
      buyer = t.buyer;
      seller = t.seller;
      buyclose = t.buyclose;
      sellclose = t.sellclose;
    }

unfoldable pub short_day : Exchange
short_day =
    record {
      listings = record {
        contract = record { multiplier = 10; tick = 1; reference = 100; band = 10; limit = 1_000; rate = 1_000; method = 0; phase = 1; last = 101 };
        buys = [];
        sells = [];
      } ∷ record {
        contract = record { multiplier = 5; tick = 2; reference = 50; band = 10; limit = 1_000; rate = 1_000; method = 0; phase = 1; last = 54 };
        buys = [];
        sells = [];
      } ∷ [];
      accounts = record {
        balance = pos 0;
        maker = 0;
        holdings = record { long = 2; short = 0; startlong = 0; startshort = 0 } ∷ record { long = 0; short = 3; startlong = 0; startshort = 0 } ∷ [];
      } ∷ record {
        balance = pos 0;
        maker = 0;
        holdings = record { long = 0; short = 2; startlong = 0; startshort = 0 } ∷ record { long = 0; short = 3; startlong = 0; startshort = 6 } ∷ [];
      } ∷ [];
      trades = in_second (trade 54 3 1 2 1 0 1 0) ∷ trade 101 2 3 4 0 1 0 0 ∷ [];
      next = 5;
      nextstamp = 1;
      settlements = 0;
    }

-- short lots of client 1 and of client 2 at the start of the day, in contract 2
unfoldable pub shorts : ℕ → ℕ → Clients
shorts first second = record { count = 2; starts = (0 ∷ 0 ∷ 0 ∷ first ∷ replicate 4 0) ++ (0 ∷ 0 ∷ 0 ∷ second ∷ []); postings = 1 ∷ 1 ∷ 4 ∷ 2 ∷ [] }

-- a number below zero, by its lowest byte
unfoldable pub below : ℕ → List ℕ
below low = low ∷ replicate 7 255

pub second_example : statement_of (client_exchange short_day 1 (shorts 4 2)) 2
    ≡ together
    (word 2
    ∷ (1 ∷ 2 ∷ 0 ∷ 1 ∷ []) ∷ word 54 ∷ word 3 ∷ word 1
    ∷ (2 ∷ 1 ∷ 1 ∷ 0 ∷ []) ∷ word 101 ∷ word 2 ∷ word 4
    ∷ word 4
    ∷ word 0 ∷ word 0 ∷ word 0 ∷ word 1
    ∷ word 0 ∷ word 2 ∷ word 0 ∷ word 2
    ∷ word 2
    ∷ below 196 ∷ below 236
    ∷ word 0 ∷ word 0 ∷ below 216
    ∷ [])
unfolding short_day in_second shorts below trade word together sum_of sum_to tabulate listing_at account_at holding_at traded_lots after_leg book_leg book_trade book_trades start_of_day after_day_leg after_legs closing_profit day_of day_start first_lots gain holding_gain holding_profit legs only other_lots price_from settlement_price traded_value trades_in weighted_price two four eight client_account client_exchange client_place client_trade holding_bytes holdings_bytes holdings_now in_row is_posted leg_bytes leg_count legs_in posted posted_to profit_bytes profits_bytes statement_of total trade_bytes trades_bytes unsigned
second_example = refl

-- ---- the days are well formed: what the accounts hold now is the replay of the day's trades, so that a statement of them is due

pub well_formed_days : (well_formed_contents day ≡ true) × (well_formed_contents short_day ≡ true) × (well_formed_contents (day_with 0 0 0 []) ≡ true)
    × (well_formed_contents (day_with 0 1 1 []) ≡ true)
unfolding day day_with short_day in_second trade all all_of sum_of account_at after_leg ahead ahead_of_first all_listed allowed_today balance_in_range book_leg book_trade book_trades contract_in_range counters_in_range day_high day_low holding_at held_in_range holding_in_range holdings_in_range leg_covered listed listing_at ranges_kept queues_sorted orders_in_range resting_in_range lots_where never_below_zero on_tick order_in_range replays resting same_holdings same_lots sorted start_of_day terms_in_range tick_multiple trade_in_range uncrossed used_once quotes mark_allowed queue_quoted listing_quoted mark_in_range well_formed_contents
well_formed_days = (refl, refl, refl, refl)

-- ---- refusals: a day, an account's number, clients, room, and the code they must get; the statement above is 124 bytes long

pub data Case : Type 0 where
  case : Exchange → ℕ → Clients → ℕ → ℕ → Case

unfoldable pub right : Case → Bool
right (case x account b room code) = eqb (first_of (broker_refusals x account b room)) code

unfoldable pub with' : ℕ → ℕ → ℕ → List ℕ → Clients
with' count first second ps = record { count = count; starts = starts first second; postings = ps }

unfoldable pub cases : List Case
cases =
    case day 2 broker 124 0
    -- "2": account 0, or absent
    ∷ case day 0 broker 124 2
    ∷ case day 3 (with' 17 0 0 []) 0 2
    -- "25 over 16 clients, or starting holdings don't add up"; 16 are allowed, and lots of a client that there is not do not count
    ∷ case day 2 (with' 16 3 2 postings) 460 0
    ∷ case day 2 (with' 17 3 2 []) 0 25
    ∷ case day 2 (with' 2 3 1 []) 0 25
    ∷ case day 2 (with' 1 3 2 []) 0 25
    ∷ case day 2 (with' 1 5 0 []) 0 26
    -- "26": order 3 unposted, posted twice, though to one client, posted to client 3 or to client 0
    ∷ case day 2 (with' 2 3 2 (2 ∷ 1 ∷ 5 ∷ 2 ∷ 6 ∷ 2 ∷ [])) 0 26
    ∷ case day 2 (with' 2 3 2 (3 ∷ 2 ∷ postings)) 0 26
    ∷ case day 2 (with' 2 3 2 (2 ∷ 1 ∷ 3 ∷ 3 ∷ 5 ∷ 2 ∷ 6 ∷ 2 ∷ [])) 0 26
    ∷ case day 2 (with' 2 3 2 (2 ∷ 1 ∷ 3 ∷ 0 ∷ 5 ∷ 2 ∷ 6 ∷ 2 ∷ [])) 0 26
    -- a posting without its client is none
    ∷ case day 2 (with' 2 3 2 (2 ∷ 1 ∷ 3 ∷ 2 ∷ 5 ∷ 2 ∷ 6 ∷ [])) 0 26
    -- "27": client 2 sells 2 to close and holds 1
    ∷ case day 2 (with' 2 4 1 postings) 0 27
    -- order 5 is client 1's: client 2 has no lot left for order 6
    ∷ case day 2 (with' 2 3 2 (2 ∷ 1 ∷ 3 ∷ 2 ∷ 5 ∷ 1 ∷ 6 ∷ 2 ∷ [])) 0 27
    -- all of 26 before any 27: client 2 closes more than it holds, and order 6, later, is unposted
    ∷ case day 2 (with' 2 4 1 (2 ∷ 1 ∷ 3 ∷ 2 ∷ 5 ∷ 2 ∷ [])) 0 26
    -- "29 output area too short"
    ∷ case day 2 broker 123 29
    -- no clients: of an account without lots and trades
    ∷ case (day_with 0 0 0 []) 2 (with' 0 0 0 []) 12 0
    ∷ case (day_with 0 1 1 []) 2 (with' 0 0 0 []) 12 25
    -- the second day: it is 108 bytes long; short lots of contract 2 that do not add up; client 1 buys 3 to close and is short 2
    ∷ case short_day 2 (shorts 4 2) 108 0
    ∷ case short_day 2 (shorts 4 2) 107 29
    ∷ case short_day 2 (shorts 4 1) 108 25
    ∷ case short_day 2 (shorts 2 4) 108 27
    ∷ []

pub codes : all_of right cases ≡ true
unfolding cases right with' short_day in_second shorts day day_with trade broker starts postings all all_of sum_of sum_to tabulate first_of absent listing_at account_at holding_at traded_lots after_leg book_leg book_trade book_trades leg_covered never_below_zero start_of_day after_day_leg after_legs closing_profit day_of day_start first_lots gain holding_gain holding_profit legs only other_lots price_from settlement_price traded_value trades_in weighted_price two four eight broker_refusals client_account client_exchange client_place client_trade holding_bytes holdings_bytes holdings_now in_row is_posted leg_bytes leg_count legs_in never_closes_more posted posted_to profit_bytes profits_bytes starts_add_up statement_of total trade_bytes trade_posted trades_bytes unsigned
codes = refl

-- "21": a state of no contracts, before all others
unfoldable pub nowhere : Memory
nowhere =
    record {
      state = record { contracts = []; accounts = []; buycounts = []; sellcounts = []; contractcount = 0; accountcount = 0; tradecount = 0; next = 1; nextstamp = 1; settlements = 0 };
      buys = [];
      sells = [];
      trades = [];
    }

pub not_well_formed : statement_code nowhere 0 (with' 17 0 0 []) 0 ≡ 21
unfolding nowhere with' starts all first_of counts_in_range has_room well_formed_memory statement_code
not_well_formed = refl
