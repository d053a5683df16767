-- Auctions whose price is known from the source documents, ties at each of the four steps, and what the match leaves. One
-- table, one statement, as in Examples.antt. Assumes nothing.
use Rattle.std.specs.Prelude.{true, false, List, [], ◌∷◌, ◌≡◌, refl, ℕ, pos, length, get_or}
use Rattle.laws.specs.Sums.{sum_of}
use Rattle.rules.specs.Auction.{Matched, auction_match, auction_price, best_from, best_of, better, chosen_price, lots_reaching, match_at, match_in, match_of, prices, surplus, trade_at, volume}
use Rattle.rules.specs.Answers.{change_listed, first_of, listing_of, mark, phase_refusals, taker_of}
use Rattle.rules.specs.Bounds.{auction, continuous, no_trading}
use Rattle.rules.specs.Condition3.{made_by}
use Rattle.rules.specs.Examples.{Row, ◌gives◌, all_right}
use Rattle.rules.specs.Exchange.{Exchange, Listing, absent, account_at, best_price, holding_at, listing_at, lots_where, no_holding, no_trade}
use Rattle.rules.specs.Holdings.{after_leg, book_leg, book_trade, book_trades}
use Rattle.rules.specs.Kinds.{code_of, decide, kind_of, last_of, step}
use Rattle.rules.specs.Lines.{answer_line, decimal, digits, fields_of, new_trades, settlement_lines, step_lines, trade_line, trade_lines}
use Rattle.rules.specs.Matching.{Entered, enter, last_price, meets, method_of, middle, paired_price, remainder, rest_in, rest_lots, rest_whole, rested_lots, stays, sweep, trade_price, trade_with, traded_lots}
use Rattle.rules.specs.Step.{Effect, entered_of, exchange_matched, listing_matched, phase_changed}
use Rattle.rules.specs.declared.Account.{Account}
use Rattle.rules.specs.declared.Command.TheVariants.{Phase}
use Rattle.rules.specs.declared.Holding.{Holding}
use Rattle.rules.specs.declared.Order.{Order}
use Rattle.rules.specs.declared.PriceCondition.TheVariants.{Limit}
use Rattle.rules.specs.declared.TimeCondition.TheVariants.{GoodForDay}
use Rattle.rules.specs.declared.Trade.{Trade}

order : ℕ → ℕ → ℕ → Order
order number price lots = record { price = price; number = number; account = 0; lots = lots; close = 0; stamp = number; quote = 0 }

-- 001: buys 4 at 102, 6 at 101, 5 at 100; sells 3 (or 4) at 101, 7 at 102, 6 at 103
buys001 : List Order
buys001 = order 1 102 4 ∷ order 2 101 6 ∷ order 3 100 5 ∷ []

sells001 : ℕ → List Order
sells001 first = order 4 101 first ∷ order 5 102 7 ∷ order 6 103 6 ∷ []

-- 000: buys 5 at 1612, 5 at 1611, 5 at 1610; sells 10 at 1607, 6 at 1608, 3 at 1609
buys000 : List Order
buys000 = order 1 1612 5 ∷ order 2 1611 5 ∷ order 3 1610 5 ∷ []

sells000 : List Order
sells000 = order 4 1607 10 ∷ order 5 1608 6 ∷ order 6 1609 3 ∷ []

-- a tie of volume and surplus: buy 2 at 105, sell 1 at 101
buys_tie : List Order
buys_tie = order 1 105 2 ∷ []

sells_tie : List Order
sells_tie = order 2 101 1 ∷ []

-- a tie of volume alone, with more buys than sells at the one price and more sells than buys at the other: buys 2 at 104 and so
-- many at 100, sells 2 at 100 and 3 at 104
buys_signed : ℕ → List Order
buys_signed more = order 1 104 2 ∷ order 2 100 more ∷ []

sells_signed : List Order
sells_signed = order 3 100 2 ∷ order 4 104 3 ∷ []

-- best buy below best sell
buys_apart : List Order
buys_apart = order 1 100 2 ∷ []

price_of : Matched → ℕ → ℕ
price_of m i = (get_or m.trades i no_trade).price

lots_of : Matched → ℕ → ℕ
lots_of m i = (get_or m.trades i no_trade).lots

buy_of : Matched → ℕ → ℕ
buy_of m i = (get_or m.trades i no_trade).buyorder

sell_of : Matched → ℕ → ℕ
sell_of m i = (get_or m.trades i no_trade).sellorder

-- ---- a contract in auction: account 2 buys 2 at 105 to open, account 1 sells 1 at 101 of its 3 long lots; the last price is 100,
-- the reference 104; a trade was made before in another contract

of : Order → ℕ → ℕ → Order
of o account close = record { price = o.price; number = o.number; account = account; lots = o.lots; close = close; stamp = o.stamp; quote = 0 }

account : ℕ → Account
account long = record { balance = pos 0; maker = 0; holdings = record { long = long; short = 0; startlong = long; startshort = 0 } ∷ no_holding ∷ [] }

listing : ℕ → List Order → Listing
listing phase buys =
    record {
      contract = record { multiplier = 1; tick = 1; reference = 104; band = 10; limit = 10; rate = 1; method = 0; phase = phase; last = 100 };
      buys = buys;
      sells = of (order 2 101 1) 0 1 ∷ [];
    }

asked : ℕ → List Order → Exchange
asked phase buys =
    record {
      listings = listing phase buys ∷ listing continuous [] ∷ [];
      accounts = account 3 ∷ account 0 ∷ [];
      trades = no_trade ∷ [];
      next = 3;
      nextstamp = 3;
      settlements = 0;
    }

-- the order of account 2 as it arrives
entered : ℕ → Entered
entered phase =
    entered_of (asked phase []) 3 0
    (record { account = 2; contract = 1; sell = false; close = false; lots = 2; price = 105; condition = Limit 105; time = GoodForDay })

-- the change to continuous with these buys resting
changed : ℕ → List Order → Effect
changed phase buys = phase_changed (asked phase buys) 0 continuous

bid : List Order
bid = of (order 1 105 2) 1 0 ∷ []

auction_left : Effect
auction_left = changed auction bid

-- a match of two trades, 7 and 2 lots at 112: buy 9 at 112, sells 7 at 110 and 5 at 112
deep : Exchange
deep =
    record {
      listings = record { contract = (listing auction []).contract; buys = order 3 112 9 ∷ []; sells = order 1 110 7 ∷ order 2 112 5 ∷ [] } ∷ [];
      accounts = account 0 ∷ account 0 ∷ [];
      trades = no_trade ∷ [];
      next = 4;
      nextstamp = 4;
      settlements = 0;
    }

-- the trades that condition 3 counts for the change
counted : ℕ → List Trade
counted phase = made_by (kind_of (asked phase bid) (Phase 1 continuous)).moves

-- the state that it leaves
after : Effect → Exchange
after e = last_of (asked auction []) e.stages

holding : Effect → ℕ → Holding
holding s a = holding_at (after s).accounts a 0

pub table : List Row
table =
    -- 001's first example: 102 has the largest volume, 4, and 101 only 3
    (auction_price 100 buys001 (sells001 3) gives 102)
    ∷ (volume buys001 (sells001 3) 102 gives 4)
    ∷ (volume buys001 (sells001 3) 101 gives 3)
    -- its second: volume 4 at 101 and at 102; surplus 6 at 101 and 7 at 102
    ∷ (auction_price 102 buys001 (sells001 4) gives 101)
    ∷ (volume buys001 (sells001 4) 101 gives 4)
    ∷ (surplus buys001 (sells001 4) 101 gives 6)
    ∷ (surplus buys001 (sells001 4) 102 gives 7)
    -- 000's: volume 15 at 1608, 1609 and 1610, surplus 1 at 1608 and 4 at the others
    ∷ (auction_price 1610 buys000 sells000 gives 1608)
    ∷ (volume buys000 sells000 1608 gives 15)
    ∷ (surplus buys000 sells000 1608 gives 1)
    ∷ (surplus buys000 sells000 1609 gives 4)
    -- the smaller surplus, whichever its sign: volume 2 at 100 and at 104; 3 sells are left over at 104, the buys of 100 there
    ∷ (volume (buys_signed 2) sells_signed 100 gives 2)
    ∷ (volume (buys_signed 2) sells_signed 104 gives 2)
    ∷ (surplus (buys_signed 2) sells_signed 100 gives 2)
    ∷ (surplus (buys_signed 2) sells_signed 104 gives 3)
    ∷ (auction_price 104 (buys_signed 2) sells_signed gives 100)
    ∷ (auction_price 100 (buys_signed 4) sells_signed gives 104)
    -- equal volume and surplus at both prices: nearest to the last price, then the higher. By 001's own rules, a surplus of buys
    -- at every such price, it would be the highest, 105, in all three: the ticket's steps decide.
    ∷ (auction_price 100 buys_tie sells_tie gives 101)
    ∷ (auction_price 104 buys_tie sells_tie gives 105)
    ∷ (auction_price 103 buys_tie sells_tie gives 105)
    -- the higher of two as near, though the lower is met first; a larger volume, though its surplus is larger too
    ∷ (auction_price 105 (order 1 108 2 ∷ order 2 104 3 ∷ []) (order 3 102 2 ∷ order 4 106 3 ∷ []) gives 106)
    ∷ (auction_price 110 (order 3 112 9 ∷ []) (order 1 110 7 ∷ order 2 112 5 ∷ []) gives 112)
    -- no price is preferred to itself
    ∷ (mark (better 100 buys_tie sells_tie 101 101) gives 0)
    -- with sells left over at both, 001 would take the lowest, 101; with none left over it takes the nearest too
    ∷ (auction_price 106 (order 1 105 1 ∷ []) (order 2 101 2 ∷ []) gives 105)
    ∷ (auction_price 103 (order 1 105 1 ∷ []) sells_tie gives 105)
    -- no volume, no price, no trades
    ∷ (auction_price 100 buys_apart sells_tie gives 0)
    ∷ (length (auction_match 0 100 buys_apart sells_tie).trades gives 0)
    ∷ (auction_price 100 [] sells_tie gives 0)
    -- an order without lots, which no well-formed state has, makes no volume, so no trade
    ∷ (length (auction_match 0 100 (order 1 105 0 ∷ []) sells_tie).trades gives 0)
    ∷ (auction_price 100 [] [] gives 0)
    -- 000's trades: 5 and 5 with the sell at 1607, 5 with the one at 1608, of which 1 lot stays; all at 1608
    ∷ (length (auction_match 0 1610 buys000 sells000).trades gives 3)
    ∷ (buy_of (auction_match 0 1610 buys000 sells000) 1 gives 2)
    ∷ (sell_of (auction_match 0 1610 buys000 sells000) 1 gives 4)
    ∷ (lots_of (auction_match 0 1610 buys000 sells000) 2 gives 5)
    ∷ (sell_of (auction_match 0 1610 buys000 sells000) 2 gives 5)
    ∷ (price_of (auction_match 0 1610 buys000 sells000) 0 gives 1608)
    ∷ (price_of (auction_match 0 1610 buys000 sells000) 2 gives 1608)
    ∷ (traded_lots (auction_match 0 1610 buys000 sells000).trades gives 15)
    ∷ (length (auction_match 0 1610 buys000 sells000).buys gives 0)
    ∷ (lots_reaching true 1608 (auction_match 0 1610 buys000 sells000).sells gives 1)
    -- 001's first: 3 and 1 with the buy at 102, whose lots are then used up; 101 is left against 102
    ∷ (lots_of (auction_match 0 100 buys001 (sells001 3)) 0 gives 3)
    ∷ (lots_of (auction_match 0 100 buys001 (sells001 3)) 1 gives 1)
    ∷ (length (auction_match 0 100 buys001 (sells001 3)).trades gives 2)
    ∷ (best_price (auction_match 0 100 buys001 (sells001 3)).buys gives 101)
    ∷ (best_price (auction_match 0 100 buys001 (sells001 3)).sells gives 102)
    -- 001's second: at 101 the sell at 102 does not trade, and 101 is left against 102
    ∷ (length (auction_match 0 102 buys001 (sells001 4)).trades gives 1)
    -- as many turns as orders: buys 3 and 3, sells 2, 2 and 2 make 2, 1, 1 and 2
    ∷ (length (auction_match 0 100 (order 1 100 3 ∷ order 2 100 3 ∷ []) (order 3 100 2 ∷ order 4 100 2 ∷ order 5 100 2 ∷ [])).trades gives 4)
    -- each leg has its own order's mark, and the trade its contract
    ∷ ((get_or (auction_match 1 100 (of (order 1 105 2) 1 1 ∷ []) sells_tie).trades 0 no_trade).buyclose gives 1)
    ∷ ((get_or (auction_match 1 100 (of (order 1 105 2) 1 1 ∷ []) sells_tie).trades 0 no_trade).sellclose gives 0)
    ∷ ((get_or (auction_match 1 100 (of (order 1 105 2) 1 1 ∷ []) sells_tie).trades 0 no_trade).contract gives 1)
    -- an order that crosses rests whole in auction; in continuous it trades
    ∷ ((entered auction).rested gives 2)
    ∷ (length (entered auction).trades gives 0)
    ∷ (length (entered auction).opposite gives 1)
    ∷ (length (entered continuous).trades gives 1)
    ∷ ((entered continuous).rested gives 1)
    -- the answer of the state change: no order, the traded lots, none rested; the trade behind those there were
    ∷ (auction_left.number gives 0)
    ∷ (auction_left.traded gives 1)
    ∷ ((phase_changed deep 0 continuous).traded gives 9)
    ∷ (auction_left.lots gives 0)
    ∷ (length (after auction_left).trades gives 2)
    ∷ ((get_or (after auction_left).trades 1 no_trade).price gives 101)
    ∷ ((get_or (after auction_left).trades 1 no_trade).sellclose gives 1)
    ∷ ((after auction_left).next gives 3)
    -- the contract: continuous, its last price the auction's; the filled order leaves, what remains stays
    ∷ ((listing_at (after auction_left) 0).contract.phase gives 1)
    ∷ ((listing_at (after auction_left) 0).contract.last gives 101)
    ∷ (lots_reaching false 105 (listing_at (after auction_left) 0).buys gives 1)
    ∷ (length (listing_at (after auction_left) 0).sells gives 0)
    -- both legs are booked
    ∷ ((holding auction_left 0).long gives 2)
    ∷ ((holding auction_left 0).short gives 0)
    ∷ ((holding auction_left 1).long gives 1)
    -- condition 3 counts the trade: 1 at 101; out of another state there is none, crossed as the book is
    ∷ (traded_lots (counted auction) gives 1)
    ∷ ((get_or (counted auction) 0 no_trade).price gives 101)
    ∷ (length (counted no_trading) gives 0)
    -- no volume: only the state changes
    ∷ ((changed auction []).traded gives 0)
    ∷ ((listing_at (after (changed auction [])) 0).contract.phase gives 1)
    ∷ ((listing_at (after (changed auction [])) 0).contract.last gives 100)
    ∷ (length (listing_at (after (changed auction [])) 0).sells gives 1)
    ∷ (length (after (changed auction [])).trades gives 1)
    ∷ []

pub auction_examples : all_right table ≡ true
unfolding all_right table order buys001 sells001 buys000 sells000 buys_tie sells_tie buys_signed sells_signed buys_apart price_of lots_of buy_of sell_of of account listing asked entered changed bid auction_left deep counted after holding account_at after_leg book_leg book_trade book_trades holding_at listing_at last_price sum_of lots_where best_price stays traded_lots prices lots_reaching volume surplus better best_from best_of chosen_price auction_price trade_at match_in match_at auction_match match_of listing_of taker_of enter meets method_of middle paired_price remainder rest_in rest_lots rest_whole rested_lots sweep trade_price trade_with entered_of listing_matched exchange_matched phase_changed kind_of made_by
auction_examples = refl

-- "appear after the state command's C line, whose traded field is their lots": C 7 0 0 9 0, then T 2 1 112 7 3 1 and T 3 1 112 2 3 2
auction_lines :
    step_lines 7 deep (Phase 1 continuous)
    ≡ 67 ∷ 32 ∷ 55 ∷ 32 ∷ 48 ∷ 32 ∷ 48 ∷ 32 ∷ 57 ∷ 32 ∷ 48 ∷ 10
    ∷ 84 ∷ 32 ∷ 50 ∷ 32 ∷ 49 ∷ 32 ∷ 49 ∷ 49 ∷ 50 ∷ 32 ∷ 55 ∷ 32 ∷ 51 ∷ 32 ∷ 49 ∷ 10
    ∷ 84 ∷ 32 ∷ 51 ∷ 32 ∷ 49 ∷ 32 ∷ 49 ∷ 49 ∷ 50 ∷ 32 ∷ 50 ∷ 32 ∷ 51 ∷ 32 ∷ 50 ∷ 10 ∷ []
unfolding step_lines answer_line trade_line trade_lines new_trades settlement_lines decimal digits fields_of step decide code_of kind_of first_of phase_refusals change_listed absent deep order listing account account_at after_leg book_leg book_trade book_trades holding_at listing_at last_price sum_of lots_where stays traded_lots prices lots_reaching volume surplus better best_from best_of chosen_price trade_at match_in match_at auction_match match_of listing_matched exchange_matched phase_changed
auction_lines = refl
