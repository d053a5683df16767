-- Laws 8 to 11 for an insert, for both orders of a quote and for a change that loses its place: what each order meets, trades and leaves. One table, one statement, as in the rules' examples. Assumes nothing.
use Rattle.std.specs.Prelude.{true, false, List, [], ◌∷◌, ◌≡◌, refl, ℕ, pos, length}
use Rattle.laws.specs.Choice.{pick}
use Rattle.laws.specs.Sums.{sum_of}
use Rattle.rules.specs.Answers.{day_limit_order, listing_of, no_such_order, numbered, resting_order, taker_of}
use Rattle.rules.specs.Bounds.{continuous}
use Rattle.rules.specs.Change.{Asked, arriving, asked, gone, is_sell, loses_place, old_order}
use Rattle.rules.specs.Examples.{Row, ◌gives◌, all_right}
use Rattle.rules.specs.Exchange.{Exchange, account_at, best_price, holding_at, listing_at, lots_where, no_holding}
use Rattle.rules.specs.FairCommands.{Entering, entered_from, entering_anew, entering_buy, entering_next, entering_sell, queue_met}
use Rattle.rules.specs.Fairness.{lots_numbered, lots_traded}
use Rattle.rules.specs.Holdings.{after_leg, book_leg, book_trade, book_trades}
use Rattle.rules.specs.Matching.{enter, last_price, meets, method_of, middle, paired_price, remainder, rest_in, rest_lots, rested_lots, stays, sweep, trade_price, trade_with, traded_lots}
use Rattle.rules.specs.Quote.{Offered, half, offered, with_buy, without_quote}
use Rattle.rules.specs.Step.{entered_of, exchange_after, listing_after, without}
use Rattle.rules.specs.declared.Order.{Order}

order : ℕ → ℕ → ℕ → ℕ → Order
order number account price lots = record { price = price; number = number; account = account; lots = lots; close = 0; stamp = number; quote = 0 }

-- account 2 bids for 4 at 100 and for 2 at 100, in that order, and offers 5 at 105; account 1 is a maker
book : Exchange
book =
    record {
      listings = record {
        contract = record { multiplier = 1; tick = 1; reference = 102; band = 10; limit = 100; rate = 1; method = 0; phase = continuous; last = 102 };
        buys = order 1 1 100 4 ∷ order 2 1 100 2 ∷ [];
        sells = order 3 1 105 5 ∷ [];
      } ∷ [];
      accounts = record { balance = pos 100; maker = 1; holdings = no_holding ∷ [] } ∷ record { balance = pos 100; maker = 0; holdings = no_holding ∷ [] } ∷ [];
      trades = [];
      next = 4;
      nextstamp = 4;
      settlements = 0;
    }

-- 7 are bought with a limit of 105; 5 are quoted at 99 and 100; the bid for 4 goes to 105
buy : Entering
buy = entering_next book 0 (day_limit_order 1 1 false false 7 105)

quote : Offered
quote = offered 1 1 5 99 100

raise : Asked
raise = asked 2 1 1 4 105

pub table : List Row
table =
    -- an insert: 5 trade, 2 rest
    (traded_lots (entered_from buy).trades gives 5)
    ∷ ((entered_from buy).rested gives 2)
    -- a quote: the buy rests; the sell meets the state that it left, fills the bid for 4, which is first, and takes 1 of the bid for 2
    ∷ ((entered_from (entering_buy book quote)).rested gives 5)
    ∷ (length (queue_met (entering_sell book quote)) gives 3)
    ∷ (lots_traded false 1 (entered_from (entering_sell book quote)).trades gives 4)
    ∷ (lots_traded false 2 (entered_from (entering_sell book quote)).trades gives 1)
    ∷ (lots_numbered 2 (entered_from (entering_sell book quote)).opposite gives 1)
    -- a change that loses its place arrives with its number, and trades with the account's own offer
    ∷ (pick (loses_place book raise) 1 0 gives 1)
    ∷ (lots_traded false 1 (entered_from (entering_anew book raise)).trades gives 4)
    ∷ (lots_traded true 3 (entered_from (entering_anew book raise)).trades gives 4)
    ∷ (lots_numbered 3 (entered_from (entering_anew book raise)).opposite gives 1)
    -- one that keeps it enters nothing
    ∷ (pick (loses_place book (asked 2 1 1 3 100)) 1 0 gives 0)
    ∷ []

pub fair_command_examples : all_right table ≡ true
unfolding all_right table order book buy quote raise account_at after_leg arriving best_price book_leg book_trade book_trades enter entered_of exchange_after gone half holding_at is_sell last_price listing_after listing_at listing_of loses_place lots_where meets method_of middle no_such_order numbered old_order paired_price remainder rest_in rest_lots rested_lots resting_order stays sum_of sweep taker_of trade_price trade_with traded_lots with_buy without without_quote
fair_command_examples = refl
