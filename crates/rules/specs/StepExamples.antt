-- What a deposit, a pull, a change of state, a settlement and a trade of an account with itself leave, worked out by hand. One table, one statement, as in
-- Examples.antt. Assumes nothing.
use Rattle.std.specs.Prelude.{true, List, [], ◌∷◌, ◌≡◌, refl, ℕ, pos, length, get_or}
use Rattle.laws.specs.Choice.{all_of}
use Rattle.laws.specs.Sums.{sum_of, sum_to}
use Rattle.laws.specs.Tabulate.{tabulate}
use Rattle.rules.specs.Answers.{first_of, settle_refusals}
use Rattle.rules.specs.Auction.{match_of}
use Rattle.rules.specs.Bounds.{closed, continuous}
use Rattle.rules.specs.Examples.{Row, ◌gives◌, all_right, up}
use Rattle.rules.specs.Exchange.{Exchange, account_at, contract_at, holder_at, holding_at, listing_at, lots_where, no_order}
use Rattle.rules.specs.Holdings.{after_leg, book_leg, book_trade}
use Rattle.rules.specs.Kinds.{code_of, kind_of, last_of}
use Rattle.rules.specs.Lines.{settlement_lines}
use Rattle.rules.specs.Matching.{traded_lots}
use Rattle.rules.specs.Settlement.{after_day_leg, after_legs, closing_profit, day_of, day_start, first_lots, gain, holding_gain, holding_profit, legs, only, other_lots, price_from, settled, settled_account, settled_contract, settled_listing, settlement_price, traded_value, trades_in, weighted_price}
use Rattle.rules.specs.Step.{Effect, deposited, exchange_matched, paid, phase_changed, pulled, removed, without}
use Rattle.rules.specs.declared.Account.{Account}
use Rattle.rules.specs.declared.Command.TheVariants.{Settle}
use Rattle.rules.specs.declared.Holding.{Holding}
use Rattle.rules.specs.declared.Order.{Order}
use Rattle.rules.specs.declared.Trade.{Trade}

-- account 1 has sold 3 at 102 to account 2, both to open, the reference 100; it bids for 2 at 99 and offers 1 at 104, account 2 bids
-- for 4 at 98; account 3 has nothing. The contract is closed, as a settlement needs it: of a pull the rows ask for the effect alone

order : ℕ → ℕ → ℕ → ℕ → Order
order number price account lots = record { price = price; number = number; account = account; lots = lots; close = 0; stamp = number; quote = 0 }

account : ℕ → ℕ → Account
account long short = record { balance = pos 1_000; maker = 0; holdings = record { long = long; short = short; startlong = 0; startshort = 0 } ∷ [] }

trade : Trade
trade = record { contract = 0; price = 102; lots = 3; buyorder = 2; sellorder = 1; buyer = 1; seller = 0; buyclose = 0; sellclose = 0 }

state_in : ℕ → Exchange
state_in phase =
    record {
      listings = record {
        contract = record { multiplier = 10; tick = 1; reference = 100; band = 10; limit = 1_000; rate = 1_000; method = 0; phase = phase; last = 103 };
        buys = order 3 99 0 2 ∷ order 4 98 1 4 ∷ [];
        sells = order 5 104 0 1 ∷ [];
      } ∷ [];
      accounts = account 0 3 ∷ account 3 0 ∷ account 0 0 ∷ [];
      trades = trade ∷ [];
      next = 6;
      nextstamp = 7;
      settlements = 4;
    }

state : Exchange
state = state_in closed

after : Effect → Exchange
after e = last_of state e.stages

balance : Exchange → ℕ → ℕ
balance x a = up (holder_at x a).balance

holding : Exchange → ℕ → Holding
holding x a = holding_at x.accounts a 0

-- account 1 holds nothing and meets its own order: it buys 3 to open and sells them to close
itself : List Account
itself =
    book_trade (account 0 0 ∷ [])
    (record { contract = 0; price = 102; lots = 3; buyorder = 2; sellorder = 1; buyer = 0; seller = 0; buyclose = 0; sellclose = 1 })

pub table : List Row
table =
    -- a deposit of 5 by account 2 is its own
    (balance (after (deposited state 1 5)) 1 gives 1_005)
    ∷ (balance (after (deposited state 1 5)) 0 gives 1_000)
    -- a pull of account 1 takes its order on each side, 3 lots; the other account's stays
    ∷ ((pulled state 0 0).number gives 0)
    ∷ ((pulled state 0 0).lots gives 3)
    ∷ (length (listing_at (after (pulled state 0 0)) 0).buys gives 1)
    ∷ ((get_or (listing_at (after (pulled state 0 0)) 0).buys 0 no_order).number gives 4)
    ∷ (length (listing_at (after (pulled state 0 0)) 0).sells gives 0)
    -- a pull of an account without an order removes none
    ∷ ((pulled state 2 0).lots gives 0)
    -- a settlement: orders and trades go, numbers and time stamps start afresh
    ∷ (length (listing_at (settled state) 0).buys gives 0)
    ∷ (length (listing_at (settled state) 0).sells gives 0)
    ∷ (length (settled state).trades gives 0)
    ∷ ((settled state).next gives 1)
    ∷ ((settled state).nextstamp gives 1)
    ∷ ((settled state).settlements gives 5)
    -- the contract returns to pre-open, its reference the settlement price, its last price as it was
    ∷ ((contract_at (settled state) 0).phase gives 0)
    ∷ ((contract_at (settled state) 0).reference gives 102)
    ∷ ((contract_at (settled state) 0).last gives 103)
    -- holdings become start-of-day
    ∷ ((holding (settled state) 0).startshort gives 3)
    ∷ ((holding (settled state) 1).startlong gives 3)
    ∷ ((holding (settled state) 1).long gives 3)
    -- a change of state takes no order number and no time stamp
    ∷ ((after (phase_changed state 0 continuous)).next gives 6)
    ∷ ((after (phase_changed state 0 continuous)).nextstamp gives 7)
    -- a settlement that is refused prints no lines of its own
    ∷ (length (settlement_lines (state_in continuous) Settle) gives 0)
    -- the buyer's leg is booked first, so that the close finds the lots just bought, and nothing is left
    ∷ ((holding_at itself 0 0).long gives 0)
    ∷ []

pub step_examples : all_right table ≡ true
unfolding all_right table order account trade state_in state after balance holding itself up account_at after_day_leg after_leg after_legs book_leg book_trade closing_profit day_of day_start deposited exchange_matched first_lots gain holding_at holding_gain holding_profit all_of code_of first_of kind_of legs listing_at lots_where match_of settle_refusals settlement_lines only other_lots paid phase_changed price_from pulled removed settled settled_account settled_contract settled_listing settlement_price sum_of sum_to tabulate traded_lots traded_value trades_in weighted_price without
step_examples = refl
