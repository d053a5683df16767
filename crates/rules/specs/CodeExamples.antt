-- Cases in which the answer's code is known from the paper's words: the ends of each range, and cases in which two refusals
-- hold at once, so that the order of the codes shows. The states asked need not be well formed. One table, one statement, as in Examples.antt. Assumes nothing.
use Rattle.std.specs.Prelude.{Bool, true, false, List, [], ◌∷◌, ◌≡◌, refl, ℕ, ◌+◌, ◌-◌, ◌*◌, ◌^◌, pos, replicate}
use Rattle.laws.specs.Choice.{all, all_of}
use Rattle.laws.specs.Sums.{sum_of}
use Rattle.laws.specs.Tabulate.{tabulate}
use Rattle.rules.specs.Answers.{amount_refused, cancel_refusals, change_listed, deposit_refusals, fillable_lots, first_of, insert_refusals, leaves_too_little, lifts_too_high, listing_of, holding_refused, mark, money_refused, no_such_order, numbered, of_another, phase_refusals, price_refused_by, pull_refusals, removal_refused, resting_order, settle_refusals, taker_of, trades_needed, trades_refused, withdraw_refusals, conditions_refused, takes_orders, order_refusals, lots_refused, trades_against}
use Rattle.rules.specs.Bounds.{allowed_today, day_high, day_low, on_tick, auction, closed, continuous, no_trading, pre_open}
use Rattle.rules.specs.Auction.{auction_match, best_from, best_of, better, chosen_price, lots_reaching, match_at, match_in, match_of, prices, surplus, trade_at, volume}
use Rattle.rules.specs.Change.{change_refusals}
use Rattle.rules.specs.Command.{bits, cancel_of, change_of, command_of, deposit_of, insert_flags, insert_of, kind_number, new_order, phase_of, price_condition, pull_of, settle_of, time_condition, withdraw_of, zeros}
use Rattle.rules.specs.Examples.{Row, ◌gives◌, all_right}
use Rattle.rules.specs.Exchange.{Exchange, absent, account_at, best_price, holding_at, listing_at, lots_where, no_holding, no_trade, resting}
use Rattle.rules.specs.Holdings.{after_leg, book_leg}
use Rattle.rules.specs.Kinds.{code_of, kind_of}
use Rattle.rules.specs.Margin.{charge_of, charged_lots, charged_to}
use Rattle.rules.specs.Matching.{fillable, meets, method_of, middle, paired_price, stays, sweep, trade_price, trade_with}
use Rattle.rules.specs.declared.Account.{Account}
use Rattle.rules.specs.declared.Contract.{Contract}
use Rattle.rules.specs.declared.Command.{Command}
use Rattle.rules.specs.declared.Command.TheVariants.{Deposit, Withdraw, Insert, Cancel, Pull, Phase, Settle}
use Rattle.rules.specs.declared.Order.{Order}
use Rattle.rules.specs.declared.PriceCondition.{PriceCondition}
use Rattle.rules.specs.declared.PriceCondition.TheVariants.{Best, Limit, Market}
use Rattle.rules.specs.declared.Record.{Record}
use Rattle.rules.specs.declared.TimeCondition.{TimeCondition}
use Rattle.rules.specs.declared.TimeCondition.TheVariants.{GoodForDay, ImmediateOrCancel, FillOrKill}

-- ---- a state to ask: one contract, low 100 and high 120, a charge of 110 a lot, at most 1,000 lots a side; sells 7 at 110
-- and 5 at 112 rest, of account 1; account 2 is short 995 lots and has money for 3 more

contract : ℕ → Contract
contract phase = record { multiplier = 10; tick = 2; reference = 110; band = 10; limit = 1_000; rate = 1_000; method = 0; phase = phase; last = 110 }

order : ℕ → ℕ → ℕ → Order
order number price lots = record { price = price; number = number; account = 0; lots = lots; close = 0; stamp = number; quote = 0 }

rich : Account
rich = record { balance = pos 1_100_000; maker = 0; holdings = no_holding ∷ [] }

poor : Account
poor = record { balance = pos 109_780; maker = 0; holdings = record { long = 0; short = 995; startlong = 0; startshort = 995 } ∷ [] }

-- a contract in a phase, so many buys resting at 100, so many trades made, a next number, so many settlements
asked : ℕ → ℕ → ℕ → ℕ → ℕ → Exchange
asked phase buys trades next settlements =
    record {
      listings = record {
        contract = contract phase;
        buys = tabulate buys (λ i. order (3 + i) 100 1);
        sells = order 1 110 7 ∷ order 2 112 5 ∷ [];
      } ∷ [];
      accounts = rich ∷ poor ∷ [];
      trades = replicate trades no_trade;
      next = next;
      nextstamp = next;
      settlements = settlements;
    }

open' : Exchange
open' = asked continuous 0 0 100 0

-- that with a next time stamp
stamps : ℕ → Exchange
stamps nextstamp =
    record { listings = open'.listings; accounts = open'.accounts; trades = []; next = 100; nextstamp = nextstamp; settlements = 0 }

-- that with account 1's balance
balanced : ℕ → Exchange
balanced balance =
    record {
      listings = open'.listings;
      accounts = record { balance = pos balance; maker = 0; holdings = no_holding ∷ [] } ∷ [];
      trades = [];
      next = 100;
      nextstamp = 100;
      settlements = 0;
    }

-- to which of the states 0 to 4 one may be changed: five digits, 1 where it may
changes_from : ℕ → ℕ
changes_from from = sum_of (λ to. mark (change_listed from to) * 10 ^ (4 - to)) (0 ∷ 1 ∷ 2 ∷ 3 ∷ 4 ∷ [])

-- the contract in auction, a buy of 9 at 112 resting too, so many trades made: its match makes two trades
crossed : ℕ → Exchange
crossed trades =
    record {
      listings = record { contract = contract auction; buys = order 3 112 9 ∷ []; sells = order 1 110 7 ∷ order 2 112 5 ∷ [] } ∷ [];
      accounts = rich ∷ poor ∷ [];
      trades = replicate trades no_trade;
      next = 100;
      nextstamp = 100;
      settlements = 0;
    }

-- a buy open of an account in a contract
buy : ℕ → ℕ → ℕ → ℕ → PriceCondition → TimeCondition → Command
buy account number lots price condition time =
    Insert (record { account = account; contract = number; sell = false; close = false; lots = lots; price = price; condition = condition; time = time })

-- a good-for-day limit sell at 112
sell : ℕ → Bool → ℕ → Command
sell account close lots =
    Insert (record { account = account; contract = 1; sell = true; close = close; lots = lots; price = 112; condition = Limit 112; time = GoodForDay })

raw : ℕ → ℕ → ℕ → ℕ → ℕ → Record
raw kind account number flags lots = record { kind = kind; account = account; contract = number; flags = flags; lots = lots; price = 0; number = 0; amount = 0 }

-- a record with an account and an amount alone
paying : ℕ → ℕ → ℕ → Record
paying kind account amount = record { kind = kind; account = account; contract = 0; flags = 0; lots = 0; price = 0; number = 0; amount = amount }

pub codes : List Row
codes =
    -- "There fill or kill at 111 for 12 trades; for 13 it is code 11." (here 112: the tick is 2)
    (code_of open' (buy 1 1 12 112 (Limit 112) FillOrKill) gives 0)
    ∷ (code_of open' (buy 1 1 13 112 (Limit 112) FillOrKill) gives 11)
    -- "Lots 1,000 pass, 1,001 give 5."
    ∷ (code_of open' (buy 1 1 1_000 100 (Limit 100) GoodForDay) gives 0)
    ∷ (code_of open' (buy 1 1 1_001 100 (Limit 100) GoodForDay) gives 5)
    -- both ends of the band may be traded, a price off the tick or past an end may not
    ∷ (code_of open' (buy 1 1 1 120 (Limit 120) GoodForDay) gives 0)
    ∷ (code_of open' (buy 1 1 1 122 (Limit 122) GoodForDay) gives 7)
    ∷ (code_of open' (buy 1 1 1 98 (Limit 98) GoodForDay) gives 7)
    ∷ (code_of open' (buy 1 1 1 111 (Limit 111) GoodForDay) gives 7)
    -- account before contract before state before lots
    ∷ (code_of open' (buy 0 0 1 100 (Limit 100) GoodForDay) gives 2)
    ∷ (code_of open' (buy 3 1 1 100 (Limit 100) GoodForDay) gives 2)
    ∷ (code_of (asked closed 0 0 100 0) (buy 1 2 0 100 (Limit 100) GoodForDay) gives 3)
    ∷ (code_of (asked closed 0 0 100 0) (buy 1 1 0 100 (Limit 100) GoodForDay) gives 4)
    -- market with good for day and a price: lots 0 gives 5, lots 1 gives 6; with immediate or cancel 7
    ∷ (code_of open' (buy 1 1 0 5 Market GoodForDay) gives 5)
    ∷ (code_of open' (buy 1 1 1 5 Market GoodForDay) gives 6)
    ∷ (code_of open' (buy 1 1 1 5 Market ImmediateOrCancel) gives 7)
    ∷ (code_of open' (buy 1 1 1 5 Best ImmediateOrCancel) gives 7)
    ∷ (code_of open' (buy 1 1 1 0 Best ImmediateOrCancel) gives 0)
    -- holding before money; exactly the limit and exactly the balance pass; the larger side is charged, so 995 lots bought
    -- against as many sold need no money
    ∷ (code_of open' (sell 1 false 988) gives 0)
    ∷ (code_of open' (sell 1 false 989) gives 8)
    ∷ (code_of open' (sell 2 false 3) gives 0)
    ∷ (code_of open' (sell 2 false 4) gives 9)
    ∷ (code_of open' (sell 2 false 6) gives 8)
    ∷ (code_of open' (buy 2 1 998 100 (Limit 100) GoodForDay) gives 0)
    ∷ (code_of open' (buy 2 1 999 100 (Limit 100) GoodForDay) gives 9)
    ∷ (code_of (asked continuous 1 0 100 0) (buy 1 1 1_000 100 (Limit 100) GoodForDay) gives 8)
    ∷ (code_of open' (sell 1 true 1) gives 8)
    -- money before numbers, numbers before fill or kill; the number 999,999 is still given
    ∷ (code_of (asked continuous 0 0 1_000_000 0) (buy 2 1 999 100 (Limit 100) GoodForDay) gives 9)
    ∷ (code_of (asked continuous 0 0 1_000_000 0) (buy 1 1 13 112 (Limit 112) FillOrKill) gives 10)
    ∷ (code_of (asked continuous 0 0 999_999 0) (buy 1 1 12 112 (Limit 112) FillOrKill) gives 0)
    -- time stamps too may be used up: 999,999 is the last
    ∷ (code_of (stamps 1_000_000) (buy 1 1 13 112 (Limit 112) FillOrKill) gives 10)
    ∷ (code_of (stamps 999_999) (buy 1 1 12 112 (Limit 112) FillOrKill) gives 0)
    -- fill or kill before the room for trades, that before the room in the queue
    ∷ (code_of (asked continuous 0 1_023 100 0) (buy 1 1 13 112 (Limit 112) FillOrKill) gives 11)
    ∷ (code_of (asked continuous 0 1_023 100 0) (buy 1 1 12 112 (Limit 112) FillOrKill) gives 12)
    ∷ (code_of (asked continuous 0 1_022 100 0) (buy 1 1 12 112 (Limit 112) FillOrKill) gives 0)
    ∷ (code_of (asked continuous 64 1_023 100 0) (buy 1 1 13 112 (Limit 112) GoodForDay) gives 12)
    -- "The 65th rester gives 13", an order that fills at once does not
    ∷ (code_of (asked continuous 63 0 100 0) (buy 1 1 1 100 (Limit 100) GoodForDay) gives 0)
    ∷ (code_of (asked continuous 64 0 100 0) (buy 1 1 1 100 (Limit 100) GoodForDay) gives 13)
    ∷ (code_of (asked continuous 64 0 100 0) (buy 1 1 12 112 (Limit 112) GoodForDay) gives 0)
    ∷ (code_of (asked continuous 64 0 100 0) (buy 1 1 13 112 (Limit 112) GoodForDay) gives 13)
    ∷ (code_of (asked continuous 64 0 100 0) (buy 1 1 13 112 (Limit 112) ImmediateOrCancel) gives 0)
    -- in auction a limit order for the day rests, crossing or not; every other insert gives 6, after 5
    ∷ (code_of (asked auction 0 0 100 0) (buy 1 1 12 112 (Limit 112) GoodForDay) gives 0)
    ∷ (code_of (asked auction 0 0 100 0) (buy 1 1 12 112 (Limit 112) ImmediateOrCancel) gives 6)
    ∷ (code_of (asked auction 0 0 100 0) (buy 1 1 13 112 (Limit 112) FillOrKill) gives 6)
    ∷ (code_of (asked auction 0 0 100 0) (buy 1 1 1 5 Market ImmediateOrCancel) gives 6)
    ∷ (code_of (asked auction 0 0 100 0) (buy 1 1 1 0 Market GoodForDay) gives 6)
    ∷ (code_of (asked auction 0 0 100 0) (buy 1 1 0 0 Market FillOrKill) gives 5)
    -- 7 to 10 there as ever; no trade is made, so none is too many; 13 though the order would fill at once
    ∷ (code_of (asked auction 0 0 100 0) (buy 1 1 1 122 (Limit 122) GoodForDay) gives 7)
    ∷ (code_of (asked auction 0 0 100 0) (sell 1 true 1) gives 8)
    ∷ (code_of (asked auction 0 0 100 0) (sell 2 false 4) gives 9)
    ∷ (code_of (asked auction 64 0 1_000_000 0) (buy 1 1 12 112 (Limit 112) GoodForDay) gives 10)
    ∷ (code_of (asked auction 0 1_024 100 0) (buy 1 1 12 112 (Limit 112) GoodForDay) gives 0)
    ∷ (code_of (asked auction 63 0 100 0) (buy 1 1 12 112 (Limit 112) GoodForDay) gives 0)
    ∷ (code_of (asked auction 64 0 100 0) (buy 1 1 12 112 (Limit 112) GoodForDay) gives 13)
    -- cancel and pull work in auction, with the operator bit or without; number before owner as ever
    ∷ (code_of (asked auction 0 0 100 0) (Cancel 1 1 false 1) gives 0)
    ∷ (code_of (asked auction 0 0 100 0) (Cancel 1 1 true 1) gives 0)
    ∷ (code_of (asked auction 0 0 100 0) (Cancel 2 1 false 1) gives 15)
    ∷ (code_of (asked auction 0 0 100 0) (Pull 2 1 false) gives 0)
    ∷ (code_of (asked auction 0 0 100 0) (Pull 2 1 true) gives 0)
    -- cancel: state before number before owner; no trading needs the operator
    ∷ (code_of (asked no_trading 0 0 100 0) (Cancel 1 1 false 9) gives 4)
    ∷ (code_of (asked no_trading 0 0 100 0) (Cancel 2 1 true 9) gives 14)
    ∷ (code_of (asked no_trading 0 0 100 0) (Cancel 2 1 true 1) gives 15)
    ∷ (code_of (asked no_trading 0 0 100 0) (Cancel 1 1 true 1) gives 0)
    ∷ (code_of (asked pre_open 0 0 100 0) (Cancel 1 1 true 1) gives 4)
    -- a pull of contract 0 is no pull of all contracts
    ∷ (code_of open' (Pull 1 0 false) gives 3)
    ∷ (code_of open' (Pull 2 1 false) gives 0)
    -- deposit and withdraw: amount before money
    ∷ (code_of open' (Deposit 3 0) gives 2)
    ∷ (code_of open' (Deposit 1 0) gives 16)
    ∷ (code_of open' (Deposit 1 1_000_000_000_000_000) gives 0)
    ∷ (code_of open' (Deposit 1 1_000_000_000_000_001) gives 16)
    ∷ (code_of open' (Withdraw 3 0) gives 2)
    ∷ (code_of open' (Withdraw 2 1_000_000_000_000_001) gives 16)
    ∷ (code_of open' (Withdraw 2 331) gives 9)
    ∷ (code_of open' (Withdraw 2 330) gives 0)
    ∷ (code_of open' (Withdraw 1 1_098_681) gives 9)
    ∷ (code_of open' (Withdraw 1 1_098_680) gives 0)
    -- "or deposit lifts the balance above 10^18": it may reach it
    ∷ (code_of (balanced 999_999_999_999_999_995) (Deposit 1 5) gives 0)
    ∷ (code_of (balanced 999_999_999_999_999_995) (Deposit 1 6) gives 16)
    -- "State changes ..: 0 to 1, 0 to 3, 1 to 2, 2 to 1, 1 to 3, 2 to 3", 0 to 4, 4 to 1, and no other
    ∷ (changes_from pre_open gives 1_011)
    ∷ (changes_from continuous gives 110)
    ∷ (changes_from no_trading gives 1_010)
    ∷ (changes_from closed gives 0)
    ∷ (changes_from auction gives 1_000)
    -- state: contract before change; no change to the same state
    ∷ (code_of open' (Phase 2 continuous) gives 3)
    ∷ (code_of open' (Phase 1 continuous) gives 17)
    ∷ (code_of open' (Phase 1 closed) gives 0)
    ∷ (code_of (asked closed 0 0 100 0) (Phase 1 pre_open) gives 17)
    -- auction: reached from pre-open alone, left to continuous alone
    ∷ (code_of (asked pre_open 0 0 100 0) (Phase 1 auction) gives 0)
    ∷ (code_of open' (Phase 1 auction) gives 17)
    ∷ (code_of (asked no_trading 0 0 100 0) (Phase 1 auction) gives 17)
    ∷ (code_of (asked closed 0 0 100 0) (Phase 1 auction) gives 17)
    ∷ (code_of (crossed 0) (Phase 1 continuous) gives 0)
    ∷ (code_of (crossed 0) (Phase 1 pre_open) gives 17)
    ∷ (code_of (crossed 0) (Phase 1 no_trading) gives 17)
    ∷ (code_of (crossed 0) (Phase 1 closed) gives 17)
    ∷ (code_of (crossed 0) (Phase 1 auction) gives 17)
    -- the two trades of the match have room, or not; 17 before 12; with all room used up a state changes still where no trade is made
    ∷ (code_of (crossed 1_022) (Phase 1 continuous) gives 0)
    ∷ (code_of (crossed 1_023) (Phase 1 continuous) gives 12)
    ∷ (code_of (crossed 1_023) (Phase 1 closed) gives 17)
    ∷ (code_of (asked auction 1 1_024 100 0) (Phase 1 continuous) gives 0)
    ∷ (code_of (asked continuous 0 1_024 100 0) (Phase 1 closed) gives 0)
    -- settle: closed before the count; a contract in auction is not closed
    ∷ (code_of (crossed 0) Settle gives 18)
    ∷ (code_of (asked no_trading 0 0 100 250) Settle gives 18)
    ∷ (code_of (asked closed 0 0 100 250) Settle gives 19)
    ∷ (code_of (asked closed 0 0 100 249) Settle gives 0)
    -- code 1 before all: an unknown state, bits 6 and 7, an unused field, a kind that does not exist
    ∷ (code_of open' (command_of (raw 6 0 9 5 0)) gives 1)
    ∷ (code_of open' (command_of (raw 6 0 9 4 0)) gives 3)
    -- .. also where no bytes give it
    ∷ (code_of open' (Phase 9 5) gives 1)
    ∷ (code_of open' (Phase 9 auction) gives 3)
    ∷ (code_of open' (command_of (raw 3 0 0 64 0)) gives 1)
    ∷ (code_of open' (command_of (raw 3 0 0 48 0)) gives 1)
    ∷ (code_of open' (command_of (raw 3 0 0 12 0)) gives 1)
    ∷ (code_of open' (command_of (raw 3 0 0 42 0)) gives 2)
    ∷ (code_of open' (command_of (raw 7 0 0 0 1)) gives 1)
    ∷ (code_of open' (command_of (paying 3 0 1)) gives 1)
    ∷ (code_of open' (command_of (raw 10 1 1 0 0)) gives 1)
    -- an unknown state is no command, not a state command that is refused; its lots are unused
    ∷ (kind_number (command_of (raw 6 0 9 5 0)) gives 0)
    ∷ (kind_number (command_of (raw 6 0 9 4 0)) gives 6)
    ∷ (code_of open' (command_of (raw 6 0 1 closed 1)) gives 1)
    -- "limit 0, market 1, best 2", "immediate or cancel 1, fill or kill 2": of 12 lots at 110 and 112 market fills all, best 7; of 13
    -- immediate or cancel takes what there is
    ∷ (code_of open' (command_of (raw 3 1 1 36 12)) gives 0)
    ∷ (code_of open' (command_of (raw 3 1 1 40 12)) gives 11)
    ∷ (code_of open' (command_of (raw 3 1 1 36 13)) gives 11)
    ∷ (code_of open' (command_of (raw 3 1 1 20 13)) gives 0)
    -- "Cancel and pull flags: bit 0 operator, the rest zero."; their lots are unused
    ∷ (code_of open' (command_of (raw 4 1 1 1 0)) gives 14)
    ∷ (code_of open' (command_of (raw 4 1 1 2 0)) gives 1)
    ∷ (code_of open' (command_of (raw 4 1 1 0 1)) gives 1)
    ∷ (code_of open' (command_of (raw 5 1 1 0 0)) gives 0)
    ∷ (code_of open' (command_of (raw 5 1 1 1 0)) gives 0)
    ∷ (code_of open' (command_of (raw 5 1 1 2 0)) gives 1)
    ∷ (code_of open' (command_of (raw 5 1 1 0 1)) gives 1)
    -- kind 1 pays in, kind 2 pays out
    ∷ (code_of open' (command_of (paying 1 2 331)) gives 0)
    ∷ (code_of open' (command_of (paying 2 2 331)) gives 9)
    -- a change: its flags and its amount are unused
    ∷ (code_of open' (command_of (raw 9 1 1 0 5)) gives 14)
    ∷ (code_of open' (command_of (raw 9 1 1 1 5)) gives 1)
    ∷ (code_of open' (command_of (record { kind = 9; account = 1; contract = 1; flags = 0; lots = 5; price = 0; number = 0; amount = 1 })) gives 1)
    ∷ []

pub code_examples : all_right codes ≡ true
unfolding all_right codes contract order rich poor asked open' stamps balanced changes_from buy sell raw paying absent account_at after_leg all all_of allowed_today amount_refused best_price bits book_leg cancel_of cancel_refusals change_listed change_of change_refusals charge_of charged_lots charged_to code_of command_of day_high day_low deposit_of deposit_refusals fillable fillable_lots first_of holding_at insert_flags insert_of insert_refusals kind_of leaves_too_little lifts_too_high listing_at listing_of holding_refused lots_where meets method_of middle paired_price money_refused new_order no_such_order numbered of_another on_tick lots_refused trades_against phase_of phase_refusals price_condition price_refused_by pull_of pull_refusals removal_refused resting resting_order settle_of settle_refusals stays sum_of sweep tabulate taker_of time_condition trade_price trade_with trades_needed trades_refused withdraw_of withdraw_refusals zeros crossed auction_match best_from best_of better chosen_price conditions_refused lots_reaching match_at match_in match_of prices surplus takes_orders trade_at volume order_refusals
code_examples = refl
