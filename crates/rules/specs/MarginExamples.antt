-- Charged margin and code 9 worked out by hand: an account both long and short, orders resting on both sides, opens that add no
-- charge, and the edge of a withdrawal. One table, one statement. Assumes nothing.
use Rattle.std.specs.Prelude.{Bool, true, false, List, [], ◌∷◌, ◌≡◌, refl, ℕ, ℤ, pos, negsuc}
use Rattle.laws.specs.Choice.{pick}
use Rattle.laws.specs.Sums.{sum_of}
use Rattle.rules.specs.Answers.{amount_refused, fillable_lots, first_of, holding_refused, insert_refusals, leaves_too_little, listing_of, money_refused, price_refused_by, taker_of, trades_needed, trades_refused, withdraw_refusals, conditions_refused, takes_orders, order_refusals, lots_refused, trades_against}
use Rattle.rules.specs.Bounds.{allowed_today, day_high, day_low, on_tick, continuous}
use Rattle.rules.specs.Examples.{Row, ◌gives◌, all_right}
use Rattle.rules.specs.Exchange.{Exchange, absent, account_at, best_price, holding_at, listing_at, lots_where, no_holding, resting}
use Rattle.rules.specs.Holdings.{after_leg, book_leg}
use Rattle.rules.specs.Kinds.{code_of, kind_of}
use Rattle.rules.specs.Margin.{charged, charged_lots, charged_lots_with, charged_to, charged_with, charge_of, included_to}
use Rattle.rules.specs.Matching.{fillable, meets, method_of, middle, paired_price, stays, sweep, trade_price, trade_with}
use Rattle.rules.specs.declared.Account.{Account}
use Rattle.rules.specs.declared.Command.{Command}
use Rattle.rules.specs.declared.Command.TheVariants.{Insert, Withdraw}
use Rattle.rules.specs.declared.Contract.{Contract}
use Rattle.rules.specs.declared.Holding.{Holding}
use Rattle.rules.specs.declared.Order.{Order}
use Rattle.rules.specs.declared.PriceCondition.TheVariants.{Limit}
use Rattle.rules.specs.declared.TimeCondition.TheVariants.{GoodForDay}

-- the charge is 10 a lot for each unit of the multiplier
contract : ℕ → Contract
contract multiplier = record { multiplier = multiplier; tick = 1; reference = 100; band = 10; limit = 1_000; rate = 1_000; method = 0; phase = continuous; last = 100 }

-- orders of account 1
order : ℕ → ℕ → ℕ → ℕ → Order
order number price lots close = record { price = price; number = number; account = 0; lots = lots; close = close; stamp = number; quote = 0 }

held : ℕ → ℕ → Holding
held long short = record { long = long; short = short; startlong = long; startshort = short }

account : ℤ → Holding → Holding → Account
account balance first second = record { balance = balance; maker = 0; holdings = first ∷ second ∷ [] }

-- two contracts, a lot charged 100 in the first and 50 in the second. Account 1 bids for 5 and offers 3 to open, and offers its 40
-- long lots to close, in the first; it offers 9 to open in the second
x : Exchange
x =
    record {
      listings =
          record { contract = contract 10; buys = order 1 95 5 0 ∷ []; sells = order 2 105 3 0 ∷ order 3 105 40 1 ∷ [] }
          ∷ record { contract = contract 5; buys = []; sells = order 4 105 9 0 ∷ [] }
          ∷ [];
      accounts =
          account (pos 7_000) (held 40 60) (held 7 0)
          ∷ account (pos 1_000) (held 10 10) no_holding
          ∷ account (pos 5_999) (held 0 60) no_holding
          ∷ account (pos 6_000) (held 0 60) no_holding
          ∷ account (negsuc 0) no_holding no_holding
          ∷ [];
      trades = [];
      next = 5;
      nextstamp = 5;
      settlements = 0;
    }

-- a good-for-day limit order that meets no other
insert : Bool → Bool → ℕ → ℕ → ℕ → Command
insert sell close who number lots =
    Insert (
    record {
      account = who;
      contract = number;
      sell = sell;
      close = close;
      lots = lots;
      price = pick sell 105 95;
      condition = Limit (pick sell 105 95);
      time = GoodForDay;
    }
    )

buy_open : ℕ → ℕ → ℕ → Command
buy_open = insert false false

sell_open : ℕ → ℕ → ℕ → Command
sell_open = insert true false

pub table : List Row
table =
    -- 40 long and 5 bid against 60 short and 3 offered: 63 lots; the resting close adds none
    (charged_lots (listing_at x 0) 0 (held 40 60) gives 63)
    -- 7 long against 9 offered
    ∷ (charged_lots (listing_at x 1) 0 (held 7 0) gives 9)
    -- 63 x 100 and 9 x 50; 10 long and 10 short: 10 lots; nothing held, nothing charged
    ∷ (charged x 0 gives 6_750)
    ∷ (charged x 1 gives 1_000)
    ∷ (charged x 2 gives 6_000)
    ∷ (charged x 4 gives 0)
    -- 18 lots more on the smaller side add no charge, the 19th does; on the larger side the first does
    ∷ (charged_with x 0 0 false 18 gives 6_750)
    ∷ (charged_with x 0 0 false 19 gives 6_850)
    ∷ (charged_with x 0 0 true 1 gives 6_850)
    -- the same sums written out, over both contracts; lots of the second contract count there
    ∷ (included_to x 0 0 false 18 2 gives 6_750)
    ∷ (included_to x 0 0 false 19 2 gives 6_850)
    ∷ (included_to x 0 0 true 1 2 gives 6_850)
    ∷ (included_to x 0 1 false 3 2 gives 6_800)
    ∷ (included_to x 0 1 true 1 2 gives 6_800)
    -- account 1 has 7,000: with 65 lots in the first contract 6,950 are charged, with 66 lots 7,050
    ∷ (code_of x (buy_open 1 1 20) gives 0)
    ∷ (code_of x (buy_open 1 1 21) gives 9)
    ∷ (code_of x (sell_open 1 1 2) gives 0)
    ∷ (code_of x (sell_open 1 1 3) gives 9)
    -- with 14 lots in the second just 7,000 are charged, which passes
    ∷ (code_of x (sell_open 1 2 5) gives 0)
    ∷ (code_of x (sell_open 1 2 6) gives 9)
    ∷ (code_of x (buy_open 1 2 7) gives 0)
    ∷ (code_of x (buy_open 1 2 8) gives 9)
    -- account 2, even on both sides, has just what is charged: either side is refused, closes are not
    ∷ (code_of x (buy_open 2 1 1) gives 9)
    ∷ (code_of x (sell_open 2 1 1) gives 9)
    ∷ (code_of x (insert false true 2 1 10) gives 0)
    ∷ (code_of x (insert true true 2 1 10) gives 0)
    -- accounts 3 and 4 are short 60: buys of up to 60 add no charge. With 6,000 they pass; with 5,999 even one is refused, since
    -- what is charged already exceeds the balance. A close passes
    ∷ (code_of x (buy_open 4 1 60) gives 0)
    ∷ (code_of x (buy_open 4 1 61) gives 9)
    ∷ (code_of x (buy_open 3 1 1) gives 9)
    ∷ (code_of x (insert false true 3 1 1) gives 0)
    -- a balance below zero
    ∷ (code_of x (buy_open 5 1 1) gives 9)
    -- a withdrawal may leave just what is charged
    ∷ (code_of x (Withdraw 1 250) gives 0)
    ∷ (code_of x (Withdraw 1 251) gives 9)
    ∷ (code_of x (Withdraw 2 1) gives 9)
    ∷ (code_of x (Withdraw 3 1) gives 9)
    ∷ (code_of x (Withdraw 5 1) gives 9)
    ∷ []

pub margin_examples : all_right table ≡ true
unfolding all_right table contract order held account x insert buy_open sell_open absent account_at after_leg allowed_today amount_refused best_price book_leg charge_of charged_lots charged_lots_with charged_to included_to code_of day_high day_low fillable fillable_lots first_of holding_at holding_refused insert_refusals kind_of leaves_too_little listing_at listing_of lots_where meets method_of middle money_refused on_tick lots_refused trades_against paired_price price_refused_by resting stays sum_of sweep taker_of trade_price trade_with trades_needed trades_refused withdraw_refusals conditions_refused takes_orders order_refusals
margin_examples = refl
