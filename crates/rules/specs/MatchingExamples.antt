-- Sweeps whose trades are known from the paper's words: the queue of 001's example 4.3.2.1 swept by one limit order, by market
-- and by best. One table, one statement, as in Examples.antt. Assumes nothing.
use Rattle.std.specs.Prelude.{true, false, List, [], ◌∷◌, ◌≡◌, refl, ℕ, length, get_or}
use Rattle.laws.specs.Sums.{sum_of}
use Rattle.rules.specs.Examples.{Row, ◌gives◌, all_right}
use Rattle.rules.specs.Exchange.{no_order, no_trade}
use Rattle.rules.specs.Matching.{Swept, enter, meets, middle, paired_price, remainder, rest_in, rest_lots, rest_whole, rested_lots, stays, sweep, trade_price, trade_with, traded_lots}
use Rattle.rules.specs.declared.Order.{Order}
use Rattle.rules.specs.declared.PairingMethod.TheVariants.{Middle}
use Rattle.rules.specs.declared.PriceCondition.{PriceCondition}
use Rattle.rules.specs.declared.PriceCondition.TheVariants.{Limit, Market, Best}
use Rattle.rules.specs.declared.Taker.{Taker}

order : ℕ → ℕ → ℕ → Order
order number price lots = record { price = price; number = number; account = 1; lots = lots; close = 0; stamp = number; quote = 0 }

-- sells 7 at 110, 5 at 111, 4 at 112
sells : List Order
sells = order 1 110 7 ∷ order 2 111 5 ∷ order 3 112 4 ∷ []

buyer : PriceCondition → Taker
buyer condition = record { account = 0; contract = 0; sell = false; close = 0; number = 9; stamp = 9; quote = 0; condition = condition; method = Middle; best = 110 }

-- a buy of so many lots, the last price 109
swept : PriceCondition → ℕ → Swept
swept condition lots = sweep (buyer condition) lots 109 sells

price : Swept → ℕ → ℕ
price s i = (get_or s.trades i no_trade).price

lots_at : List Order → ℕ → ℕ
lots_at queue i = (get_or queue i no_order).lots

pub table : List Row
table =
    -- a limit at 112 trades 7 at the middle of 112, 110, 109, then 5 at the middle of 112, 111, 110
    (price (swept (Limit 112) 12) 0 gives 110)
    ∷ (price (swept (Limit 112) 12) 1 gives 111)
    ∷ (length (swept (Limit 112) 12).trades gives 2)
    ∷ (length (swept (Limit 112) 12).rest gives 1)
    -- a limit at 111 stops at the first order that is no counterpart; a part-filled order stays with its remainder
    ∷ (traded_lots (swept (Limit 111) 100).trades gives 12)
    ∷ (lots_at (swept (Limit 111) 9).rest 0 gives 3)
    ∷ (length (swept (Limit 111) 9).rest gives 2)
    -- market takes all, each at the resting price; best stays at the best price on arrival
    ∷ (traded_lots (swept Market 100).trades gives 16)
    ∷ (price (swept Market 100) 2 gives 112)
    ∷ (traded_lots (swept Best 100).trades gives 7)
    -- a good-for-day remainder rests behind its own price and before a worse one; another vanishes
    ∷ ((enter (buyer (Limit 111)) 20 111 true 109 (order 4 111 1 ∷ order 5 110 1 ∷ []) sells).rested gives 8)
    ∷ (lots_at (enter (buyer (Limit 111)) 20 111 true 109 (order 4 111 1 ∷ order 5 110 1 ∷ []) sells).own 1 gives 8)
    ∷ (length (enter (buyer (Limit 111)) 20 111 false 109 [] sells).own gives 0)
    -- in auction it rests with all its lots at its place by price, though it crosses, and the opposite queue stays
    ∷ ((rest_whole (buyer (Limit 111)) 20 111 (order 4 111 1 ∷ order 5 110 1 ∷ []) sells).rested gives 20)
    ∷ (lots_at (rest_whole (buyer (Limit 111)) 20 111 (order 4 111 1 ∷ order 5 110 1 ∷ []) sells).own 1 gives 20)
    ∷ (length (rest_whole (buyer (Limit 111)) 20 111 [] sells).opposite gives 3)
    ∷ (length (rest_whole (buyer (Limit 111)) 20 111 [] sells).trades gives 0)
    ∷ []

pub matching_examples : all_right table ≡ true
unfolding all_right table order sells buyer swept price lots_at sum_of enter meets middle paired_price remainder rest_in rest_lots rest_whole rested_lots stays sweep trade_price trade_with traded_lots
matching_examples = refl
