-- The three pairing methods on prices worked out by hand, from the number in a contract's record to the prices of a sweep
-- (document 02, ticket 6). One table, one statement, as in Examples.antt. Assumes nothing.
use Rattle.std.specs.Prelude.{Bool, true, false, List, [], ◌∷◌, ◌≡◌, refl, ℕ, get_or}
use Rattle.rules.specs.Answers.{mark}
use Rattle.rules.specs.Bounds.{continuous, on_tick, terms_in_range, tick_multiple}
use Rattle.rules.specs.DayFile.{contract_from, contract_place, contract_sound, u16_at, u32_at, u8_at}
use Rattle.rules.specs.Examples.{Row, ◌gives◌, all_right}
use Rattle.rules.specs.Exchange.{no_trade}
use Rattle.rules.specs.Matching.{average, meets, method_of, middle, paired_price, stays, sweep, trade_price, trade_with}
use Rattle.rules.specs.WellFormed.{contract_in_range}
use Rattle.rules.specs.declared.Contract.{Contract}
use Rattle.rules.specs.declared.Order.{Order}
use Rattle.rules.specs.declared.PriceCondition.{PriceCondition}
use Rattle.rules.specs.declared.PriceCondition.TheVariants.{Limit, Market, Best}
use Rattle.rules.specs.declared.Taker.{Taker}

contract : ℕ → ℕ → Contract
contract method tick =
    record { multiplier = 10; tick = tick; reference = 120; band = 60; limit = 1_000; rate = 1_000; method = method; phase = continuous; last = 120 }

-- the price of a limit order's trade by a contract's method: the tick, the limit, the resting price, the last price
priced : ℕ → ℕ → ℕ → ℕ → ℕ → ℕ
priced method tick limit price last = paired_price (method_of (contract method tick)) limit price last

order : ℕ → ℕ → ℕ → Order
order number price lots = record { price = price; number = number; account = 1; lots = lots; close = 0; stamp = number; quote = 0 }

taker : ℕ → Bool → PriceCondition → Taker
taker method sell condition =
    record { account = 0; contract = 0; sell = sell; close = 0; number = 9; stamp = 9; quote = 0; condition = condition; method = method_of (contract method 1); best = 110 }

-- the price of the trade at a place: 12 lots bought of sells 7 at 110, 5 at 111 and 4 at 112, the last price 109
bought : ℕ → PriceCondition → ℕ → ℕ
bought method condition place =
    (get_or (sweep (taker method false condition) 12 109 (order 1 110 7 ∷ order 2 111 5 ∷ order 3 112 4 ∷ [])).trades place no_trade).price

-- 12 lots sold at 108 to buys 7 at 110 and 5 at 109, the last price 111
sold : ℕ → ℕ → ℕ
sold method place = (get_or (sweep (taker method true (Limit 108)) 12 111 (order 1 110 7 ∷ order 2 109 5 ∷ [])).trades place no_trade).price

-- a file's contract with these last two bytes, 1 where it is sound; the file's count stands before it
sound' : ℕ → ℕ → ℕ
sound' low high =
    mark
    (contract_sound (1 ∷ 0 ∷ 0 ∷ 0 ∷ 10 ∷ 0 ∷ 1 ∷ 0 ∷ 100 ∷ 0 ∷ 0 ∷ 0 ∷ 10 ∷ 0 ∷ 0 ∷ 0 ∷ 232 ∷ 3 ∷ 0 ∷ 0 ∷ 232 ∷ 3 ∷ low ∷ high ∷ []) 0)

pub table : List Row
table =
    -- buy 104, sell 102: the last price counts for the middle alone
    (priced 0 1 104 102 100 gives 102)
    ∷ (priced 0 1 104 102 103 gives 103)
    ∷ (priced 0 1 104 102 110 gives 104)
    ∷ (priced 1 1 104 102 100 gives 103)
    ∷ (priced 1 1 104 102 110 gives 103)
    ∷ (priced 2 1 104 102 100 gives 102)
    ∷ (priced 2 1 104 102 110 gives 102)
    -- a sell at 102 that meets a buy at 105: half of 207 is rounded down, first-in is the buy's price
    ∷ (priced 1 1 102 105 100 gives 103)
    ∷ (priced 2 1 102 105 100 gives 105)
    -- down to a tick: 111 to 110 by ticks of 2; 112 to 110 by ticks of 5; 999,500 to 999,000 by ticks of 1,000
    ∷ (priced 1 2 112 110 112 gives 110)
    ∷ (priced 1 5 120 105 120 gives 110)
    ∷ (priced 1 1_000 1_000_000 999_000 999_000 gives 999_000)
    -- equal prices and the largest sum
    ∷ (priced 1 5 110 110 120 gives 110)
    ∷ (priced 1 1 1_000_000 1_000_000 1 gives 1_000_000)
    -- a sweep works the price out again for each trade
    ∷ (bought 0 (Limit 112) 0 gives 110)
    ∷ (bought 0 (Limit 112) 1 gives 111)
    ∷ (bought 1 (Limit 112) 0 gives 111)
    ∷ (bought 1 (Limit 112) 1 gives 111)
    ∷ (bought 1 (Limit 111) 0 gives 110)
    ∷ (bought 2 (Limit 112) 0 gives 110)
    ∷ (bought 2 (Limit 112) 1 gives 111)
    ∷ (sold 0 0 gives 110)
    ∷ (sold 0 1 gives 109)
    ∷ (sold 1 0 gives 109)
    ∷ (sold 1 1 gives 108)
    ∷ (sold 2 0 gives 110)
    ∷ (sold 2 1 gives 109)
    -- "It concerns limit orders only": market and best trade at the resting price by any method
    ∷ (bought 0 Market 1 gives 111)
    ∷ (bought 1 Market 1 gives 111)
    ∷ (bought 2 Market 1 gives 111)
    ∷ (bought 1 Best 0 gives 110)
    -- a method above 2 is out of range, in a state and in a file; two bytes are read, so 256 is above 2
    ∷ (mark (contract_in_range (contract 0 1)) gives 1)
    ∷ (mark (contract_in_range (contract 1 1)) gives 1)
    ∷ (mark (contract_in_range (contract 2 1)) gives 1)
    ∷ (mark (contract_in_range (contract 3 1)) gives 0)
    ∷ (sound' 0 0 gives 1)
    ∷ (sound' 1 0 gives 1)
    ∷ (sound' 2 0 gives 1)
    ∷ (sound' 3 0 gives 0)
    ∷ (sound' 0 1 gives 0)
    ∷ (sound' 2 1 gives 0)
    ∷ []

pub method_examples : all_right table ≡ true
unfolding all_right table contract priced order taker bought sold sound' average contract_from contract_in_range contract_place contract_sound meets method_of middle on_tick paired_price stays sweep terms_in_range tick_multiple trade_price trade_with u16_at u32_at u8_at
method_examples = refl
