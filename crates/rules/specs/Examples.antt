-- The twelve examples that document 01 asks to have proved: one table, one statement. Assumes nothing.
use Rattle.std.specs.Prelude.{Bool, true, false, ◌&&◌, List, [], ◌∷◌, ◌≡◌, refl, ℕ, suc, eqb, ℤ, pos, negsuc}
use Rattle.laws.specs.Sums.{sum_of}
use Rattle.rules.specs.Exchange.{lots_where}
use Rattle.rules.specs.Margin.{charge_of}
use Rattle.rules.specs.Matching.{middle, meets, fillable, traded_lots}
use Rattle.rules.specs.Settlement.{price_from, weighted_price, quoted_price, traded_value}
use Rattle.rules.specs.declared.Order.{Order}
use Rattle.rules.specs.declared.PairingMethod.TheVariants.{Middle}
use Rattle.rules.specs.declared.PriceCondition.TheVariants.{Limit}
use Rattle.rules.specs.declared.Taker.{Taker}
use Rattle.rules.specs.declared.Trade.{Trade}

infix 20 ◌gives◌
pub data Row : Type 0 where
  ◌gives◌ : ℕ → ℕ → Row

-- a gain, and a loss, each 0 where it is the other
unfoldable pub up : ℤ → ℕ
up (pos n) = n
up (negsuc n) = 0

unfoldable pub down : ℤ → ℕ
down (pos n) = 0
down (negsuc n) = suc n

-- an order and a trade of which only price and lots matter, a limit buy of which only the price does
order : ℕ → ℕ → Order
order price lots = record { price = price; number = 1; account = 0; lots = lots; close = 0; stamp = 1; quote = 0 }

trade : ℕ → ℕ → Trade
trade lots price =
    record { contract = 0; price = price; lots = lots; buyorder = 1; sellorder = 2; buyer = 0; seller = 1; buyclose = 0; sellclose = 0 }

limit_buy : ℕ → Taker
limit_buy price = record { account = 0; contract = 0; sell = false; close = 0; number = 3; stamp = 3; quote = 0; condition = Limit price; method = Middle; best = 110 }

sells : List Order
sells = order 110 7 ∷ order 111 5 ∷ []

pub table : List Row
table =
    -- "middle of buy, sell, last"
    (middle 104 102 100 gives 102)
    ∷ (middle 106 103 102 gives 103)
    ∷ (middle 112 111 110 gives 111)
    ∷ (middle 110 110 109 gives 110)
    -- "Charge for multiplier, reference, rate"
    ∷ (charge_of 10 100 1_000 gives 100)
    ∷ (charge_of 10 102 1_000 gives 102)
    ∷ (charge_of 1 101 1 gives 1)
    -- "Settlement: 3 at 102 and 2 at 103, tick 1, gives 102; no trade, 99, 103, reference 105 gives 103; no sell side,
    -- reference 105, gives 105."
    ∷ (price_from 1 100 (trade 3 102 ∷ trade 2 103 ∷ []) [] [] gives 102)
    ∷ (price_from 1 105 [] (order 99 1 ∷ []) (order 103 1 ∷ []) gives 103)
    ∷ (price_from 1 105 [] (order 99 1 ∷ []) [] gives 105)
    -- "Sells 7 at 110, 5 at 111, buy limit 111: fillable 12; limit 110: 7."
    ∷ (fillable (limit_buy 111) sells gives 12)
    ∷ (fillable (limit_buy 110) sells gives 7)
    ∷ []

-- what each row computes is what it gives
unfoldable pub all_right : List Row → Bool
all_right [] = true
all_right ((computed gives expected) ∷ rows) = eqb computed expected && all_right rows

pub examples : all_right table ≡ true
unfolding all_right table order trade limit_buy sells middle charge_of price_from weighted_price quoted_price traded_value traded_lots fillable lots_where sum_of meets
examples = refl
