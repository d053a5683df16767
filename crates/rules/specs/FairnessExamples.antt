-- A case for each of laws 8 to 13 (Fairness.antt, AuctionFairness.antt) in which it bites. One table, one statement, as in Examples.antt. Assumes nothing.
use Rattle.std.specs.Prelude.{Bool, true, false, List, [], ◌∷◌, ◌≡◌, refl, ℕ, ◌+◌}
use Rattle.std.proofs.Common.{arith}
use Rattle.laws.specs.Choice.{pick, all_of}
use Rattle.laws.specs.Sums.{sum_of}
use Rattle.rules.specs.Auction.{Matched, auction_match, best_from, best_of, better, chosen_price, lots_reaching, match_at, match_in, prices, resting_prices, surplus, trade_at, volume}
use Rattle.rules.specs.AuctionFairness.{left_on, lots_allowed, one_of}
use Rattle.rules.specs.Examples.{Row, ◌gives◌, all_right}
use Rattle.rules.specs.Exchange.{best_price, lots_where}
use Rattle.rules.specs.Fairness.{BetweenSellAndBuy, account_on, is_gone, all_lots, lots_numbered, lots_traded, order_on, trade_of}
use Rattle.rules.specs.Matching.{Entered, Swept, average, enter, fillable, meets, middle, paired_price, remainder, rest_in, rest_lots, rested_lots, stays, sweep, trade_price, trade_with, traded_lots}
use Rattle.rules.specs.declared.Order.{Order}
use Rattle.rules.specs.declared.PairingMethod.{PairingMethod}
use Rattle.rules.specs.declared.PairingMethod.TheVariants.{Middle, Average, FirstIn}
use Rattle.rules.specs.declared.PriceCondition.{PriceCondition}
use Rattle.rules.specs.declared.PriceCondition.TheVariants.{Limit, Market, Best}
use Rattle.rules.specs.declared.Taker.{Taker}

order : ℕ → ℕ → ℕ → ℕ → Order
order number account price lots = record { price = price; number = number; account = account; lots = lots; close = 0; stamp = number; quote = 0 }

-- ---- an arriving order. Sells 7 and 5 at 110, 4 at 111, 3 at 112; the second is the buyer's own. The last price is 116.

sells : List Order
sells = order 1 1 110 7 ∷ order 2 0 110 5 ∷ order 3 1 111 4 ∷ order 4 1 112 3 ∷ []

buyer : PairingMethod → PriceCondition → Taker
buyer method condition =
    record { account = 0; contract = 0; sell = false; close = 0; number = 9; stamp = 9; quote = 0; condition = condition; method = method; best = 110 }

swept : PairingMethod → PriceCondition → ℕ → Swept
swept method condition lots = sweep (buyer method condition) lots 116 sells

-- a buy with a limit of 111, good for day or not
entered : Bool → ℕ → Entered
entered day lots = enter (buyer Middle (Limit 111)) lots 111 day 116 [] sells

price : Swept → ℕ → ℕ
price s i = (trade_of s.trades i).price

holds : Bool → ℕ
holds test = pick test 1 0

-- ---- an auction: buys 9 at 112 and 3 at 109, sells 7 at 110 and 5 at 112. The last price is 110.

buys : List Order
buys = order 1 0 112 9 ∷ order 2 0 109 3 ∷ []

offers : List Order
offers = order 3 1 110 7 ∷ order 4 1 112 5 ∷ []

matched : Matched
matched = auction_match 0 110 buys offers

-- buys of 10 at 100 and at 90, sells of 10 at 80 and at 95
two_buys : List Order
two_buys = order 1 0 100 10 ∷ order 2 0 90 10 ∷ []

two_sells : List Order
two_sells = order 3 1 80 10 ∷ order 4 1 95 10 ∷ []

pub table : List Row
table =
    -- 8: 9 lots fill order 1, which is first at the best price, then take 2 of order 2, though it is the buyer's own; none is left for order 3
    (lots_traded true 1 (swept Middle (Limit 112) 9).trades gives 7)
    ∷ (lots_traded true 2 (swept Middle (Limit 112) 9).trades gives 2)
    ∷ (lots_traded true 3 (swept Middle (Limit 112) 9).trades gives 0)
    ∷ (holds (is_gone 1 (swept Middle (Limit 112) 9).rest) gives 1)
    ∷ (holds (is_gone 2 (swept Middle (Limit 112) 9).rest) gives 0)
    -- 9: of 20 lots with a limit of 111 4 are left over, and no order of the book is a counterpart; 112 is left
    ∷ (traded_lots (swept Middle (Limit 111) 20).trades gives 16)
    ∷ (fillable (buyer Middle (Limit 111)) (swept Middle (Limit 111) 20).rest gives 0)
    ∷ (all_lots (swept Middle (Limit 111) 20).rest gives 3)
    -- not traded through: 13 lots reach 111, and nothing at 110 is left
    ∷ (best_price (swept Middle Market 13).rest gives 111)
    -- 10: a limit of 112 meets 110: whatever the last price, 116, the buyer pays 112 at most; half the sum is 111; first in is 110
    ∷ (price (swept Middle (Limit 112) 9) 0 gives 112)
    ∷ (price (swept (Average 1) (Limit 112) 9) 0 gives 111)
    ∷ (price (swept FirstIn (Limit 112) 9) 0 gives 110)
    -- trade 0 is with order 1, of account 1; the buyer is account 0
    ∷ (order_on true (trade_of (swept Middle (Limit 112) 9).trades 0) gives 1)
    ∷ (account_on true (trade_of (swept Middle (Limit 112) 9).trades 0) gives 1)
    ∷ (account_on false (trade_of (swept Middle (Limit 112) 9).trades 0) gives 0)
    -- market and best at the resting price, whatever the last; best at 110 alone, though 111 is next
    ∷ (price (swept Middle Market 13) 0 gives 110)
    ∷ (price (swept Middle Market 13) 2 gives 111)
    ∷ (traded_lots (swept Middle Best 13).trades gives 12)
    ∷ (price (swept Middle Best 13) 1 gives 110)
    -- 11: order 2 had 5 lots, of which 2 are traded and 3 left; all 19 are traded or left
    ∷ (lots_numbered 2 (swept Middle (Limit 112) 9).rest gives 3)
    ∷ (traded_lots (swept Middle (Limit 112) 9).trades + all_lots (swept Middle (Limit 112) 9).rest gives 19)
    -- of 20 lots good for day 16 are traded and 4 rest; otherwise none rests
    ∷ ((entered true 20).rested gives 4)
    ∷ ((entered false 20).rested gives 0)
    -- 12: 112 has the largest volume, though 110 has the smaller surplus and is the last price; 111, at which none rests, has 7 too
    ∷ (chosen_price 110 buys offers gives 112)
    ∷ (volume buys offers 112 gives 9)
    ∷ (surplus buys offers 112 gives 3)
    ∷ (volume buys offers 110 gives 7)
    ∷ (surplus buys offers 110 gives 2)
    ∷ (volume buys offers 111 gives 7)
    -- the resting prices are 112, 109 and 110
    ∷ (holds (one_of (resting_prices buys offers) 112) gives 1)
    ∷ (holds (one_of (resting_prices buys offers) 110) gives 1)
    ∷ (holds (one_of (resting_prices buys offers) 111) gives 0)
    -- whichever order they are looked at
    ∷ (best_of (better 110 buys offers) (109 ∷ 110 ∷ 112 ∷ []) gives 112)
    ∷ (best_of (better 110 buys offers) (112 ∷ 110 ∷ 109 ∷ []) gives 112)
    -- 13: 9 lots trade, all at 112; at 110 it would be 7. Sell 3 is filled before sell 4 trades, and buy 2, below the price, trades nothing
    ∷ (traded_lots matched.trades gives 9)
    ∷ ((trade_of matched.trades 0).price gives 112)
    ∷ ((trade_of matched.trades 1).price gives 112)
    ∷ (lots_traded true 3 matched.trades gives 7)
    ∷ (lots_traded true 4 matched.trades gives 2)
    ∷ (lots_traded false 2 matched.trades gives 0)
    ∷ (all_lots matched.sells gives 3)
    -- at 112 buy 1 may trade its 9 lots and buy 2 none; it is what is left of the buys, and 3 lots of sell 4 of the sells
    ∷ (lots_allowed false 112 1 buys gives 9)
    ∷ (lots_allowed false 112 2 buys gives 0)
    ∷ (best_price (left_on false matched) gives 109)
    ∷ (best_price (left_on true matched) gives 112)
    -- the most at one price: 10 lots, though 20 could trade at two prices, 80 to 90 and 95 to 100
    ∷ (traded_lots (auction_match 0 90 two_buys two_sells).trades gives 10)
    ∷ []

pub fairness_examples : all_right table ≡ true
unfolding all_right table order sells buyer swept entered price holds buys offers matched two_buys two_sells one_of all_of sum_of lots_where best_price average enter fillable meets middle paired_price remainder rest_in rest_lots rested_lots stays sweep trade_price trade_with traded_lots prices lots_reaching volume surplus better best_from best_of chosen_price trade_at match_in match_at auction_match
fairness_examples = refl

-- 10, at its ends: a buy with a limit of 112 that meets a sell at 110 may trade at 112 and at 110
pub at_the_limit : BetweenSellAndBuy false 112 110 112
at_the_limit = record { sell_price = omega arith; buy_price = omega arith }

pub at_the_resting_price : BetweenSellAndBuy false 112 110 110
at_the_resting_price = record { sell_price = omega arith; buy_price = omega arith }
