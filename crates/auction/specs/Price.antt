-- A price with its volume and surplus, as the code carries them; what the search among the resting prices gives. Assumes nothing.
use Rattle.std.specs.Prelude.{Bool, List, [], ◌∷◌, ℕ, ◌≤◌, ltb, length}
use Rattle.rules.specs.Auction.{apart, best_from, better, chosen_price, larger, prices, resting_prices, smaller, surplus, volume}
use Rattle.rules.specs.Bounds.{max_resting}
use Rattle.rules.specs.declared.Order.{Order}
use Rattle.auction.specs.declared.price.Level.{Level}

-- two queues of at most 64 orders
pub record FewOrders (buys sells : List Order) : Type 0 where
  pub few_buys : length buys ≤ max_resting
  pub few_sells : length sells ≤ max_resting

abbrev pub level_at : List Order → List Order → ℕ → Level
level_at buys sells price = record { price = price; volume = volume buys sells price; surplus = surplus buys sells price }

-- the four steps on two prices with their volumes and surpluses
unfoldable pub preferred : ℕ → Level → Level → Bool
preferred last level other =
    larger level.volume other.volume
    (smaller level.surplus other.surplus
    (smaller (apart level.price last) (apart other.price last)
    (ltb other.price level.price)))

-- the best of a price and those of a queue
abbrev pub best_level : ℕ → List Order → List Order → ℕ → List Order → Level
best_level last buys sells price queue = level_at buys sells (best_from (better last buys sells) price (prices queue))

-- the first of the resting prices, 0 where there is none
unfoldable pub head_price : List ℕ → ℕ
head_price [] = 0
head_price (p ∷ ps) = p

abbrev pub first_price : List Order → List Order → ℕ
first_price buys sells = head_price (resting_prices buys sells)

abbrev pub chosen_level : ℕ → List Order → List Order → Level
chosen_level last buys sells = level_at buys sells (chosen_price last buys sells)
