-- "Numbers that bound everything": the limits of document 01, a contract's terms, its day's low and high. Assumes nothing.
use Rattle.std.specs.Prelude.{Bool, ◌&&◌, ℕ, ◌+◌, ◌-◌, ◌*◌, ◌/◌, ◌%◌, ◌^◌, min, max, leb, eqb}
use Rattle.rules.specs.declared.Contract.{Contract}

-- "Contracts 1 to 4, accounts 1 to 32"
abbrev pub max_contracts : ℕ
max_contracts = 4

abbrev pub max_accounts : ℕ
max_accounts = 32

-- "Resting orders: 64 on each side of a contract. Trades: 1,024 a day. Settlements: 250 a run."
abbrev pub max_resting : ℕ
max_resting = 64

abbrev pub max_trades : ℕ
max_trades = 1_024

abbrev pub max_settlements : ℕ
max_settlements = 250

-- no rule: up to so many recorded trades there is room for one with each order of a queue
abbrev pub trades_with_room : ℕ
trades_with_room = max_trades - max_resting

-- "Order numbers: 1 to 999,999 each day": the next number is 1,000,000 when they are used up. Of time stamps too: "Stamps end at
-- 999,999 a day." (document 02, ticket 8)
abbrev pub numbers_end : ℕ
numbers_end = 1_000_000

-- "Lots per order: 1 to 1,000. Prices: 1 to 1,000,000."
abbrev pub max_lots : ℕ
max_lots = 1_000

abbrev pub max_price : ℕ
max_price = 1_000_000

-- the largest opening balance and the largest amount of one payment
abbrev pub max_balance : ℕ
max_balance = 10 ^ 18

abbrev pub max_amount : ℕ
max_amount = 10 ^ 15

-- what a day's profit or loss may add to a balance
abbrev pub max_day_profit : ℕ
max_day_profit = 3 * 10 ^ 15

-- no rule: what every balance of a well-formed state is within, for 250 settlements of 3 x 10^15 add less than 10^18
abbrev pub balance_most : ℕ
balance_most = 2 * max_balance

-- "A contract has multiplier 1 to 1,000, tick 1 to 1,000, .."
abbrev pub max_multiplier : ℕ
max_multiplier = 1_000

abbrev pub max_tick : ℕ
max_tick = 1_000

-- ".. holding limit 1 to 100,000, margin rate 1 to 10,000 in ten-thousandths."
abbrev pub max_limit : ℕ
max_limit = 100_000

abbrev pub max_rate : ℕ
max_rate = 10_000

abbrev pub rate_parts : ℕ
rate_parts = 10_000

-- "a pairing method: 0 middle price, 1 average, 2 first-in price"
abbrev pub max_method : ℕ
max_method = 2

-- "0 pre-open, 1 continuous, 2 no trading, 3 closed", and "contract state 4, auction (flags above 4 are unknown)" (document 02,
-- ticket 4). What the papers call a contract's state is its `phase` here: `State` is the exchange's.
abbrev pub pre_open : ℕ
pre_open = 0

abbrev pub continuous : ℕ
continuous = 1

abbrev pub no_trading : ℕ
no_trading = 2

abbrev pub closed : ℕ
closed = 3

abbrev pub auction : ℕ
auction = 4

abbrev pub max_phase : ℕ
max_phase = auction

abbrev pub phase_known : ℕ → Bool
phase_known phase = leb phase max_phase

abbrev pub in_auction : Contract → Bool
in_auction c = eqb c.phase auction

abbrev pub within : ℕ → ℕ → ℕ → Bool
within low high n = leb low n && leb n high

-- n is a multiple of the tick
unfoldable pub on_tick : ℕ → ℕ → Bool
on_tick tick n = eqb (n % tick) 0

-- "reference and band (each a multiple of the tick, from one tick to 1,000,000)"
unfoldable pub tick_multiple : ℕ → ℕ → Bool
tick_multiple tick n = on_tick tick n && within tick max_price n

-- "A contract has multiplier 1 to 1,000, tick 1 to 1,000, reference and band .., holding limit 1 to 100,000, margin rate 1
-- to 10,000 in ten-thousandths." Its pairing method is 0, 1 or 2: "20 for a method above 2; 21 for a state holding one"
-- (document 02, ticket 6).
unfoldable pub terms_in_range : Contract → Bool
terms_in_range c =
    within 1 max_multiplier c.multiplier
    && within 1 max_tick c.tick
    && tick_multiple c.tick c.reference
    && tick_multiple c.tick c.band
    && within 1 max_limit c.limit
    && within 1 max_rate c.rate
    && leb c.method max_method

-- "Its day's low is the larger of one tick and reference minus band." (A difference below zero is 0 here, and one tick is
-- larger than either.)
unfoldable pub day_low : Contract → ℕ
day_low c = max c.tick (c.reference - c.band)

-- "Its day's high is the smaller of reference plus band and the largest tick multiple within 1,000,000."
unfoldable pub day_high : Contract → ℕ
day_high c = min (c.reference + c.band) (max_price / c.tick * c.tick)

-- "Both ends may be traded": a price allowed today is a multiple of the tick from low to high
unfoldable pub allowed_today : Contract → ℕ → Bool
allowed_today c price = on_tick c.tick price && within (day_low c) (day_high c) price
