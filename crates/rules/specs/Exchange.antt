-- "The state": what the rules work on. Every list here has just the places in use, so room beyond a count can affect no
-- answer; Memory.antt says where these lists lie. Assumes nothing.
use Rattle.std.specs.Prelude.{Bool, ◌&&◌, ◌||◌, List, [], ◌∷◌, ℕ, ◌-◌, ltb, eqb, pos, length, get_or}
use Rattle.laws.specs.Choice.{pick}
use Rattle.laws.specs.Sums.{sum_of}
use Rattle.rules.specs.Bounds.{pre_open}
use Rattle.rules.specs.declared.Account.{Account}
use Rattle.rules.specs.declared.Contract.{Contract}
use Rattle.rules.specs.declared.Holding.{Holding}
use Rattle.rules.specs.declared.Order.{Order}
use Rattle.rules.specs.declared.Trade.{Trade}

-- a contract with its two queues, best price first
pub record Listing : Type 0 where
  pub contract : Contract
  pub buys : List Order
  pub sells : List Order

-- "The state keeps, for each account and each contract, long and short holdings at the start of the day and now;
-- balances; queues; the day's trades; each contract's state, reference and last price; the next order number; the count of
-- settlements." Since ticket 8 of document 02 the next time stamp too.
pub record Exchange : Type 0 where
  pub listings : List Listing
  pub accounts : List Account
  pub trades : List Trade
  pub next : ℕ
  pub nextstamp : ℕ
  pub settlements : ℕ

-- ---- a place of a list, and what stands past its end

abbrev pub no_contract : Contract
no_contract = record { multiplier = 0; tick = 0; reference = 0; band = 0; limit = 0; rate = 0; method = 0; phase = pre_open; last = 0 }

abbrev pub no_holding : Holding
no_holding = record { long = 0; short = 0; startlong = 0; startshort = 0 }

abbrev pub no_account : Account
no_account = record { balance = pos 0; maker = 0; holdings = [] }

abbrev pub no_listing : Listing
no_listing = record { contract = no_contract; buys = []; sells = [] }

-- an order's and a trade's place that is not in use: all zero
abbrev pub no_order : Order
no_order = record { price = 0; number = 0; account = 0; lots = 0; close = 0; stamp = 0; quote = 0 }

abbrev pub no_trade : Trade
no_trade = record { contract = 0; price = 0; lots = 0; buyorder = 0; sellorder = 0; buyer = 0; seller = 0; buyclose = 0; sellclose = 0 }

-- "both numbered from 1": the place of a number, and a number that no place has
abbrev pub place_of : ℕ → ℕ
place_of number = number - 1

-- a number that none of so many places has: 0, or above the count
abbrev pub is_absent : ℕ → ℕ → Bool
is_absent number count = eqb number 0 || ltb count number

unfoldable pub absent : {A : Type 0} → ℕ → List A → Bool
absent number places = is_absent number (length places)

-- the listing at a place, the account at a place, what it holds in a contract
unfoldable pub listing_at : Exchange → ℕ → Listing
listing_at x c = get_or x.listings c no_listing

unfoldable pub account_at : List Account → ℕ → Account
account_at accounts a = get_or accounts a no_account

unfoldable pub holding_at : List Account → ℕ → ℕ → Holding
holding_at accounts a c = get_or (account_at accounts a).holdings c no_holding

-- the same of a whole state: the terms of the contract at a place, the account at a place, what it holds in a contract
abbrev pub contract_at : Exchange → ℕ → Contract
contract_at x c = (listing_at x c).contract

abbrev pub holder_at : Exchange → ℕ → Account
holder_at x a = account_at x.accounts a

abbrev pub held_at : Exchange → ℕ → ℕ → Holding
held_at x a c = holding_at x.accounts a c

-- and by the numbers that a command has: a contract's listing and its state, an account, what it holds in a contract
abbrev pub listing_named : Exchange → ℕ → Listing
listing_named x contract = listing_at x (place_of contract)

abbrev pub phase_now : Exchange → ℕ → ℕ
phase_now x contract = (contract_at x (place_of contract)).phase

abbrev pub holder_of : Exchange → ℕ → Account
holder_of x account = holder_at x (place_of account)

abbrev pub holding_of : Exchange → ℕ → ℕ → Holding
holding_of x account contract = held_at x (place_of account) (place_of contract)

-- ---- sides

-- a side's own queue, and the one it trades with
abbrev pub own : Bool → Listing → List Order
own sell l = pick sell l.sells l.buys

abbrev pub opposite : Bool → Listing → List Order
opposite sell l = pick sell l.buys l.sells

-- a listing with new queues on a side and opposite it
abbrev pub with_queues : Bool → Contract → List Order → List Order → Listing
with_queues sell c own' opposite' = record { contract = c; buys = pick sell opposite' own'; sells = pick sell own' opposite' }

-- the best price of a queue, 0 where it is empty
unfoldable pub best_price : List Order → ℕ
best_price [] = 0
best_price (o ∷ os) = o.price

-- a price stands strictly behind another on this side
abbrev pub worse : Bool → ℕ → ℕ → Bool
worse sell price other = pick sell (ltb other price) (ltb price other)

-- the lots of the orders that satisfy a test
unfoldable pub lots_where : (Order → Bool) → List Order → ℕ
lots_where test queue = sum_of (λ o. pick (test o) o.lots 0) queue

-- an account's resting opens (close 0) or resting closes (close 1) in a queue
unfoldable pub resting : ℕ → ℕ → List Order → ℕ
resting close account queue = lots_where (λ o. eqb o.account account && eqb o.close close) queue

abbrev pub resting_opens : ℕ → List Order → ℕ
resting_opens account queue = resting 0 account queue

abbrev pub resting_closes : ℕ → List Order → ℕ
resting_closes account queue = resting 1 account queue
