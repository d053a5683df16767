-- What stands where in a memory after a state was written over it, place by place: the words of the theorems `put_by_place`,
-- `step_by_place` and `by_place_whole` (proofs/StepByPlace, proofs/ByPlaceWhole). Assumes nothing.
use Rattle.std.specs.Prelude.{Bool, false, ◌&&◌, ◌||◌, List, [], ◌∷◌, ◌≡◌, ℕ, ◌+◌, ◌*◌, ◌<◌, ltb, length, get_or}
use Rattle.laws.specs.Choice.{pick}
use Rattle.rules.specs.Bounds.{max_resting}
use Rattle.rules.specs.Exchange.{Exchange, listing_at, account_at, holding_at, own, no_contract, no_order, no_trade}
use Rattle.rules.specs.Memory.{Memory, Declared, first_word, order_stride, trade_stride, trade_words, word_of}

-- "Room beyond a count .. is unaltered, except that places newly in use are written, and places no longer in use are set to
-- zero.": a word of a place that is in use now, or was before, or was not
abbrev pub by_place : Bool → Bool → ℕ → ℕ → ℕ
by_place now before word was = pick now word (pick before 0 was)

-- ---- the places of a state

-- place i of contract c's queue on a side is in use; trade i of the day was made; contract c and account a exist
abbrev pub order_in_use : Bool → ℕ → ℕ → Exchange → Bool
order_in_use sell c i x = ltb i (length (own sell (listing_at x c)))

abbrev pub trade_in_use : ℕ → Exchange → Bool
trade_in_use i x = ltb i (length x.trades)

abbrev pub contract_in_use : ℕ → Exchange → Bool
contract_in_use c x = ltb c (length x.listings)

abbrev pub account_in_use : ℕ → Exchange → Bool
account_in_use a x = ltb a (length x.accounts)

-- a place is in use in one of some states
abbrev pub in_one : (Exchange → Bool) → List Exchange → Bool
in_one test [] = false
in_one test (x ∷ xs) = test x || in_one test xs

-- ---- the areas and the arrays of counts, by side

abbrev pub area_of : Bool → Memory → List ℕ
area_of sell m = pick sell m.sells m.buys

abbrev pub counts_of : Bool → Memory → List ℕ
counts_of sell m = pick sell m.state.sellcounts m.state.buycounts

-- ---- m' holds x, and all else that is in it is m's or zero. The memory had held the states `held`: m's own, and those that stood
-- between where a command does its work in steps ("a place in use only between the steps is set to zero", 02, ticket 7)

pub record WrittenByPlace (m : Memory) (held : List Exchange) (x : Exchange) (m' : Memory) : Type 0 where
  -- the queue areas: each word is one of a place of a contract, 64 places to each, in use or not
  pub orders : (sell : Bool) (c i word : ℕ) → i < max_resting → word < order_stride →
      get_or (area_of sell m') (first_word c i + word) 0
      ≡ by_place (order_in_use sell c i x) (in_one (order_in_use sell c i) held) (word_of word (get_or (own sell (listing_at x c)) i no_order))
      (get_or (area_of sell m) (first_word c i + word) 0)
  -- the trade area
  pub trades : (i word : ℕ) → word < trade_stride →
      get_or m'.trades (trade_stride * i + word) 0
      ≡ by_place (trade_in_use i x) (in_one (trade_in_use i) held) (get_or (trade_words (get_or x.trades i no_trade)) word 0)
      (get_or m.trades (trade_stride * i + word) 0)
  -- the arrays by value: contracts and accounts neither come nor go, so of their places none is set to zero
  pub contracts : (c : ℕ) →
      get_or m'.state.contracts c no_contract ≡ pick (contract_in_use c x) (listing_at x c).contract (get_or m.state.contracts c no_contract)
  pub counts : (sell : Bool) (c : ℕ) →
      get_or (counts_of sell m') c 0 ≡ pick (contract_in_use c x) (length (own sell (listing_at x c))) (get_or (counts_of sell m) c 0)
  pub balances : (a : ℕ) →
      (account_at m'.state.accounts a).balance
      ≡ pick (account_in_use a x) (account_at x.accounts a).balance (account_at m.state.accounts a).balance
  pub makers : (a : ℕ) →
      (account_at m'.state.accounts a).maker ≡ pick (account_in_use a x) (account_at x.accounts a).maker (account_at m.state.accounts a).maker
  pub holdings : (a c : ℕ) →
      holding_at m'.state.accounts a c
      ≡ pick (account_in_use a x && contract_in_use c x) (holding_at x.accounts a c) (holding_at m.state.accounts a c)
  -- the numbers
  pub contractcount : m'.state.contractcount ≡ m.state.contractcount
  pub accountcount : m'.state.accountcount ≡ m.state.accountcount
  pub tradecount : m'.state.tradecount ≡ length x.trades
  pub next : m'.state.next ≡ x.next
  pub nextstamp : m'.state.nextstamp ≡ x.nextstamp
  pub settlements : m'.state.settlements ≡ x.settlements
  -- no area becomes longer or shorter, and no array
  pub room : (sell : Bool) → length (area_of sell m') ≡ length (area_of sell m)
  pub traderoom : length m'.trades ≡ length m.trades
  pub declared : Declared m'.state
