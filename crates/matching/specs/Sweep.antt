-- What a sweep asks for, and what it leaves, for its contract. Assumes nothing.
use Rattle.std.specs.Prelude.{List, ◌++◌, ◌≡◌, ℕ, ◌+◌, ◌*◌, ◌<◌, ◌≤◌, length, take, get_or}
use Rattle.areas.specs.Records.{store}
use Rattle.rules.specs.Bounds.{max_contracts, max_accounts, max_lots}
use Rattle.rules.specs.Exchange.{no_order}
use Rattle.rules.specs.Holdings.{book_trades}
use Rattle.rules.specs.Matching.{Swept, sweep, traded_lots, last_price}
use Rattle.rules.specs.Memory.{queue_in, put_queue, trade_words, trade_stride, first_word}
use Rattle.rules.specs.declared.Account.{Account}
use Rattle.rules.specs.declared.Taker.{Taker}
use Rattle.holdings.specs.Bounds.{HeldWithin, held_most}
use Rattle.prices.specs.Methods.{HasTick}
use Rattle.matching.specs.declared.sweep.Filled.{Filled}

-- the arriving order's account and those of the queue's orders are in use, and no account in use holds more than b lots of the
-- contract on either side
pub record SweepParties (b : ℕ) (t : Taker) (held : List Account) (queues : List ℕ) (count : ℕ) : Type 0 where
  pub used : ℕ
  pub few : used ≤ max_accounts
  pub taker : t.account < used
  pub resting : (i : ℕ) → i < count → (get_or (queue_in queues t.contract count) i no_order).account < used
  pub holdings : HeldWithin b used t.contract held

-- a contract that exists, with a tick where its method rounds to one, room for the queue and for the trades, and accounts whose
-- holdings are not near their width
pub record SweepReady
    (t : Taker) (lots last : ℕ) (held : List Account) (queues : List ℕ) (count : ℕ) (area : List ℕ) (before : ℕ) : Type 0 where
  pub contract : t.contract < max_contracts
  pub method : HasTick t.method
  pub size : lots ≤ max_lots
  pub queue : first_word t.contract count ≤ length queues
  pub room : trade_stride * (before + length (sweep t lots last (queue_in queues t.contract count)).trades) ≤ length area
  pub parties : SweepParties held_most t held queues count

-- the answer, and both areas: the trades at the next free places, the rest of the queue behind its filled orders
pub record FilledIs
    (s : Swept) (queues : List ℕ) (c count : ℕ) (area : List ℕ) (before last₀ : ℕ) (held : List Account)
    (r : Filled) (queues' area' : List ℕ) : Type 0 where
  pub traded : r.traded ≡ traded_lots s.trades
  pub filled : r.filled + length s.rest ≡ count
  pub made : r.made ≡ before + length s.trades
  pub last : r.last ≡ last_price last₀ s.trades
  pub accounts : r.accounts ≡ book_trades held s.trades
  pub trades : area' ≡ store trade_words area (trade_stride * before) s.trades
  pub queue : queues' ≡ put_queue queues c count (take r.filled (queue_in queues c count) ++ s.rest)
