-- The parts of a state in memory that a single test of the audit is about, so that its promise can cite the rule it tests.
-- Assumes nothing.
use Rattle.std.specs.Prelude.{Bool, true, ◌&&◌, List, [], ◌≡◌, ℕ, ◌+◌, ◌*◌, ◌<◌, ◌≤◌, length, get_or, replicate}
use Rattle.laws.specs.Tabulate.{tabulate}
use Rattle.rules.specs.Bounds.{max_accounts, max_contracts, max_lots, max_resting}
use Rattle.rules.specs.Exchange.{Exchange, Listing, no_account, no_contract, resting}
use Rattle.rules.specs.Memory.{counts_in_range, listing_in, memory, queue_stride}
use Rattle.rules.specs.WellFormed.{contract_in_range, queues_sorted, orders_in_range}
use Rattle.rules.specs.declared.Account.{Account}
use Rattle.rules.specs.declared.Contract.{Contract}
use Rattle.rules.specs.declared.Order.{Order}
use Rattle.rules.specs.declared.State.{State}
use Rattle.rules.specs.declared.Trade.{Trade}

-- a contract in use with its queues: the trade area plays no part
abbrev pub listing : State → List ℕ → List ℕ → ℕ → Listing
listing state buys sells c = listing_in (memory state buys sells []) c

-- what the rules say of the terms, the queues and the orders of all contracts, said of one contract: the audit walks over each
-- contract once
unfoldable pub listing_in_range : ℕ → ℕ → ℕ → Listing → Bool
listing_in_range accounts next nextstamp l = contract_in_range l.contract && queues_sorted l && orders_in_range accounts next nextstamp l

-- counts within their ranges, and room for the queues of the contracts in use: what reading a queue asks for
pub record QueuesReady (s : State) (buys sells : List ℕ) : Type 0 where
  pub counts : counts_in_range s ≡ true
  pub buy_room : queue_stride * s.contractcount ≤ length buys
  pub sell_room : queue_stride * s.contractcount ≤ length sells

-- an order of an account in use, with a quote mark of 0 or 1
pub record Markable (accounts : ℕ) (o : Order) : Type 0 where
  pub account : o.account < accounts
  pub quote : o.quote ≤ 1

-- an order of an account that there may be, open or close, of no more lots than an order has
pub record Summable (o : Order) : Type 0 where
  pub account : o.account < max_accounts
  pub close : o.close ≤ 1
  pub lots : o.lots ≤ max_lots

-- the resting lots of a queue by account, each account's opens before its closes
pub record Summed (queue : List Order) (lots : List ℕ) : Type 0 where
  pub sums : (a close : ℕ) → a < max_accounts → close ≤ 1 → get_or lots (2 * a + close) 0 ≡ resting close a queue

-- what a recorded trade is tested against: the contracts, the numbers of accounts and contracts, the next order number
unfoldable pub tested : List Contract → ℕ → ℕ → ℕ → Exchange
tested contracts n accounts next =
    record {
      listings = tabulate n (λ c. record { contract = get_or contracts c no_contract; buys = []; sells = [] });
      accounts = replicate accounts no_account;
      trades = [];
      next = next;
      nextstamp = 1;
      settlements = 0;
    }

-- accounts and a day's trades alone, for the replay
abbrev pub replayed : List Account → List Trade → Exchange
replayed accounts trades = record { listings = []; accounts = accounts; trades = trades; next = 0; nextstamp = 1; settlements = 0 }

-- all that the queues of all contracts hold
abbrev pub max_listed : ℕ
max_listed = 2 * max_resting * max_contracts
