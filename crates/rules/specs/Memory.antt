-- How the state lies in memory: the declared State and the three areas lent with it; what room beyond a count is; the
-- counts and the room that a well-formed state needs; the whole step on it. Assumes nothing.
use Rattle.std.specs.Prelude.{Bool, true, ◌&&◌, List, [], ◌∷◌, ◌++◌, map, ◌≡◌, ℕ, zero, suc, ◌*◌, ◌<◌, ◌+◌, leb, length, get_or, take, drop}
use Rattle.laws.specs.Choice.{pick, all}
use Rattle.laws.specs.Tabulate.{tabulate}
use Rattle.areas.specs.Lists.{padded}
use Rattle.areas.specs.Records.{records, store}
use Rattle.rules.specs.Bounds.{within, max_contracts, max_accounts, max_resting, max_trades}
use Rattle.rules.specs.Exchange.{Exchange, Listing, listing_at, account_at, no_contract, no_order, no_trade}
use Rattle.rules.specs.Kinds.{Decision, refused, decide}
use Rattle.rules.specs.WellFormed.{well_formed_contents}
use Rattle.rules.specs.declared.Account.{Account}
use Rattle.rules.specs.declared.Answer.{Answer}
use Rattle.rules.specs.declared.Command.{Command}
use Rattle.rules.specs.declared.Order.{Order}
use Rattle.rules.specs.declared.State.{State}
use Rattle.rules.specs.declared.Trade.{Trade}

-- ---- the areas

-- a queue area holds seven words for each order, 64 places for each contract
abbrev pub order_stride : ℕ
order_stride = 7

abbrev pub queue_stride : ℕ
queue_stride = max_resting * order_stride

abbrev pub queues_words : ℕ
queues_words = queue_stride * max_contracts

-- the first word of the order at place i of contract c's queue
abbrev pub first_word : ℕ → ℕ → ℕ
first_word c i = queue_stride * c + order_stride * i

abbrev pub order_words : Order → List ℕ
order_words o = o.price ∷ o.number ∷ o.account ∷ o.lots ∷ o.close ∷ o.stamp ∷ o.quote ∷ []

abbrev pub order_from : List ℕ → Order
order_from ws =
    record {
      price = get_or ws 0 0;
      number = get_or ws 1 0;
      account = get_or ws 2 0;
      lots = get_or ws 3 0;
      close = get_or ws 4 0;
      stamp = get_or ws 5 0;
      quote = get_or ws 6 0;
    }

-- one word of an order: a field, named by its place among the words
abbrev pub word_of : ℕ → Order → ℕ
word_of word o = get_or (order_words o) word 0

abbrev pub lots_word : ℕ
lots_word = 3

abbrev pub quote_word : ℕ
quote_word = 6

-- the trade area holds nine words for each trade of the day
abbrev pub trade_stride : ℕ
trade_stride = 9

abbrev pub trades_words : ℕ
trades_words = trade_stride * max_trades

abbrev pub trade_words : Trade → List ℕ
trade_words t =
    t.contract ∷ t.price ∷ t.lots ∷ t.buyorder ∷ t.sellorder ∷ t.buyer ∷ t.seller ∷ t.buyclose ∷ t.sellclose ∷ []

abbrev pub trade_from : List ℕ → Trade
trade_from ws =
    record {
      contract = get_or ws 0 0;
      price = get_or ws 1 0;
      lots = get_or ws 2 0;
      buyorder = get_or ws 3 0;
      sellorder = get_or ws 4 0;
      buyer = get_or ws 5 0;
      seller = get_or ws 6 0;
      buyclose = get_or ws 7 0;
      sellclose = get_or ws 8 0;
    }

-- the first n orders of contract c's queue, and the first n trades
unfoldable pub queue_in : List ℕ → ℕ → ℕ → List Order
queue_in area c n = records order_stride order_from area (queue_stride * c) n

unfoldable pub recorded_trades : List ℕ → ℕ → List Trade
recorded_trades area n = records trade_stride trade_from area 0 n

-- ---- the state in memory

pub record Memory : Type 0 where
  pub state : State
  pub buys : List ℕ
  pub sells : List ℕ
  pub trades : List ℕ

-- a state with the areas lent with it
abbrev pub memory : State → List ℕ → List ℕ → List ℕ → Memory
memory state buys sells trades = record { state = state; buys = buys; sells = sells; trades = trades }

-- the arrays have the places of their types: so it is with every state of the engine, and a proof may need it said
pub record Declared (s : State) : Type 0 where
  pub contracts : length s.contracts ≡ max_contracts
  pub accounts : length s.accounts ≡ max_accounts
  pub buycounts : length s.buycounts ≡ max_contracts
  pub sellcounts : length s.sellcounts ≡ max_contracts
  pub holdings : (a : ℕ) → a < max_accounts → length (account_at s.accounts a).holdings ≡ max_contracts

-- a contract in use with its queues
unfoldable pub listing_in : Memory → ℕ → Listing
listing_in m c =
    record {
      contract = get_or m.state.contracts c no_contract;
      buys = queue_in m.buys c (get_or m.state.buycounts c 0);
      sells = queue_in m.sells c (get_or m.state.sellcounts c 0);
    }

-- an account with its holdings in the contracts in use
abbrev pub in_use : ℕ → Account → Account
in_use contracts a = record { balance = a.balance; maker = a.maker; holdings = take contracts a.holdings }

abbrev pub used : ℕ → ℕ → List Account → List Account
used contracts n accounts = map (in_use contracts) (take n accounts)

-- what of the memory is in use: all that an answer may depend on
unfoldable pub exchange_of : Memory → Exchange
exchange_of m =
    record {
      listings = tabulate m.state.contractcount (listing_in m);
      accounts = used m.state.contractcount m.state.accountcount m.state.accounts;
      trades = recorded_trades m.trades m.state.tradecount;
      next = m.state.next;
      nextstamp = m.state.nextstamp;
      settlements = m.state.settlements;
    }

-- ---- "Room beyond a count .. is unaltered, except that places newly in use are written, and places no longer in use are
-- set to zero." What that leaves at each place is one law: `put_by_place` (invariants, proofs/StepByPlace, in the words of
-- specs/ByPlace).

-- contract c's queue written over one of `before` orders
unfoldable pub put_queue : List ℕ → ℕ → ℕ → List Order → List ℕ
put_queue area c before queue = store order_words area (queue_stride * c) (padded before no_order queue)

-- the queues of the contracts below c, each over one of as many orders as its count says
unfoldable pub put_queues : List ℕ → List ℕ → (ℕ → List Order) → ℕ → List ℕ
put_queues area counts queues zero = area
put_queues area counts queues (suc c) = put_queue (put_queues area counts queues c) c (get_or counts c 0) (queues c)

-- the day's trades written over `before` of them
unfoldable pub put_trades : List ℕ → ℕ → List Trade → List ℕ
put_trades area before trades = store trade_words area 0 (padded before no_trade trades)

-- values in the first places of a list, the rest as it was
abbrev pub put_first : {A : Type 0} → List A → List A → List A
put_first values room = values ++ drop (length values) room

-- an account's values, its holdings in contracts past the count as they were
abbrev pub put_account : Account → Account → Account
put_account a room = record { balance = a.balance; maker = a.maker; holdings = put_first a.holdings room.holdings }

unfoldable pub put_accounts : List Account → List Account → List Account
put_accounts [] rooms = rooms
put_accounts (a ∷ as') [] = []
put_accounts (a ∷ as') (room ∷ rooms) = put_account a room ∷ put_accounts as' rooms

unfoldable pub put_state : State → Exchange → State
put_state s x =
    record {
      contracts = put_first (map (λ l. l.contract) x.listings) s.contracts;
      accounts = put_accounts x.accounts s.accounts;
      buycounts = put_first (map (λ l. length l.buys) x.listings) s.buycounts;
      sellcounts = put_first (map (λ l. length l.sells) x.listings) s.sellcounts;
      contractcount = s.contractcount;
      accountcount = s.accountcount;
      tradecount = length x.trades;
      next = x.next;
      nextstamp = x.nextstamp;
      settlements = x.settlements;
    }

-- a state of the same contracts and accounts written into the memory
unfoldable pub put : Memory → Exchange → Memory
put m x =
    record {
      state = put_state m.state x;
      buys = put_queues m.buys m.state.buycounts (λ c. (listing_at x c).buys) m.state.contractcount;
      sells = put_queues m.sells m.state.sellcounts (λ c. (listing_at x c).sells) m.state.contractcount;
      trades = put_trades m.trades m.state.tradecount x.trades;
    }

-- ---- well formed: of the first clause what the memory itself tells, "counts .. keep the ranges above" and "each queue area
-- has room for 64 orders and the trade area for 1,024 trades", the queue areas for each contract in use. All else is
-- `well_formed_contents`, which stands apart: a saved state is read "room of areas aside" (02, ticket 10).

unfoldable pub counts_in_range : State → Bool
counts_in_range s =
    within 1 max_contracts s.contractcount
    && within 1 max_accounts s.accountcount
    && leb s.tradecount max_trades
    && all (λ c. leb (get_or s.buycounts c 0) max_resting) s.contractcount
    && all (λ c. leb (get_or s.sellcounts c 0) max_resting) s.contractcount

unfoldable pub has_room : Memory → Bool
has_room m =
    leb (queue_stride * m.state.contractcount) (length m.buys)
    && leb (queue_stride * m.state.contractcount) (length m.sells)
    && leb trades_words (length m.trades)

unfoldable pub well_formed_memory : Memory → Bool
well_formed_memory m = counts_in_range m.state && has_room m && well_formed_contents (exchange_of m)

-- a state whose arrays have the places of their types, well formed with its areas
pub record WellFormedState (state : State) (buys sells trades : List ℕ) : Type 0 where
  pub declared : Declared state
  pub formed : well_formed_memory (memory state buys sells trades) ≡ true

-- ---- the whole step: code 21 before all others, then the rules

-- after a command: its answer, and the memory that it leaves
pub record AfterCommand : Type 0 where
  pub answer : Answer
  pub memory : Memory

-- states of the same contracts and accounts, each written over the last
abbrev pub written : Memory → List Exchange → Memory
written m [] = m
written m (x ∷ xs) = written (put m x) xs

abbrev pub in_memory : Memory → Decision → AfterCommand
in_memory m d = record { answer = d.answer; memory = written m d.stages }

-- a well-formed state: what the rules decide, written into the memory
unfoldable pub step_in : Memory → Command → AfterCommand
step_in m command = in_memory m (decide (exchange_of m) command)

-- THE WHOLE STEP, on any state and any command
unfoldable pub respond : Memory → Command → AfterCommand
respond m command = pick (well_formed_memory m) (step_in m command) (in_memory m (refused 21))
