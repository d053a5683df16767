-- What the functions of this crate ask for and give back, for their contracts. Assumes nothing.
use Rattle.std.specs.Prelude.{true, List, [], ◌++◌, Result, Ok, Err, ◌≡◌, ℕ, ◌*◌, ◌<◌, ◌≤◌, ℤ, pos, length, get_or, eqb}
use Rattle.laws.specs.Choice.{pick}
use Rattle.laws.specs.Tabulate.{tabulate}
use Rattle.areas.specs.Lists.{over}
use Rattle.rules.specs.Answers.{first_of}
use Rattle.rules.specs.Bounds.{max_trades, max_contracts, max_price, max_multiplier, max_limit}
use Rattle.rules.specs.Codes.{code_in}
use Rattle.rules.specs.declared.codes.Code.{Code}
use Rattle.rules.specs.Exchange.{Exchange, place_of, contract_at, holding_at, no_contract, no_trade}
use Rattle.rules.specs.Memory.{Declared, Memory, exchange_of, recorded_trades, used, WellFormedState, memory, trade_stride}
use Rattle.rules.specs.Settlement.{settlement_price}
use Rattle.rules.specs.declared.Account.{Account}
use Rattle.rules.specs.declared.State.{State}
use Rattle.rules.specs.declared.Trade.{Trade}
use Rattle.dayprofit.specs.Day.{Priceable, SizedTrades}
use Rattle.settlement.specs.Settling.{AllPayable, AllPriceable, prices_due}
use Rattle.replaying.specs.Parts.{Booked}
use Rattle.sections.specs.Sections.{holdings_bytes, in_row, section}
use Rattle.clients.specs.Parts.{clients_with}
use Rattle.clients.specs.Clients.{Clients, client_account, client_exchange, leg_count, starts_add_up, max_clients, client_places}
use Rattle.statements.specs.Statement.{day_refusals, posted_refusals, profit_bytes, statement_code, statement_of, trades_bytes}

-- a state whose contracts can be priced, and whose accounts can be paid at those prices
pub record ProfitsReady (s : State) (buys sells area : List ℕ) : Type 0 where
  pub priceable : AllPriceable s buys sells area
  pub payable : AllPayable s area (prices_due s buys sells area)

-- ---- the statement's bytes, from what the code has worked out

abbrev pub book_bytes : List ℤ → List ℤ → ℕ → List ℕ
book_bytes closing holding clients = in_row clients (λ k. profit_bytes (get_or closing k (pos 0)) (get_or holding k (pos 0)))

abbrev pub told : List Trade → ℕ → List Account → List ℤ → List ℤ → ℕ → ℕ → List ℕ
told ts legs accounts closing holding clients contracts =
    section legs (trades_bytes ts)
    ++ (section (clients * contracts) (holdings_bytes accounts clients contracts) ++ section clients (book_bytes closing holding clients))

pub record Tellable (area : List ℕ) (count legs : ℕ) (accounts : List Account) (closing holding : List ℤ) (clients contracts : ℕ) (out : List ℕ) : Type 0 where
  pub few_clients : clients ≤ max_clients
  pub few_contracts : contracts ≤ max_contracts
  pub area_room : trade_stride * count ≤ length area
  pub few_legs : legs ≤ 2 * max_trades
  pub each : (i : ℕ) → i < count → (get_or (recorded_trades area count) i no_trade).contract < max_contracts
  pub room : length (told (recorded_trades area count) legs accounts closing holding clients contracts) ≤ length out

-- ---- the account's day as its clients'

abbrev pub broker : ℕ → List ℕ → List ℕ → Clients
broker clients starts postings = record { count = clients; starts = starts; postings = postings }

-- the clients' exchange as the code has it
unfoldable pub clients_day : State → List ℕ → List ℕ → List ℕ → List ℕ → ℕ → Exchange
clients_day s buys sells area starts clients =
    record {
      listings = (exchange_of (memory s buys sells area)).listings;
      accounts = used s.contractcount client_places (tabulate client_places (client_account (clients_with clients starts)));
      trades = recorded_trades area s.tradecount;
      next = s.next;
      nextstamp = s.nextstamp;
      settlements = s.settlements;
    }

-- the length of the statement that is told, 0 where it is refused
abbrev pub length_in : Result ℕ Code → ℕ
length_in (Ok n) = n
length_in (Err _) = 0

-- an answer, the code being given: the statement's length and the output area
pub record AnswerIs (code : ℕ) (y : Exchange) (clients : ℕ) (out : List ℕ) (r : Result ℕ Code) (out' : List ℕ) : Type 0 where
  pub code_is : code_in r ≡ code
  pub length_is : length_in r ≡ pick (eqb (code_in r) 0) (length (statement_of y clients)) 0
  pub out_is : out' ≡ pick (eqb (code_in r) 0) (over out 0 (statement_of y clients)) out

abbrev pub ToldIs : Exchange → ℕ → List ℕ → Result ℕ Code → List ℕ → Type 0
ToldIs y clients out r out' = AnswerIs (first_of (day_refusals y clients (length out))) y clients out r out'

-- all that the clients' day is worked out from
pub record Brokered (s : State) (buys sells area starts : List ℕ) (clients legs : ℕ) : Type 0 where
  pub declared : Declared s
  pub contracts : s.contractcount ≤ max_contracts
  pub few : clients ≤ max_clients
  pub trades : s.tradecount ≤ max_trades
  pub room : trade_stride * s.tradecount ≤ length area
  pub sized : SizedTrades area s.tradecount
  pub each : (i : ℕ) → i < s.tradecount → Booked s.contractcount client_places (get_or (recorded_trades area s.tradecount) i no_trade)
  pub lots : (k c : ℕ) → k < client_places → c < s.contractcount
      → ((holding_at (tabulate client_places (client_account (clients_with clients starts))) k c).startlong ≤ max_limit)
      × ((holding_at (tabulate client_places (client_account (clients_with clients starts))) k c).startshort ≤ max_limit)
  pub legs_are : legs ≡ leg_count (recorded_trades area s.tradecount)
  pub terms : (c : ℕ) → c < s.contractcount
      → ((contract_at (clients_day s buys sells area starts clients) c).multiplier ≤ max_multiplier) × ((contract_at (clients_day s buys sells area starts clients) c).reference ≤ max_price)
  pub priceable : (c : ℕ) → c < s.contractcount
      → Priceable (get_or s.contracts c no_contract) buys (get_or s.buycounts c 0) sells (get_or s.sellcounts c 0) area s.tradecount c
  pub prices : (c : ℕ) → c < s.contractcount → settlement_price (clients_day s buys sells area starts clients) c ≤ max_price

-- the account exists, there are few enough clients, and their starting lots add up
pub record Postable (s : State) (buys sells trades : List ℕ) (a clients : ℕ) (starts : List ℕ) : Type 0 where
  pub formed : WellFormedState s buys sells trades
  pub account : a < s.accountcount
  pub few : clients ≤ max_clients
  pub adds : starts_add_up (exchange_of (memory s buys sells trades)) a (broker clients starts []) ≡ true

abbrev pub PostedIs : Memory → ℕ → ℕ → List ℕ → List ℕ → List ℕ → Result ℕ Code → List ℕ → Type 0
PostedIs m a clients starts postings out r out' =
    AnswerIs (first_of (posted_refusals (exchange_of m) a (broker clients starts postings) (length out)))
    (client_exchange (exchange_of m) a (broker clients starts postings)) clients out r out'

-- the whole answer, as `StatementIs` has it but for what adds up
abbrev pub StatedIs : Memory → ℕ → Clients → List ℕ → Result ℕ Code → List ℕ → Type 0
StatedIs m account b out r out' =
    AnswerIs (statement_code m account b (length out)) (client_exchange (exchange_of m) (place_of account) b) b.count out r out'
