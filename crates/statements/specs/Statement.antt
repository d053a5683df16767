-- Client statements (document 02, ticket 9): each client's trades, holdings and profit told as bytes, and when a statement is refused.
-- Assumes nothing.
use Rattle.std.specs.Prelude.{not, ◌||◌, List, [], ◌∷◌, ◌++◌, ◌≡◌, ℕ, ◌+◌, ◌*◌, eqb, ltb, ℤ, ◌+ℤ◌, length, get_or}
use Rattle.laws.specs.Choice.{pick, all_of}
use Rattle.laws.specs.Sums.{sum_to}
use Rattle.areas.specs.Lists.{over}
use Rattle.rules.specs.Answers.{Refusal, first_of, ◌when◌}
use Rattle.rules.specs.Exchange.{Exchange, absent, no_trade, place_of}
use Rattle.rules.specs.Memory.{Memory, exchange_of, well_formed_memory}
use Rattle.rules.specs.Settlement.{closing_profit, holding_profit}
use Rattle.rules.specs.declared.Trade.{Trade}
use Rattle.endian.specs.Numbers.{four, eight, unsigned}
use Rattle.sections.specs.Sections.{holdings_bytes, in_row, section}
use Rattle.clients.specs.Clients.{Clients, client_exchange, holdings_now, is_client, leg_count, max_clients, never_closes_more, starts_add_up, trade_posted}
use Rattle.statements.specs.declared.Statement.{Statement}

-- ---- the statement, of the clients' exchange: "sections in a fixed order, each after its count"; a section, and holdings as bytes, stand
-- in sections/specs/Sections

-- "trades (client 1, contract 1, sell mark 1, close mark 1, price 4, lots 4, order number 4; marks are 0 or 1)"; contracts are
-- numbered from 1, as clients are
unfoldable pub leg_bytes : Trade → ℕ → ℕ → ℕ → ℕ → List ℕ
leg_bytes t client sell close order =
    (client + 1) ∷ (t.contract + 1) ∷ sell ∷ pick (eqb close 0) 0 1 ∷ (four t.price ++ (four t.lots ++ four order))

abbrev pub leg_width : ℕ
leg_width = 16

-- "one for each leg of the account in trade order, the buyer's first"
unfoldable pub trade_bytes : Trade → List ℕ
trade_bytes t =
    pick (is_client t.buyer) (leg_bytes t t.buyer 0 t.buyclose t.buyorder) []
    ++ pick (is_client t.seller) (leg_bytes t t.seller 1 t.sellclose t.sellorder) []

unfoldable pub trades_bytes : List Trade → List ℕ
trades_bytes ts = in_row (length ts) (λ i. trade_bytes (get_or ts i no_trade))

-- "profit (signed closing 8, signed holding 8, by client)"
unfoldable pub profit_bytes : ℤ → ℤ → List ℕ
profit_bytes closing holding = eight (unsigned closing) ++ eight (unsigned holding)

abbrev pub profit_width : ℕ
profit_width = 16

unfoldable pub profits_bytes : Exchange → ℕ → List ℕ
profits_bytes x clients = in_row clients (λ k. profit_bytes (closing_profit x k) (holding_profit x k))

-- "holdings now (long 4, short 4, by client then contract)" stand between the two
unfoldable pub statement_of : Exchange → ℕ → List ℕ
statement_of x clients =
    section (leg_count x.trades) (trades_bytes x.trades)
    ++ (section (clients * length x.listings) (holdings_bytes (holdings_now x) clients (length x.listings))
    ++ section clients (profits_bytes x clients))

-- ---- "Refusals, in order: 21; 2; 25 over 16 clients, or starting holdings don't add up in some contract and side; 26 an order of the
-- account that traded is unposted, posted twice or posted to an unknown client; 27 a client would close more than it holds; 29 output
-- area too short."

-- of the clients' day y, with so much room in the output area
abbrev pub day_refusals : Exchange → ℕ → ℕ → List Refusal
day_refusals y clients room =
    (27 when not (never_closes_more y))
    ∷ (29 when ltb room (length (statement_of y clients)))
    ∷ []

-- and of the postings, the account by its place
abbrev pub posted_refusals : Exchange → ℕ → Clients → ℕ → List Refusal
posted_refusals x a b room =
    (26 when not (all_of (trade_posted a b.count b.postings) x.trades))
    ∷ day_refusals (client_exchange x a b) b.count room

-- all of them but 21, on a well-formed state, the account by its number
unfoldable pub broker_refusals : Exchange → ℕ → Clients → ℕ → List Refusal
broker_refusals x account b room =
    (2 when absent account x.accounts)
    ∷ (25 when (ltb max_clients b.count || not (starts_add_up x (place_of account) b)))
    ∷ posted_refusals x (place_of account) b room

unfoldable pub statement_code : Memory → ℕ → Clients → ℕ → ℕ
statement_code m account b room = first_of ((21 when not (well_formed_memory m)) ∷ broker_refusals (exchange_of m) account b room)

-- ---- THE WHOLE ANSWER: the code, the statement's length and the output area. "output bytes beyond the end stay"; refused, "Nothing is
-- then written"
abbrev pub statement : Memory → ℕ → Clients → List ℕ
statement m account b = statement_of (client_exchange (exchange_of m) (place_of account) b) b.count

-- "The sum of client closing and holding profit together equals the account's day profit": of the profits that a statement tells and
-- those that a settlement now would pay
abbrev pub AddsUp : Exchange → ℕ → Clients → Type 0
AddsUp x a b =
    sum_to b.count (λ k. closing_profit (client_exchange x a b) k +ℤ holding_profit (client_exchange x a b) k) ≡ closing_profit x a +ℤ holding_profit x a

pub record StatementIs (m : Memory) (account : ℕ) (b : Clients) (out : List ℕ) (r : Statement) (out' : List ℕ) : Type 0 where
  pub code : r.code ≡ statement_code m account b (length out)
  pub length_is : r.length ≡ pick (eqb r.code 0) (length (statement m account b)) 0
  pub out_is : out' ≡ pick (eqb r.code 0) (over out 0 (statement m account b)) out
  pub adds_up_lem : r.code ≡ 0 → AddsUp (exchange_of m) (place_of account) b
