-- The orders of one account posted to its clients, and the day as the clients see it (document 02, ticket 9). Assumes nothing.
use Rattle.std.specs.Prelude.{Bool, not, ◌&&◌, ◌||◌, List, [], ◌∷◌, map, ℕ, zero, suc, ◌+◌, ◌*◌, ◌/◌, eqb, ltb, pos, length, get_or}
use Rattle.laws.specs.Choice.{pick, all}
use Rattle.laws.specs.Tabulate.{tabulate}
use Rattle.rules.specs.Bounds.{within, max_contracts}
use Rattle.rules.specs.Exchange.{Exchange, holding_at, no_trade, place_of}
use Rattle.rules.specs.Holdings.{book_trades, never_below_zero, start_of_day}
use Rattle.rules.specs.Memory.{used}
use Rattle.rules.specs.declared.Account.{Account}
use Rattle.rules.specs.declared.Holding.{Holding}
use Rattle.rules.specs.declared.Trade.{Trade}
use Rattle.sections.specs.Sections.{in_row}

-- ---- f 0, f 1, .., up to n of them, added up

unfoldable pub total : ℕ → (ℕ → ℕ) → ℕ
total zero f = 0
total (suc n) f = total n f + f n

-- ---- what a broker hands in

-- "up to 16 clients, numbered from 1"; client 1 stands at place 0
abbrev pub max_clients : ℕ
max_clients = 16

-- how many clients there are, an area of words with what they held at the start of the day, and one with the postings
pub record Clients : Type 0 where
  pub count : ℕ
  pub starts : List ℕ
  pub postings : List ℕ

-- Two words for each contract of each client: the long lots, then the short ones. A word past the end is 0, and words of contracts
-- past the count are not looked at.
abbrev pub starts_stride : ℕ
starts_stride = 2 * max_contracts

abbrev pub start_long : List ℕ → ℕ → ℕ → ℕ
start_long starts k c = get_or starts (starts_stride * k + 2 * c) 0

abbrev pub start_short : List ℕ → ℕ → ℕ → ℕ
start_short starts k c = get_or starts (starts_stride * k + 2 * c + 1) 0

-- "Each order of one account is posted to one of up to 16 clients": two words for each posting, the order's number and the
-- client's. A single word at the end is no posting.
unfoldable pub posted_to : List ℕ → ℕ → ℕ → List ℕ
posted_to postings number i = pick (eqb (get_or postings (2 * i) 0) number) (get_or postings (2 * i + 1) 0 ∷ []) []

-- all clients' numbers that an order is posted to
unfoldable pub posted : List ℕ → ℕ → List ℕ
posted postings number = in_row (length postings / 2) (posted_to postings number)

-- once, and to a client that there is
unfoldable pub is_posted : ℕ → List ℕ → ℕ → Bool
is_posted clients postings number = eqb (length (posted postings number)) 1 && within 1 clients (get_or (posted postings number) 0 0)

-- ---- the day as the clients see it: an exchange whose accounts are the account's clients

-- the place behind the clients' stands for every other account
abbrev pub others : ℕ
others = max_clients

-- the clients' places and the others'
abbrev pub client_places : ℕ
client_places = suc max_clients

-- the place of the client to whom an order is posted
unfoldable pub client_place : ℕ → List ℕ → ℕ → ℕ
client_place clients postings number = pick (is_posted clients postings number) (place_of (get_or (posted postings number) 0 0)) others

-- A trade with clients in the account's place: each of its legs is the client's to whom the order is posted. Every other leg is the
-- others', and counts as an open, so that nothing is asked of it.
unfoldable pub client_trade : ℕ → ℕ → List ℕ → Trade → Trade
client_trade a clients postings t =
    record {
      contract = t.contract;
      price = t.price;
      lots = t.lots;
      buyorder = t.buyorder;
      sellorder = t.sellorder;
      buyer = pick (eqb t.buyer a) (client_place clients postings t.buyorder) others;
      seller = pick (eqb t.seller a) (client_place clients postings t.sellorder) others;
      buyclose = pick (eqb t.buyer a) t.buyclose 0;
      sellclose = pick (eqb t.seller a) t.sellclose 0;
    }

-- "from the client's own start-of-day lots"
abbrev pub client_holding : List ℕ → ℕ → ℕ → Holding
client_holding starts k c =
    record {
      long = start_long starts k c;
      short = start_short starts k c;
      startlong = start_long starts k c;
      startshort = start_short starts k c;
    }

-- what stands at place k: a client, or, past the clients, no lots
unfoldable pub client_account : Clients → ℕ → Account
client_account b k = record { balance = pos 0; maker = 0; holdings = tabulate max_contracts (client_holding (pick (ltb k b.count) b.starts []) k) }

-- Contracts, quotes and trade prices are the day's, so the settlement price due is too. A client's closing and holding profit are then
-- document 01's `closing_profit` and `holding_profit`, Article 32, of this exchange, and its holdings are the replay's.
unfoldable pub client_exchange : Exchange → ℕ → Clients → Exchange
client_exchange x a b =
    record {
      listings = x.listings;
      accounts = used (length x.listings) client_places (tabulate client_places (client_account b));
      trades = map (client_trade a b.count b.postings) x.trades;
      next = x.next;
      nextstamp = x.nextstamp;
      settlements = x.settlements;
    }

-- no leg closes more than is held when its turn comes, the buyer's first
unfoldable pub never_closes_more : Exchange → Bool
never_closes_more x = never_below_zero (start_of_day x.accounts) x.trades

unfoldable pub holdings_now : Exchange → List Account
holdings_now x = book_trades (start_of_day x.accounts) x.trades

-- ---- the clients' legs

abbrev pub is_client : ℕ → Bool
is_client place = ltb place max_clients

unfoldable pub legs_in : Trade → ℕ
legs_in t = pick (is_client t.buyer) 1 0 + pick (is_client t.seller) 1 0

unfoldable pub leg_count : List Trade → ℕ
leg_count ts = total (length ts) (λ i. legs_in (get_or ts i no_trade))

-- ---- what the refusals 25 and 26 ask

-- "The clients' start-of-day holdings must add up to the account's."
unfoldable pub starts_add_up : Exchange → ℕ → Clients → Bool
starts_add_up x a b =
    all
    (λ c.
    eqb (total b.count (λ k. start_long b.starts k c)) (holding_at x.accounts a c).startlong
    && eqb (total b.count (λ k. start_short b.starts k c)) (holding_at x.accounts a c).startshort)
    (length x.listings)

-- each leg of the account in a trade has a posted order; "Postings of orders that didn't trade, or of another account, are passed over"
unfoldable pub trade_posted : ℕ → ℕ → List ℕ → Trade → Bool
trade_posted a clients postings t =
    (not (eqb t.buyer a) || is_posted clients postings t.buyorder) && (not (eqb t.seller a) || is_posted clients postings t.sellorder)
