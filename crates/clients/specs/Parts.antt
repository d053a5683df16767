-- What the functions of this crate ask for and give back, for their contracts. Assumes nothing.
use Rattle.std.specs.Prelude.{Bool, List, [], ◌∷◌, map, Option, Some, None, ◌≡◌, ℕ}
use Rattle.laws.specs.Choice.{pick, all_of}
use Rattle.areas.specs.Records.{store}
use Rattle.rules.specs.Memory.{recorded_trades, trade_words}
use Rattle.rules.specs.declared.Trade.{Trade}
use Rattle.clients.specs.Clients.{Clients, client_trade, leg_count, trade_posted}

-- so many clients and their words, for what looks at no posting
abbrev pub clients_with : ℕ → List ℕ → Clients
clients_with count starts = record { count = count; starts = starts; postings = [] }

-- the day's trades with clients in the account's place
abbrev pub client_trades : ℕ → ℕ → List ℕ → List ℕ → ℕ → List Trade
client_trades a clients postings trades count = map (client_trade a clients postings) (recorded_trades trades count)

-- the trades before the first that fails a test, all of them where none does
unfoldable pub before : (Trade → Bool) → List Trade → List Trade
before p [] = []
before p (t ∷ ts) = pick (p t) (t ∷ before p ts) []

-- In the area the trades up to the first that is not posted, with clients in the account's place; the number of clients' legs, none
-- where not all are posted
pub record PostingIs (a clients : ℕ) (postings trades : List ℕ) (count : ℕ) (area : List ℕ) (r : Option ℕ) (area' : List ℕ) : Type 0 where
  pub content :
      area' ≡ store trade_words area 0 (map (client_trade a clients postings) (before (trade_posted a clients postings) (recorded_trades trades count)))
  pub legs :
      r ≡ pick (all_of (trade_posted a clients postings) (recorded_trades trades count)) (Some (leg_count (client_trades a clients postings trades count))) None
