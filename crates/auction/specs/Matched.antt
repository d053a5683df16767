-- What a match asks for, and what it leaves. Assumes nothing.
use Rattle.std.specs.Prelude.{Bool, true, ◌&&◌, List, [], ◌∷◌, ◌≡◌, ℕ, ◌+◌, ◌-◌, ◌*◌, ◌<◌, ◌≤◌, leb, ltb, length, drop}
use Rattle.laws.specs.Choice.{all_of, pick}
use Rattle.rules.specs.Auction.{Matched, match_at, unmatched}
use Rattle.rules.specs.Bounds.{max_lots, max_contracts, max_accounts, max_resting}
use Rattle.rules.specs.Matching.{with_lots}
use Rattle.rules.specs.Memory.{first_word, queue_in, put_queue, trade_stride}
use Rattle.rules.specs.declared.Account.{Account}
use Rattle.rules.specs.declared.Order.{Order}
use Rattle.rules.specs.declared.Trade.{Trade}
use Rattle.holdings.specs.Bounds.{HeldWithin, held_most}
use Rattle.book.specs.Trading.{AllBooked}
use Rattle.auction.specs.declared.matched.Match.{Match}
use Rattle.auction.specs.declared.price.Level.{Level}

-- an order of an account in use, of at most 1,000 lots
abbrev pub fits : ℕ → Order → Bool
fits used o = ltb o.account used && leb o.lots max_lots

-- the queues' orders are of accounts in use, and no account in use holds more than b lots of the contract on either side
pub record MatchParties (b c : ℕ) (held : List Account) (buys sells : List Order) : Type 0 where
  pub used : ℕ
  pub few : used ≤ max_accounts
  pub buyers : all_of (fits used) buys ≡ true
  pub sellers : all_of (fits used) sells ≡ true
  pub holdings : HeldWithin b used c held

-- two queues of at most 64 orders, with room in their areas
pub record QueuesRoom (buys : List ℕ) (bought : ℕ) (sells : List ℕ) (sold c : ℕ) : Type 0 where
  pub few_buys : bought ≤ max_resting
  pub few_sells : sold ≤ max_resting
  pub buys_room : first_word c bought ≤ length buys
  pub sells_room : first_word c sold ≤ length sells

-- a contract that exists, room for the queues and for the trades, and accounts whose holdings are not near their width
pub record MatchReady
    (m : Matched) (c : ℕ) (held : List Account) (buys : List ℕ) (bought : ℕ) (sells : List ℕ) (sold : ℕ) (area : List ℕ) (before : ℕ) : Type 0 where
  pub contract : c < max_contracts
  pub queues : QueuesRoom buys bought sells sold c
  pub room : trade_stride * (before + length m.trades) ≤ length area
  pub parties : MatchParties held_most c held (queue_in buys c bought) (queue_in sells c sold)

-- a queue as it stands behind a match, before the filled orders are taken out: a trade takes its lots from the first order that is not
-- filled; one that keeps some has so many fewer, one that is filled stands as it was before its last trade
unfoldable pub standing : List Trade → List Order → List Order
standing [] os = os
standing (t ∷ ts) [] = []
standing (t ∷ ts) (o ∷ os) = pick (ltb t.lots o.lots) (standing ts (with_lots o (o.lots - t.lots) ∷ os)) (o ∷ standing ts os)

-- the whole area; and the orders that stay of the queue of n: those from place i on, behind the filled ones
pub record LeftIn (trades : List Trade) (queue : List Order) (area : List ℕ) (c n i : ℕ) (area' : List ℕ) : Type 0 where
  pub whole : area' ≡ put_queue area c n (standing trades (queue_in area c n))
  pub within : i ≤ n
  pub count : i + length queue ≡ n
  pub dropped : put_queue area' c n (drop i (queue_in area' c n)) ≡ put_queue area c n queue

-- the answer, and the three areas: what the trades leave, and the rest of each queue behind its filled orders
pub record FillsIs
    (m : Matched) (c last : ℕ) (held : List Account) (buys : List ℕ) (bought₀ : ℕ) (sells : List ℕ) (sold₀ : ℕ) (area : List ℕ) (before : ℕ)
    (r : Match) (buys' sells' area' : List ℕ) : Type 0 where
  pub booked : AllBooked m.trades before last held area r.traded r.made r.last r.accounts area'
  pub bought : LeftIn m.trades m.buys buys c bought₀ r.bought buys'
  pub sold : LeftIn m.trades m.sells sells c sold₀ r.sold sells'

-- the match at a price with this volume: none without volume
unfoldable pub level_match : ℕ → Level → List Order → List Order → Matched
level_match c level buys sells = pick (ltb 0 level.volume) (match_at c level.price buys sells) (unmatched buys sells)

-- the answer, and the three areas: what the trades leave, and both queues without the filled orders
pub record MatchedIs
    (m : Matched) (c last : ℕ) (held : List Account) (buys : List ℕ) (bought₀ : ℕ) (sells : List ℕ) (sold₀ : ℕ) (area : List ℕ) (before : ℕ)
    (r : Match) (buys' sells' area' : List ℕ) : Type 0 where
  pub booked : AllBooked m.trades before last held area r.traded r.made r.last r.accounts area'
  pub bought : r.bought ≡ length m.buys
  pub sold : r.sold ≡ length m.sells
  pub buy_queue : buys' ≡ put_queue buys c bought₀ m.buys
  pub sell_queue : sells' ≡ put_queue sells c sold₀ m.sells
