-- "A state is well formed when": the seven clauses in the paper's order, each with what it is made of, and at the end
-- the list of them, `well_formed_contents`. The counts and the room of the areas, which are part of the first, are tested
-- in Memory.antt, on the state as it lies. Assumes nothing.
use Rattle.std.specs.Prelude.{Bool, true, false, not, ◌&&◌, ◌||◌, List, [], ◌∷◌, ◌++◌, ℕ, ◌+◌, ◌*◌, leb, ltb, eqb, nat_abs, length}
use Rattle.laws.specs.Choice.{pick, all, all_of}
use Rattle.laws.specs.Sums.{sum_of}
use Rattle.rules.specs.Bounds.{within, in_auction, terms_in_range, tick_multiple, allowed_today, phase_known, numbers_end, max_lots, max_settlements, max_balance, max_day_profit}
use Rattle.rules.specs.Exchange.{Exchange, Listing, listing_at, account_at, contract_at, held_at, worse, resting_opens, resting_closes}
use Rattle.rules.specs.Holdings.{book_trades, never_below_zero, start_of_day, same_holdings}
use Rattle.rules.specs.declared.Account.{Account}
use Rattle.rules.specs.declared.Contract.{Contract}
use Rattle.rules.specs.declared.Holding.{Holding}
use Rattle.rules.specs.declared.Order.{Order}
use Rattle.rules.specs.declared.Trade.{Trade}

-- ---- 1. "counts, numbers, parameters and prices keep the ranges above, the next order number 1 to 1,000,000; references and
-- last prices are tick multiples"; the next time stamp too, since "Stamps end at 999,999 a day." (02, ticket 8)

unfoldable pub counters_in_range : Exchange → Bool
counters_in_range x = within 1 numbers_end x.next && within 1 numbers_end x.nextstamp && leb x.settlements max_settlements

unfoldable pub contract_in_range : Contract → Bool
contract_in_range c = terms_in_range c && phase_known c.phase && tick_multiple c.tick c.last

-- "maker mark 1, its value 0 or 1" (02, ticket 10)
unfoldable pub mark_in_range : Account → Bool
mark_in_range a = leb a.maker 1

unfoldable pub ranges_kept : Exchange → Bool
ranges_kept x = counters_in_range x && all_of (λ l. contract_in_range l.contract) x.listings && all_of mark_in_range x.accounts

-- ---- 2. "each queue is sorted best price first", then lower time stamp: "queues .. go by price, then stamp, in the well-formed rule
-- too" (02, ticket 8); "the two are uncrossed (best buy below best sell)", but in auction "the book may be crossed" (02, ticket 4)

unfoldable pub ahead : Bool → Order → Order → Bool
ahead sell o p = worse sell p.price o.price || eqb o.price p.price && ltb o.stamp p.stamp

unfoldable pub ahead_of_first : Bool → Order → List Order → Bool
ahead_of_first sell o [] = true
ahead_of_first sell o (p ∷ ps) = ahead sell o p

unfoldable pub sorted : Bool → List Order → Bool
sorted sell [] = true
sorted sell (o ∷ os) = ahead_of_first sell o os && sorted sell os

unfoldable pub uncrossed : List Order → List Order → Bool
uncrossed [] sells = true
uncrossed (b ∷ bs) [] = true
uncrossed (b ∷ bs) (s ∷ ss) = ltb b.price s.price

unfoldable pub queues_sorted : Listing → Bool
queues_sorted l = sorted false l.buys && sorted true l.sells && (in_auction l.contract || uncrossed l.buys l.sells)

-- ---- 3. "resting orders have 1 to 1,000 lots, an existing account, a price allowed today, and a number below the next, used
-- once over all queues", and a time stamp, "given in turn from 1 .., used once, below the next" (02, ticket 8)

unfoldable pub order_in_range : ℕ → ℕ → ℕ → Contract → Order → Bool
order_in_range accounts next nextstamp c o =
    within 1 max_lots o.lots
    && ltb o.account accounts
    && allowed_today c o.price
    && leb 1 o.number
    && ltb o.number next
    && leb o.close 1
    && leb 1 o.stamp
    && ltb o.stamp nextstamp
    && leb o.quote 1

-- of one contract's queues
unfoldable pub orders_in_range : ℕ → ℕ → ℕ → Listing → Bool
orders_in_range accounts next nextstamp l =
    all_of (order_in_range accounts next nextstamp l.contract) l.buys
    && all_of (order_in_range accounts next nextstamp l.contract) l.sells

-- a field of each order of a queue, and of all queues
unfoldable pub listed : (Order → ℕ) → List Order → List ℕ
listed field [] = []
listed field (o ∷ os) = field o ∷ listed field os

unfoldable pub all_listed : (Order → ℕ) → List Listing → List ℕ
all_listed field [] = []
all_listed field (l ∷ ls) = listed field l.buys ++ (listed field l.sells ++ all_listed field ls)

abbrev pub number_of : Order → ℕ
number_of o = o.number

abbrev pub numbers : List Order → List ℕ
numbers os = listed number_of os

abbrev pub all_numbers : List Listing → List ℕ
all_numbers ls = all_listed number_of ls

abbrev pub stamp_of : Order → ℕ
stamp_of o = o.stamp

abbrev pub all_stamps : List Listing → List ℕ
all_stamps ls = all_listed stamp_of ls

unfoldable pub used_once : List ℕ → Bool
used_once [] = true
used_once (n ∷ ns) = all_of (λ k. not (eqb n k)) ns && used_once ns

-- "marked in the book (at most one for each contract, account and side, on a maker's open only; well-formed rule too)" (02,
-- ticket 7)

-- an account's order that is part of a quote
abbrev pub is_quote_of : ℕ → Order → Bool
is_quote_of a o = eqb o.account a && eqb o.quote 1

unfoldable pub quotes : ℕ → List Order → ℕ
quotes a queue = sum_of (λ o. pick (is_quote_of a o) 1 0) queue

-- "on a maker's open only"
unfoldable pub mark_allowed : List Account → Order → Bool
mark_allowed accounts o = eqb o.quote 0 || eqb (account_at accounts o.account).maker 1 && eqb o.close 0

-- "at most one for each .. account and side"
unfoldable pub queue_quoted : List Account → List Order → Bool
queue_quoted accounts queue = all_of (mark_allowed accounts) queue && all (λ a. leb (quotes a queue) 1) (length accounts)

unfoldable pub listing_quoted : List Account → Listing → Bool
listing_quoted accounts l = queue_quoted accounts l.buys && queue_quoted accounts l.sells

unfoldable pub resting_in_range : Exchange → Bool
resting_in_range x =
    all_of (orders_in_range (length x.accounts) x.next x.nextstamp) x.listings
    && used_once (all_numbers x.listings)
    && used_once (all_stamps x.listings)
    && all_of (listing_quoted x.accounts) x.listings

-- ---- 4. "recorded trades have existing contract and accounts, two different order numbers below the next, a price allowed
-- today, 1 to 1,000 lots, and for each leg open or close"

unfoldable pub trade_in_range : Exchange → Trade → Bool
trade_in_range x t =
    ltb t.contract (length x.listings)
    && ltb t.buyer (length x.accounts)
    && ltb t.seller (length x.accounts)
    && not (eqb t.buyorder t.sellorder)
    && leb 1 t.buyorder
    && ltb t.buyorder x.next
    && leb 1 t.sellorder
    && ltb t.sellorder x.next
    && allowed_today (contract_at x t.contract) t.price
    && within 1 max_lots t.lots
    && leb t.buyclose 1
    && leb t.sellclose 1

-- ---- 5. "replaying the day's trades over the starting holdings never goes below zero and gives the holdings now"

unfoldable pub replays : Exchange → Bool
replays x =
    never_below_zero (start_of_day x.accounts) x.trades
    && same_holdings (book_trades (start_of_day x.accounts) x.trades) x.accounts

-- ---- 6. "starting holdings, and holdings now plus resting opens on that side, keep the limit; resting closes are covered by
-- holdings"

-- a holding, its contract's limit, and the account's lots that rest: opens and closes of the buys, then of the sells
unfoldable pub held_in_range : Holding → ℕ → ℕ → ℕ → ℕ → ℕ → Bool
held_in_range h limit buyopens buycloses sellopens sellcloses =
    leb h.startlong limit
    && leb h.startshort limit
    && leb (h.long + buyopens) limit
    && leb (h.short + sellopens) limit
    && leb sellcloses h.long
    && leb buycloses h.short

unfoldable pub holding_in_range : Listing → ℕ → Holding → Bool
holding_in_range l a h =
    held_in_range h l.contract.limit (resting_opens a l.buys) (resting_closes a l.buys) (resting_opens a l.sells) (resting_closes a l.sells)

unfoldable pub holdings_in_range : Exchange → ℕ → Bool
holdings_in_range x a = all (λ c. holding_in_range (listing_at x c) a (held_at x a c)) (length x.listings)

-- ---- 7. "each balance is within 10^18 plus settlements so far times 3 x 10^15, either sign"

unfoldable pub balance_in_range : ℕ → Account → Bool
balance_in_range settlements a = leb (nat_abs a.balance) (max_balance + settlements * max_day_profit)

-- ---- "A state is well formed when": the paper's seven clauses, but for the counts and the room of the first;
-- `well_formed_memory` of Memory.antt is the whole

unfoldable pub well_formed_contents : Exchange → Bool
well_formed_contents x =
    -- "counts, numbers, parameters and prices keep the ranges above ..; references and last prices are tick multiples"
    ranges_kept x
    -- "each queue is sorted best price first ..; the two are uncrossed"
    && all_of queues_sorted x.listings
    -- "resting orders have 1 to 1,000 lots, an existing account, a price allowed today, and a number .. used once"
    && resting_in_range x
    -- "recorded trades have existing contract and accounts .."
    && all_of (trade_in_range x) x.trades
    -- "replaying the day's trades over the starting holdings never goes below zero and gives the holdings now"
    && replays x
    -- "starting holdings, and holdings now plus resting opens on that side, keep the limit; resting closes are covered"
    && all (holdings_in_range x) (length x.accounts)
    -- "each balance is within 10^18 plus settlements so far times 3 x 10^15"
    && all_of (balance_in_range x.settlements) x.accounts
