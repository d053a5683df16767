-- What an accepted command of kinds 1 to 7 answers and does (document 01); 8 and 9 have theirs in Quote.antt and Change.antt. Assumes
-- nothing.
use Rattle.std.specs.Prelude.{Bool, List, [], ◌∷◌, ◌++◌, ℕ, ◌+◌, eqb, ℤ, pos, ◌+ℤ◌, ◌-ℤ◌, set}
use Rattle.laws.specs.Choice.{pick}
use Rattle.rules.specs.Answers.{taker_of, listing_of, own_queue, opposite_queue, is_good_for_day}
use Rattle.rules.specs.Auction.{Matched, match_of}
use Rattle.rules.specs.Bounds.{in_auction}
use Rattle.rules.specs.Exchange.{Exchange, Listing, listing_at, holder_at, place_of, with_queues, lots_where}
use Rattle.rules.specs.Holdings.{book_trades}
use Rattle.rules.specs.Matching.{Entered, enter, rest_whole, traded_lots, last_price}
use Rattle.rules.specs.Settlement.{settled}
use Rattle.rules.specs.declared.Account.{Account}
use Rattle.rules.specs.declared.Answer.{Answer}
use Rattle.rules.specs.declared.Contract.{Contract}
use Rattle.rules.specs.declared.NewOrder.{NewOrder}
use Rattle.rules.specs.declared.Order.{Order}
use Rattle.rules.specs.declared.PriceCondition.{PriceCondition}
use Rattle.rules.specs.declared.PriceCondition.TheVariants.{Limit, Market, Best}
use Rattle.rules.specs.declared.Taker.{Taker}
use Rattle.rules.specs.declared.Trade.{Trade}

-- "Each answer holds a code, an order number, lots traded and lots rested .. or removed. .. Numbers not named are 0"
abbrev pub answer_of : ℕ → ℕ → ℕ → ℕ → Answer
answer_of code number traded lots = record { code = code; number = number; traded = traded; lots = lots }

-- the three numbers of an accepted command's answer, and the states that it leads through, each written over the last
pub record Effect : Type 0 where
  pub number : ℕ
  pub traded : ℕ
  pub lots : ℕ
  pub stages : List Exchange

abbrev pub accepted : ℕ → ℕ → ℕ → Exchange → Effect
accepted number traded lots x = record { number = number; traded = traded; lots = lots; stages = x ∷ [] }

-- ---- states with a part replaced

abbrev pub with_listing : Exchange → ℕ → Listing → Exchange
with_listing x c l =
    record { listings = set x.listings c l; accounts = x.accounts; trades = x.trades; next = x.next; nextstamp = x.nextstamp; settlements = x.settlements }

abbrev pub with_balance : Account → ℤ → Account
with_balance a balance = record { balance = balance; maker = a.maker; holdings = a.holdings }

abbrev pub with_contract : Listing → Contract → Listing
with_contract l c = record { contract = c; buys = l.buys; sells = l.sells }

abbrev pub with_last : Contract → ℕ → Contract
with_last c last =
    record { multiplier = c.multiplier; tick = c.tick; reference = c.reference; band = c.band; limit = c.limit; rate = c.rate; method = c.method; phase = c.phase; last = last }

abbrev pub with_phase : Contract → ℕ → Contract
with_phase c phase =
    record { multiplier = c.multiplier; tick = c.tick; reference = c.reference; band = c.band; limit = c.limit; rate = c.rate; method = c.method; phase = phase; last = c.last }

-- a contract's listing replaced, and trades made: booked on the accounts, and recorded behind those of the day
abbrev pub with_trades : Exchange → ℕ → Listing → List Trade → ℕ → ℕ → Exchange
with_trades x c l trades next nextstamp =
    record {
      listings = set x.listings c l;
      accounts = book_trades x.accounts trades;
      trades = x.trades ++ trades;
      next = next;
      nextstamp = nextstamp;
      settlements = x.settlements;
    }

-- ---- deposit and withdraw

unfoldable pub paid : Exchange → ℕ → ℤ → Exchange
paid x a balance =
    record {
      listings = x.listings;
      accounts = set x.accounts a (with_balance (holder_at x a) balance);
      trades = x.trades;
      next = x.next;
      nextstamp = x.nextstamp;
      settlements = x.settlements;
    }

unfoldable pub deposited : Exchange → ℕ → ℕ → Effect
deposited x a amount = accepted 0 0 0 (paid x a ((holder_at x a).balance +ℤ pos amount))

unfoldable pub withdrawn : Exchange → ℕ → ℕ → Effect
withdrawn x a amount = accepted 0 0 0 (paid x a ((holder_at x a).balance -ℤ pos amount))

-- ---- insert

-- a limit order rests at its limit; market and best never rest
abbrev pub limit_of : PriceCondition → ℕ
limit_of (Limit limit) = limit
limit_of Market = 0
limit_of Best = 0

-- what an order trades and leaves in a contract with these terms, by its own queue and the opposite one.
-- "In auction, limit good-for-day orders rest without matching" (02, ticket 4)
abbrev pub entered_among : Contract → Taker → NewOrder → List Order → List Order → Entered
entered_among terms t o own opposite =
    pick (in_auction terms)
    (rest_whole t o.lots (limit_of o.condition) own opposite)
    (enter t o.lots (limit_of o.condition) (is_good_for_day o.time) terms.last own opposite)

unfoldable pub entered_of : Exchange → ℕ → ℕ → NewOrder → Entered
entered_of x number quote o = entered_among (listing_of x o).contract (taker_of x number quote o) o (own_queue x o) (opposite_queue x o)

-- the listing with an order entered, and the state
unfoldable pub listing_after : Listing → Bool → Entered → Listing
listing_after l sell e = with_queues sell (with_last l.contract (last_price l.contract.last e.trades)) e.own e.opposite

-- the state with an order entered: a time stamp is taken, and the next order number is `next`
unfoldable pub exchange_after : Exchange → NewOrder → Entered → ℕ → Exchange
exchange_after x o e next =
    with_trades x (place_of o.contract) (listing_after (listing_of x o) o.sell e) e.trades next (x.nextstamp + 1)

-- an order entered with a number and a quote mark, after which the next order number is `next`: its answer's numbers, and the state
abbrev pub entered_as : Exchange → NewOrder → ℕ → ℕ → ℕ → Effect
entered_as x o number quote next =
    accepted number (traded_lots (entered_of x number quote o).trades) (entered_of x number quote o).rested
    (exchange_after x o (entered_of x number quote o) next)

-- "given to accepted orders in turn over all contracts": the next number is one more
unfoldable pub inserted : Exchange → NewOrder → Effect
inserted x o = entered_as x o x.next 0 (x.next + 1)

-- ---- cancel and pull

-- the orders that do not satisfy a test
unfoldable pub without : (Order → Bool) → List Order → List Order
without test [] = []
without test (o ∷ os) = pick (test o) (without test os) (o ∷ without test os)

abbrev pub listing_without : (Order → Bool) → Listing → Listing
listing_without test l = record { contract = l.contract; buys = without test l.buys; sells = without test l.sells }

abbrev pub has_number : ℕ → Order → Bool
has_number n o = eqb o.number n

abbrev pub is_of : ℕ → Order → Bool
is_of a o = eqb o.account a

-- the orders that satisfy a test taken out of a contract's queues: the number answered, and the lots removed
unfoldable pub removed : Exchange → ℕ → (Order → Bool) → ℕ → Effect
removed x c test number =
    accepted number 0 (lots_where test (listing_at x c).buys + lots_where test (listing_at x c).sells) (with_listing x c (listing_without test (listing_at x c)))

-- "Cancel gives the cancelled number."
unfoldable pub cancelled : Exchange → ℕ → ℕ → Effect
cancelled x c number = removed x c (has_number number) number

-- "A pull removes all orders of that account in that contract, perhaps none, and gives order number 0."
unfoldable pub pulled : Exchange → ℕ → ℕ → Effect
pulled x a c = removed x c (is_of a) 0

-- ---- state

-- the listing in its new state, and after the match where the change makes one: "The last price .. becomes each trade's price"
unfoldable pub listing_matched : Listing → ℕ → Matched → Listing
listing_matched l phase m =
    record {
      contract = with_phase (with_last l.contract (last_price l.contract.last m.trades)) phase;
      buys = m.buys;
      sells = m.sells;
    }

unfoldable pub exchange_matched : Exchange → ℕ → ℕ → Matched → Exchange
exchange_matched x c phase m = with_trades x c (listing_matched (listing_at x c) phase m) m.trades x.next x.nextstamp

-- its trades "appear after the state command's C line, whose traded field is their lots" (02, ticket 4): none but the match's
unfoldable pub phase_changed : Exchange → ℕ → ℕ → Effect
phase_changed x c phase = accepted 0 (traded_lots (match_of x c).trades) 0 (exchange_matched x c phase (match_of x c))

-- ---- settle

unfoldable pub settled_all : Exchange → Effect
settled_all x = accepted 0 0 0 (settled x)
