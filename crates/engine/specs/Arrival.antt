-- An order about to enter: what it has to be for that, and what it leaves, whoever sends it. Assumes nothing.
use Rattle.std.specs.Prelude.{Bool, false, not, List, ◌≡◌, ℕ, ◌+◌, ◌*◌, ◌<◌, ◌≤◌, length}
use Rattle.laws.specs.Choice.{pick}
use Rattle.areas.specs.Records.{store}
use Rattle.rules.specs.Bounds.{in_auction, max_contracts}
use Rattle.rules.specs.Holdings.{book_trades}
use Rattle.rules.specs.Matching.{Entered, last_price, traded_lots}
use Rattle.rules.specs.Memory.{first_word, put_queue, queue_in, trade_stride, trade_words}
use Rattle.rules.specs.Step.{answer_of, entered_among, with_last}
use Rattle.rules.specs.declared.Account.{Account}
use Rattle.rules.specs.declared.Order.{Order}
use Rattle.matching.specs.Sweep.{SweepReady}
use Rattle.engine.specs.Sides.{side_area}
use Rattle.engine.specs.declared.updates.Arrival.{Arrival}
use Rattle.engine.specs.declared.updates.Carried.{Carried}
use Rattle.engine.specs.declared.updates.Listed.{Listed}

-- ---- its contract

-- the orders on a side
abbrev pub orders_on : Bool → Listed → ℕ
orders_on sell l = pick sell l.sold l.bought

-- after an order on a side: so many orders on its own side and on the opposite one, so many trades of the day, the last price
abbrev pub entered_on : Listed → Bool → ℕ → ℕ → ℕ → ℕ → Listed
entered_on l sell own opposite made last =
    record {
      place = l.place;
      terms = with_last l.terms last;
      bought = pick sell opposite own;
      sold = pick sell own opposite;
      recorded = made;
      next = l.next;
      nextstamp = l.nextstamp;
    }

-- ---- the order

-- what it trades and leaves by its own queue and the opposite one: in auction it rests whole
abbrev pub entered_for : Arrival → List Order → List Order → Entered
entered_for a own opposite = entered_among a.listed.terms a.taker a.order own opposite

-- its side lies in `owns` and the opposite one in `opposites`: its contract exists, and there is room for what rests
pub record Arriving (a : Arrival) (owns : List ℕ) (own : ℕ) (opposites : List ℕ) (opposite : ℕ) : Type 0 where
  pub place : a.taker.contract ≡ a.listed.place
  pub fits : a.listed.place < max_contracts
  pub queue : first_word a.listed.place opposite ≤ length opposites
  pub rests : first_word a.listed.place (length (entered_for a (queue_in owns a.listed.place own) (queue_in opposites a.listed.place opposite)).own) ≤ length owns

-- what it leaves with these accounts, once what it trades and leaves is known: the answer, the contract, the accounts, and all three areas
pub record Arrived (e : Entered) (accounts : List Account) (a : Arrival) (owns : List ℕ) (own : ℕ) (opposites : List ℕ) (opposite : ℕ) (area : List ℕ)
    (r : Carried) (owns' opposites' area' : List ℕ) : Type 0 where
  pub answer : r.answer ≡ answer_of 0 a.taker.number (traded_lots e.trades) e.rested
  pub listed : r.listed ≡ entered_on a.listed a.taker.sell (length e.own) (length e.opposite) (a.listed.recorded + length e.trades) (last_price a.listed.terms.last e.trades)
  pub accounts_booked : r.accounts ≡ book_trades accounts e.trades
  pub own_queue_lem : owns' ≡ put_queue owns a.listed.place own e.own
  pub opposite_queue_lem : opposites' ≡ put_queue opposites a.listed.place opposite e.opposite
  pub trades : area' ≡ store trade_words area (trade_stride * a.listed.recorded) e.trades

-- ---- the same of the two areas as they are lent, by the order's side

abbrev pub Arrives : Arrival → List ℕ → List ℕ → Type 0
Arrives a buys sells =
    Arriving a (side_area a.taker.sell buys sells) (orders_on a.taker.sell a.listed) (side_area (not a.taker.sell) buys sells) (orders_on (not a.taker.sell) a.listed)

-- all that its sweep asks for, with these accounts
abbrev pub Sweeps : List Account → Arrival → List ℕ → List ℕ → List ℕ → Type 0
Sweeps accounts a buys sells area =
    SweepReady a.taker a.order.lots a.listed.terms.last accounts (side_area (not a.taker.sell) buys sells) (orders_on (not a.taker.sell) a.listed) area a.listed.recorded

-- ready to be entered with these accounts: in auction nothing is swept
pub record ArrivalReady (accounts : List Account) (a : Arrival) (buys sells area : List ℕ) : Type 0 where
  pub arrives : Arrives a buys sells
  pub sweeps : in_auction a.listed.terms ≡ false → Sweeps accounts a buys sells area

-- ready to trade
pub record Trades (accounts : List Account) (a : Arrival) (buys sells area : List ℕ) : Type 0 where
  pub ready : ArrivalReady accounts a buys sells area
  pub matched : in_auction a.listed.terms ≡ false

abbrev pub ArrivedIs : List Account → Arrival → List ℕ → List ℕ → List ℕ → Carried → List ℕ → List ℕ → List ℕ → Type 0
ArrivedIs accounts a buys sells area r buys' sells' area' =
    Arrived
    (entered_for a (queue_in (side_area a.taker.sell buys sells) a.listed.place (orders_on a.taker.sell a.listed)) (queue_in (side_area (not a.taker.sell) buys sells) a.listed.place (orders_on (not a.taker.sell) a.listed)))
    accounts a (side_area a.taker.sell buys sells) (orders_on a.taker.sell a.listed) (side_area (not a.taker.sell) buys sells) (orders_on (not a.taker.sell) a.listed) area r
    (side_area a.taker.sell buys' sells') (side_area (not a.taker.sell) buys' sells') area'
