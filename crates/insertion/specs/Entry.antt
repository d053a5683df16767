-- An order that enters: how it is made of a state, when it may enter, and what is decided of it with no account read. Assumes nothing.
use Rattle.std.specs.Prelude.{Bool, true, false, not, ◌||◌, List, [], ◌∷◌, ◌≡◌, ℕ, ◌+◌, ◌<◌, ◌≤◌, length, get_or}
use Rattle.laws.specs.Choice.{pick}
use Rattle.rules.specs.Answers.{is_good_for_day, listing_of, taker_for, trades_refused}
use Rattle.rules.specs.Bounds.{in_auction, max_contracts, max_lots, max_resting, numbers_end}
use Rattle.rules.specs.Exchange.{no_contract, own, place_of}
use Rattle.rules.specs.Kinds.{done}
use Rattle.rules.specs.Matching.{counterpart}
use Rattle.rules.specs.Memory.{Memory, AfterCommand, exchange_of, first_word, in_memory, memory, queue_in}
use Rattle.rules.specs.Step.{entered_as, entered_of, exchange_after, listing_after}
use Rattle.rules.specs.WellFormed.{well_formed_contents}
use Rattle.rules.specs.declared.Account.{Account}
use Rattle.rules.specs.declared.Answer.{Answer}
use Rattle.rules.specs.declared.NewOrder.{NewOrder}
use Rattle.rules.specs.declared.Order.{Order}
use Rattle.rules.specs.declared.State.{State}
use Rattle.rules.specs.declared.Taker.{Taker}
use Rattle.matching.specs.Sweep.{SweepReady}
use Rattle.engine.specs.Arrival.{Arrived, ArrivedIs, Arriving, entered_for}
use Rattle.engine.specs.Sides.{side_area, side_count}
use Rattle.engine.specs.declared.updates.Arrival.{Arrival}
use Rattle.engine.specs.declared.updates.Carried.{Carried}
use Rattle.engine.specs.declared.updates.Decision.{Decision}
use Rattle.engine.specs.declared.updates.Pending.TheVariants.{Trading}
use Rattle.engine.specs.declared.updates.Update.{Update}
use Rattle.engine.specs.declared.updates.Update.TheVariants.{Nothing, Balance, Listing, Left, Whole}
use Rattle.refusals.specs.Insertion.{Present}

-- ---- an order on a whole state

-- it may be entered: its account and contract are in use, its lots in range, there are a time stamp and room for its trades, and the
-- state that it then leaves is well formed, with at most 64 orders on either side
pub record Enterable (s : State) (buys sells trades : List ℕ) (o : NewOrder) (number quote next : ℕ) : Type 0 where
  pub present : Present s o
  pub lots : o.lots ≤ max_lots
  pub stamp : s.nextstamp < numbers_end
  pub room : trades_refused (exchange_of (memory s buys sells trades)) number o ≡ false
  pub few : (side : Bool) → length (own side (listing_after (listing_of (exchange_of (memory s buys sells trades)) o) o.sell (entered_of (exchange_of (memory s buys sells trades)) number quote o))) ≤ max_resting
  pub leaves : well_formed_contents (exchange_after (exchange_of (memory s buys sells trades)) o (entered_of (exchange_of (memory s buys sells trades)) number quote o) next) ≡ true

-- the answer to it, and what it leaves
abbrev pub entered_in : Memory → NewOrder → ℕ → ℕ → ℕ → AfterCommand
entered_in m o number quote next = in_memory m (done (entered_as (exchange_of m) o number quote next))

-- what is read of the state for it: its account has a number, its contract is one of the array's, there are a time stamp and the queue
-- that it meets
pub record Known (s : State) (buys sells : List ℕ) (o : NewOrder) : Type 0 where
  pub account_low : 1 ≤ o.account
  pub contract_low : 1 ≤ o.contract
  pub contract : place_of o.contract < max_contracts
  pub stamp : s.nextstamp < numbers_end
  pub opposite : first_word (place_of o.contract) (side_count (not o.sell) s (place_of o.contract)) ≤ length (side_area (not o.sell) buys sells)

-- it arrives, with the number and the quote mark that it gets, the next number and one time stamp more
abbrev pub arrival_of : State → List ℕ → List ℕ → NewOrder → ℕ → ℕ → ℕ → Arrival
arrival_of s buys sells o number quote next =
    record {
      order = o;
      taker = taker_for number quote s.nextstamp (get_or s.contracts (place_of o.contract) no_contract) (queue_in (side_area (not o.sell) buys sells) (place_of o.contract) (side_count (not o.sell) s (place_of o.contract))) o;
      listed =
          record {
            place = place_of o.contract;
            terms = get_or s.contracts (place_of o.contract) no_contract;
            bought = get_or s.buycounts (place_of o.contract) 0;
            sold = get_or s.sellcounts (place_of o.contract) 0;
            recorded = s.tradecount;
            next = next;
            nextstamp = s.nextstamp + 1;
          };
    }

-- ---- an order that makes no trade

-- no counterpart stands in front
abbrev pub unmet : Taker → List Order → Bool
unmet t [] = true
unmet t (o ∷ os) = not (counterpart t o)

abbrev pub rests_alone : Arrival → List Order → Bool
rests_alone a opposite = in_auction a.listed.terms || unmet a.taker opposite

-- the lots that rest of it
abbrev pub rested_alone : Arrival → ℕ
rested_alone a = pick (in_auction a.listed.terms || is_good_for_day a.order.time) a.order.lots 0

-- ---- what is decided of it: whatever the accounts and the trades are, it leaves them so; or it is left to trade, and its side is as it was

abbrev pub ArrivedTo : Arrival → List ℕ → ℕ → List ℕ → ℕ → Answer → Update → List ℕ → Type 0
ArrivedTo a owns own opposites opposite answer (Listing l) owns' =
    (accounts : List Account) (area : List ℕ)
    → Arrived (entered_for a (queue_in owns a.listed.place own) (queue_in opposites a.listed.place opposite)) accounts a owns own opposites opposite area
    (record { accounts = accounts; listed = l; answer = answer }) owns' opposites area
ArrivedTo a owns own opposites opposite answer (Left p) owns' = (p ≡ Trading a) × (in_auction a.listed.terms ≡ false) × (owns' ≡ owns)
ArrivedTo a owns own opposites opposite answer Nothing owns' = ⊥
ArrivedTo a owns own opposites opposite answer (Balance place balance) owns' = ⊥
ArrivedTo a owns own opposites opposite answer (Whole p) owns' = ⊥

pub record ArriveOn (a : Arrival) (owns : List ℕ) (own : ℕ) (opposites : List ℕ) (opposite : ℕ) (d : Decision) (owns' : List ℕ) : Type 0 where
  pub told : ArrivedTo a owns own opposites opposite d.answer d.update owns'

-- the same of the two areas as they are lent, by the order's side
abbrev pub DecidedAs : Arrival → List ℕ → List ℕ → Answer → Update → List ℕ → List ℕ → Type 0
DecidedAs a buys sells answer (Listing l) buys' sells' =
    (accounts : List Account) (area : List ℕ) → ArrivedIs accounts a buys sells area (record { accounts = accounts; listed = l; answer = answer }) buys' sells' area
DecidedAs a buys sells answer (Left p) buys' sells' = (p ≡ Trading a) × (in_auction a.listed.terms ≡ false) × (buys' ≡ buys) × (sells' ≡ sells)
DecidedAs a buys sells answer Nothing buys' sells' = ⊥
DecidedAs a buys sells answer (Balance place balance) buys' sells' = ⊥
DecidedAs a buys sells answer (Whole p) buys' sells' = ⊥

pub record ArriveIs (a : Arrival) (buys sells : List ℕ) (d : Decision) (buys' sells' : List ℕ) : Type 0 where
  pub told : DecidedAs a buys sells d.answer d.update buys' sells'

-- ---- an order that trades, on its side

pub record TradesOn (accounts : List Account) (a : Arrival) (owns : List ℕ) (own : ℕ) (opposites : List ℕ) (opposite : ℕ) (area : List ℕ) : Type 0 where
  pub arrives : Arriving a owns own opposites opposite
  pub matched : in_auction a.listed.terms ≡ false
  pub sweeps : SweepReady a.taker a.order.lots a.listed.terms.last accounts opposites opposite area a.listed.recorded

abbrev pub TradedOn : List Account → Arrival → List ℕ → ℕ → List ℕ → ℕ → List ℕ → Carried → List ℕ → List ℕ → List ℕ → Type 0
TradedOn accounts a owns own opposites opposite area r owns' opposites' area' =
    Arrived (entered_for a (queue_in owns a.listed.place own) (queue_in opposites a.listed.place opposite)) accounts a owns own opposites opposite area r owns' opposites' area'
