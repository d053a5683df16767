-- An order that is entered: it is ready for the book, and what the book leaves is the rules' state. An accepted insert is one with the
-- next number. Assumes nothing.
use mathlib.Core.Bool.{Bool, true, false, not}
use mathlib.Core.List.{List}
use mathlib.Core.Path.{◌≡◌, refl, sym, ap, ◌∙◌, subst⁻¹}
use Prim.Native.Nat.{ℕ, ◌+◌, ◌<◌, ◌≤◌}
use native.Mathlib.Omega.{arith}
use borrow.Author.Tests.{le-ltb, ltb-false}
use lib.ListN.{length, get_or}
use Rattle.laws.specs.Choice.{ap_pick, pick, pick_false, for_either}
use Rattle.rules.specs.Answers.{insert_refusals, listing_of, order_refusals, taker_of, trades_needed, trades_refused, taker_for}
use Rattle.rules.specs.Bounds.{in_auction, max_resting, max_trades, max_contracts, numbers_end}
use Rattle.rules.specs.Exchange.{Exchange, Listing, own, place_of, with_queues}
use Rattle.rules.specs.Kinds.{code_of, decide, kind_of}
use Rattle.rules.specs.Matching.{Entered, enter, sweep}
use Rattle.rules.specs.Memory.{AfterCommand, Memory, WellFormedState, exchange_of, memory, put, put_queue, queue_in, step_in}
use Rattle.rules.specs.Step.{entered_of, exchange_after, inserted, listing_after, with_trades}
use Rattle.rules.specs.declared.Command.TheVariants.{Insert}
use Rattle.rules.specs.declared.Contract.{Contract}
use Rattle.rules.specs.declared.NewOrder.{NewOrder}
use Rattle.rules.specs.declared.Order.{Order}
use Rattle.rules.specs.declared.State.{State}
use Rattle.theory.proofs.AuctionSteps.{trades_needed_lem as trades-entered}
use Rattle.theory.proofs.Terms.{terms}
use Rattle.theory.proofs.Refusals.{failed}
use Rattle.prices.proofs.Methods.{method_has_tick}
use Rattle.matching.specs.Sweep.{SweepReady}
use Rattle.invariants.proofs.Clauses.{Counted, WellFormed, well_formed, well_formed_test}
use Rattle.invariants.proofs.Insert.{entered_counted, entered_keeps}
use Rattle.invariants.proofs.InsertAccepted.{Given, Passes, next_given, numbered, passes}
use Rattle.invariants.proofs.Marks.{Marks, no_mark}
use Rattle.invariants.proofs.MemoryKeeps.{sound}
use Rattle.invariants.proofs.Traded.{traded_counted}
use Rattle.engine.specs.Sides.{side_area, side_count}
use Rattle.refusals.specs.Insertion.{Present}
use Rattle.insertion.specs.Entry.{Enterable, Known, arrival_of, entered_in}
use Rattle.engine.specs.Arrival.{ArrivalReady, Arrived, ArrivedIs, entered_for, orders_on}
use Rattle.engine.specs.Decision.{outcome_of, with_carried}
use Rattle.engine.specs.Outcome.{OutcomeIs}
use Rattle.engine.specs.declared.answers.Outcome.{Outcome}
use Rattle.engine.specs.declared.updates.Arrival.{Arrival}
use Rattle.engine.specs.declared.updates.Carried.{Carried}
use Rattle.engine.proofs.Formed.{Formed, contracts_count, formed, no_account_lem, no_contract_lem}
use Rattle.engine.proofs.Puts.{trades_count}
use Rattle.engine.proofs.Traded.{few_after, put_traded}
use Rattle.refusals.proofs.Inserting.{present}
use Rattle.refusals.proofs.Sides.{contract_is, contract_terms, held_low, opposite_is, side_account, side_is, side_long, side_room}

-- ---- the two queues of a listing, by the side of an order

module _ (sell : Bool) (c : Contract) (mine others : List Order) where
  own_with : own sell (with_queues sell c mine others) ≡ mine
  own_with = for_either (λ s. own s (with_queues s c mine others) ≡ mine) refl refl sell

-- ---- and each written where it lies

module _ (buys sells bought sold : List ℕ) (c : ℕ) (mine others : List Order) where
  put_buys : (sell : Bool) → put_queue buys c (get_or bought c 0) (pick sell others mine)
      ≡ pick sell (put_queue (pick (not sell) sells buys) c (get_or (pick (not sell) sold bought) c 0) others) (put_queue (pick sell sells buys) c (get_or (pick sell sold bought) c 0) mine)
  put_buys true = refl
  put_buys false = refl

  put_sells : (sell : Bool) → put_queue sells c (get_or sold c 0) (pick sell mine others)
      ≡ pick sell (put_queue (pick sell sells buys) c (get_or (pick sell sold bought) c 0) mine) (put_queue (pick (not sell) sells buys) c (get_or (pick (not sell) sold bought) c 0) others)
  put_sells true = refl
  put_sells false = refl

module _ {s : State} {buys sells trades : List ℕ} (w : WellFormedState s buys sells trades) (o : NewOrder) (number quote next : ℕ)
    (g : Enterable s buys sells trades o number quote next) where
  abbrev m : Memory
  m = memory s buys sells trades

  abbrev x : Exchange
  x = exchange_of m

  f : Formed m
  f = formed w

  abbrev c : ℕ
  c = place_of o.contract

  here : Present s o
  here = g.present

  -- ---- the order and its queues, as they lie

  abbrev mine : List Order
  mine = queue_in (side_area o.sell buys sells) c (side_count o.sell s c)

  abbrev others : List Order
  others = queue_in (side_area (not o.sell) buys sells) c (side_count (not o.sell) s c)

  abbrev arriving_order : Arrival
  arriving_order = arrival_of s buys sells o number quote next

  abbrev terms_in : Contract
  terms_in = arriving_order.listed.terms

  count_is : (side : Bool) → orders_on side arriving_order.listed ≡ side_count side s c
  count_is true = refl
  count_is false = refl

  abbrev entered : Entered
  entered = entered_for arriving_order mine others

  taker_is : taker_of x number quote o ≡ taker_for number quote s.nextstamp (terms_in) others o
  unfolding taker_of listing_of exchange_of
  taker_is = rw (opposite_is m f c here.contract o.sell, contract_is m f c here.contract)

  last_is : (listing_of x o).contract.last ≡ terms_in.last
  unfolding listing_of
  last_is = ap (λ (k : Contract). k.last) (contract_is m f c here.contract)

  terms_are : (listing_of x o).contract ≡ terms_in
  unfolding listing_of
  terms_are = contract_is m f c here.contract

  entered_is : entered_of x number quote o ≡ entered
  unfolding entered_of listing_of
  entered_is = rw (taker_is, last_is, terms_are, side_is m f c here.contract o.sell, opposite_is m f c here.contract o.sell)

  trades_needed_lem : in_auction (terms_in) ≡ false → trades_needed x number o ≡ length (sweep (taker_for number quote s.nextstamp (terms_in) others o) o.lots terms_in.last others).trades
  unfolding enter
  trades_needed_lem e = trades-entered x number quote o ∙ ap (λ (r : Entered). length r.trades) (entered_is ∙ pick_false (in_auction (terms_in)) _ _ e)

  -- ---- the state after it

  abbrev listing : Listing
  listing = listing_after (listing_of x o) o.sell entered

  abbrev after : Exchange
  after = with_trades x c listing entered.trades next (x.nextstamp + 1)

  few : (side : Bool) → length (own side listing) ≤ max_resting
  few side = rw (← entered_is) (g.few side)

  trades_fit : length x.trades + trades_needed x number o ≤ max_trades
  unfolding trades_refused
  trades_fit = ltb-false _ _ g.room

  after_counted : Counted after
  after_counted =
      traded_counted x c listing entered.trades next (x.nextstamp + 1) (rw (contracts_count m f) here.contract) few
      (rw (← entered_is) (omega (arith, trades_fit, trades-entered x number quote o)))
      (sound m w.formed).counts

  after_formed : WellFormed after
  unfolding exchange_after
  after_formed = well_formed after (rw (← entered_is) g.leaves)

  own_few : length entered.own ≤ max_resting
  unfolding listing_after
  own_few = rw own_with at (few o.sell)

  -- ---- ready for the book

  sweeps : in_auction (terms_in) ≡ false
      → SweepReady (taker_for number quote s.nextstamp (terms_in) others o) o.lots terms_in.last s.accounts (side_area (not o.sell) buys sells) (side_count (not o.sell) s c) trades s.tradecount
  sweeps e =
      record {
        contract = omega (arith, here.contract, f.contracts_high);
        method = method_has_tick (terms_in) (terms (terms_in) (contract_terms m f c here.contract)).tick_low;
        size = g.lots;
        queue = side_room m f c here.contract (not o.sell);
        room = omega (arith, trades_fit, trades_count m f, trades_needed_lem e, f.trades_room);
        parties =
            record {
              used = s.accountcount;
              few = f.accounts_high;
              taker = here.account;
              resting = side_account m f c here.contract (not o.sell);
              holdings = record { each = λ a l. held_low m f c here.contract a l };
            };
      }

  pub known : Known s buys sells o
  known =
      record {
        account_low = here.account_low;
        contract_low = here.contract_low;
        contract = omega (arith, here.contract, f.contracts_high);
        stamp = g.stamp;
        opposite = side_room m f c here.contract (not o.sell);
      }

  pub ready : {a : Arrival} → a ≡ arrival_of s buys sells o number quote next → ArrivalReady s.accounts a buys sells trades
  ready is =
      rw is
      (record {
        arrives =
            rw (count_is o.sell, count_is (not o.sell))
            (record {
              place = refl;
              fits = known.contract;
              queue = side_room m f c here.contract (not o.sell);
              rests = omega (arith, own_few, side_long m f c here.contract o.sell);
            });
        sweeps = rw (count_is (not o.sell)) sweeps;
      })

  -- ---- written into the memory

  module _ {r : Carried} {owns' opposites' area' : List ℕ}
      (is : Arrived entered s.accounts arriving_order (side_area o.sell buys sells) (side_count o.sell s c) (side_area (not o.sell) buys sells) (side_count (not o.sell) s c) trades r owns' opposites' area') where
    lies : put m after ≡ memory (with_carried s r) (pick o.sell opposites' owns') (pick o.sell owns' opposites') area'
    unfolding listing_after listing_of exchange_of
    lies =
        rw (is.listed, is.accounts_booked, is.own_queue_lem, is.opposite_queue_lem, is.trades)
        (put_traded m f c listing entered.trades next (x.nextstamp + 1) here.contract after_formed after_counted
        ∙ rw (
          contract_is m f c here.contract,
          ap_pick length o.sell entered.opposite entered.own,
          ap_pick length o.sell entered.own entered.opposite,
          put_buys buys sells s.buycounts s.sellcounts c entered.own entered.opposite o.sell,
          put_sells buys sells s.buycounts s.sellcounts c entered.own entered.opposite o.sell,
        ))

  -- ---- the outcome

  lent_buys : (buys' sells' : List ℕ) (side : Bool) → pick side (side_area (not side) buys' sells') (side_area side buys' sells') ≡ buys'
  lent_buys buys' sells' true = refl
  lent_buys buys' sells' false = refl

  lent_sells : (buys' sells' : List ℕ) (side : Bool) → pick side (side_area side buys' sells') (side_area (not side) buys' sells') ≡ sells'
  lent_sells buys' sells' true = refl
  lent_sells buys' sells' false = refl

  module _ {a : Arrival} (is : a ≡ arrival_of s buys sells o number quote next) {r : Carried} (buys' sells' : List ℕ) {trades' : List ℕ}
      (arrived : ArrivedIs s.accounts a buys sells trades r buys' sells' trades') where
    entry : Arrived entered s.accounts arriving_order (side_area o.sell buys sells) (side_count o.sell s c) (side_area (not o.sell) buys sells) (side_count (not o.sell) s c) trades r
        (side_area o.sell buys' sells') (side_area (not o.sell) buys' sells') trades'
    entry = rw (is, count_is o.sell, count_is (not o.sell)) at arrived

    pub entered_place : r.listed.place < max_contracts
    entered_place = rw entry.listed known.contract

    pub order_entered : OutcomeIs (entered_in m o number quote next) (outcome_of s r) buys' sells' trades'
    unfolding exchange_after
    order_entered =
        record {
          answer = entry.answer ∙ rw entered_is;
          memory = sym (rw entered_is (rw (lent_buys buys' sells' o.sell, lent_sells buys' sells' o.sell) at (lies entry)));
        }

-- an outcome that the code makes
pub carried_told : {o result : Outcome} {left : AfterCommand} {buys sells trades : List ℕ} → result ≡ o → OutcomeIs left o buys sells trades → OutcomeIs left result buys sells trades
carried_told {left = left} {buys = buys} {sells = sells} {trades = trades} e k = subst⁻¹ (λ (v : Outcome). OutcomeIs left v buys sells trades) e k

-- ---- an order that passes its tests may be entered

module _ {s : State} {buys sells trades : List ℕ} (w : WellFormedState s buys sells trades) (o : NewOrder) (number quote next : ℕ)
    (there : Present s o) (given : Given (exchange_of (memory s buys sells trades)) number next) (passed : Passes (exchange_of (memory s buys sells trades)) number o)
    (marked : Marks (exchange_of (memory s buys sells trades)) quote o) where
  abbrev m₁ : Memory
  m₁ = memory s buys sells trades

  abbrev x₁ : Exchange
  x₁ = exchange_of m₁

  leaves : WellFormed (exchange_after x₁ o (entered_of x₁ number quote o) next)
  leaves = entered_keeps x₁ (formed w).contents number quote next given o passed marked

  counted : Counted (exchange_after x₁ o (entered_of x₁ number quote o) next)
  counted = entered_counted x₁ (formed w).contents number quote next given o passed marked (sound m₁ w.formed).counts

  few_left : (side : Bool) → length (own side (listing_after (listing_of x₁ o) o.sell (entered_of x₁ number quote o))) ≤ max_resting
  unfolding exchange_after
  few_left side = few_after m₁ (formed w) (place_of o.contract) _ _ next (x₁.nextstamp + 1) there.contract leaves counted side

  pub may_enter : Enterable s buys sells trades o number quote next
  unfolding exchange_of trades_refused
  may_enter =
      record {
        present = there;
        lots = passed.lots_high;
        stamp = passed.stamp;
        room = le-ltb _ _ passed.trades;
        few = few_left;
        leaves = well_formed_test _ leaves;
      }

-- ---- an accepted insert

module _ {s : State} {buys sells trades : List ℕ} (w : WellFormedState s buys sells trades) (o : NewOrder)
    (accepted : code_of (exchange_of (memory s buys sells trades)) (Insert o) ≡ 0) where
  abbrev m' : Memory
  m' = memory s buys sells trades

  abbrev x' : Exchange
  x' = exchange_of m'

  passed : Passes x' x'.next o
  unfolding code_of kind_of
  passed = passes x' o accepted

  pub next_low : s.next < numbers_end
  unfolding code_of kind_of exchange_of
  next_low = numbered x' o accepted

  there : Present s o
  unfolding code_of kind_of insert_refusals order_refusals
  there =
      let tests = failed (insert_refusals x' o) (omega arith) accepted in
      present w o (sym (no_account_lem m' (formed w) o.account) ∙ tests.0) (sym (no_contract_lem m' (formed w) o.contract) ∙ tests.1.0)

  pub enterable : Enterable s buys sells trades o s.next 0 (s.next + 1)
  unfolding exchange_of
  enterable =
      may_enter w o x'.next 0 (x'.next + 1) there (next_given x' (formed w).contents next_low) passed
      (no_mark x' (formed w).contents o passed.account passed.contract)

  pub insert_entered : {r : Outcome} {buys' sells' trades' : List ℕ} → OutcomeIs (entered_in m' o s.next 0 (s.next + 1)) r buys' sells' trades'
      → OutcomeIs (step_in m' (Insert o)) r buys' sells' trades'
  unfolding step_in decide kind_of inserted exchange_of
  insert_entered e = rw accepted e
