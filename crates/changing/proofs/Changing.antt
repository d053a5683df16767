-- A change of a resting order: the code's tests are the rules' refusals, and each of the four ways of an accepted one leaves what the
-- rules say. Assumes nothing.
use mathlib.Core.Bool.{Bool, true, false, not, ◌&&◌}
use mathlib.Core.List.{List, [], ◌∷◌, ◌++◌}
use mathlib.Core.Path.{◌≡◌, refl, sym, ap, subst, subst⁻¹, ◌∙◌}
use Prim.Native.Nat.{ℕ, ◌+◌, ◌-◌, ◌<◌, ◌≤◌}
use native.Mathlib.Omega.{arith}
use borrow.Author.Tests.{eq-eqb, leb-false, ltb-false, ne_eqb}
use lib.Dec.{eqb}
use lib.ListN.{length, get_or, set, length-set}
use lib.Seq.{set-get_or, set-set}
use Rattle.laws.specs.Choice.{pick}
use Rattle.areas.specs.Lists.{remove_at}
use Rattle.areas.proofs.Lists.{length_remove_at}
use Rattle.rules.specs.Answers as rules
use Rattle.rules.specs.Answers.{Refusal, cancel_refusals, day_limit_order, first_of, listing_of, named_refusals, no_such_order, not_continuous, numbered, of_another, owner_refusals, pull_refusals, resting_order}
use Rattle.rules.specs.Bounds.{max_resting, numbers_end, max_lots, max_contracts, terms_in_range}
use Rattle.rules.specs.Change.{Asked, arriving, asked, change_refusals, changed, gone, is_sell, lessened, listing_lessened, loses, loses_place, new_fields_refusals, old_order, place_kept, place_lost, reentered, reentry_refusals, unchanged}
use Rattle.rules.specs.Exchange.{Exchange, listing_named, no_account, no_contract, no_order, own, place_of}
use Rattle.rules.specs.Kinds.{code_of, decide, done, kind_of, last_of, step}
use Rattle.rules.specs.Matching.{Entered, traded_lots}
use Rattle.rules.specs.Memory.{Declared, Memory, AfterCommand, WellFormedState, exchange_of, first_word, listing_in, memory, order_stride, put, put_queue, queue_in, step_in, written}
use Rattle.book.specs.Places.{index_of}
use Rattle.rules.specs.Step.{Effect, answer_of, cancelled, entered_of, exchange_after, has_number, listing_after, removed, with_listing, without}
use Rattle.rules.specs.WellFormed.{numbers, used_once}
use Rattle.rules.specs.declared.Account.{Account}
use Rattle.rules.specs.declared.Command.{Command}
use Rattle.rules.specs.declared.Command.TheVariants.{Cancel, Change}
use Rattle.rules.specs.declared.NewOrder.{NewOrder}
use Rattle.rules.specs.declared.Order.{Order}
use Rattle.rules.specs.declared.State.{State}
use Rattle.theory.proofs.Codecs.{length_put_queue, length_queue, put_queue_lem}
use Rattle.theory.proofs.Lessened.{less_length}
use Rattle.theory.proofs.Queue.{length_without}
use Rattle.book.proofs.Places.{lots_number, numbered_append_found, numbered_append_none, numbered_found, without_none, without_number}
use Rattle.theory.proofs.Stages.{Each}
use Rattle.theory.proofs.Refusals.{Failed, failed, first_append, first_there}
use Rattle.invariants.proofs.ChangeKeeps.{change_counted, change_keeps}
use Rattle.invariants.proofs.Clauses.{Counted, WellFormed, well_formed_test}
use Rattle.invariants.proofs.MemoryKeeps.{sound, step_in_keeps, step_in_read}
use Rattle.engine.specs.Arrival.{ArrivalReady, ArrivedIs, orders_on}
use Rattle.engine.specs.Decision.{DecisionIs, accepted_by, listed_in, outcome_of, refused_by, with_carried}
use Rattle.engine.specs.Outcome.{OutcomeIs, accepted_with, with_counts_in}
use Rattle.book.specs.Removal.{RemovedIs}
use Rattle.engine.specs.declared.answers.Outcome.{Outcome}
use Rattle.engine.specs.declared.updates.Arrival.{Arrival}
use Rattle.engine.specs.declared.updates.Carried.{Carried}
use Rattle.engine.specs.declared.updates.Decision.{Decision}
use Rattle.engine.specs.declared.updates.Listed.{Listed}
use Rattle.engine.specs.declared.updates.Update.TheVariants.{Listing, Nothing}
use Rattle.engine.proofs.Decisions.{counted_decided, nothing_decided, refusal_decided}
use Rattle.engine.proofs.Formed.{Formed, formed, listing_at_lem}
use Rattle.engine.proofs.Outcomes.{acceptance, refusal}
use Rattle.engine.proofs.Puts.{put_queues_lem}
use Rattle.engine.proofs.Removals.{apart, removal_accepted, removed_none, side_few, side_once, side_room}
use Rattle.engine.proofs.Traded.{few_after}
use Rattle.engine.specs.Sides.{side_area, side_count}
use Rattle.refusals.specs.Insertion.{Present}
use Rattle.refusals.proofs.Continuous.{account_here, account_low, contract_fits, contract_here, contract_low, pulls, rooms, terms_ok}
use Rattle.insertion.specs.Entry.{ArriveIs, Enterable, Known, arrival_of, entered_in}
use Rattle.insertion.proofs.Arriving.{arrived_decided}
use Rattle.insertion.proofs.Entering.{known, order_entered, ready}
use Rattle.changing.specs.Resting.{Changeable, RestingIs, lessened_in, one_less, put_back_in, removed_in, resting_refusals}
use Rattle.changing.specs.declared.Resting.{Resting}
use Rattle.changing.proofs.Finding.{lessened_none, lessened_one, missing_of, restored}

module _ {s : State} {buys sells trades : List ℕ} (w : WellFormedState s buys sells trades) (account contract number lots price : ℕ) where
  abbrev m : Memory
  m = memory s buys sells trades

  abbrev x : Exchange
  x = exchange_of m

  f : Formed m
  f = formed w

  abbrev k : Asked
  k = asked account contract number lots price

  abbrev c : ℕ
  c = place_of contract

  abbrev command : Command
  command = Change account contract number lots price

  abbrev bought : List Order
  bought = queue_in buys c (get_or s.buycounts c 0)

  abbrev sold : List Order
  sold = queue_in sells c (get_or s.sellcounts c 0)

  -- ---- the list in its parts

  abbrev resting : List Order
  resting = resting_order (listing_named x k.contract) number

  abbrev stated : List Refusal
  stated = named_refusals x not_continuous account contract

  abbrev order_part : List Refusal
  order_part = owner_refusals (place_of account) resting ++ new_fields_refusals (listing_named x k.contract).contract lots price

  abbrev lost_part : List Refusal
  lost_part = pick (loses_place x k) (reentry_refusals (gone x k) number (arriving x k)) []

  in_parts : code_of x command ≡ pick (eqb (first_of stated) 0) (first_of (order_part ++ lost_part)) (first_of stated)
  unfolding code_of kind_of change_refusals
  in_parts = first_append stated (order_part ++ lost_part) (omega arith)

  order_first : first_of (order_part ++ lost_part) ≡ pick (eqb (first_of order_part) 0) (first_of lost_part) (first_of order_part)
  order_first = first_append order_part lost_part (omega arith)

  refused_for : (code : ℕ) → code_of x command ≡ code → (code ≡ 0 → ⊥) → {d : Decision} → d ≡ refused_by code → DecisionIs m command d buys sells trades
  refused_for code e h a = refusal_decided (refusal s buys sells trades command code (omega arith) e refl) a

  -- 2, 3 and 4
  pub refused_early : {code : ℕ} {d : Decision} → code ≡ first_of stated → (code ≡ 0 → ⊥) → d ≡ refused_by code → DecisionIs m command d buys sells trades
  refused_early {code} e h = refused_for code (in_parts ∙ rw (← e, ne_eqb code 0 h)) h

  -- ---- in continuous, the account and the contract in use

  module _ (st : first_of stated ≡ 0) where
    listing_is : listing_named x k.contract ≡ listing_in m c
    listing_is = listing_at_lem m f c (contract_here w account contract (failed stated (omega arith) st))

    resting_is : resting ≡ numbered number (bought ++ sold)
    unfolding resting_order listing_in
    resting_is = rw listing_is

    -- ---- 14, 15, 5 and 7, of the order found

    module _ {r : Resting} (rs : RestingIs number bought sold r) where
      order_is : first_of order_part ≡ first_of (resting_refusals (get_or s.contracts c no_contract) (place_of account) r.order lots price)
      unfolding listing_in
      order_is = rw (resting_is, rs.order, listing_is) refl

    -- `l` is the contract as it was read
    module _ {l : Listed} (el : l ≡ listed_in s c) where
      pub rooms_at : (first_word l.place l.bought ≤ length buys) × (first_word l.place l.sold ≤ length sells)
      rooms_at = rw el (rooms w account contract (failed stated (omega arith) st) refl refl refl)

      pub terms_at : terms_in_range l.terms ≡ true
      terms_at = rw el (terms_ok w account contract (failed stated (omega arith) st) refl)

      pub none_resting : numbered number (queue_in buys l.place l.bought ++ queue_in sells l.place l.sold) ≡ [] → DecisionIs m command (refused_by 14) buys sells trades
      unfolding first_of no_such_order
      none_resting e =
          let none : resting ≡ [] = resting_is ∙ (rw el at e) in
          refused_for 14 (in_parts ∙ rw (st, order_first, none) refl) (omega arith) refl

    module _ {l : Listed} (el : l ≡ listed_in s c) {r : Resting} (rs : RestingIs number (queue_in buys l.place l.bought) (queue_in sells l.place l.sold) r) {owner : ℕ} (mine : owner ≡ place_of account)
        {code : ℕ} (ec : code ≡ first_of (resting_refusals l.terms owner r.order lots price)) where
      found_here : RestingIs number bought sold r
      found_here = rw el at rs

      tested_here : code ≡ first_of (resting_refusals (get_or s.contracts c no_contract) (place_of account) r.order lots price)
      tested_here = rw (el, mine) at ec

      pub order_refused : (code ≡ 0 → ⊥) → {d : Decision} → d ≡ refused_by code → DecisionIs m command d buys sells trades
      order_refused h = refused_for code (in_parts ∙ rw (st, order_first, order_is found_here, ← tested_here, ne_eqb code 0 h)) h

      pub changeable : code ≡ 0 → Changeable s buys sells trades account contract number lots price r
      changeable e = record { state = st; resting = found_here; order = sym tested_here ∙ e }

  -- ---- none of these holds

  module _ {r : Resting} (g : Changeable s buys sells trades account contract number lots price r) where
    abbrev st' : first_of stated ≡ 0
    st' = g.state

    named : Failed stated
    named = failed stated (omega arith) st'

    its : Failed (resting_refusals (get_or s.contracts c no_contract) (place_of account) r.order lots price)
    its = failed (resting_refusals (get_or s.contracts c no_contract) (place_of account) r.order lots price) (omega arith) g.order

    one_found : numbered number (bought ++ sold) ≡ r.order ∷ []
    one_found = g.resting.order

    few_lots : lots ≤ max_lots
    few_lots = ltb-false _ _ its.1.1.0

    one_resting : resting ≡ r.order ∷ []
    one_resting = resting_is st' ∙ one_found

    old_is : old_order x k ≡ r.order
    unfolding old_order
    old_is = rw one_resting

    sell_is : is_sell x k ≡ r.sell
    unfolding is_sell listing_in
    sell_is = rw (listing_is st') (sym g.resting.sell)

    arriving_is : arriving x k ≡ day_limit_order account contract r.sell (eqb r.order.close 1) lots price
    unfolding arriving
    arriving_is = rw (sell_is, old_is)

    loses_is : loses_place x k ≡ (not (eqb lots 0) && loses r.order lots price)
    unfolding loses_place
    loses_is = rw old_is

    code_is : code_of x command ≡ first_of lost_part
    code_is = in_parts ∙ rw (st', order_first, order_is st' g.resting, g.order)

    kept_code : loses_place x k ≡ false → code_of x command ≡ 0
    unfolding first_of
    kept_code e = code_is ∙ rw e

    lost_code : loses_place x k ≡ true → code_of x command ≡ first_of (reentry_refusals (gone x k) number (arriving x k))
    lost_code e = code_is ∙ rw e

    -- ---- where it rests: its own queue has it once, the other has it not

    abbrev area : Bool → List ℕ
    area side = side_area side buys sells

    abbrev count : Bool → ℕ
    count side = side_count side s c

    abbrev queue : Bool → List Order
    queue side = queue_in (area side) c (count side)

    room : (side : Bool) → first_word c (count side) ≤ length (area side)
    room = side_room w account contract false (pulls w account contract named) refl

    few : (side : Bool) → count side ≤ max_resting
    few = side_few w account contract false (pulls w account contract named) refl

    once : (side : Bool) → used_once (numbers (queue side)) ≡ true
    once = side_once w account contract false (pulls w account contract named) refl

    mine : (side : Bool) → r.sell ≡ side → (r.place ≡ index_of number (queue side)) × (r.place < count side)
    mine true e =
        (rw e at g.resting.place, omega (arith, length_queue sells c (count true), ap (λ (b : Bool). length (pick b sold bought)) e, g.resting.within))
    mine false e =
        (rw e at g.resting.place, omega (arith, length_queue buys c (count false), ap (λ (b : Bool). length (pick b sold bought)) e, g.resting.within))

    mine_in : (side : Bool) → r.sell ≡ side → index_of number (queue side) < length (queue side)
    mine_in side e = omega (arith, (mine side e).0, (mine side e).1, length_queue (area side) c (count side))

    other : (side : Bool) → r.sell ≡ side → index_of number (queue (not side)) ≡ length (queue (not side))
    other true e = missing_of number bought (sym g.resting.sell ∙ e)
    other false e = apart w account contract false (pulls w account contract named) refl number (mine_in false e)

    place_in : r.place < count r.sell
    place_in = (mine r.sell refl).1

    order_there : (side : Bool) → r.sell ≡ side → get_or (queue side) r.place no_order ≡ r.order
    order_there side e = rw (mine side e).0 (sym (its_order side e))
      where
        first_of_lem : (o p : Order) → o ∷ [] ≡ p ∷ [] → o ≡ p
        first_of_lem o p q = ap (λ (l : List Order). get_or l 0 no_order) q

        its_order : (side : Bool) → r.sell ≡ side → r.order ≡ get_or (queue side) (index_of number (queue side)) no_order
        its_order false e = first_of_lem _ _ (sym one_found ∙ numbered_append_found number bought sold (mine_in false e))
        its_order true e = first_of_lem _ _ (sym one_found ∙ numbered_append_none number bought sold (other true e) ∙ numbered_found number sold (mine_in true e))

    -- ---- a cancel of it would be accepted

    -- it is the account's own
    another : not (eqb r.order.account (place_of account)) ≡ false
    unfolding of_another
    another = its.1.0

    cancel_code : code_of x (Cancel account contract false number) ≡ 0
    unfolding code_of kind_of cancel_refusals pull_refusals first_of of_another no_such_order
    cancel_code =
        sym (first_there (pull_refusals x account contract false) (owner_refusals (place_of account) resting) (omega arith) (pulls w account contract named))
        ∙ rw (one_resting, another) refl

    gone_is : (step_in m (Cancel account contract false number)).memory ≡ put m (gone x k)
    unfolding step_in decide kind_of cancelled removed gone
    gone_is = rw cancel_code

    gone_step : step x (Cancel account contract false number) ≡ gone x k
    unfolding step decide kind_of cancelled removed gone
    gone_step = rw cancel_code

    -- ---- the order taken out of its queue, the other as it was

    out_of : (side : Bool) → r.sell ≡ side → without (has_number number) (queue side) ≡ remove_at r.place (queue side)
    out_of side e = without_number number (queue side) (once side) (mine_in side e) ∙ rw (mine side e).0

    out_length : (side : Bool) → r.sell ≡ side → length (without (has_number number) (queue side)) ≡ count side - 1
    out_length side e =
        rw (out_of side e, length_remove_at r.place (queue side) (omega (arith, (mine side e).1, length_queue (area side) c (count side))), length_queue (area side) c (count side))

    own_removed : (side : Bool) → r.sell ≡ side
        → RemovedIs (has_number number) (area side) c (count side) (count side - 1) r.order.lots (removed_in (area side) c (count side) r.place)
    own_removed side e =
        record {
          queue = rw (out_of side e);
          count = sym (out_length side e);
          lots = rw (lots_number number (queue side) (once side) (mine_in side e), ← (mine side e).0, order_there side e);
        }

    other_removed : (side : Bool) → r.sell ≡ side → RemovedIs (has_number number) (area (not side)) c (count (not side)) (count (not side)) 0 (area (not side))
    other_removed side e = removed_none (has_number number) (area (not side)) c (count (not side)) (room (not side)) (other side e)

    abbrev Cancelled : State → List ℕ → List ℕ → Type 0
    Cancelled t buys' sells' = OutcomeIs (step_in m (Cancel account contract false number)) (accepted_with t number 0 r.order.lots) buys' sells' trades

    as_cancelled : (side : Bool) → r.sell ≡ side
        → Cancelled (with_counts_in s (set s.buycounts c (pick side (count false) (count false - 1))) (set s.sellcounts c (pick side (count true - 1) (count true))))
        (pick side buys (removed_in buys c (count false) r.place)) (pick side (removed_in sells c (count true) r.place) sells)
    unfolding kind_of cancelled
    as_cancelled true e =
        removal_accepted w account contract false (pulls w account contract named) refl (has_number number) (other_removed true e) (own_removed true e)
        (Cancel account contract false number) cancel_code refl refl (omega arith) refl
    as_cancelled false e =
        removal_accepted w account contract false (pulls w account contract named) refl (has_number number) (own_removed false e) (other_removed false e)
        (Cancel account contract false number) cancel_code refl refl (omega arith) refl

    -- "Zero lots removes the order"
    zero_same : lots ≡ 0 → step_in m (Cancel account contract false number) ≡ step_in m command
    unfolding step_in decide kind_of changed
    zero_same e = rw (cancel_code, kept_code (loses_is ∙ rw (eq-eqb lots 0 e)), eq-eqb lots 0 e)

    -- ---- `l` is the contract as it was read

    count_on : (side : Bool) → orders_on side (listed_in s c) ≡ count side
    count_on true = refl
    count_on false = refl

    module _ {l : Listed} (el : l ≡ listed_in s c) where
      pub its_place : (r.place < orders_on r.sell l) × (first_word l.place (orders_on r.sell l) ≤ length (side_area r.sell buys sells))
      its_place = rw (el, count_on r.sell) (place_in, room r.sell)

      pub one_there : 1 ≤ orders_on r.sell l
      one_there = omega (arith, its_place.0)

      -- the contract without its order
      module _ {less : Listed} (is : less ≡ one_less l r.sell) where
        less_is : less ≡ one_less (listed_in s c) r.sell
        less_is = is ∙ ap (λ (v : Listed). one_less v r.sell) el

        pub less_fits : less.place < max_contracts
        less_fits = rw less_is (contract_fits w account contract named refl)

        module _ {buys' sells' : List ℕ} (eb : buys' ≡ pick r.sell buys (removed_in buys l.place l.bought r.place))
            (es : sells' ≡ pick r.sell (removed_in sells l.place l.sold r.place) sells) where
          cancelled_here : Cancelled (with_counts_in s (set s.buycounts c (pick r.sell (count false) (count false - 1))) (set s.sellcounts c (pick r.sell (count true - 1) (count true)))) buys' sells'
          cancelled_here = rw (eb, es, el) (as_cancelled r.sell refl)

          pub zero_changed : lots ≡ 0 → {d : Decision} → d ≡ accepted_by (Listing less) number r.order.lots → DecisionIs m command d buys' sells' trades
          zero_changed e a =
              counted_decided (contract_fits w account contract named refl)
              (subst (λ (q : AfterCommand). OutcomeIs q (accepted_with (with_counts_in s (set s.buycounts c (pick r.sell (count false) (count false - 1))) (set s.sellcounts c (pick r.sell (count true - 1) (count true)))) number 0 r.order.lots) buys' sells' trades)
              (zero_same e) cancelled_here)
              (a ∙ ap (λ (v : Listed). accepted_by (Listing v) number r.order.lots) less_is)

    module _ (some : lots ≡ 0 → ⊥) where
      none_zero : eqb lots 0 ≡ false
      none_zero = ne_eqb lots 0 some

      -- ---- the place kept

      module _ (keeps : loses r.order lots price ≡ false) where
        kept : loses_place x k ≡ false
        kept = loses_is ∙ rw (none_zero, keeps)

        -- "Equal lots and price change nothing."
        equal_is : lots ≡ r.order.lots → changed x k ≡ unchanged x k
        unfolding changed
        equal_is e =
            let same : eqb lots (old_order x k).lots ≡ true = rw old_is (eq-eqb lots r.order.lots e) in
            rw (none_zero, kept, same)

        pub equal_changed : lots ≡ r.order.lots → {d : Decision} → d ≡ accepted_by Nothing number lots → DecisionIs m command d buys sells trades
        unfolding kind_of unchanged
        equal_changed e a =
            nothing_decided
            (acceptance s buys sells trades command (kept_code kept) (ap (λ (t : Effect). (done t).answer) (equal_is e)) (ap (λ (t : Effect). written m t.stages) (equal_is e)) refl) a

        -- "fewer lots keep the place in the queue"
        fewer_is : (lots ≡ r.order.lots → ⊥) → changed x k ≡ place_kept x k
        unfolding changed
        fewer_is h =
            let apart' : eqb lots (old_order x k).lots ≡ false = rw old_is (ne_eqb lots r.order.lots h) in
            rw (none_zero, kept, apart')

        less_own : (side : Bool) → r.sell ≡ side → put_queue (area side) c (count side) (lessened number lots (queue side)) ≡ lessened_in (area side) c (count side) r.place lots
        less_own side e = rw (lessened_one number lots (queue side) (once side) (mine_in side e), ← (mine side e).0)

        less_other : (side : Bool) → r.sell ≡ side → put_queue (area (not side)) c (count (not side)) (lessened number lots (queue (not side))) ≡ area (not side)
        less_other side e = rw (lessened_none number lots (queue (not side)) (other side e)) (put_queue_lem (area (not side)) c (count (not side)) (room (not side)))

        less_buys : (side : Bool) → r.sell ≡ side → put_queue buys c (count false) (lessened number lots bought) ≡ pick side buys (lessened_in buys c (count false) r.place lots)
        less_buys true e = less_other true e
        less_buys false e = less_own false e

        less_sells : (side : Bool) → r.sell ≡ side → put_queue sells c (count true) (lessened number lots sold) ≡ pick side (lessened_in sells c (count true) r.place lots) sells
        less_sells true e = less_own true e
        less_sells false e = less_other false e

        less_few : (side : Bool) → length (lessened number lots (queue side)) ≤ max_resting
        less_few side = omega (arith, less_length number lots (queue side), length_queue (area side) c (count side), few side)

        less_lies : put m (with_listing x c (listing_lessened k (listing_named x k.contract)))
            ≡ memory s (pick r.sell buys (lessened_in buys c (count false) r.place lots)) (pick r.sell (lessened_in sells c (count true) r.place lots) sells) trades
        unfolding listing_in
        less_lies =
            rw (listing_is st')
            (put_queues_lem m f c (contract_here w account contract named) (lessened number lots bought) (lessened number lots sold) (less_few false) (less_few true)
            ∙ rw (
              less_length number lots bought,
              less_length number lots sold,
              length_queue buys c (count false),
              length_queue sells c (count true),
              set-get_or s.buycounts c 0,
              set-get_or s.sellcounts c 0,
              less_buys r.sell refl,
              less_sells r.sell refl,
            ))

        pub fewer_changed : (lots ≡ r.order.lots → ⊥) → {l : Listed} → l ≡ listed_in s c → {buys' sells' : List ℕ}
            → buys' ≡ pick r.sell buys (lessened_in buys l.place l.bought r.place lots) → sells' ≡ pick r.sell (lessened_in sells l.place l.sold r.place lots) sells
            → {d : Decision} → d ≡ accepted_by Nothing number lots → DecisionIs m command d buys' sells' trades
        unfolding kind_of place_kept
        fewer_changed h el eb es a =
            nothing_decided
            (rw (eb, es, el)
            (acceptance s buys sells trades command (kept_code kept) (ap (λ (t : Effect). (done t).answer) (fewer_is h))
            (ap (λ (t : Effect). written m t.stages) (fewer_is h) ∙ less_lies) refl)) a

      -- ---- the place lost: the order is taken out, and `t` is the state without it

      module _ (lost : loses r.order lots price ≡ true) {l : Listed} (el : l ≡ listed_in s c) {less : Listed} (is : less ≡ one_less l r.sell) {buys' sells' : List ℕ}
          (eb : buys' ≡ pick r.sell buys (removed_in buys l.place l.bought r.place)) (es : sells' ≡ pick r.sell (removed_in sells l.place l.sold r.place) sells)
          {t : State} (et : t ≡ with_counts_in s (set s.buycounts less.place less.bought) (set s.sellcounts less.place less.sold)) where
        taken : Cancelled t buys' sells'
        taken = rw (et, less_is el is) (cancelled_here el is eb es)

        loss : loses_place x k ≡ true
        loss = loses_is ∙ rw (none_zero, lost)

        abbrev m' : Memory
        m' = memory t buys' sells' trades

        lies : m' ≡ put m (gone x k)
        lies = taken.memory ∙ gone_is

        read : exchange_of m' ≡ gone x k
        read = ap exchange_of taken.memory ∙ step_in_read m w.formed (Cancel account contract false number) ∙ gone_step

        abbrev left : Bool → List Order
        left side = without (has_number number) (queue side)

        left_few : (side : Bool) → length (left side) ≤ max_resting
        left_few side = omega (arith, length_without (has_number number) (queue side), length_queue (area side) c (count side), few side)

        gone_lies : put m (gone x k)
            ≡ memory (with_counts_in s (set s.buycounts c (length (left false))) (set s.sellcounts c (length (left true)))) (put_queue buys c (count false) (left false)) (put_queue sells c (count true) (left true)) trades
        unfolding gone listing_in
        gone_lies = rw (listing_is st') (put_queues_lem m f c (contract_here w account contract named) (left false) (left true) (left_few false) (left_few true))

        gone_state : t ≡ with_counts_in s (set s.buycounts c (length (left false))) (set s.sellcounts c (length (left true)))
        gone_state = ap (λ (n : Memory). n.state) (lies ∙ gone_lies)

        gone_buys : buys' ≡ put_queue buys c (count false) (left false)
        gone_buys = ap (λ (n : Memory). n.buys) (lies ∙ gone_lies)

        gone_sells : sells' ≡ put_queue sells c (count true) (left true)
        gone_sells = ap (λ (n : Memory). n.sells) (lies ∙ gone_lies)

        gone_declared : Declared t
        gone_declared =
            let d = w.declared in
            rw gone_state
            (record {
              contracts = d.contracts;
              accounts = d.accounts;
              buycounts = length-set s.buycounts c (length (left false)) ∙ d.buycounts;
              sellcounts = length-set s.sellcounts c (length (left true)) ∙ d.sellcounts;
              holdings = d.holdings;
            })

        pub gone_formed : WellFormedState t buys' sells' trades
        gone_formed = record { declared = gone_declared; formed = rw taken.memory (step_in_keeps m w.formed (Cancel account contract false number)) }

        -- the order as it arrives again
        module _ {o : NewOrder} (eo : o ≡ day_limit_order account contract r.sell (eqb r.order.close 1) lots price) where
          its_order : o ≡ arriving x k
          its_order = eo ∙ sym arriving_is

          pub gone_present : Present t o
          gone_present =
              rw (eo, gone_state)
              (record { account_low = account_low w account contract named; account = account_here w account contract named; contract_low = contract_low w account contract named; contract = contract_here w account contract named })

          pub gone_lots : o.lots ≤ max_lots
          gone_lots = rw eo few_lots

          pub gone_owner : {who : Account} → get_or s.accounts (place_of account) no_account ≡ who → get_or t.accounts (place_of o.account) no_account ≡ who
          gone_owner e = rw (eo, gone_state) e

          module _ {code : ℕ} (ec : code ≡ first_of (reentry_refusals (exchange_of m') number o)) where
            changed_code : code_of x command ≡ code
            changed_code = lost_code loss ∙ sym (ec ∙ rw (its_order, read))

            -- ---- refused: the order is put back

            module _ (refused : code ≡ 0 → ⊥) where
              kept_other : (side : Bool) → r.sell ≡ side → put_queue (area (not side)) c (count (not side)) (left (not side)) ≡ area (not side)
              kept_other side e = rw (without_none (has_number number) (queue (not side)) (other side e)) (put_queue_lem (area (not side)) c (count (not side)) (room (not side)))

              less_place : less.place ≡ c
              less_place = ap (λ (v : Listed). v.place) (less_is el is)

              less_one : (side : Bool) → r.sell ≡ side → orders_on side less ≡ count side - 1
              less_one true e = ap (λ (v : Listed). v.sold) (less_is el is) ∙ rw e
              less_one false e = ap (λ (v : Listed). v.bought) (less_is el is) ∙ rw e

              wide : (side : Bool) → length (side_area side buys' sells') ≡ length (area side)
              wide true = ap length gone_sells ∙ length_put_queue sells c (count true) (left true) (few true) (left_few true) (omega (arith, f.sells_room, contract_here w account contract named))
              wide false = ap length gone_buys ∙ length_put_queue buys c (count false) (left false) (few false) (left_few false) (omega (arith, f.buys_room, contract_here w account contract named))

              pub can_put_back : (r.place ≤ orders_on r.sell less) × (first_word less.place (orders_on r.sell less) + order_stride ≤ length (side_area r.sell buys' sells'))
              can_put_back =
                  (omega (arith, less_one r.sell refl, place_in), omega (arith, less_place, less_one r.sell refl, place_in, wide r.sell, room r.sell))

              back_buys : (side : Bool) → r.sell ≡ side → {b : List ℕ} → b ≡ pick side buys' (put_back_in buys' c less.bought r.place r.order) → b ≡ buys
              back_buys true e q = q ∙ gone_buys ∙ kept_other true e
              back_buys false e q =
                  restored buys c (count false) r.place r.order (mine false e).1 (room false) (order_there false e)
                  (gone_buys ∙ rw (out_of false e)) (less_one false e) q

              back_sells : (side : Bool) → r.sell ≡ side → {b : List ℕ} → b ≡ pick side (put_back_in sells' c less.sold r.place r.order) sells' → b ≡ sells
              back_sells true e q =
                  restored sells c (count true) r.place r.order (mine true e).1 (room true) (order_there true e)
                  (gone_sells ∙ rw (out_of true e)) (less_one true e) q
              back_sells false e q = q ∙ gone_sells ∙ kept_other false e

              pub lost_refused : {b d : List ℕ} → b ≡ pick r.sell buys' (put_back_in buys' less.place less.bought r.place r.order)
                  → d ≡ pick r.sell (put_back_in sells' less.place less.sold r.place r.order) sells' → {q : Decision} → q ≡ refused_by code → DecisionIs m command q b d trades
              lost_refused bids offers a =
                  rw (back_buys r.sell refl (rw less_place at bids), back_sells r.sell refl (rw less_place at offers)) (refused_for code changed_code refused a)

            -- ---- accepted: it is entered

            module _ (clear : code ≡ 0) where
              zero_code : code_of x command ≡ 0
              zero_code = changed_code ∙ clear

              next_is : t.next ≡ s.next
              next_is = rw gone_state

              lost_is : changed x k ≡ place_lost x k
              unfolding changed
              lost_is = rw (none_zero, loss)

              refusals_zero : first_of (change_refusals x k) ≡ 0
              unfolding code_of kind_of
              refusals_zero = zero_code

              abbrev after : Exchange
              after = exchange_after (gone x k) (arriving x k) (reentered x k) x.next

              after_keeps : WellFormed after
              unfolding place_lost
              after_keeps =
                  subst (λ (v : Effect). WellFormed (last_of x v.stages)) lost_is (change_keeps x f.contents k refusals_zero (sound m w.formed).counts)

              after_counted : Counted after
              unfolding place_lost
              after_counted = (subst (λ (v : Effect). Each Counted v.stages) lost_is (change_counted x f.contents k refusals_zero (sound m w.formed).counts)).1.0

              reentry : Failed (reentry_refusals (exchange_of m') number o)
              reentry = failed (reentry_refusals (exchange_of m') number o) (omega arith) (sym ec ∙ clear)

              x_next : x.next ≡ s.next
              unfolding exchange_of
              x_next = refl

              same_after : exchange_after (exchange_of m') o (entered_of (exchange_of m') number 0 o) t.next ≡ after
              unfolding reentered
              same_after =
                  ap (λ (v : NewOrder). exchange_after (exchange_of m') v (entered_of (exchange_of m') number 0 v) t.next) its_order
                  ∙ ap (λ (y : Exchange). exchange_after y (arriving x k) (entered_of y number 0 (arriving x k)) t.next) read
                  ∙ ap (λ (n : ℕ). exchange_after (gone x k) (arriving x k) (entered_of (gone x k) number 0 (arriving x k)) n) (next_is ∙ sym x_next)

              -- what it leaves is well formed
              entered_keeps : WellFormed (exchange_after (exchange_of m') o (entered_of (exchange_of m') number 0 o) t.next)
              entered_keeps = subst WellFormed (sym same_after) after_keeps

              entered_counted : Counted (exchange_after (exchange_of m') o (entered_of (exchange_of m') number 0 o) t.next)
              entered_counted = subst Counted (sym same_after) after_counted

              entered_few : (side : Bool) → length (own side (listing_after (listing_of (exchange_of m') o) o.sell (entered_of (exchange_of m') number 0 o))) ≤ max_resting
              unfolding exchange_after
              entered_few side =
                  few_after m' (formed gone_formed) (place_of o.contract) _ _ t.next ((exchange_of m').nextstamp + 1) gone_present.contract entered_keeps entered_counted side

              stamp_left : t.nextstamp < numbers_end
              unfolding exchange_of
              stamp_left = leb-false _ _ reentry.1.1.0

              trades_room : rules.trades_refused (exchange_of m') number o ≡ false
              trades_room = reentry.1.1.1.0

              pub lost_enterable : Enterable t buys' sells' trades o number 0 t.next
              lost_enterable =
                  record {
                    present = gone_present;
                    lots = gone_lots;
                    stamp = stamp_left;
                    room = trades_room;
                    few = entered_few;
                    leaves = well_formed_test _ entered_keeps;
                  }

              pub lost_known : Known t buys' sells' o
              lost_known = known gone_formed o number 0 t.next lost_enterable

              same_entered : entered_of (exchange_of m') number 0 o ≡ reentered x k
              unfolding reentered
              same_entered = rw its_order (ap (λ (y : Exchange). entered_of y number 0 (arriving x k)) read)

              response : step_in m command
                  ≡ record { answer = answer_of 0 number (traded_lots (reentered x k).trades) (reentered x k).rested; memory = put (put m (gone x k)) after }
              unfolding step_in decide kind_of place_lost
              response = rw (zero_code, lost_is)

              same_response : entered_in m' o number 0 t.next ≡ step_in m command
              same_response =
                  ap (λ (e : Entered). record {
                    answer = answer_of 0 number (traded_lots e.trades) e.rested;
                    memory = put m' (exchange_after (exchange_of m') o (entered_of (exchange_of m') number 0 o) t.next);
                  }) same_entered
                  ∙ ap (λ (y : Exchange). record { answer = answer_of 0 number (traded_lots (reentered x k).trades) (reentered x k).rested; memory = put m' y }) same_after
                  ∙ ap (λ (v : Memory). record { answer = answer_of 0 number (traded_lots (reentered x k).trades) (reentered x k).rested; memory = put v after }) lies
                  ∙ sym response

              lost_changed : {q : Outcome} {b d e : List ℕ} → OutcomeIs (entered_in m' o number 0 t.next) q b d e → OutcomeIs (step_in m command) q b d e
              lost_changed {q} {b} {d} {e} h = subst (λ (v : AfterCommand). OutcomeIs v q b d e) same_response h

              -- what it leaves is written over the counts: whether they were one less before plays no part
              module _ {a : Arrival} (ea : a ≡ arrival_of t buys' sells' o number 0 t.next) where
                pub enters : ArrivalReady t.accounts a buys' sells' trades
                enters = ready gone_formed o number 0 t.next lost_enterable ea

                accounts_are : t.accounts ≡ s.accounts
                accounts_are = rw gone_state

                place_is : a.listed.place ≡ c
                place_is = rw (ea, eo)

                same_written : (q : Carried) → q.listed.place ≡ c → with_carried t q ≡ with_carried s q
                same_written q e =
                    rw (e, gone_state, set-set s.buycounts c (length (left false)) q.listed.bought, set-set s.sellcounts c (length (left true)) q.listed.sold)

                entered : (q : Carried) (b d e : List ℕ) → ArrivedIs s.accounts a buys' sells' trades q b d e → OutcomeIs (step_in m command) (outcome_of s q) b d e
                entered q b d e arrived =
                    let there : q.listed.place ≡ c = ap (λ (v : Listed). v.place) arrived.listed ∙ place_is in
                    subst (λ (v : State). OutcomeIs (step_in m command) (record { answer = q.answer; state = v }) b d e) (same_written q there)
                    (lost_changed
                    (order_entered gone_formed o number 0 t.next lost_enterable ea b d (subst⁻¹ (λ (v : List Account). ArrivedIs v a buys' sells' trades q b d e) accounts_are arrived)))

                pub lost_decided : {d : Decision} {b e : List ℕ} → ArriveIs a buys' sells' d b e → DecisionIs m command d b e trades
                lost_decided = arrived_decided (subst (λ (v : List Account). ArrivalReady v a buys' sells' trades) accounts_are enters) entered
