-- Cancel and pull: the code's tests are the rules' refusals, and the queues without the orders taken out are the rules' state.
-- Assumes nothing.
use Rattle.std.proofs.Common.{Err, None, Ok, Some}
use mathlib.Core.Bool.{Bool, true, false, not}
use mathlib.Core.List.{List, [], ◌∷◌, ◌++◌, append_assoc}
use mathlib.Core.Logic.{◌⊎◌, ◌≢◌, ⊎_elim}
use mathlib.Core.Path.{◌≡◌, refl, sym, ap, ◌∙◌}
use Prim.Native.Nat.{ℕ, zero, suc, ◌+◌, ◌-◌, ◌*◌, ◌<◌, ◌≤◌}
use native.Mathlib.Nat.{le_of_suc-le-suc, not-suc-le-zero, eq-or-lt_of_le}
use native.Mathlib.Omega.{arith}
use borrow.Author.Tests.{eq-eqb, ne_eqb}
use lib.Dec.{eqb}
use lib.ListN.{length, get_or, set}
use Rattle.laws.specs.Choice.{pick, all_of, all_of_at}
use Rattle.laws.specs.Sums.{sum_of_bound}
use Rattle.areas.specs.Lists.{remove_at}
use Rattle.areas.proofs.Lists.{length_remove_at}
use Rattle.rules.specs.Kinds.{code_of, done, kind_of}
use Rattle.rules.specs.Answers.{Refusal, cancel_refusals, first_of, no_such_order, numbered, of_another, owner_refusals, pull_refusals, removal_refused, resting_order}
use Rattle.rules.specs.Codes.{code_number}
use Rattle.rules.specs.Bounds.{max_lots, max_resting, max_contracts, continuous}
use Rattle.rules.specs.Exchange as exchange
use Rattle.rules.specs.Exchange.{listing_at, lots_where, no_listing, no_order, is_absent, place_of}
use Rattle.rules.specs.Memory.{Memory, exchange_of, listing_in, put, put_queue, queue_in, step_in, memory, WellFormedState, first_word}
use Rattle.book.specs.Places.{FoundIs, first_where, index_of}
use Rattle.book.specs.declared.orders.Found.{Found}
use Rattle.rules.specs.Step.{Effect, answer_of, cancelled, has_number, is_of, listing_without, pulled, removed, with_listing, without}
use Rattle.rules.specs.WellFormed.{all_numbers, numbers, order_in_range, used_once, all_listed}
use Rattle.rules.specs.declared.Command.{Command}
use Rattle.rules.specs.declared.Command.TheVariants.{Cancel, Pull}
use Rattle.rules.specs.declared.Contract.{Contract}
use Rattle.rules.specs.declared.Order.{Order}
use Rattle.rules.specs.declared.State.{State}
use Rattle.rules.specs.declared.codes.Code.{Code}
use Rattle.theory.proofs.Codecs.{length_queue, put_queue_lem}
use Rattle.theory.proofs.Queue.{length_without, once_append}
use Rattle.theory.proofs.Refusals.{failed, first_append}
use Rattle.book.proofs.Places.{index_apart, index_not_in, first_within, lots_none, lots_number, numbered_found, numbered_none, numbered_append_found, numbered_append_none, without_none, without_number}
use Rattle.book.specs.Removal.{RemovedIs}
use Rattle.invariants.proofs.Clauses.{ListingOk, OrderOk, order_ok}
use Rattle.engine.specs.Decision.{DecisionIs, accepted_by, counted_as, listed_in, refused_by}
use Rattle.engine.specs.Outcome.{OutcomeIs, accepted_with, with_counts_in}
use Rattle.engine.specs.Removal.{CancelledIs, code_there}
use Rattle.engine.specs.declared.answers.Outcome.{Outcome}
use Rattle.engine.specs.declared.removal.Removed.{Removed}
use Rattle.engine.specs.declared.updates.Decision.{Decision}
use Rattle.engine.specs.declared.updates.Listed.{Listed}
use Rattle.engine.specs.declared.updates.Update.{Update}
use Rattle.engine.specs.declared.updates.Update.TheVariants.{Listing}
use Rattle.engine.proofs.Decisions.{counted_decided, refusal_decided}
use Rattle.engine.proofs.Formed.{Formed, formed, contracts_count, listing_at_lem, no_account_lem, no_contract_lem}
use Rattle.engine.proofs.Outcomes.{refusal, acceptance}
use Rattle.engine.proofs.Puts.{put_queues_lem}
use Rattle.engine.proofs.Tests.{place_below}

-- ---- 4, by the contract's state

module _ (c : Contract) (operator : Bool) where
  pub in_continuous : c.phase ≡ continuous → false ≡ removal_refused c operator
  unfolding removal_refused
  in_continuous e = sym (rw e)

-- ---- a cancel in one queue

module _ (account number : ℕ) (area : List ℕ) (c n : ℕ) where
  abbrev queue : List Order
  queue = queue_in area c n

  pub cancel_none : FoundIs number queue None → code_there account number area c n ≡ 14
  unfolding first_of no_such_order
  cancel_none h = rw (numbered_none number queue h)

  -- f is the order found
  module _ {f : Found} (is : FoundIs number queue (Some f)) where
    pub found : f.place < n
    found = omega (arith, is.0, length_queue area c n)

    found_in : index_of number queue < length queue
    found_in = omega (arith, is.0, is.1)

    order_found : numbered number queue ≡ f.order ∷ []
    order_found = numbered_found number queue found_in ∙ ap (λ (o : Order). o ∷ []) (rw (← is.1) (sym is.2))

    pub cancel_another : (f.order.account ≡ account → ⊥) → code_there account number area c n ≡ 15
    unfolding first_of no_such_order of_another
    cancel_another h = rw (order_found, ne_eqb f.order.account account h)

    module _ (once : used_once (numbers queue) ≡ true) where
      taken : without (has_number number) queue ≡ remove_at f.place queue
      taken = without_number number queue once found_in ∙ rw is.1

      lots_taken : f.order.lots ≡ lots_where (has_number number) queue
      lots_taken = rw (lots_number number queue once found_in, ← is.1) (ap (λ (o : Order). o.lots) is.2)

      pub cancel_done : {area' : List ℕ} → f.order.account ≡ account → area' ≡ put_queue area c n (remove_at f.place queue)
          → CancelledIs account number area c n (Ok (Some (record { count = n - 1; lots = f.order.lots }))) area'
      unfolding first_of no_such_order of_another
      cancel_done h e = (
        rw (order_found, eq-eqb f.order.account account h),
        record {
          queue = rw taken e;
          count = rw (taken, length_remove_at f.place queue (omega (arith, found, length_queue area c n)), length_queue area c n);
          lots = lots_taken;
        },
      )

-- no order is taken out
pub removed_none : (test : Order → Bool) (area : List ℕ) (c n : ℕ) → first_word c n ≤ length area → first_where test (queue_in area c n) ≡ length (queue_in area c n)
    → RemovedIs test area c n n 0 area
removed_none test area c n room h =
    record {
      queue = rw (without_none test (queue_in area c n) h) (sym (put_queue_lem area c n room));
      count = rw (without_none test (queue_in area c n) h) (sym (length_queue area c n));
      lots = sym (lots_none test (queue_in area c n) h);
    }

-- ---- what the code of a cancel in one queue says of the queue

index_cases : (n : ℕ) (os : List Order) → (index_of n os ≡ length os) ⊎ (index_of n os < length os)
index_cases n os = eq-or-lt_of_le (first_within (has_number n) os)

found_code : (a n : ℕ) (os : List Order) → first_of (owner_refusals a (numbered n os)) ≢ 14 → index_of n os < length os
unfolding first_of no_such_order
found_code a n os h = ⊎_elim (λ e. absurd (h (rw (numbered_none n os e)))) (λ l. l) (index_cases n os)

missing_code : (a n : ℕ) (os : List Order) → first_of (owner_refusals a (numbered n os)) ≡ 14 → index_of n os ≡ length os
missing_code a n os h =
    ⊎_elim (λ e. e) (λ l. absurd (either (get_or os (index_of n os) no_order) (rw (numbered_found n os l) at h))) (index_cases n os)
  where
    code : (b : Bool) → ◌≡◌ {A = ℕ} (pick b 15 0) 14 → ⊥
    code true h = omega arith
    code false h = omega arith

    either : (o : Order) → first_of (owner_refusals a (o ∷ [])) ≡ 14 → ⊥
    either o h = unfold first_of no_such_order of_another in code (not (eqb o.account a)) h

-- "buys first"
numbered_first : (n : ℕ) (os ps : List Order) → index_of n os < length os → numbered n (os ++ ps) ≡ numbered n os
numbered_first n os ps h = numbered_append_found n os ps h ∙ sym (numbered_found n os h)

-- ---- numbers used once over all queues are so in one contract's two

listing_once : (ls : List exchange.Listing) (c : ℕ) → c < length ls → used_once (all_numbers ls) ≡ true
    → used_once (numbers (get_or ls c no_listing).buys ++ numbers (get_or ls c no_listing).sells) ≡ true
unfolding all_listed
listing_once [] c h u = absurd (not-suc-le-zero h)
listing_once (l ∷ ls) zero h u = (once_append (numbers l.buys ++ numbers l.sells) (all_numbers ls) (rw append_assoc u)).0
listing_once (l ∷ ls) (suc c) h u =
    listing_once ls c (le_of_suc-le-suc h) (once_append (numbers l.sells) (all_numbers ls) (once_append (numbers l.buys) _ u).1).1

-- ---- lots of orders in range

lots_high : (accounts next nextstamp : ℕ) (contract : Contract) (test : Order → Bool) (os : List Order) → all_of (order_in_range accounts next nextstamp contract) os ≡ true
    → lots_where test os ≤ max_lots * length os
unfolding lots_where
lots_high accounts next nextstamp contract test os h =
    sum_of_bound (λ o. pick (test o) o.lots 0) max_lots os no_order
    (λ i l. by_test (test (get_or os i no_order)) (get_or os i no_order) (order_ok accounts next nextstamp contract (get_or os i no_order) (all_of_at (order_in_range accounts next nextstamp contract) os i no_order h l)))
  where
    by_test : (b : Bool) (o : Order) → OrderOk accounts next nextstamp contract o → pick b o.lots 0 ≤ max_lots
    by_test true o k = k.lots_high
    by_test false o k = omega arith

-- ---- the whole state

module _ {s : State} {buys sells trades : List ℕ} (w : WellFormedState s buys sells trades) (account contract : ℕ) (operator : Bool) where
  abbrev m : Memory
  m = memory s buys sells trades

  f : Formed m
  f = formed w

  -- ---- the tests that both kinds make first

  abbrev shared : List Refusal
  shared = pull_refusals (exchange_of m) account contract operator

  cancel_code : (number : ℕ) → code_of (exchange_of m) (Cancel account contract operator number)
      ≡ pick (eqb (first_of shared) 0) (first_of (owner_refusals (place_of account) (resting_order (listing_at (exchange_of m) (place_of contract)) number))) (first_of shared)
  unfolding code_of kind_of cancel_refusals pull_refusals
  cancel_code number = first_append shared (owner_refusals (place_of account) (resting_order (listing_at (exchange_of m) (place_of contract)) number)) (omega arith)

  pull_code : code_of (exchange_of m) (Pull account contract operator) ≡ first_of shared
  unfolding code_of kind_of
  pull_code = refl

  -- ---- the queues of the contract

  module _ (none : first_of shared ≡ 0) where
    tests : (is_absent account s.accountcount ≡ false) × (is_absent contract s.contractcount ≡ false)
    unfolding pull_refusals
    tests =
        let t = failed shared (omega arith) none in
        (sym (no_account_lem m f account) ∙ t.0, sym (no_contract_lem m f contract) ∙ t.1.0)

    pub account_low : 1 ≤ account
    account_low = (place_below account s.accountcount tests.0).0

    pub contract_low : 1 ≤ contract
    contract_low = (place_below contract s.contractcount tests.1).0

    module _ {place : ℕ} (is : place ≡ place_of contract) where
      here : place < s.contractcount
      here = rw is (place_below contract s.contractcount tests.1).1

      pub contract_fits : place < max_contracts
      contract_fits = omega (arith, here, f.contracts_high)

      listing_is : listing_at (exchange_of m) (place_of contract) ≡ listing_in m place
      listing_is = rw (← is) (listing_at_lem m f place here)

      -- the orders of the side, their count and their room
      abbrev area : Bool → List ℕ
      area sell = pick sell sells buys

      abbrev count : Bool → ℕ
      count sell = get_or (pick sell s.sellcounts s.buycounts) place 0

      abbrev orders : Bool → List Order
      orders sell = queue_in (area sell) place (count sell)

      pub side_few : (sell : Bool) → count sell ≤ max_resting
      side_few false = f.buys_high place here
      side_few true = f.sells_high place here

      pub side_room : (sell : Bool) → first_word place (count sell) ≤ length (area sell)
      side_room false = omega (arith, f.buys_room, side_few false, here)
      side_room true = omega (arith, f.sells_room, side_few true, here)

      both_once : used_once (numbers (orders false) ++ numbers (orders true)) ≡ true
      unfolding listing_at listing_in
      both_once =
          let u : used_once (numbers (listing_at (exchange_of m) place).buys ++ numbers (listing_at (exchange_of m) place).sells) ≡ true =
          listing_once (exchange_of m).listings place (rw (contracts_count m f) here) f.contents.once in
          rw (listing_at_lem m f place here) at u

      pub side_once : (sell : Bool) → used_once (numbers (orders sell)) ≡ true
      side_once false = (once_append (numbers (orders false)) (numbers (orders true)) both_once).0
      side_once true = (once_append (numbers (orders false)) (numbers (orders true)) both_once).1

      -- the same of the contract as it is read
      module _ {l : Listed} (stands : l ≡ listed_in s place) where
        pub bids_few : l.bought ≤ max_resting
        bids_few = rw stands (side_few false)

        pub offers_few : l.sold ≤ max_resting
        offers_few = rw stands (side_few true)

        pub bids_room : first_word place l.bought ≤ length buys
        bids_room = rw stands (side_room false)

        pub offers_room : first_word place l.sold ≤ length sells
        offers_room = rw stands (side_room true)

        pub bids_once : used_once (numbers (queue_in buys place l.bought)) ≡ true
        bids_once = rw stands (side_once false)

        pub offers_once : used_once (numbers (queue_in sells place l.sold)) ≡ true
        offers_once = rw stands (side_once true)

      -- a number found among the buys is not among the sells
      pub apart : (number : ℕ) → index_of number (orders false) < length (orders false) → index_of number (orders true) ≡ length (orders true)
      apart number h = index_not_in number (orders true) (index_apart number (orders false) (numbers (orders true)) both_once h)

      -- ---- orders taken out of both queues

      module _ {bought sold bid offer : ℕ} {buys' sells' : List ℕ} (test : Order → Bool)
          (b : RemovedIs test buys place (count false) bought bid buys') (o : RemovedIs test sells place (count true) sold offer sells') where
        short : (sell : Bool) → length (without test (orders sell)) ≤ max_resting
        short sell = omega (arith, length_without test (orders sell), length_queue (area sell) place (count sell), side_few sell)

        pub lies : put m (with_listing (exchange_of m) (place_of contract) (listing_without test (listing_at (exchange_of m) (place_of contract))))
            ≡ memory (with_counts_in s (set s.buycounts place bought) (set s.sellcounts place sold)) buys' sells' trades
        unfolding listing_in
        lies =
            rw (← is, listing_at_lem m f place here)
            (put_queues_lem m f place here (without test (orders false)) (without test (orders true)) (short false) (short true)
            ∙ rw (b.queue, b.count, o.queue, o.count))

        answer : {number lots : ℕ} → lots ≡ bid + offer → (done (removed (exchange_of m) (place_of contract) test number)).answer ≡ answer_of 0 number 0 lots
        unfolding removed listing_in
        answer l = rw (listing_is, l, b.lots, o.lots)

        pub removal_accepted : (command : Command) {r : Outcome} {next : State} {number lots : ℕ} → code_of (exchange_of m) command ≡ 0
            → (kind_of (exchange_of m) command).effect ≡ removed (exchange_of m) (place_of contract) test number
            → next ≡ with_counts_in s (set s.buycounts place bought) (set s.sellcounts place sold) → lots ≡ bid + offer → r ≡ accepted_with next number 0 lots
            → OutcomeIs (step_in m command) r buys' sells' trades
        unfolding removed
        removal_accepted command e c n l a = acceptance s buys sells trades command e (ap (λ (t : Effect). (done t).answer) c ∙ answer l) (rw (c, n) lies) a

      -- ---- cancel

      module _ (number : ℕ) {l : Listed} (stands : l ≡ listed_in s place) where
        abbrev CancelIs : Decision → List ℕ → List ℕ → Type 0
        CancelIs d buys' sells' = DecisionIs m (Cancel account contract operator number) d buys' sells' trades

        -- the first of the two queues that has the order decides
        cancel_is : code_of (exchange_of m) (Cancel account contract operator number) ≡ first_of (owner_refusals (place_of account) (numbered number (orders false ++ orders true)))
        unfolding resting_order listing_in
        cancel_is = cancel_code number ∙ rw (none, listing_is)

        module _ {owner : ℕ} (mine : owner ≡ place_of account) where
          -- the code that a queue has
          abbrev its_code : Bool → ℕ
          its_code sell = code_there (place_of account) number (area sell) place (count sell)

          -- the code of a queue that has the number
          bid_code : its_code false ≢ 14 → code_of (exchange_of m) (Cancel account contract operator number) ≡ its_code false
          bid_code h =
              cancel_is
              ∙ ap (λ (found : List Order). first_of (owner_refusals (place_of account) found)) (numbered_first number (orders false) (orders true) (found_code (place_of account) number (orders false) h))

          pub bid_done : {bid : Removed} {buys' : List ℕ} {u : Update} {d : Decision} → CancelledIs owner number buys place l.bought (Ok (Some bid)) buys'
              → u ≡ Listing (counted_as l bid.count l.sold) → d ≡ accepted_by u number bid.lots → CancelIs d buys' sells
          unfolding kind_of cancelled
          bid_done {bid} {buys'} among n a =
              let b : CancelledIs (place_of account) number buys place (count false) (Ok (Some bid)) buys' = rw (mine, stands) at among in
              counted_decided contract_fits
              (removal_accepted (has_number number) b.1
              (removed_none (has_number number) sells place (count true) (side_room true) (apart number (found_code (place_of account) number (orders false) (λ z. omega (arith, b.0, z)))))
              (Cancel account contract operator number) (bid_code (λ z. omega (arith, b.0, z)) ∙ b.0) refl refl (omega arith) refl)
              (a ∙ ap (λ (v : Update). accepted_by v number bid.lots) n ∙ ap (λ (v : Listed). accepted_by (Listing (counted_as v bid.count v.sold)) number bid.lots) stands)

          pub bid_another : {code : Code} {buys' : List ℕ} → CancelledIs owner number buys place l.bought (Err code) buys' → CancelIs (refused_by (code_number code)) buys' sells
          bid_another {code} {buys'} among =
              let b : CancelledIs (place_of account) number buys place (count false) (Err code) buys' = rw (mine, stands) at among in
              rw (b.0, b.1.1)
              (refusal_decided (refusal s buys sells trades (Cancel account contract operator number) 15 (omega arith) (bid_code (λ z. omega (arith, b.1.0, z)) ∙ b.1.0) refl) refl)

          module _ {buys' : List ℕ} (among_buys : CancelledIs owner number buys place l.bought (Ok None) buys') where
            b : CancelledIs (place_of account) number buys place (count false) (Ok None) buys'
            b = rw (mine, stands) at among_buys

            missing : index_of number (orders false) ≡ length (orders false)
            missing = missing_code (place_of account) number (orders false) b.0

            offer_code : code_of (exchange_of m) (Cancel account contract operator number) ≡ its_code true
            offer_code = cancel_is ∙ ap (λ (found : List Order). first_of (owner_refusals (place_of account) found)) (numbered_append_none number (orders false) (orders true) missing)

            offer_refused : (code : ℕ) {sells' : List ℕ} → 0 < code → its_code true ≡ code → sells' ≡ sells → CancelIs (refused_by code) buys' sells'
            offer_refused code h e kept =
                rw (b.1, kept) (refusal_decided (refusal s buys sells trades (Cancel account contract operator number) code h (offer_code ∙ e) refl) refl)

            pub offer_another : {code : Code} {sells' : List ℕ} → CancelledIs owner number sells place l.sold (Err code) sells' → CancelIs (refused_by (code_number code)) buys' sells'
            offer_another {code} {sells'} among =
                let o : CancelledIs (place_of account) number sells place (count true) (Err code) sells' = rw (mine, stands) at among in
                rw o.0 (offer_refused 15 (omega arith) o.1.0 o.1.1)

            pub none_there : {sells' : List ℕ} → CancelledIs owner number sells place l.sold (Ok None) sells' → CancelIs (refused_by 14) buys' sells'
            none_there {sells'} among =
                let o : CancelledIs (place_of account) number sells place (count true) (Ok None) sells' = rw (mine, stands) at among in
                offer_refused 14 (omega arith) o.0 o.1

            pub offer_done : {offer : Removed} {sells' : List ℕ} {u : Update} {d : Decision} → CancelledIs owner number sells place l.sold (Ok (Some offer)) sells'
                → u ≡ Listing (counted_as l l.bought offer.count) → d ≡ accepted_by u number offer.lots → CancelIs d buys' sells'
            unfolding kind_of cancelled
            offer_done {offer} {sells'} among n a =
                let o : CancelledIs (place_of account) number sells place (count true) (Ok (Some offer)) sells' = rw (mine, stands) at among in
                counted_decided contract_fits
                (rw b.1
                (removal_accepted (has_number number) (removed_none (has_number number) buys place (count false) (side_room false) missing) o.1
                (Cancel account contract operator number) (offer_code ∙ o.0) refl refl (omega arith) refl))
                (a ∙ ap (λ (v : Update). accepted_by v number offer.lots) n ∙ ap (λ (v : Listed). accepted_by (Listing (counted_as v v.bought offer.count)) number offer.lots) stands)

      -- ---- pull

      -- no queue has more lots than 64 orders of 1,000
      in_range_lem : ListingOk (length (exchange_of m).accounts) s.next s.nextstamp (listing_in m place)
      unfolding exchange_of
      in_range_lem = rw (listing_at_lem m f place here) at (f.contents.listing place (rw (contracts_count m f) here))

      side_lots : (sell : Bool) (test : Order → Bool) → lots_where test (orders sell) ≤ max_resting * max_lots
      unfolding listing_in
      side_lots false test = omega (arith, lots_high _ _ _ _ test (orders false) (in_range_lem.orders false), length_queue buys place (count false), side_few false)
      side_lots true test = omega (arith, lots_high _ _ _ _ test (orders true) (in_range_lem.orders true), length_queue sells place (count true), side_few true)

      pulled_high : (sell : Bool) {owner : ℕ} → owner ≡ place_of account → {stay gone : ℕ} {area' : List ℕ} → RemovedIs (is_of owner) (area sell) place (count sell) stay gone area' → gone ≤ max_resting * max_lots
      pulled_high sell {owner} mine b = rw b.lots (side_lots sell (is_of owner))

      module _ {owner : ℕ} (mine : owner ≡ place_of account) {l : Listed} (stands : l ≡ listed_in s place) {bought sold bid offer : ℕ} {buys' sells' : List ℕ}
          (from-buys : RemovedIs (is_of owner) buys place l.bought bought bid buys') (from-sells : RemovedIs (is_of owner) sells place l.sold sold offer sells') where
        own_buys : RemovedIs (is_of (place_of account)) buys place (count false) bought bid buys'
        own_buys = rw (mine, stands) at from-buys

        own_sells : RemovedIs (is_of (place_of account)) sells place (count true) sold offer sells'
        own_sells = rw (mine, stands) at from-sells

        pub pulled_few : bid + offer ≤ 2 * (max_resting * max_lots)
        pulled_few = omega (arith, pulled_high false refl own_buys, pulled_high true refl own_sells)

        pub pull_accepted : {u : Update} {d : Decision} {lots : ℕ} → u ≡ Listing (counted_as l bought sold) → lots ≡ bid + offer → d ≡ accepted_by u 0 lots
            → DecisionIs m (Pull account contract operator) d buys' sells' trades
        unfolding kind_of pulled
        pull_accepted {lots = lots} n e a =
            counted_decided contract_fits
            (removal_accepted (is_of (place_of account)) own_buys own_sells (Pull account contract operator) (pull_code ∙ none) refl refl e refl)
            (a ∙ ap (λ (v : Update). accepted_by v 0 lots) n ∙ ap (λ (v : Listed). accepted_by (Listing (counted_as v bought sold)) 0 lots) stands)

  -- ---- refused by one of the tests that both kinds make first

  pub pull_refused : {code : ℕ} {d : Decision} → code ≡ first_of shared → code ≢ 0 → d ≡ refused_by code → DecisionIs m (Pull account contract operator) d buys sells trades
  pull_refused {code} e h = refusal_decided (refusal s buys sells trades (Pull account contract operator) code (omega arith) (pull_code ∙ sym e) refl)

  pub cancel_refused : (number : ℕ) {code : ℕ} {d : Decision} → code ≡ first_of shared → code ≢ 0 → d ≡ refused_by code
      → DecisionIs m (Cancel account contract operator number) d buys sells trades
  cancel_refused number {code} e h =
      refusal_decided (refusal s buys sells trades (Cancel account contract operator number) code (omega arith) (rw (cancel_code number, ← e, ne_eqb code 0 h)) refl)
