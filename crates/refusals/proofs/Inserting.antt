-- An order's code from 5 on, and an insert's: the tests as the code makes them, one part after the other, are the rules' lists. Assumes
-- nothing.
use mathlib.Core.Bool.{Bool, true, false, not, ◌||◌}
use mathlib.Core.List.{List, ◌++◌}
use mathlib.Core.Path.{◌≡◌, refl, sym, ap, ◌∙◌}
use Prim.Native.Nat.{ℕ, ◌<◌, ◌≤◌}
use native.Mathlib.Omega.{arith}
use borrow.Author.Tests.{leb-true, not-false}
use lib.Dec.{leb}
use lib.ListN.{length, get_or}
use Rattle.laws.specs.Choice.{both_true, pick}
use Rattle.rules.specs.Answers.{Refusal, account_refusals, book_refusals, conditions_refused, fields_refusals, fillable_lots, first_of, full_refused, holding_refused, insert_refusals, kill_refused, listing_of, lots_refused, mark, no_room_for, opposite_queue, order_refusals, own_queue, taker_for, taker_of, takes_orders, trades_needed, trades_refused, trades_against}
use Rattle.rules.specs.Bounds.{in_auction, max_contracts, max_limit, max_lots, max_resting, max_trades, numbers_end, terms_in_range, within}
use Rattle.rules.specs.Exchange.{Exchange, account_at, holding_at, is_absent, no_account, no_contract, no_holding, place_of, resting}
use Rattle.rules.specs.Kinds.{code_of, kind_of}
use Rattle.rules.specs.Matching.{fillable}
use Rattle.rules.specs.Memory.{Memory, WellFormedState, exchange_of, first_word, memory, queue_in}
use Rattle.rules.specs.declared.Account.{Account}
use Rattle.rules.specs.declared.Command.TheVariants.{Insert}
use Rattle.rules.specs.declared.Contract.{Contract}
use Rattle.rules.specs.declared.NewOrder.{NewOrder}
use Rattle.rules.specs.declared.Order.{Order}
use Rattle.rules.specs.declared.State.{State}
use Rattle.rules.specs.declared.Taker.{Taker}
use Rattle.theory.proofs.Codecs.{length_queue}
use Rattle.theory.proofs.Refusals.{failed, first_here, first_there}
use Rattle.engine.proofs.Formed.{Formed, formed, holding_at_lem}
use Rattle.engine.proofs.Named.{allowed, forbidden, no_such_account, no_such_contract}
use Rattle.engine.proofs.Puts.{trades_count}
use Rattle.engine.proofs.Tests.{place_below}
use Rattle.engine.specs.Decision.{listed_in}
use Rattle.engine.specs.Sides.{side_area, side_count}
use Rattle.engine.specs.declared.updates.Listed.{Listed}
use Rattle.refusals.specs.Insertion.{Facing, MeetsQueue, Present}
use Rattle.refusals.proofs.Sides.{contract_is, contract_terms, opposite_facing, opposite_is, resting_low, side_few, side_is, side_room}

-- 10 to 13, in any exchange in which the order meets the queue so
pub book_tests : {x : Exchange} {o : NewOrder} {l : Listed} {terms : Contract} {own : ℕ} {t : Taker} {queue : List Order} → MeetsQueue x o l terms own t queue →
    first_of (book_refusals x o)
    ≡ pick (leb numbers_end l.next || leb numbers_end l.nextstamp) 10
    (pick (kill_refused (fillable t queue) o.lots o.time) 11
    (pick (no_room_for l.recorded (trades_against terms t o.lots queue)) 12
    (pick (full_refused (in_auction terms) own (fillable t queue) o.lots o.time) 13 0)))
unfolding first_of fillable_lots trades_refused trades_needed
book_tests m = rw (m.taker, m.opposite_side, m.own_side, m.contract, m.recorded, m.next, m.nextstamp) refl

module _ {s : State} {buys sells trades : List ℕ} (w : WellFormedState s buys sells trades) (o : NewOrder) where
  abbrev m : Memory
  m = memory s buys sells trades

  abbrev x : Exchange
  x = exchange_of m

  f : Formed m
  f = formed w

  abbrev c : ℕ
  c = place_of o.contract

  -- ---- the order's code from 5 on, part by part

  abbrev code : ℕ
  code = first_of (order_refusals x o)

  abbrev fields_part : List Refusal
  fields_part = fields_refusals (conditions_refused (listing_of x o).contract o) (listing_of x o).contract o

  module _ {fields : ℕ} (ef : fields ≡ first_of fields_part) where
    pub code_fields : (fields ≡ 0 → ⊥) → fields ≡ code
    unfolding order_refusals
    code_fields some =
        ef ∙ first_here fields_part (account_refusals x o) (λ e. some (ef ∙ e)) ∙ first_here (fields_part ++ account_refusals x o) (book_refusals x o) (λ e. some (ef ∙ first_here fields_part (account_refusals x o) (λ e. some (ef ∙ e)) ∙ e))

    pub lots_few : fields ≡ 0 → o.lots ≤ max_lots
    lots_few none =
        let tests = failed fields_part (omega arith) (sym ef ∙ none) in
        leb-true o.lots max_lots (both_true (leb 1 o.lots) (leb o.lots max_lots) (not-false (within 1 max_lots o.lots) tests.0)).1

    module _ (none : fields ≡ 0) {account : ℕ} (ea : account ≡ first_of (account_refusals x o)) where
      on : account ≡ first_of (fields_part ++ account_refusals x o)
      on = ea ∙ first_there fields_part (account_refusals x o) (omega arith) (sym ef ∙ none)

      pub code_lots_or_money : (account ≡ 0 → ⊥) → account ≡ code
      unfolding order_refusals
      code_lots_or_money some = on ∙ first_here (fields_part ++ account_refusals x o) (book_refusals x o) (λ e. some (on ∙ e))

      pub code_book : account ≡ 0 → {book : ℕ} → book ≡ first_of (book_refusals x o) → book ≡ code
      unfolding order_refusals
      code_book clear eb = eb ∙ first_there (fields_part ++ account_refusals x o) (book_refusals x o) (omega arith) (sym on ∙ clear)

  -- ---- 2, 3 and 4 of an insert, and on to its order

  abbrev forbids : Contract → Bool
  forbids terms = not (takes_orders terms)

  pub code_account : is_absent o.account s.accountcount ≡ true → 2 ≡ code_of x (Insert o)
  unfolding code_of kind_of insert_refusals
  code_account e = no_such_account w.declared f.accounts_high buys sells trades o.account o.contract _ e

  module _ (a : is_absent o.account s.accountcount ≡ false) where
    pub code_contract : is_absent o.contract s.contractcount ≡ true → 3 ≡ code_of x (Insert o)
    unfolding code_of kind_of insert_refusals
    code_contract e = no_such_contract w.declared f.accounts_high buys sells trades o.account o.contract _ a e

    module _ (b : is_absent o.contract s.contractcount ≡ false) {place : ℕ} (is : place ≡ place_of o.contract) {takes : Bool} (et : takes ≡ takes_orders (get_or s.contracts place no_contract)) where
      takes_is : takes ≡ takes_orders (get_or s.contracts c no_contract)
      takes_is = et ∙ rw is refl

      pub code_phase : takes ≡ false → 4 ≡ code_of x (Insert o)
      unfolding code_of kind_of insert_refusals
      code_phase e = forbidden w.declared f.accounts_high buys sells trades forbids o.account o.contract (order_refusals x o) a b (ap not (sym takes_is ∙ e))

      pub code_order : {r : ℕ} → takes ≡ true → r ≡ code → r ≡ code_of x (Insert o)
      unfolding code_of kind_of insert_refusals
      code_order e h = h ∙ sym (allowed w.declared f.accounts_high buys sells trades forbids o.account o.contract (order_refusals x o) a b (ap not (sym takes_is ∙ e)))

  -- ---- an order whose account and contract are in use

  pub present : is_absent o.account s.accountcount ≡ false → is_absent o.contract s.contractcount ≡ false → Present s o
  present e g =
      let a = place_below o.account s.accountcount e in
      let b = place_below o.contract s.contractcount g in
      record { account_low = a.0; account = a.1; contract_low = b.0; contract = b.1 }

  pub recorded_high : s.tradecount ≤ max_trades
  recorded_high = f.trades_high

  module _ (p : Present s o) {place : ℕ} (is : place ≡ place_of o.contract) where
    pub place_fits : place < max_contracts
    place_fits = omega (arith, p.contract, f.contracts_high)

    abbrev terms : Contract
    terms = get_or s.contracts place no_contract

    pub terms_in_range_lem : terms_in_range terms ≡ true
    terms_in_range_lem = rw is (contract_terms m f c p.contract)

    terms_is : (listing_of x o).contract ≡ terms
    unfolding listing_of
    terms_is = rw is (contract_is m f c p.contract)

    -- 5 to 7
    pub fields_are : {conditions : Bool} → conditions ≡ conditions_refused terms o → {fields : ℕ} → fields ≡ first_of (fields_refusals conditions terms o) → fields ≡ first_of fields_part
    fields_are en et = et ∙ rw (en, terms_is) refl

    -- 8
    module _ {own₁ : List ℕ} {count : ℕ} (ea : own₁ ≡ side_area o.sell buys sells) (ec : count ≡ side_count o.sell s place) where
      pub own_room : first_word place count ≤ length own₁
      own_room = rw (ec, ea, is) (side_room m f c p.contract o.sell)

      pub own_few : length (queue_in own₁ place count) ≤ max_resting
      own_few = rw (ec, ea, is) (side_few m f c p.contract o.sell)

      module _ {owner mark₁ rested : ℕ} (mine : owner ≡ place_of o.account) (em : mark₁ ≡ mark o.close) {queue : List Order} (eq : queue ≡ queue_in own₁ place count) (er : rested ≡ resting mark₁ owner queue) where
        rested_is : rested ≡ resting (mark o.close) (place_of o.account) (queue_in (side_area o.sell buys sells) c (side_count o.sell s c))
        rested_is = er ∙ rw (eq, mine, em, ec, ea, is)

        pub rested_low : rested ≤ max_limit
        rested_low = rw rested_is (resting_low m f c p.contract (place_of o.account) p.account o.sell o.close)

        pub lots_are : {who : Account} → get_or s.accounts (place_of o.account) no_account ≡ who → {r : Bool} → r ≡ lots_refused terms (get_or who.holdings place no_holding) rested o → r ≡ holding_refused x o
        unfolding holding_refused listing_of holding_at account_at
        lots_are ew el =
            el ∙ rw (rested_is, ← ew, is, contract_is m f c p.contract, side_is m f c p.contract o.sell, holding_at_lem m f (place_of o.account) c p.account p.contract) refl

    -- 10 to 13, against the opposite queue
    module _ {area : List ℕ} {count : ℕ} (ea : area ≡ side_area (not o.sell) buys sells) (ec : count ≡ side_count (not o.sell) s place) where
      pub opposite_room : first_word place count ≤ length area
      opposite_room = rw (ec, ea, is) (side_room m f c p.contract (not o.sell))

      module _ {queue : List Order} (eq : queue ≡ queue_in area place count) where
        opposite_is_lem : queue ≡ queue_in (side_area (not o.sell) buys sells) c (side_count (not o.sell) s c)
        opposite_is_lem = eq ∙ rw (ec, ea, is)

        pub few : length queue ≤ max_resting
        few = rw opposite_is_lem (side_few m f c p.contract (not o.sell))

        opposite_queue_lem : opposite_queue x o ≡ queue
        unfolding listing_of
        opposite_queue_lem = rw opposite_is_lem (opposite_is m f c p.contract o.sell)

        module _ (number : ℕ) {t : Taker} (et : t ≡ taker_for number 0 s.nextstamp terms queue o) where
          pub facing : Facing t queue
          facing = rw (et, opposite_is_lem) (opposite_facing m f c p.contract number 0 s.nextstamp _ o)

          taker_is : taker_of x number 0 o ≡ t
          unfolding taker_of exchange_of
          taker_is = rw (et, opposite_queue_lem, terms_is, is) refl

          -- 12 with that number
          pub trades_are : {r : Bool} → r ≡ no_room_for s.tradecount (trades_against terms t o.lots queue) → r ≡ trades_refused x number o
          unfolding trades_refused trades_needed
          trades_are er = er ∙ rw (trades_count m f, opposite_queue_lem, taker_is, terms_is) refl

        -- the number and the time stamp, read with the contract
        pub taker_here : {l : Listed} → l ≡ listed_in s place → {t : Taker} → t ≡ taker_for l.next 0 l.nextstamp terms queue o → t ≡ taker_for s.next 0 s.nextstamp terms queue o
        taker_here el et = et ∙ rw el refl

        pub meets : {l : Listed} → l ≡ listed_in s place → {t : Taker} → t ≡ taker_for s.next 0 s.nextstamp terms queue o
            → {own₁ : ℕ} → own₁ ≡ side_count o.sell s place → MeetsQueue x o l terms own₁ t queue
        unfolding exchange_of
        meets el et eo =
            rw el
            (record {
              next = refl;
              nextstamp = refl;
              recorded = trades_count m f;
              contract = terms_is;
              own_side = own_length eo;
              opposite_side = opposite_queue_lem;
              taker = taker_is s.next et;
            })
          where
            own_length : {own₁ : ℕ} → own₁ ≡ side_count o.sell s place → length (own_queue x o) ≡ own₁
            own_length eo = unfold listing_of in rw (eo, is, side_is m f c p.contract o.sell, length_queue) refl
