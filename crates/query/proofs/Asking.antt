-- From the tests as the code makes them to the answer of the rules: an order on a well-formed state, and a record on any. Assumes
-- nothing.
use Rattle.std.proofs.Common.{Result}
use Rattle.std.specs.Result.{IsErrAnd}
use Rattle.std.proofs.lemmas.Result.{err_from_is_err_and}
use Rattle.laws.specs.Logic.{refl, true, false, not, List, ◌≡◌, sym, ap, ◌∙◌}
use Rattle.laws.specs.Numbers.{ℕ, ◌-◌, ne_eqb, get_or}
use Rattle.laws.specs.Choice.{pick}
use Rattle.rules.specs.Answers.{day_without_limit, fillable_lots, first_of, listing_of, taker_of, taker_for, fields_refusals}
use Rattle.rules.specs.Codes.{code_number}
use Rattle.rules.specs.Command.{command_of, is_insert, new_order}
use Rattle.rules.specs.Exchange.{Exchange, listing_at, no_contract, opposite, place_of, is_absent}
use Rattle.rules.specs.Matching.{sweep, traded_lots}
use Rattle.rules.specs.Memory.{Memory, exchange_of, queue_in, well_formed_memory, memory, WellFormedState}
use Rattle.rules.specs.declared.Command.{Command}
use Rattle.rules.specs.declared.Command.TheVariants.{Malformed, Deposit, Withdraw, Insert, Cancel, Pull, Phase, Settle, Quote, Change}
use Rattle.rules.specs.declared.{NewOrder.NewOrder, Record.Record, State.State, Taker.Taker}
use Rattle.rules.specs.declared.codes.Code.{Code}
use Rattle.theory.proofs.EachKind.{inserts_its_order}
use Rattle.theory.proofs.Fillable.{swept_fillable}
use Rattle.engine.specs.Outcome.{AbsentIs}
use Rattle.engine.proofs.Formed.{Formed, formed, no_account_lem, no_contract_lem}
use Rattle.engine.proofs.Named.{one_absent}
use Rattle.engine.specs.Sides.{side_area, side_count}
use Rattle.rules.specs.declared.Order.{Order}
use Rattle.refusals.specs.Insertion.{Facing, Present}
use Rattle.refusals.proofs.Inserting.{present}
use Rattle.refusals.proofs.Sides.{contract_is, opposite_facing, opposite_is}
use Rattle.query.specs.Gettable.{GatheredIs, ask_refusals, gettable_now, lots_now, order_reading, question_refusals, read_now, reading_from, reading_with, refused_reading}
use Rattle.query.specs.declared.Reading.{Reading}
use Rattle.query.specs.declared.scan.Gathered.{Gathered}

-- ---- a code that a call gave, passed on by `?`

pub passed_on : (r : Result Gathered Code) (code : Code) → IsErrAnd r (λ y. y ≡ code) → reading_from r ≡ refused_reading (code_number code)
passed_on r code is = let p = err_from_is_err_and r is in rw (p.1, p.2) refl

-- ---- an order on a well-formed state

module _ {s : State} {buys sells trades : List ℕ} (w : WellFormedState s buys sells trades) (o : NewOrder) where
  abbrev m : Memory
  m = memory s buys sells trades

  abbrev x : Exchange
  x = exchange_of m

  f : Formed m
  f = formed w

  abbrev c : ℕ
  c = place_of o.contract

  in_parts : first_of (question_refusals x o) ≡ pick (is_absent o.account s.accountcount) 2 (pick (is_absent o.contract s.contractcount) 3 (first_of (fields_refusals (day_without_limit o.condition o.time) (listing_of x o).contract o)))
  unfolding first_of question_refusals
  in_parts = rw (no_account_lem m f o.account, no_contract_lem m f o.contract)

  module _ {absent : ℕ} (ea : AbsentIs s.accountcount s.contractcount o.account o.contract absent) where
    code_absent : (absent ≡ 0 → ⊥) → absent ≡ first_of (question_refusals x o)
    unfolding question_refusals
    code_absent some = one_absent w.declared f.accounts_high buys sells trades o.account o.contract _ ea some

    pub refused_absent : (absent ≡ 0 → ⊥) → refused_reading absent ≡ order_reading x o
    unfolding order_reading reading_with
    refused_absent some = sym (rw (sym (code_absent some), ne_eqb absent 0 some))

    pub here : absent ≡ 0 → Present s o
    here none = present w o (ea.account_in_use_lem none) (ea.contract_in_use_lem none)

    module _ (none : absent ≡ 0) {place : ℕ} (is : place ≡ o.contract - 1) {fields : ℕ}
        (ef : fields ≡ first_of (fields_refusals (day_without_limit o.condition o.time) (get_or s.contracts place no_contract) o)) where
      p : Present s o
      p = here none

      code_is : first_of (question_refusals x o) ≡ fields
      unfolding listing_of
      code_is = in_parts ∙ rw (ea.account_in_use_lem none, ea.contract_in_use_lem none, ef, is, contract_is m f c p.contract)

      pub refused_fields : (fields ≡ 0 → ⊥) → refused_reading fields ≡ order_reading x o
      unfolding order_reading reading_with
      refused_fields some = sym (rw (code_is, ne_eqb fields 0 some))

      module _ {area : List ℕ} {count : ℕ} (en : area ≡ side_area (not o.sell) buys sells) (ec : count ≡ side_count (not o.sell) s place)
          {queue : List Order} (eq : queue ≡ queue_in area place count) where
        stands : queue ≡ queue_in (side_area (not o.sell) buys sells) c (side_count (not o.sell) s c)
        stands = eq ∙ rw (ec, en, is)

        module _ {t : Taker} (et : t ≡ taker_for s.next 0 s.nextstamp (get_or s.contracts place no_contract) queue o) where
          pub facing : Facing t queue
          facing = rw (et, stands) (opposite_facing m f c p.contract s.next 0 s.nextstamp _ o)

          pub answered : fields ≡ 0 → {r : Gathered} → GatheredIs t o.lots queue r
              → record { code = 0; lots = r.lots; read = r.read } ≡ order_reading x o
          unfolding order_reading reading_with lots_now read_now fillable_lots taker_of listing_of exchange_of
          answered passed {r} gathered =
              rw (gathered.lots, gathered.read, et, stands, is) (sym (rw (code_is, passed, opposite_is m f c p.contract o.sell, contract_is m f c p.contract)))

  -- the lots to be had are those that the sweep would trade, whatever the last price
  pub would_trade : Present s o → (last : ℕ) → traded_lots (sweep (taker_of x x.next 0 o) o.lots last (opposite o.sell (listing_of x o))).trades ≡ lots_now x o
  unfolding lots_now fillable_lots taker_of listing_of
  would_trade p last =
      let met = opposite_facing m f c p.contract x.next 0 x.nextstamp (listing_at x c).contract o in
      rw (opposite_is m f c p.contract o.sell) (swept_fillable _ o.lots last _ met.order met.best)

-- ---- a record on any state

module _ (m : Memory) (r : Record) where
  pub not_formed : well_formed_memory m ≡ false → refused_reading 21 ≡ gettable_now m r
  unfolding gettable_now reading_with ask_refusals first_of
  not_formed e = sym (rw e)

  module _ (e : well_formed_memory m ≡ true) where
    pub no_insert : is_insert (command_of r) ≡ false → refused_reading 1 ≡ gettable_now m r
    unfolding gettable_now reading_with ask_refusals first_of
    no_insert i = sym (rw (e, i))

    pub an_insert : {o : NewOrder} → command_of r ≡ Insert o → {a : Reading} → a ≡ order_reading (exchange_of m) o → a ≡ gettable_now m r
    unfolding gettable_now ask_refusals order_reading first_of
    an_insert {o} i {a} q =
        let same : o ≡ new_order r = inserts_its_order r i in
        q ∙ ap (order_reading (exchange_of m)) same ∙ sym (rw (e, i))

-- a command of another kind
pub other_than_insert : (d : Command) → ((o : NewOrder) → d ≡ Insert o → ⊥) → is_insert d ≡ false
other_than_insert (Insert o) other = absurd (other o refl)
other_than_insert Malformed other = refl
other_than_insert (Deposit account amount) other = refl
other_than_insert (Withdraw account amount) other = refl
other_than_insert (Cancel account contract operator number) other = refl
other_than_insert (Pull account contract operator) other = refl
other_than_insert (Phase contract phase) other = refl
other_than_insert Settle other = refl
other_than_insert (Quote account contract lots buy sell) other = refl
other_than_insert (Change account contract number lots price) other = refl

-- a record that is told to be another
pub asked_as : (m : Memory) {asked told : Record} {a : Reading} → told ≡ asked → a ≡ gettable_now m told → a ≡ gettable_now m asked
asked_as m e q = q ∙ ap (gettable_now m) e
