-- An order about to enter: one that meets no counterpart rests alone, whatever the accounts are; another sweeps the opposite queue and its
-- remainder rests. Assumes nothing.
use mathlib.Core.Bool.{Bool, true, false, not}
use mathlib.Core.List.{List, [], ◌∷◌}
use mathlib.Core.Path.{◌≡◌, refl, sym, ap, ◌∙◌, subst, subst⁻¹}
use Prim.Native.Nat.{ℕ, ◌-◌, ◌≤◌}
use native.Mathlib.Omega.{arith}
use borrow.Author.Tests.{eq-eqb, ne_eqb, not-true}
use lib.ListN.{length}
use Rattle.laws.specs.Choice.{pick_false, either_false}
use Rattle.rules.specs.Answers.{is_good_for_day}
use Rattle.rules.specs.Bounds.{in_auction}
use Rattle.rules.specs.Matching.{Entered, counterpart, enter, rest_lots, rest_whole, rested_lots, sweep, traded_lots, untouched}
use Rattle.rules.specs.Memory.{first_word, memory, put_queue, queue_in, step_in}
use Rattle.rules.specs.Step.{answer_of, limit_of}
use Rattle.rules.specs.declared.Account.{Account}
use Rattle.rules.specs.declared.Answer.{Answer}
use Rattle.rules.specs.declared.Command.{Command}
use Rattle.rules.specs.declared.Order.{Order}
use Rattle.rules.specs.declared.State.{State}
use Rattle.rules.specs.declared.Taker.{Taker}
use Rattle.theory.proofs.Codecs.{length_queue, put_queue_lem}
use Rattle.std.proofs.Common.{None, Some}
use Rattle.book.specs.Places.{front}
use Rattle.theory.proofs.Fillable.{traded_nil}
use Rattle.theory.proofs.Sweep.{sweep_end, sweep_unmet}
use Rattle.book.proofs.Trading.{all_booked}
use Rattle.matching.specs.Entry.{EntryIs, EntryReady}
use Rattle.matching.specs.declared.entry.Entry.{Entry}
use Rattle.engine.specs.Arrival.{Arrived, ArrivedIs, Arriving, ArrivalReady, entered_for, entered_on, orders_on, Arrives, Trades}
use Rattle.engine.specs.Decision.{CarriedOut, DecisionIs, LeftIs, UpdateIs, accepted_by, left_for, outcome_of}
use Rattle.engine.specs.Outcome.{OutcomeIs}
use Rattle.engine.specs.Sides.{side_area}
use Rattle.engine.specs.declared.updates.Arrival.{Arrival}
use Rattle.engine.specs.declared.updates.Carried.{Carried}
use Rattle.engine.specs.declared.updates.Decision.{Decision}
use Rattle.engine.specs.declared.updates.Listed.{Listed}
use Rattle.engine.specs.declared.updates.Pending.{Pending}
use Rattle.engine.specs.declared.updates.Pending.TheVariants.{Trading}
use Rattle.engine.specs.declared.updates.Update.{Update}
use Rattle.engine.specs.declared.updates.Update.TheVariants.{Nothing, Balance, Listing, Left, Whole}
use Rattle.insertion.specs.Entry.{ArriveIs, ArriveOn, ArrivedTo, DecidedAs, TradedOn, TradesOn, rested_alone, rests_alone, unmet}
use Rattle.matching.specs.Sweep.{SweepReady}
use denote.Enum.Declared.{tag_of}
use types.Run.{OneOf, miss}
use Rattle.engine.specs.contracts.updates.Update.{the_type}

-- ---- the front of the opposite queue

module _ (a : Arrival) (queue : List Order) where
  pub alone_auction : a.listed.terms.phase ≡ 4 → true ≡ rests_alone a queue
  alone_auction e = rw (eq-eqb a.listed.terms.phase 4 e)

unmet_none : (t : Taker) (queue : List Order) → front queue ≡ None → true ≡ unmet t queue
unmet_none t [] e = refl
unmet_none t (o ∷ os) e = cc

unmet_first : (t : Taker) (queue : List Order) {o : Order} → front queue ≡ Some o → not (counterpart t o) ≡ unmet t queue
unmet_first t [] e = cc
unmet_first t (p ∷ ps) {o} e = let same : o ≡ p = cc in rw same refl

module _ (a : Arrival) (queue : List Order) (elsewhere : a.listed.terms.phase ≡ 4 → ⊥) where
  pub alone_empty : front queue ≡ None → true ≡ rests_alone a queue
  alone_empty e = rw (ne_eqb a.listed.terms.phase 4 elsewhere) (unmet_none a.taker queue e)

  pub alone_unmet : {o : Order} {met : Bool} → front queue ≡ Some o → met ≡ counterpart a.taker o → not met ≡ rests_alone a queue
  alone_unmet e m = rw (ne_eqb a.listed.terms.phase 4 elsewhere, m) (unmet_first a.taker queue e)

-- the sweep stops before its first trade
unmet_sweep : (t : Taker) (left last : ℕ) (queue : List Order) → unmet t queue ≡ true → sweep t left last queue ≡ untouched queue
unmet_sweep t left last [] e = sweep_end t left last
unmet_sweep t left last (o ∷ os) e = sweep_unmet t left last o os (not-true (counterpart t o) e)

-- ---- the lots that rest of it

module _ (a : Arrival) where
  pub rested_auction : a.listed.terms.phase ≡ 4 → a.order.lots ≡ rested_alone a
  rested_auction e = rw (eq-eqb a.listed.terms.phase 4 e)

  module _ (elsewhere : a.listed.terms.phase ≡ 4 → ⊥) {day : Bool} (ed : day ≡ is_good_for_day a.order.time) where
    pub rested_day : day ≡ true → a.order.lots ≡ rested_alone a
    rested_day e = rw (ne_eqb a.listed.terms.phase 4 elsewhere, sym ed ∙ e)

    pub rested_none : day ≡ false → 0 ≡ rested_alone a
    rested_none e = rw (ne_eqb a.listed.terms.phase 4 elsewhere, sym ed ∙ e)

-- ---- left to trade

pub left_trading : {a : Arrival} {owns : List ℕ} {own : ℕ} {opposites : List ℕ} {opposite : ℕ} → rests_alone a (queue_in opposites a.listed.place opposite) ≡ false
    → {d : Decision} → d ≡ left_for (Left (Trading a)) → ArriveOn a owns own opposites opposite d owns
left_trading {a} {owns} {own} {opposites} {opposite} e ed =
    subst⁻¹ (λ (v : Decision). ArriveOn a owns own opposites opposite v owns) ed
    (record { told = (refl, (either_false (in_auction a.listed.terms) (unmet a.taker (queue_in opposites a.listed.place opposite)) e).0, refl) })

-- ---- the contract after it

same_on : (l : Listed) (sell : Bool) {own own' opposite opposite' made made' last last' : ℕ} → own ≡ own' → opposite ≡ opposite' → made ≡ made' → last ≡ last'
    → entered_on l sell own opposite made last ≡ entered_on l sell own' opposite' made' last'
same_on l sell e f g h = rw (e, f, g, h)

-- ---- an order on its side; the price and the lots are as the code makes them

module _ {a : Arrival} {owns : List ℕ} {own : ℕ} {opposites : List ℕ} {opposite : ℕ} (arrives : Arriving a owns own opposites opposite) {price : ℕ} (ep : price ≡ limit_of a.order.condition) where
  abbrev lots : ℕ
  lots = a.order.lots

  abbrev mine : List Order
  mine = queue_in owns a.listed.place own

  abbrev others : List Order
  others = queue_in opposites a.listed.place opposite

  -- ---- it rests alone

  abbrev alone : Entered
  alone = record { trades = []; rested = rested_alone a; own = rest_lots a.taker (limit_of a.order.condition) (rested_alone a) mine; opposite = others }

  module _ (e : rests_alone a others ≡ true) where
    entered_alone : entered_for a mine others ≡ alone
    unfolding rest_whole enter rested_lots
    entered_alone = by_auction (in_auction a.listed.terms) refl
      where
        by_auction : (b : Bool) → in_auction a.listed.terms ≡ b → entered_for a mine others ≡ alone
        by_auction true q = rw q
        by_auction false q =
            let none : lots - traded_lots [] ≡ lots = omega (arith, traded_nil) in
            rw (q, unmet_sweep a.taker lots a.listed.terms.last others (rw q at e), none)

    module _ {rested : ℕ} (er : rested ≡ rested_alone a) where
      pub alone_room : first_word a.listed.place (length (rest_lots a.taker price rested mine)) ≤ length owns
      alone_room = rw (ep, er) (omega (arith, arrives.rests, ap (λ (x : Entered). length x.own) entered_alone))

      pub alone_arrived : {owns' : List ℕ} {resting : ℕ} → (resting ≡ length (rest_lots a.taker price rested mine)) × (owns' ≡ put_queue owns a.listed.place own (rest_lots a.taker price rested mine))
          → {l : Listed} → l ≡ entered_on a.listed a.taker.sell resting opposite a.listed.recorded a.listed.terms.last
          → {d : Decision} → d ≡ accepted_by (Listing l) a.taker.number rested → ArriveOn a owns own opposites opposite d owns'
      alone_arrived {owns'} (en, eq) {l} el ed =
          subst⁻¹ (λ (v : Decision). ArriveOn a owns own opposites opposite v owns') ed
          (record {
            told =
                λ accounts area.
                let none = all_booked [] {before = a.listed.recorded} {last₀ = a.listed.terms.last} {held₀ = accounts} {area₀ = area} {done = 0} refl in
                subst⁻¹ (λ (x : Entered). Arrived x accounts a owns own opposites opposite area (record { accounts = accounts; listed = l; answer = answer_of 0 a.taker.number 0 rested }) owns' opposites area) entered_alone
                (record {
                  answer = rw (er, traded_nil);
                  listed = el ∙ same_on a.listed a.taker.sell (en ∙ rw (ep, er)) (sym (length_queue opposites a.listed.place opposite)) none.made none.last;
                  accounts_booked = none.accounts;
                  own_queue_lem = eq ∙ rw (ep, er);
                  opposite_queue_lem = sym (put_queue_lem opposites a.listed.place opposite arrives.queue);
                  trades = none.trades;
                });
          })

  -- ---- it trades

  module _ {accounts : List Account} {area : List ℕ} (t : TradesOn accounts a owns own opposites opposite area) {day : Bool} (ed : day ≡ is_good_for_day a.order.time) where
    swept : entered_for a mine others ≡ enter a.taker lots (limit_of a.order.condition) (is_good_for_day a.order.time) a.listed.terms.last mine others
    swept = pick_false (in_auction a.listed.terms) _ _ t.matched

    pub enters : EntryReady a.taker lots price day a.listed.terms.last accounts owns own opposites opposite area a.listed.recorded
    enters =
        rw (ep, ed)
        (record {
          sweeps = t.sweeps;
          rests =
              subst⁻¹ (λ (k : ℕ). first_word k (length (enter a.taker lots (limit_of a.order.condition) (is_good_for_day a.order.time) a.listed.terms.last (queue_in owns k own) (queue_in opposites k opposite)).own) ≤ length owns)
              arrives.place (rw swept at arrives.rests);
        })

    pub traded_on : {e : Entry} {owns' opposites' area' : List ℕ}
        → EntryIs (enter a.taker lots price day a.listed.terms.last (queue_in owns a.taker.contract own) (queue_in opposites a.taker.contract opposite)) a.taker.contract owns own opposites opposite area a.listed.recorded a.listed.terms.last accounts e owns' opposites' area'
        → {l : Listed} → l ≡ entered_on a.listed a.taker.sell e.own e.opposite e.made e.last
        → TradedOn accounts a owns own opposites opposite area (record { accounts = e.accounts; listed = l; answer = answer_of 0 a.taker.number e.traded e.rested }) owns' opposites' area'
    traded_on {e} {owns'} {opposites'} {area'} is-entry el =
        let is : EntryIs (entered_for a mine others) a.listed.place owns own opposites opposite area a.listed.recorded a.listed.terms.last accounts e owns' opposites' area'
        = rw swept
        (subst (λ (k : ℕ). EntryIs (enter a.taker lots (limit_of a.order.condition) (is_good_for_day a.order.time) a.listed.terms.last (queue_in owns k own) (queue_in opposites k opposite)) k owns own opposites opposite area a.listed.recorded a.listed.terms.last accounts e owns' opposites' area')
        arrives.place (rw (ep, ed) at is-entry)) in
        record {
          answer = rw (is.traded, is.rested);
          listed = el ∙ same_on a.listed a.taker.sell is.own_count is.opposite_count is.made is.last;
          accounts_booked = is.accounts;
          own_queue_lem = is.own_queue_lem;
          opposite_queue_lem = is.opposite_queue_lem;
          trades = is.trades;
        }

-- ---- the same of the areas as they are lent, for a side as the code tells it

module _ {a : Arrival} (buys sells : List ℕ) (side : Bool) (es : a.taker.sell ≡ side) where
  pub on_side : Arrives a buys sells → Arriving a (side_area side buys sells) (orders_on side a.listed) (side_area (not side) buys sells) (orders_on (not side) a.listed)
  on_side = rw es (λ arrives. arrives)

  pub trades_side : {accounts : List Account} {area : List ℕ} → Trades accounts a buys sells area
      → TradesOn accounts a (side_area side buys sells) (orders_on side a.listed) (side_area (not side) buys sells) (orders_on (not side) a.listed) area
  trades_side {accounts} {area} t =
      record {
        arrives = on_side t.ready.arrives;
        matched = t.matched;
        sweeps = subst (λ (b : Bool). SweepReady a.taker a.order.lots a.listed.terms.last accounts (side_area (not b) buys sells) (orders_on (not b) a.listed) area a.listed.recorded) es (t.ready.sweeps t.matched);
      }

  pub side_traded : {accounts : List Account} {area : List ℕ} {r : Carried} (buys' sells' : List ℕ) {area' : List ℕ}
      → TradedOn accounts a (side_area side buys sells) (orders_on side a.listed) (side_area (not side) buys sells) (orders_on (not side) a.listed) area r (side_area side buys' sells') (side_area (not side) buys' sells') area'
      → ArrivedIs accounts a buys sells area r buys' sells' area'
  side_traded buys' sells' = rw es (λ traded. traded)

module _ {a : Arrival} (buys sells : List ℕ) where
  pub sell_arrived : (a.taker.sell ≡ true) → {d : Decision} {sells' : List ℕ} → ArriveOn a sells a.listed.sold buys a.listed.bought d sells' → ArriveIs a buys sells d buys sells'
  sell_arrived es {d} {sells'} k = record { told = by_update d.answer d.update k.told }
    where
      by_update : (answer : Answer) (u : Update) → ArrivedTo a sells a.listed.sold buys a.listed.bought answer u sells' → DecidedAs a buys sells answer u buys sells'
      by_update answer Nothing k = k
      by_update answer (Balance place balance) k = k
      by_update answer (Listing l) k = λ accounts area. side_traded buys sells true es buys sells' (k accounts area)
      by_update answer (Left p) k = (k.0, k.1, refl, k.2)
      by_update answer (Whole p) k = k

  pub buy_arrived : (a.taker.sell ≡ false) → {d : Decision} {buys' : List ℕ} → ArriveOn a buys a.listed.bought sells a.listed.sold d buys' → ArriveIs a buys sells d buys' sells
  buy_arrived es {d} {buys'} k = record { told = by_update d.answer d.update k.told }
    where
      by_update : (answer : Answer) (u : Update) → ArrivedTo a buys a.listed.bought sells a.listed.sold answer u buys' → DecidedAs a buys sells answer u buys' sells
      by_update answer Nothing k = k
      by_update answer (Balance place balance) k = k
      by_update answer (Listing l) k = λ accounts area. side_traded buys sells false es buys' sells (k accounts area)
      by_update answer (Left p) k = (k.0, k.1, k.2, refl)
      by_update answer (Whole p) k = k

-- ---- the order entered with all accounts, by what was decided of it

module _ {a : Arrival} {buys sells : List ℕ} {d : Decision} {buys' sells' : List ℕ} (k : ArriveIs a buys sells d buys' sells') where
  told : {u : Update} → d.update ≡ u → DecidedAs a buys sells d.answer u buys' sells'
  told e = subst (λ (u : Update). DecidedAs a buys sells d.answer u buys' sells') e k.told

  pub listing_entered : {l : Listed} → d.update ≡ Listing l → (accounts : List Account) (area : List ℕ)
      → ArrivedIs accounts a buys sells area (record { accounts = accounts; listed = l; answer = d.answer }) buys' sells' area
  listing_entered e = told e

  -- nothing else is left of an order but that it trades
  module _ (other : OneOf (0 ∷ 1 ∷ 3 ∷ 4 ∷ []) (tag_of the_type d.update)) where
    pub untouched_then : (in_auction a.listed.terms ≡ false) × (buys' ≡ buys) × (sells' ≡ sells)
    untouched_then = by_update d.answer d.update other k.told
      where
        by_update : (answer : Answer) (u : Update) → OneOf (0 ∷ 1 ∷ 3 ∷ 4 ∷ []) (tag_of the_type u) → DecidedAs a buys sells answer u buys' sells' → (in_auction a.listed.terms ≡ false) × (buys' ≡ buys) × (sells' ≡ sells)
        by_update answer Nothing o k = absurd k
        by_update answer (Balance place balance) o k = absurd k
        by_update answer (Listing l) o k = absurd (miss (0 ∷ 1 ∷ 3 ∷ 4 ∷ []) 2 tt o)
        by_update answer (Left p) o k = (k.1, k.2, k.3)
        by_update answer (Whole p) o k = absurd k

    module _ {accounts : List Account} {area : List ℕ} where
      pub trades_then : ArrivalReady accounts a buys sells area → Trades accounts a buys' sells' area
      trades_then ready = rw (untouched_then.1, untouched_then.2) (record { ready = ready; matched = untouched_then.0 })

      pub traded_then : {r : Carried} (buys'' sells'' : List ℕ) {area' : List ℕ} → ArrivedIs accounts a buys' sells' area r buys'' sells'' area' → ArrivedIs accounts a buys sells area r buys'' sells'' area'
      traded_then buys'' sells'' h = rw (untouched_then.1, untouched_then.2) at h

-- ---- what is decided of a command that comes down to an order

module _ {s : State} {buys sells trades : List ℕ} {command : Command} {a : Arrival} {buys₁ sells₁ : List ℕ} (ready : ArrivalReady s.accounts a buys₁ sells₁ trades)
    (gives : (r : Carried) (buys' sells' trades' : List ℕ) → ArrivedIs s.accounts a buys₁ sells₁ trades r buys' sells' trades' → OutcomeIs (step_in (memory s buys sells trades) command) (outcome_of s r) buys' sells' trades') where
  carried : (r : Carried) (buys' sells' trades' : List ℕ) → ArrivedIs s.accounts a buys₁ sells₁ trades r buys' sells' trades' → CarriedOut (memory s buys sells trades) command r buys' sells' trades'
  carried r buys' sells' trades' k = record { place = rw k.listed ready.arrives.fits; outcome = gives r buys' sells' trades' k }

  pub arrived_decided : {d : Decision} {buys' sells' : List ℕ} → ArriveIs a buys₁ sells₁ d buys' sells' → DecisionIs (memory s buys sells trades) command d buys' sells' trades
  arrived_decided {d} {buys'} {sells'} k = record { told = by_update d.answer d.update k.told }
    where
      by_update : (answer : Answer) (u : Update) → DecidedAs a buys₁ sells₁ answer u buys' sells' → UpdateIs (memory s buys sells trades) command answer u buys' sells' trades
      by_update answer Nothing k = absurd k
      by_update answer (Balance place balance) k = absurd k
      by_update answer (Listing l) k =
          let c = carried (record { accounts = s.accounts; listed = l; answer = answer }) buys' sells' trades (k s.accounts trades) in
          (c.place, c.outcome)
      by_update answer (Left p) k =
          subst⁻¹ (λ (v : Pending). LeftIs (memory s buys sells trades) command v buys' sells' trades) k.0
          (rw (k.2, k.3)
          (record {
            ready = record { told = record { ready = ready; matched = k.1 } };
            gives = λ r buys'' sells'' trades'' done. carried r buys'' sells'' trades'' done.told;
          }))
      by_update answer (Whole p) k = absurd k
