-- The passes over the day's trades: one adds up the legs that close or open, one takes the first of the lots opened; and how far their
-- sums reach. Assumes nothing.
use Rattle.laws.specs.Logic.{Bool, true, false, ◌&&◌, List, [], ◌∷◌, ◌++◌, append-nil, ◌≡◌, ap, ◌∙◌}
use Rattle.laws.specs.Numbers.{ℕ, ◌+◌, ◌-◌, ◌*◌, ◌<◌, ◌≤◌, min, arith, eqb, length, get_or, take, replicate, length-replicate, get_or-replicate}
use Rattle.laws.specs.Numbers.{take_all}
use Rattle.laws.specs.Choice.{pick}
use Rattle.laws.specs.Sums.{sum_of, sum_of_append}
use Rattle.rules.specs.Article32.{lots_in}
use Rattle.rules.specs.Bounds.{max_lots, max_price, max_accounts, max_contracts}
use Rattle.rules.specs.Exchange.{no_trade}
use Rattle.rules.specs.Settlement.{Leg, leg, Batch, only, first_lots, legs}
use Rattle.rules.specs.declared.Trade.{Trade}
use Rattle.dayprofit.specs.Day.{Sized, SizedDay}
use Rattle.dayprofit.specs.Sides.{same, lots_if, value_if, batch_if, batches_of, opened_today, cost, day_lots_most, day_value_most}
use Rattle.dayprofit.specs.Slots.{slot_of, party_of, close_of, leg_slot, changed, Placed, PlacedDay, Addable, SumsAre, UsedAre, LeftAre, slots, slot_lots_most, slot_value_most}
use Rattle.dayprofit.proofs.FirstIn.{lots_append, cost_append, first_append, first_other}
use Rattle.dayprofit.proofs.Legs.{is_kind, kind_itself, only_one, leg_lots, leg_value_lem, value_small, legs_lots, legs_value_lem, batches_append, batches_cost}
use Rattle.dayprofit.proofs.Slots.{Pass, Kept, leg_of, legs_to, slot_small, leg_addable, leg_more, trade_more, no_legs}
use Rattle.dayprofit.proofs.Trading.{sized_first, sized_at}

-- ---- lots and value of the legs that close, or that open

abbrev pub Added : Bool → ℕ → Bool → List Leg → ℕ → ℕ → Type 0
Added close q s ls u v = (u ≡ sum_of (lots_if s close) ls) × (v ≡ sum_of (value_if s close) ls)

-- one leg behind others: all of it where it is of the kind, nothing where not
last_measure : (f : Leg → ℕ) (ls : List Leg) (l : Leg) → sum_of f (ls ++ (l ∷ [])) ≡ sum_of f ls + f l
unfolding sum_of
last_measure f ls l = omega (arith, sum_of_append f ls (l ∷ []))

lots_if_lem : (s k s₀ k₀ b : Bool) (p n : ℕ) → is_kind s k s₀ k₀ ≡ b → lots_if s k (leg s₀ k₀ p n) ≡ pick b n 0
unfolding lots_if
lots_if_lem s k s₀ k₀ b p n e = rw e

value_if_lem : (s k s₀ k₀ b : Bool) (p n : ℕ) → is_kind s k s₀ k₀ ≡ b → value_if s k (leg s₀ k₀ p n) ≡ pick b (p * n) 0
unfolding value_if
value_if_lem s k s₀ k₀ b p n e = rw e

pub adding : (close : Bool) → Pass close (Added close) (λ u v p n. u + n) (λ u v p n. v + p * n)
adding close =
    record {
      grows = λ q s ls u v p n w. (
        omega (arith, w.0, last_measure (lots_if s close) ls (leg s close p n), lots_if_lem s close s close true p n (kind_itself s close)),
        omega (arith, w.1, last_measure (value_if s close) ls (leg s close p n), value_if_lem s close s close true p n (kind_itself s close)),
      );
      passes = λ q s ls u v s₀ k₀ p n e w. (
        omega (arith, w.0, last_measure (lots_if s close) ls (leg s₀ k₀ p n), lots_if_lem s close s₀ k₀ false p n e),
        omega (arith, w.1, last_measure (value_if s close) ls (leg s₀ k₀ p n), value_if_lem s close s₀ k₀ false p n e),
      );
      below = λ q s ls u v w. omega (arith, w.1);
    }

-- ---- the first lots opened on each side, as many as `left` says

abbrev pub Taken : List ℕ → ℕ → Bool → List Leg → ℕ → ℕ → Type 0
Taken left q s ls u v = (u ≡ get_or left q 0 - lots_in (opened_today s ls)) × (v ≡ cost (first_lots (get_or left q 0) (opened_today s ls)))

batch_if_lem : (s k s₀ k₀ b : Bool) (p n : ℕ) → is_kind s k s₀ k₀ ≡ b → batches_of s k (leg s₀ k₀ p n ∷ []) ≡ pick b (record { price = p; lots = n } ∷ []) []
unfolding batches_of batch_if
batch_if_lem s k s₀ k₀ b p n e = rw (append-nil, e)

last_batch : (s k s₀ k₀ b : Bool) (ls : List Leg) (p n : ℕ) → is_kind s k s₀ k₀ ≡ b
    → batches_of s k (ls ++ (leg s₀ k₀ p n ∷ [])) ≡ batches_of s k ls ++ pick b (record { price = p; lots = n } ∷ []) []
last_batch s k s₀ k₀ b ls p n e =
    batches_append s k ls (leg s₀ k₀ p n ∷ []) ∙ ap (λ (bs : List Batch). batches_of s k ls ++ bs) (batch_if_lem s k s₀ k₀ b p n e)

one_lots : (p n : ℕ) → lots_in (record { price = p; lots = n } ∷ []) ≡ n
unfolding sum_of
one_lots p n = omega arith

one_taken : (p n m : ℕ) → cost (first_lots m (record { price = p; lots = n } ∷ [])) ≡ p * min m n
unfolding cost first_lots sum_of
one_taken p n m = omega arith

-- one batch more, of which m lots are taken where m were still to be
module _ (due : ℕ) (bs : List Batch) (u v p n : ℕ) (e : u ≡ due - lots_in bs) (f : v ≡ cost (first_lots due bs)) where
  batch_left : u - min u n ≡ due - lots_in (bs ++ (record { price = p; lots = n } ∷ []))
  batch_left = rw (lots_append bs (record { price = p; lots = n } ∷ []), one_lots p n) (omega arith)

  batch_taken : v + p * min u n ≡ cost (first_lots due (bs ++ (record { price = p; lots = n } ∷ [])))
  batch_taken = rw (first_append due bs (record { price = p; lots = n } ∷ []), cost_append (first_lots due bs), ← e, one_taken p n u, f)

pub taking : (left : List ℕ) → Pass false (Taken left) (λ u v p n. u - min u n) (λ u v p n. v + p * min u n)
taking left =
    record {
      grows = λ q s ls u v p n w. rw (last_batch s false s false true ls p n (kind_itself s false)) (
        batch_left (get_or left q 0) (opened_today s ls) u v p n w.0 w.1,
        batch_taken (get_or left q 0) (opened_today s ls) u v p n w.0 w.1,
      );
      passes = λ q s ls u v s₀ k₀ p n e w. rw (last_batch s false s₀ k₀ false ls p n e, append-nil (opened_today s ls)) w;
      below = λ q s ls u v w. omega (arith, w.1, first_other (get_or left q 0) (opened_today s ls), batches_cost s false ls);
    }

-- ---- how far a kind's sums reach over trades, and with one leg of another

leg_reach : (f : Leg → ℕ) (b : ℕ) (ls : List Leg) (here : Bool) (l : Leg) → f l ≤ b → sum_of f (ls ++ only here l) ≤ sum_of f ls + b
leg_reach f b ls here l h = rw (sum_of_append f ls (only here l), only_one f here l) (chosen here)
  where
    chosen : (x : Bool) → sum_of f ls + pick x (f l) 0 ≤ sum_of f ls + b
    chosen true = omega arith
    chosen false = omega arith

module _ (ts : List Trade) (g : SizedDay ts) (a c : ℕ) (s k : Bool) where
  pub lots_reach : sum_of (lots_if s k) (legs a c ts) ≤ day_lots_most
  lots_reach = omega (arith, legs_lots a c s k ts g.sized, g.few)

  pub value_reach : sum_of (value_if s k) (legs a c ts) ≤ day_value_most
  value_reach = omega (arith, legs_value_lem a c s k ts g.sized, g.few)

  module _ (sell : Bool) (t : Trade) (z : Sized t) where
    pub lots_reach_leg : sum_of (lots_if s k) (legs a c ts ++ leg_of sell t a c) ≤ slot_lots_most
    lots_reach_leg =
        let l : Leg = leg sell (close_of sell t) t.price t.lots in
        let b : lots_if s k l ≤ max_lots = omega (arith, leg_lots s k sell (close_of sell t) t.price t.lots, z.lots) in
        omega (arith, lots_reach, leg_reach (lots_if s k) max_lots (legs a c ts) (eqb t.contract c && eqb (party_of sell t) a) l b)

    pub value_reach_leg : sum_of (value_if s k) (legs a c ts ++ leg_of sell t a c) ≤ slot_value_most
    value_reach_leg =
        let l : Leg = leg sell (close_of sell t) t.price t.lots in
        let b : value_if s k l ≤ max_price * max_lots = rw (leg_value_lem s k sell (close_of sell t) t.price t.lots) (value_small t z _ (leg_lots s k sell (close_of sell t) t.price t.lots)) in
        omega (arith, value_reach, leg_reach (value_if s k) (max_price * max_lots) (legs a c ts) (eqb t.contract c && eqb (party_of sell t) a) l b)

-- ---- the loop

abbrev pub Passing : (ℕ → Bool → List Leg → ℕ → ℕ → Type 0) → List Trade → List ℕ → List ℕ → ℕ → Type 0
Passing Told ts us vs i = Kept Told (legs_to ts i) us vs

-- the trade that a turn reads
pub record TradeRead (ts : List Trade) (i : ℕ) (t : Trade) : Type 0 where
  pub placed : PlacedDay ts
  pub here : i < length ts
  pub read : t ≡ get_or ts i no_trade

module _ {ts : List Trade} {i : ℕ} {t : Trade} (r : TradeRead ts i t) where
  its_size : Sized t
  its_size = sized_at ts r.placed.day i t r.here r.read

  its_places : Placed t
  its_places = rw r.read (r.placed.placed i r.here)

  -- the trades before it
  so_far : SizedDay (take i ts)
  so_far = sized_first ts r.placed.day i

  module _ {close : Bool} {Told : ℕ → Bool → List Leg → ℕ → ℕ → Type 0} {F G : ℕ → ℕ → ℕ → ℕ → ℕ} (pass : Pass close Told F G) {us vs : List ℕ} (w : Passing Told ts us vs i) where
    abbrev closes : Bool → Bool
    closes sell = same close (close_of sell t)

    pub buy_addable : Addable us vs (leg_slot false t) t
    buy_addable =
        leg_addable pass w false t its_places its_size (λ a c s. omega (arith, value_reach _ so_far a c s close))

    module _ {us' vs' : List ℕ} (p : us' ≡ changed (closes false) us (leg_slot false t) (F (get_or us (leg_slot false t) 0) (get_or vs (leg_slot false t) 0) t.price t.lots))
        (q : vs' ≡ changed (closes false) vs (leg_slot false t) (G (get_or us (leg_slot false t) 0) (get_or vs (leg_slot false t) 0) t.price t.lots)) where
      pub bought : Kept Told (λ a c. legs_to ts i a c ++ leg_of false t a c) us' vs'
      bought = leg_more pass w false t its_places us' vs' p q

      pub sell_addable : Addable us' vs' (leg_slot true t) t
      sell_addable = leg_addable pass bought true t its_places its_size (λ a c s. value_reach_leg _ so_far a c s close false t its_size)

      pub passing_more : {us'' vs'' : List ℕ} → us'' ≡ changed (closes true) us' (leg_slot true t) (F (get_or us' (leg_slot true t) 0) (get_or vs' (leg_slot true t) 0) t.price t.lots)
          → vs'' ≡ changed (closes true) vs' (leg_slot true t) (G (get_or us' (leg_slot true t) 0) (get_or vs' (leg_slot true t) 0) t.price t.lots) → Passing Told ts us'' vs'' (i + 1)
      passing_more {us''} {vs''} p' q' = trade_more ts i t us'' vs'' r.here r.read (leg_more pass bought true t its_places us'' vs'' p' q')

  -- lots are added too
  module _ (close : Bool) {us vs : List ℕ} (w : Passing (Added close) ts us vs i) where
    pub buy_lots : get_or us (leg_slot false t) 0 ≤ slot_lots_most
    buy_lots =
        omega (arith, (w.tells t.buyer t.contract false its_places.buyer its_places.contract).0, lots_reach _ so_far t.buyer t.contract false close)

    pub sell_lots : {us' vs' : List ℕ} → Kept (Added close) (λ a c. legs_to ts i a c ++ leg_of false t a c) us' vs' → get_or us' (leg_slot true t) 0 ≤ slot_lots_most
    sell_lots b =
        omega (arith, (b.tells t.seller t.contract true its_places.seller its_places.contract).0, lots_reach_leg _ so_far t.seller t.contract true close false t its_size)

-- before the first trade

no_sum : (a c : ℕ) (s : Bool) → a < max_accounts → c < max_contracts → get_or {A = ℕ} (replicate slots 0) (slot_of a c s) 0 ≡ 0
no_sum a c s la lc = get_or-replicate {A = ℕ} slots (slot_of a c s) 0 0 (slot_small a c s la lc)

pub adding_none : (close : Bool) (ts : List Trade) (us vs : List ℕ) → us ≡ replicate slots 0 → vs ≡ replicate slots 0 → Passing (Added close) ts us vs 0
unfolding sum_of
adding_none close ts us vs e f =
    rw (e, f)
    (record {
      room = length-replicate {A = ℕ} slots 0;
      room_too = length-replicate {A = ℕ} slots 0;
      tells = λ a c s la lc. rw (no_legs ts a c) (no_sum a c s la lc, no_sum a c s la lc);
    })

pub taking_none : (ts : List Trade) (left vs : List ℕ) → length left ≡ slots → vs ≡ replicate slots 0 → Passing (Taken left) ts left vs 0
unfolding batches_of first_lots cost sum_of
taking_none ts left vs h f =
    rw f
    (record {
      room = h;
      room_too = length-replicate {A = ℕ} slots 0;
      tells = λ a c s la lc. rw (no_legs ts a c) (omega arith, no_sum a c s la lc);
    })

-- behind the last
module _ (ts : List Trade) (us vs : List ℕ) (i : ℕ) (h : length ts ≤ i) where
  pub all_added : (close : Bool) → Passing (Added close) ts us vs i → SumsAre close ts us vs
  all_added close w =
      let k = rw (take_all i ts h) at w.tells in
      record { lots_are = λ a c s la lc. (k a c s la lc).0; value_is = λ a c s la lc. (k a c s la lc).1 }

  pub all_taken : (left : List ℕ) → Passing (Taken left) ts us vs i → UsedAre ts left vs × LeftAre ts left us
  all_taken left w =
      let k = rw (take_all i ts h) at w.tells in
      (record { each = λ a c s la lc. (k a c s la lc).1 }, record { each = λ a c s la lc. (k a c s la lc).0 })
