-- The legs of the day's trades by kind: their lots and value, one trade after the other, and how far those sums reach. Assumes
-- nothing.
use Rattle.laws.specs.Logic.{Bool, true, false, not, ◌&&◌, List, [], ◌∷◌, ◌++◌, append-nil, append_assoc, ◌≡◌, refl, sym, ap, ◌∙◌}
use Rattle.laws.specs.Numbers.{ℕ, ◌+◌, ◌*◌, ◌≤◌, le_trans, mul-add, mul-le-mul_left, mul-le-mul_right, arith, eqb, length, get_or}
use Rattle.laws.specs.Choice.{pick, pick_same}
use Rattle.laws.specs.Sums.{sum_of, sum_of_append}
use Rattle.rules.specs.Article32.{lots_in}
use Rattle.rules.specs.Settlement.{Leg, leg, only, legs, buy_leg, sell_leg}
use Rattle.rules.specs.Bounds.{max_lots, max_price}
use Rattle.rules.specs.declared.Trade.{Trade}
use Rattle.accounting.proofs.Trades.{legs_append}
use Rattle.dayprofit.specs.Day.{Sized, AllSized}
use Rattle.dayprofit.specs.Sides.{same, lots_if, value_if, batch_if, batches_of, cost}
use Rattle.dayprofit.proofs.FirstIn.{lots_append, cost_append}
use mir.Facts.{Fits-below}
use mir.Syntax.{w32, w64}
use mir.Val.{Fits}
use Rattle.dayprofit.specs.Slots.{slot_lots_most, slot_value_most}

-- ---- one leg: it counts where it is of the kind

abbrev pub is_kind : Bool → Bool → Bool → Bool → Bool
is_kind sell close s k = same sell s && same close k

pub kind_itself : (s k : Bool) → is_kind s k s k ≡ true
kind_itself false false = refl
kind_itself false true = refl
kind_itself true false = refl
kind_itself true true = refl

pub says_open : (b : Bool) → b ≡ not (not b)
says_open true = refl
says_open false = refl

-- what a test that was passed or failed says
pub is_so : (r here : Bool) → r ≡ here → not r ≡ false → here ≡ true
is_so r here e h = sym e ∙ says_open r ∙ ap not h

pub is_not_so : (r here : Bool) → r ≡ here → not r ≡ true → here ≡ false
is_not_so r here e h = sym e ∙ says_open r ∙ ap not h

pick_times : (a : Bool) (p n : ℕ) → pick a (p * n) 0 ≡ p * pick a n 0
pick_times true p n = refl
pick_times false p n = omega arith

pick_le : (a : Bool) (n : ℕ) → pick a n 0 ≤ n
pick_le true n = omega arith
pick_le false n = omega arith

pub leg_lots : (sell close s k : Bool) (p n : ℕ) → lots_if sell close (leg s k p n) ≤ n
unfolding lots_if
leg_lots sell close s k p n = pick_le (is_kind sell close s k) n

pub leg_value_lem : (sell close s k : Bool) (p n : ℕ) → value_if sell close (leg s k p n) ≡ p * lots_if sell close (leg s k p n)
unfolding value_if lots_if
leg_value_lem sell close s k p n = pick_times (is_kind sell close s k) p n

-- ---- one trade: at most one of its two legs is of the kind

pub only_one : (f : Leg → ℕ) (here : Bool) (l : Leg) → sum_of f (only here l) ≡ pick here (f l) 0
unfolding only sum_of
only_one f true l = omega arith
only_one f false l = refl

two_legs : (f : Leg → ℕ) (b s : Bool) (l m : Leg) → sum_of f (only b l ++ (only s m ++ [])) ≡ pick b (f l) 0 + pick s (f m) 0
two_legs f b s l m = rw (append-nil (only s m)) (omega (arith, sum_of_append f (only b l) (only s m), only_one f b l, only_one f s m))

module _ (a c : ℕ) (t : Trade) where
  abbrev buys : Bool
  buys = eqb t.contract c && eqb t.buyer a

  abbrev sells : Bool
  sells = eqb t.contract c && eqb t.seller a

  legs_measure : (f : Leg → ℕ) → sum_of f (legs a c (t ∷ [])) ≡ pick buys (f (buy_leg t)) 0 + pick sells (f (sell_leg t)) 0
  unfolding legs
  legs_measure f = two_legs f buys sells (buy_leg t) (sell_leg t)

  trade_lots : (sell close : Bool) → sum_of (lots_if sell close) (legs a c (t ∷ [])) ≤ t.lots
  unfolding lots_if
  trade_lots false close =
      let b = pick_le buys (lots_if false close (buy_leg t)) in
      let n = leg_lots false close false (not (eqb t.buyclose 0)) t.price t.lots in
      omega (arith, legs_measure (lots_if false close), pick_same {A = ℕ} sells 0)
  trade_lots true close =
      let b = pick_le sells (lots_if true close (sell_leg t)) in
      let n = leg_lots true close true (not (eqb t.sellclose 0)) t.price t.lots in
      omega (arith, legs_measure (lots_if true close), pick_same {A = ℕ} buys 0)

  trade_value : (sell close : Bool) → sum_of (value_if sell close) (legs a c (t ∷ [])) ≡ t.price * sum_of (lots_if sell close) (legs a c (t ∷ []))
  trade_value sell close =
      legs_measure (value_if sell close) ∙ rw (
        leg_value_lem sell close false (not (eqb t.buyclose 0)) t.price t.lots,
        leg_value_lem sell close true (not (eqb t.sellclose 0)) t.price t.lots,
        pick_times buys t.price (lots_if sell close (buy_leg t)),
        pick_times sells t.price (lots_if sell close (sell_leg t)),
      )
      (sym (mul-add t.price _ _)) ∙ ap (λ (n : ℕ). t.price * n) (sym (legs_measure (lots_if sell close)))

pub value_small : (t : Trade) → Sized t → (n : ℕ) → n ≤ t.lots → t.price * n ≤ max_price * max_lots
value_small t s n h =
    let few : n ≤ max_lots = omega (arith, s.lots) in
    le_trans (mul-le-mul_right n s.price) (mul-le-mul_left max_price few)

-- ---- all trades

module _ (a c : ℕ) (sell close : Bool) where
  pub legs_lots : (ts : List Trade) → AllSized ts → sum_of (lots_if sell close) (legs a c ts) ≤ 1_000 * length ts
  unfolding AllSized legs sum_of
  legs_lots [] s = omega arith
  legs_lots (t ∷ ts) s =
      rw (legs_append a c (t ∷ []) ts)
      (omega (arith, sum_of_append (lots_if sell close) (legs a c (t ∷ [])) (legs a c ts), trade_lots a c t sell close, s.0.lots, legs_lots ts s.1))

  pub legs_value_lem : (ts : List Trade) → AllSized ts → sum_of (value_if sell close) (legs a c ts) ≤ 1_000_000_000 * length ts
  unfolding AllSized legs sum_of
  legs_value_lem [] s = omega arith
  legs_value_lem (t ∷ ts) s =
      let v = value_small t s.0 _ (trade_lots a c t sell close) in
      omega (arith, ap (sum_of (value_if sell close)) (legs_append a c (t ∷ []) ts), sum_of_append (value_if sell close) (legs a c (t ∷ [])) (legs a c ts), trade_value a c t sell close, legs_value_lem ts s.1)

-- ---- the same legs as batches

no_lots : lots_in [] ≡ 0
unfolding sum_of
no_lots = refl

no_cost : cost [] ≡ 0
unfolding cost sum_of
no_cost = refl

module _ (sell close : Bool) where
  pub batches_append : (ls ms : List Leg) → batches_of sell close (ls ++ ms) ≡ batches_of sell close ls ++ batches_of sell close ms
  unfolding batches_of
  batches_append [] ms = refl
  batches_append (l ∷ ls) ms = rw (batches_append ls ms) (sym (append_assoc (batch_if sell close l) (batches_of sell close ls) (batches_of sell close ms)))

  batch_lots : (l : Leg) → lots_in (batch_if sell close l) ≡ lots_if sell close l
  unfolding batch_if lots_if sum_of
  batch_lots (leg s k p n) = counted (is_kind sell close s k)
    where
      counted : (b : Bool) → lots_in (pick b (record { price = p; lots = n } ∷ []) []) ≡ pick b n 0
      counted true = omega arith
      counted false = refl

  batch_cost : (l : Leg) → cost (batch_if sell close l) ≡ value_if sell close l
  unfolding batch_if value_if cost sum_of
  batch_cost (leg s k p n) = counted (is_kind sell close s k)
    where
      counted : (b : Bool) → cost (pick b (record { price = p; lots = n } ∷ []) []) ≡ pick b (p * n) 0
      counted true = omega arith
      counted false = refl

  pub batches_lots : (ls : List Leg) → lots_in (batches_of sell close ls) ≡ sum_of (lots_if sell close) ls
  unfolding batches_of sum_of
  batches_lots [] = no_lots
  batches_lots (l ∷ ls) = lots_append (batch_if sell close l) (batches_of sell close ls) ∙ rw (batch_lots l, batches_lots ls)

  pub batches_cost : (ls : List Leg) → cost (batches_of sell close ls) ≡ sum_of (value_if sell close) ls
  unfolding batches_of sum_of
  batches_cost [] = no_cost
  batches_cost (l ∷ ls) = cost_append (batch_if sell close l) (batches_of sell close ls) ∙ rw (batch_cost l, batches_cost ls)

-- ---- a leg's lots and value, added where one stands

module _ (t : Trade) (z : Sized t) (n : ℕ) (h : n ≤ t.lots) where
  pub leg_product_fits : Fits w64 (t.price * n)
  leg_product_fits = Fits-below {n = max_price * max_lots} tt (value_small t z n h)

  pub leg_value_fits : (vs : List ℕ) (r at : ℕ) → r ≡ at → get_or vs at 0 ≤ slot_value_most → Fits w64 (get_or vs r 0 + t.price * n)
  leg_value_fits vs r at e small = rw e (Fits-below {n = slot_value_most + max_price * max_lots} tt (omega (arith, value_small t z n h)))

pub leg_lots_fit : (t : Trade) → Sized t → (us : List ℕ) (r at : ℕ) → r ≡ at → get_or us at 0 ≤ slot_lots_most → Fits w32 (get_or us r 0 + t.lots)
leg_lots_fit t z us r at e few = rw e (Fits-below {n = slot_lots_most + max_lots} tt (omega (arith, z.lots)))
