-- The prices of a sweep, by any pairing method: between the limit and the resting price, on the tick, and the same whether the
-- last price is the one on arrival or the one just made. Assumes nothing.
use borrow.Author.Rules.{rules}
use Rattle.laws.specs.Logic.{Bool, true, false, not, List, [], ◌∷◌, map, ◌⊎◌, ⊎_elim, inl, inr, ◌≡◌, refl, ap, ap₂, ◌∙◌}
use Rattle.laws.specs.Numbers.{ℕ, ◌+◌, ◌*◌, ◌/◌, ◌%◌, ◌<◌, ◌≤◌, min, max, mul-le-mul_right, mul-mod_left, div-add-mod', div-mul-le_self, le-div_iff_mul-le}
use Rattle.laws.specs.Numbers.{arith, eqb-true, leb-true, leb-false, eq-eqb, le-leb, eqb, leb, length, take}
use Rattle.laws.specs.Choice.{all_of, all_of_true, both_true, pick, true_both, by_test}
use Rattle.rules.specs.Bounds.{on_tick, allowed_today, day_low, day_high, within}
use Rattle.rules.specs.Exchange.{best_price, no_order}
use Rattle.rules.specs.Matching.{meets, counterpart, average, method_of, middle, paired_price, trade_price, trade_with, sweep, last_price}
use Rattle.rules.specs.WellFormed.{sorted}
use Rattle.rules.specs.declared.{Contract.Contract, Order.Order, PairingMethod.PairingMethod, PriceCondition.PriceCondition, Taker.Taker, Trade.Trade}
use Rattle.rules.specs.declared.PairingMethod.TheVariants.{Middle, Average, FirstIn}
use Rattle.rules.specs.declared.PriceCondition.TheVariants.{Limit, Market, Best}
use Rattle.theory.proofs.Sorted.{Behind, AllBehind, behind_trans, sorted_tail, sorted_behind, best_first}
use Rattle.theory.proofs.Sweep.{trade_price_lem, sweep_ind, swept_each}

-- ---- the middle of three prices

pub middle_low : (a b c : ℕ) → min a b ≤ middle a b c
unfolding middle
middle_low a b c = omega arith

pub middle_high : (a b c : ℕ) → middle a b c ≤ max a b
unfolding middle
middle_high a b c = omega arith

-- the last price, brought into the range between the two
pub middle_from_below : (a b c : ℕ) → a ≤ b → middle a b c ≡ max a (min b c)
unfolding middle
middle_from_below a b c h =
    let l : min a b ≡ a = omega arith in
    let u : max a b ≡ b = omega arith in
    rw (l, u)

pub middle_from_above : (a b c : ℕ) → b ≤ a → middle a b c ≡ max b (min a c)
unfolding middle
middle_from_above a b c h =
    let l : min a b ≡ b = omega arith in
    let u : max a b ≡ a = omega arith in
    rw (l, u)

-- it is one of the three
clamped_one : (l u c : ℕ) → l ≤ u → (max l (min u c) ≡ l) ⊎ (max l (min u c) ≡ u) ⊎ (max l (min u c) ≡ c)
clamped_one l u c h = by_bounds (leb c l) (leb u c) refl refl
  where
    by_bounds : (x y : Bool) → leb c l ≡ x → leb u c ≡ y → (max l (min u c) ≡ l) ⊎ (max l (min u c) ≡ u) ⊎ (max l (min u c) ≡ c)
    by_bounds true y p q = inl (omega (arith, leb-true c l p))
    by_bounds false true p q = inr (inl (omega (arith, leb-true u c q)))
    by_bounds false false p q = inr (inr (omega (arith, leb-false c l p, leb-false u c q)))

pub middle_one : (a b c : ℕ) → (middle a b c ≡ a) ⊎ (middle a b c ≡ b) ⊎ (middle a b c ≡ c)
middle_one a b c =
    by_test (leb a b) (λ p. rw (middle_from_below a b c (leb-true a b p)) (clamped_one a b c (leb-true a b p)))
    (λ p. let h : b ≤ a = omega (arith, leb-false a b p) in
    rw (middle_from_above a b c h)
    (⊎_elim (λ e. inr (inl e)) (λ r. ⊎_elim (λ e. inl e) (λ e. inr (inr e)) r) (clamped_one b a c h)))

-- so what holds of each of the three holds of it
pub middle_any : (P : ℕ → Type 0) (a b c : ℕ) → P a → P b → P c → P (middle a b c)
middle_any P a b c pa pb pc = ⊎_elim (λ e. rw e pa) (λ r. ⊎_elim (λ e. rw e pb) (λ e. rw e pc) r) (middle_one a b c)

pub middle_on_tick : (tick a b c : ℕ) → on_tick tick a ≡ true → on_tick tick b ≡ true → on_tick tick c ≡ true → on_tick tick (middle a b c) ≡ true
middle_on_tick tick a b c = middle_any (λ n. on_tick tick n ≡ true) a b c

-- ---- the average of two prices

-- what is rounded down to a tick is a multiple of it, no more than before, and no less than a multiple that it was not below
rounded_on_tick : (tick n : ℕ) → on_tick tick (n / tick * tick) ≡ true
unfolding on_tick
rounded_on_tick tick n = eq-eqb (n / tick * tick % tick) 0 (mul-mod_left (n / tick) tick)

rounded_low : (tick m n : ℕ) → 1 ≤ tick → on_tick tick m ≡ true → m ≤ n → m ≤ n / tick * tick
unfolding on_tick
rounded_low tick m n some e h =
    let z : m % tick ≡ 0 = eqb-true (m % tick) 0 e in
    let d : m / tick * tick ≤ n = omega (arith, div-mul-le_self m tick) in
    omega (arith, div-add-mod' m tick, mul-le-mul_right tick ((le-div_iff_mul-le some).1 d))

-- a tick multiple that neither price is below
pub average_above : (tick m a b : ℕ) → 1 ≤ tick → on_tick tick m ≡ true → m ≤ a → m ≤ b → m ≤ average tick a b
unfolding average
average_above tick m a b some e h k =
    let two : 0 < 2 = omega arith in
    let d : m * 2 ≤ a + b = omega arith in
    rounded_low tick m ((a + b) / 2) some e ((le-div_iff_mul-le two).1 d)

pub average_low : (tick a b : ℕ) → 1 ≤ tick → on_tick tick a ≡ true → on_tick tick b ≡ true → min a b ≤ average tick a b
average_low tick a b some ea eb =
    by_test (leb a b)
    (λ p. let h : a ≤ b = leb-true a b p in
    omega (arith, average_above tick a a b some ea (omega arith) h))
    (λ p. let h : b < a = leb-false a b p in
    omega (arith, average_above tick b a b some eb (omega arith) (omega arith)))

pub average_high : (tick a b : ℕ) → average tick a b ≤ max a b
unfolding average
average_high tick a b = omega (arith, div-mul-le_self ((a + b) / 2) tick, div-mul-le_self (a + b) 2)

pub average_on_tick : (tick a b : ℕ) → on_tick tick (average tick a b) ≡ true
unfolding average
average_on_tick tick a b = rounded_on_tick tick ((a + b) / 2)

-- ---- the price by a pairing method

-- the tick that a method rounds to is this one
abbrev pub RoundsTo : ℕ → PairingMethod → Type 0
RoundsTo tick Middle = Unit {0}
RoundsTo tick (Average its) = its ≡ tick
RoundsTo tick FirstIn = Unit {0}

-- a contract's method rounds to the contract's tick
pub method_rounds : (c : Contract) → RoundsTo c.tick (method_of c)
unfolding method_of
method_rounds c = by_method (eqb c.method 0) (eqb c.method 1)
  where
    by_method : (x y : Bool) → RoundsTo c.tick (pick x Middle (pick y (Average c.tick) FirstIn))
    by_method true y = tt
    by_method false true = refl
    by_method false false = tt

-- "so every file sound until now keeps its results": a contract whose last two bytes are zero has the middle price (and is in range
-- as before: Terms, `zero_in_range`)
pub zero_is_middle : (c : Contract) (limit price last : ℕ) → c.method ≡ 0 → paired_price (method_of c) limit price last ≡ middle limit price last
unfolding method_of paired_price
zero_is_middle c limit price last e = rw e

-- "All three lie between sell and buy, which is to be shown once for any method": of two tick multiples, whichever is the limit
pub paired_between : (tick : ℕ) (method : PairingMethod) (limit price last : ℕ) → 1 ≤ tick → RoundsTo tick method → on_tick tick limit ≡ true
    → on_tick tick price ≡ true → (min limit price ≤ paired_price method limit price last) × (paired_price method limit price last ≤ max limit price)
unfolding paired_price
paired_between tick Middle limit price last some r el ep = (middle_low limit price last, middle_high limit price last)
paired_between tick (Average its) limit price last some r el ep = rw r (average_low tick limit price some el ep, average_high tick limit price)
paired_between tick FirstIn limit price last some r el ep = (omega arith, omega arith)

pub paired_on_tick : (tick : ℕ) (method : PairingMethod) (limit price last : ℕ) → RoundsTo tick method → on_tick tick limit ≡ true → on_tick tick price ≡ true
    → on_tick tick last ≡ true → on_tick tick (paired_price method limit price last) ≡ true
unfolding paired_price
paired_on_tick tick Middle limit price last r el ep ec = middle_on_tick tick limit price last el ep ec
paired_on_tick tick (Average its) limit price last r el ep ec = rw r (average_on_tick tick limit price)
paired_on_tick tick FirstIn limit price last r el ep ec = ep

-- ---- the price of a trade

-- a limit order's trade: not below the sell price, not above the buy price
pub price_between : (tick : ℕ) (method : PairingMethod) (limit : ℕ) (sell : Bool) (best price last : ℕ) → 1 ≤ tick → RoundsTo tick method
    → on_tick tick limit ≡ true → on_tick tick price ≡ true → meets (Limit limit) sell best price ≡ true
    → (pick sell limit price ≤ trade_price method (Limit limit) price last) × (trade_price method (Limit limit) price last ≤ pick sell price limit)
unfolding meets trade_price
price_between tick method limit true best price last some r el ep e =
    let h : limit ≤ price = leb-true limit price e in
    let b = paired_between tick method limit price last some r el ep in
    (omega arith, omega arith)
price_between tick method limit false best price last some r el ep e =
    let h : price ≤ limit = leb-true price limit e in
    let b = paired_between tick method limit price last some r el ep in
    (omega arith, omega arith)

-- market and best trade at the resting price, whatever the method
pub price_market : (method : PairingMethod) (price last : ℕ) → trade_price method Market price last ≡ price
unfolding trade_price
price_market method price last = refl

pub price_best : (method : PairingMethod) (price last : ℕ) → trade_price method Best price last ≡ price
unfolding trade_price
price_best method price last = refl

-- "for best those at the best price standing on arrival"
pub best_meets : (sell : Bool) (best price : ℕ) → meets Best sell best price ≡ true → price ≡ best
unfolding meets
best_meets sell best price e = eqb-true price best e

-- ---- one sweep

-- into a range, then into a narrower one with the same end
lower_again : (l u u' c : ℕ) → l ≤ u' → u' ≤ u → max l (min u' (max l (min u c))) ≡ max l (min u' c)
lower_again l u u' c h k = omega arith

-- A price further from the best, worked out from the last price just made or from the one before it, is the same.
paired_again : (method : PairingMethod) (limit : ℕ) (sell : Bool) (best price further last : ℕ) → meets (Limit limit) sell best price ≡ true
    → meets (Limit limit) sell best further ≡ true → Behind (not sell) further price
    → paired_price method limit further (paired_price method limit price last) ≡ paired_price method limit further last
unfolding meets paired_price
paired_again Middle limit true best price further last m m' h =
    let p : limit ≤ price = leb-true limit price m in
    let f : limit ≤ further = leb-true limit further m' in
    rw (middle_from_below limit further (middle limit price last) f, middle_from_below limit price last p, middle_from_below limit further last f)
    (lower_again limit price further last f h)
paired_again Middle limit false best price further last m m' h =
    let p : price ≤ limit = leb-true price limit m in
    let f : further ≤ limit = leb-true further limit m' in
    rw (middle_from_above limit further (middle limit price last) f, middle_from_above limit price last p, middle_from_above limit further last f)
    (omega arith)
paired_again (Average tick) limit sell best price further last m m' h = refl
paired_again FirstIn limit sell best price further last m m' h = refl

pub price_again : (method : PairingMethod) (condition : PriceCondition) (sell : Bool) (best price further last : ℕ) → meets condition sell best price ≡ true
    → meets condition sell best further ≡ true → Behind (not sell) further price
    → trade_price method condition further (trade_price method condition price last) ≡ trade_price method condition further last
unfolding trade_price
price_again method (Limit limit) sell best price further last m m' h = paired_again method limit sell best price further last m m' h
price_again method Market sell best price further last m m' h = refl
price_again method Best sell best price further last m m' h = refl

-- the prices at which the first n orders of a queue trade, if the last price stays the one on arrival
abbrev pub arrival_prices : Taker → ℕ → ℕ → List Order → List ℕ
arrival_prices t arrival n os = map (λ o. trade_price t.method t.condition o.price arrival) (take n os)

-- Two last prices serve alike from a price on: every counterpart at or behind it trades at the same price by either.
abbrev Alike : Taker → ℕ → ℕ → ℕ → Type 0
Alike t price last arrival =
    (further : ℕ) → meets t.condition t.sell t.best further ≡ true → Behind (not t.sell) further price → trade_price t.method t.condition further last ≡ trade_price t.method t.condition further arrival

module _ (t : Taker) (arrival : ℕ) where
  alike_on : (price last : ℕ) (o : Order) → counterpart t o ≡ true → Behind (not t.sell) o.price price → Alike t price last arrival
      → Alike t o.price (trade_price t.method t.condition o.price last) arrival
  alike_on price last o met h same further m k =
      price_again t.method t.condition t.sell t.best o.price further last met m k ∙ same further m (behind_trans (not t.sell) further o.price price k h)

  prices_from : (left last : ℕ) (os : List Order) (price : ℕ) → sorted (not t.sell) os ≡ true → AllBehind (not t.sell) price os
      → Alike t price last arrival
      → map (λ tr. tr.price) (sweep t left last os).trades ≡ arrival_prices t arrival (length (sweep t left last os).trades) os
  prices_from =
      sweep_ind t
      (λ left last os s. (price : ℕ) → sorted (not t.sell) os ≡ true → AllBehind (not t.sell) price os → Alike t price last arrival
      → map (λ tr. tr.price) s.trades ≡ arrival_prices t arrival (length s.trades) os)
      (λ left last os w price s b same. refl)
      (λ left last o os some met short price s b same. ap (λ (p : ℕ). p ∷ []) (trade_price_lem t o left last ∙ same o.price met b.0))
      (λ left last o os s some met enough ih price so b same.
      ap₂ (λ (p : ℕ) (ps : List ℕ). p ∷ ps) (trade_price_lem t o left last ∙ same o.price met b.0)
      (ih o.price (sorted_tail (not t.sell) o os so) (sorted_behind (not t.sell) o os so) (alike_on price last o met b.0 same)))

-- Within one sweep, by any method: the last price just made and the one on arrival give the same prices.
pub prices_on_arrival : (t : Taker) (left last : ℕ) (os : List Order) → sorted (not t.sell) os ≡ true
    → map (λ tr. tr.price) (sweep t left last os).trades ≡ arrival_prices t last (length (sweep t left last os).trades) os
prices_on_arrival t left last os s = prices_from t last left last os (best_price os) s (best_first (not t.sell) os s) (λ further m k. refl)

-- a best-price order trades at the price standing on its arrival, and at no other
pub best_prices : (t : Taker) (left last : ℕ) (os : List Order) → t.condition ≡ Best
    → all_of (λ tr. eqb tr.price t.best) (sweep t left last os).trades ≡ true
best_prices t left last os e = swept_each t (λ tr. eqb tr.price t.best) (λ o. true) (λ n. Unit {0}) one left last os tt (all_of_true (λ o. true) os no_order (λ i b. refl))
  where
    one : (o : Order) (left last : ℕ) → 0 < left → counterpart t o ≡ true → true ≡ true → Unit {0}
        → (eqb (trade_with t o left last).price t.best ≡ true) × Unit {0}
    one o left last some met h u =
        let m : meets Best t.sell t.best o.price ≡ true = rw e at met in
        (rw (trade_price_lem t o left last, e, price_best t.method o.price last) (eq-eqb o.price t.best (best_meets t.sell t.best o.price m)), tt)

-- ---- ticks and the day's range

-- what "a price allowed today" says
pub record Allowed (c : Contract) (price : ℕ) : Type 0 where
  pub tick : on_tick c.tick price ≡ true
  pub low : day_low c ≤ price
  pub high : price ≤ day_high c

pub allowed_facts : (c : Contract) (price : ℕ) → allowed_today c price ≡ true → Allowed c price
unfolding allowed_today
allowed_facts c price e =
    let b = both_true (on_tick c.tick price) (within (day_low c) (day_high c) price) e in
    let r = both_true (leb (day_low c) price) (leb price (day_high c)) b.1 in
    record { tick = b.0; low = leb-true (day_low c) price r.0; high = leb-true price (day_high c) r.1 }

pub allowed_true : {c : Contract} {price : ℕ} → Allowed c price → allowed_today c price ≡ true
unfolding allowed_today
allowed_true {c} {price} f =
    true_both (on_tick c.tick price) (within (day_low c) (day_high c) price) f.tick
    (true_both (leb (day_low c) price) (leb price (day_high c)) (le-leb (day_low c) price f.low) (le-leb price (day_high c) f.high))

-- Whatever the method, the price is allowed today: of two prices allowed today, with a last price that may lie outside the day's
-- range.
module _ (c : Contract) (some : 1 ≤ c.tick) (method : PairingMethod) (rounds : RoundsTo c.tick method) where
  paired_allowed : (limit price last : ℕ) → allowed_today c limit ≡ true → allowed_today c price ≡ true → on_tick c.tick last ≡ true
      → allowed_today c (paired_price method limit price last) ≡ true
  paired_allowed limit price last pl pp pc =
      let fl = allowed_facts c limit pl in
      let fp = allowed_facts c price pp in
      let b = paired_between c.tick method limit price last some rounds fl.tick fp.tick in
      allowed_true
      search (rules, paired_on_tick) depth 12

  pub price_allowed : (condition : PriceCondition) (price last : ℕ) → ((limit : ℕ) → condition ≡ Limit limit → allowed_today c limit ≡ true)
      → allowed_today c price ≡ true → on_tick c.tick last ≡ true → allowed_today c (trade_price method condition price last) ≡ true
  unfolding trade_price
  price_allowed (Limit limit) price last pl pp pc = paired_allowed limit price last (pl limit refl) pp pc
  price_allowed Market price last pl pp pc = pp
  price_allowed Best price last pl pp pc = pp

-- every price of a sweep is allowed today
pub swept_allowed : (c : Contract) → 1 ≤ c.tick → (t : Taker) → RoundsTo c.tick t.method → (left last : ℕ) (os : List Order)
    → ((limit : ℕ) → t.condition ≡ Limit limit → allowed_today c limit ≡ true) → on_tick c.tick last ≡ true
    → all_of (λ o. allowed_today c o.price) os ≡ true → all_of (λ tr. allowed_today c tr.price) (sweep t left last os).trades ≡ true
swept_allowed c some t rounds left last os limits =
    swept_each t (λ tr. allowed_today c tr.price) (λ o. allowed_today c o.price) (λ n. on_tick c.tick n ≡ true) one left last os
  where
    one : (o : Order) (left last : ℕ) → 0 < left → counterpart t o ≡ true → allowed_today c o.price ≡ true → on_tick c.tick last ≡ true
        → (allowed_today c (trade_with t o left last).price ≡ true) × (on_tick c.tick (trade_price t.method t.condition o.price last) ≡ true)
    one o left last some' met h tick =
        let a = price_allowed c some t.method rounds t.condition o.price last limits h tick in
        (rw (trade_price_lem t o left last) a, (allowed_facts c (trade_price t.method t.condition o.price last) a).tick)

-- ---- the last price after trades

pub last_test : (test : ℕ → Bool) (last : ℕ) (ts : List Trade) → test last ≡ true → all_of (λ t. test t.price) ts ≡ true
    → test (last_price last ts) ≡ true
unfolding last_price all_of
last_test test last [] p h = p
last_test test last (t ∷ ts) p h =
    let b = both_true (test t.price) (all_of (λ t. test t.price) ts) h in
    last_test test t.price ts b.0 b.1
