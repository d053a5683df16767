-- Volume and surplus at a price as the code finds them, and the search for the best among the resting prices. Assumes nothing.
use Rattle.laws.specs.Logic.{Bool, true, false, List, [], ◌∷◌, ◌++◌, ◌≡◌, refl, sym, ap, ◌∙◌}
use Rattle.laws.specs.Numbers.{ℕ, ◌+◌, ◌<◌, ◌≤◌, arith, length, get_or, drop, ◌-◌, min, eq-eqb, ne_eqb, ltb}
use Rattle.std.specs.Option.{option_or}
use Rattle.std.specs.Prelude.{None, Some, unwrap_or, option_map}
use Rattle.laws.specs.Choice.{pick, pick_same}
use Rattle.rules.specs.Auction.{best_from, best_of, better, chosen_price, lots_reaching, prices, reaches, resting_prices, apart, surplus, volume, smaller}
use Rattle.rules.specs.Exchange.{no_order}
use Rattle.rules.specs.declared.Order.{Order}
use Rattle.theory.proofs.AuctionTaken.{reaching_nil, reaching_met, reaching_unmet}
use Rattle.theory.proofs.Queue.{lots_append}
use Rattle.book.specs.Places.{front}
use Rattle.book.proofs.ReadOrders.{rest_at, no_rest}
use Rattle.auction.specs.Price.{best_level, chosen_level, first_price, head_price, level_at, preferred}
use Rattle.auction.specs.declared.price.Level.{Level}
use Rattle.rules.specs.Memory.{order_from, queue_in, first_word}
use Rattle.book.proofs.Queues.{next_order, no_more}

-- ---- the lots that reach a price

module _ (sell : Bool) (price : ℕ) (o : Order) where
  pub reaches_not : reaches sell price o ≡ false → 0 ≡ lots_reaching sell price (o ∷ [])
  reaches_not e = sym (reaching_unmet sell price o [] e ∙ reaching_nil sell price)

  pub reaches_with : (a : ℕ) → a ≡ o.lots → reaches sell price o ≡ true → a ≡ lots_reaching sell price (o ∷ [])
  reaches_with a ea e = omega (arith, reaching_met sell price o [] e, reaching_nil sell price)

  module _ (a : ℕ) (ea : a ≡ lots_reaching sell price (o ∷ [])) where
    pub reaching_on : (os : List Order) → lots_reaching sell price (o ∷ os) ≡ a + lots_reaching sell price os
    unfolding lots_reaching
    reaching_on os = rw ea (lots_append _ (o ∷ []) os)

    pub reaching_within : a ≤ o.lots
    reaching_within = cases (reaches sell price o) refl
      where
        cases : (met : Bool) → reaches sell price o ≡ met → a ≤ o.lots
        cases true e = omega (arith, reaching_met sell price o [] e, reaching_nil sell price)
        cases false e = omega (arith, reaching_unmet sell price o [] e, reaching_nil sell price)

-- ---- volume and surplus: d lots of the buys and s of the sells reach the price

module _ (buys sells : List Order) (price d s : ℕ) (ed : d ≡ lots_reaching false price buys) (es : s ≡ lots_reaching true price sells) where
  level_is : level_at buys sells price ≡ record { price = price; volume = min d s; surplus = apart d s }
  unfolding volume surplus
  level_is = rw (ed, es)

  pub level_short : d < s → record { price = price; volume = d; surplus = s - d } ≡ level_at buys sells price
  level_short h =
      let v : min d s ≡ d = omega arith in
      let u : apart d s ≡ s - d = omega arith in
      sym (level_is ∙ rw (v, u))

  pub level_long : s ≤ d → record { price = price; volume = s; surplus = d - s } ≡ level_at buys sells price
  level_long h =
      let v : min d s ≡ s = omega arith in
      let u : apart d s ≡ d - s = omega arith in
      sym (level_is ∙ rw (v, u))

-- a level is that of its own price
pub level_own : (buys sells : List Order) (p : ℕ) {level : Level} → level ≡ level_at buys sells p → level ≡ level_at buys sells level.price
level_own buys sells p e = e ∙ ap (level_at buys sells) (sym (ap (λ (l : Level). l.price) e))

-- ---- the four steps, each where those before it do not decide

step_decides : (a b : ℕ) (next : Bool) → (a ≡ b → ⊥) → smaller a b next ≡ ltb a b
step_decides a b next d = rw (ne_eqb a b d)

step_passes : (a b : ℕ) (next : Bool) → a ≡ b → smaller a b next ≡ next
step_passes a b next e = rw (eq-eqb a b e)

module _ (last : ℕ) (level other : Level) where
  pub by_volume : (level.volume ≡ other.volume → ⊥) → ltb other.volume level.volume ≡ preferred last level other
  unfolding preferred
  by_volume d = sym (step_decides other.volume level.volume _ (λ e. d (sym e)))

  module _ (ev : level.volume ≡ other.volume) where
    past_volume : preferred last level other
        ≡ smaller level.surplus other.surplus (smaller (apart level.price last) (apart other.price last) (ltb other.price level.price))
    unfolding preferred
    past_volume = step_passes other.volume level.volume _ (sym ev)

    pub by_surplus : (level.surplus ≡ other.surplus → ⊥) → ltb level.surplus other.surplus ≡ preferred last level other
    by_surplus d = sym (past_volume ∙ step_decides level.surplus other.surplus _ d)

    module _ (es : level.surplus ≡ other.surplus) {near far : ℕ} (en : near ≡ apart level.price last) (ef : far ≡ apart other.price last) where
      past_surplus : preferred last level other ≡ smaller near far (ltb other.price level.price)
      past_surplus = past_volume ∙ step_passes level.surplus other.surplus _ es ∙ rw (en, ef)

      pub by_distance : (near ≡ far → ⊥) → ltb near far ≡ preferred last level other
      by_distance d = sym (past_surplus ∙ step_decides near far _ d)

      pub by_price : near ≡ far → ltb other.price level.price ≡ preferred last level other
      by_price e = sym (past_surplus ∙ step_passes near far _ e)

-- ---- the search

module _ (last : ℕ) (buys sells : List Order) where
  -- the steps on prices are the steps on their levels
  preferred_is : (p q : ℕ) → preferred last (level_at buys sells p) (level_at buys sells q) ≡ better last buys sells p q
  unfolding preferred better
  preferred_is p q = refl

  -- so the better of two levels is that of the better price
  pub better_level : (p q : ℕ) {first level r : Level} → first ≡ level_at buys sells p → level ≡ level_at buys sells q
      → r ≡ pick (preferred last level first) level first → r ≡ level_at buys sells (pick (better last buys sells q p) q p)
  better_level p q ef el er = er ∙ rw (ef, el, preferred_is q p) (cases (better last buys sells q p))
    where
      cases : (t : Bool) → pick t (level_at buys sells q) (level_at buys sells p) ≡ level_at buys sells (pick t q p)
      cases true = refl
      cases false = refl

-- the first price of all is as good as itself
first_best : (f : ℕ → ℕ → Bool) (ps : List ℕ) → best_from f (head_price ps) ps ≡ best_of f ps
unfolding best_from best_of head_price
first_best f [] = refl
first_best f (p ∷ ps) = rw (pick_same (f p p) p)

best_append : (f : ℕ → ℕ → Bool) (first : ℕ) (ps qs : List ℕ) → best_from f first (ps ++ qs) ≡ best_from f (best_from f first ps) qs
unfolding best_from
best_append f first [] qs = refl
best_append f first (p ∷ ps) qs = best_append f (pick (f p first) p first) ps qs

-- ---- the price to start from

front_price : (buys sells : List Order) → unwrap_or (option_map (λ (o : Order). o.price) (option_or (front buys) (front sells))) 0 ≡ first_price buys sells
unfolding head_price prices
front_price [] [] = refl
front_price [] (s ∷ ss) = refl
front_price (b ∷ bs) ss = refl

module _ (buys sells : List Order) where
  pub first_found : {o : Order} → option_or (front buys) (front sells) ≡ Some o → o.price ≡ first_price buys sells
  first_found e = rw e at (front_price buys sells)

  pub first_none : option_or (front buys) (front sells) ≡ None → 0 ≡ first_price buys sells
  first_none e = rw e at (front_price buys sells)

-- as it stands in an area
module _ (buys : List ℕ) (bought : ℕ) (sells : List ℕ) (sold c : ℕ) where
  pub first_buy : {o : Order} → (bought ≡ 0 → ⊥) → o ≡ order_from (drop (first_word c 0) buys) → o.price ≡ first_price (queue_in buys c bought) (queue_in sells c sold)
  unfolding head_price prices
  first_buy {o} some e = rw (next_order buys c bought 0 o (omega arith) e)

  module _ (none : bought ≡ 0) where
    pub first_sell : {o : Order} → (sold ≡ 0 → ⊥) → o ≡ order_from (drop (first_word c 0) sells) → o.price ≡ first_price (queue_in buys c bought) (queue_in sells c sold)
    unfolding head_price prices
    first_sell {o} some e = rw (no_more buys c bought 0 (omega arith), next_order sells c sold 0 o (omega arith) e)

-- ---- the loop over one queue's prices: the best so far, with those from place i on, gives the answer

pub record Searching (last : ℕ) (buys sells queue : List Order) (answer : ℕ) (chosen : Level) (i : ℕ) : Type 0 where
  pub is : chosen ≡ level_at buys sells chosen.price
  pub so_far : best_from (better last buys sells) chosen.price (prices (drop i queue)) ≡ answer

module _ {last : ℕ} {buys sells queue : List Order} {answer : ℕ} {chosen : Level} {i : ℕ} (s : Searching last buys sells queue answer chosen i) where
  pub search_on : {level next : Level} → i < length queue → level ≡ level_at buys sells (get_or queue i no_order).price
      → next ≡ pick (preferred last level chosen) level chosen → Searching last buys sells queue answer next (i + 1)
  unfolding best_from prices
  search_on {level} {next} h el en =
      let price : ℕ = (get_or queue i no_order).price in
      let is : next ≡ level_at buys sells (pick (better last buys sells price chosen.price) price chosen.price) = better_level last buys sells chosen.price price s.is el en in
      let p : next.price ≡ pick (better last buys sells price chosen.price) price chosen.price = ap (λ (l : Level). l.price) is in
      record { is = level_own buys sells _ is; so_far = rw p (rw (rest_at queue i h) at s.so_far) }

  pub search_end : length queue ≤ i → chosen ≡ level_at buys sells answer
  unfolding best_from prices
  search_end h = s.is ∙ ap (level_at buys sells) (rw (no_rest queue i h) at s.so_far)

-- the search in one queue and then in the other
pub searched : (last : ℕ) (buys sells : List Order) {p : ℕ} {first buy r : Level} → p ≡ first_price buys sells → first ≡ level_at buys sells p
    → buy ≡ best_level last buys sells first.price buys → r ≡ best_level last buys sells buy.price sells → r ≡ chosen_level last buys sells
unfolding chosen_price
searched last buys sells ep ef eb er =
    er
    ∙ rw (eb, ef, ep, ← best_append (better last buys sells) (first_price buys sells) (prices buys) (prices sells), first_best (better last buys sells) (resting_prices buys sells))
