-- Laws 8 to 11 of every sweep of a queue by an arriving order (rules, specs/Fairness). Assumes nothing.
use Rattle.laws.specs.Logic.{Bool, true, false, not, true≢false, List, [], ◌∷◌, ⊎_elim, ◌≡◌, refl, ap, ◌∙◌}
use Rattle.laws.specs.Numbers.{ℕ, ◌+◌, ◌-◌, ◌<◌, ◌≤◌, min, arith, eq-eqb, eqb}
use Rattle.laws.specs.Choice.{all_of, pick, true_both}
use Rattle.laws.specs.Sums.{sum_of}
use Rattle.rules.specs.Answers.{is_limit}
use Rattle.rules.specs.Bounds.{on_tick}
use Rattle.rules.specs.Exchange.{best_price, lots_where}
use Rattle.rules.specs.Fairness.{AtLimitOrBetter, LotsAccounted, NothingBetterLeft, PriceThenTime, lots_numbered, lots_traded, order_on}
use Rattle.rules.specs.Matching.{Swept, counterpart, meets, sweep, trade_price, trade_with, traded_lots, with_lots}
use Rattle.rules.specs.WellFormed.{numbers, sorted, used_once}
use Rattle.rules.specs.declared.{Order.Order, PriceCondition.PriceCondition, Taker.Taker, Trade.Trade}
use Rattle.rules.specs.declared.PriceCondition.TheVariants.{Limit, Market, Best}
use Rattle.theory.proofs.Between.{every_order, resting_number, swept_between, swept_in_turn, swept_pairs}
use Rattle.theory.proofs.Fillable.{traded_cons, traded_nil, unmet_behind}
use Rattle.theory.proofs.Prices.{RoundsTo}
use Rattle.theory.proofs.Sorted.{AllBehind, Behind, best_first, sorted_behind, sorted_tail}
use Rattle.theory.proofs.Sweep.{Unmet, sweep_ind, swept_each, trade_lots, trade_price_lem}
use Rattle.invariants.proofs.QueueFronts.{TakenFromFront, filled_front, front_behind, front_priority, none_front, part_left}

-- ---- nothing has traded

pub nothing_traded : (sell : Bool) (os : List Order) → LotsAccounted sell os os []
unfolding sum_of
nothing_traded sell os = record { each = λ number. omega arith; together = omega (arith, traded_nil) }

module _ (t : Taker) where
  abbrev side : Bool
  side = not t.sell

  -- ---- the queue is taken from its front

  swept_front : (lots last : ℕ) (queue : List Order) → TakenFromFront queue (sweep t lots last queue).rest
  swept_front =
      sweep_ind t (λ left last os s. TakenFromFront os s.rest)
      (λ left last os w. none_front os)
      (λ left last o os some m short. part_left o os (o.lots - left) (omega arith))
      (λ left last o os s some m long ih. filled_front o os s.rest ih)

  -- ---- 11. every lot is accounted for

  part_accounted : (number left last : ℕ) (o : Order) (os : List Order) → left < o.lots
      → lots_traded side number (trade_with t o left last ∷ []) + lots_numbered number (with_lots o (o.lots - left) ∷ os) ≡ lots_numbered number (o ∷ os)
  unfolding lots_where sum_of
  part_accounted number left last o os short =
      rw (resting_number t o left last, trade_lots t o left last) (by_number (eqb o.number number))
    where
      by_number : (same : Bool)
          → (pick same (min left o.lots) 0 + 0) + (pick same (o.lots - left) 0 + lots_numbered number os) ≡ pick same o.lots 0 + lots_numbered number os
      by_number true = omega arith
      by_number false = omega arith

  full_accounted : (number left last : ℕ) (o : Order) (os : List Order) (s : Swept) → o.lots ≤ left
      → lots_traded side number s.trades + lots_numbered number s.rest ≡ lots_numbered number os
      → lots_traded side number (trade_with t o left last ∷ s.trades) + lots_numbered number s.rest ≡ lots_numbered number (o ∷ os)
  unfolding lots_where sum_of
  full_accounted number left last o os s long ih =
      rw (resting_number t o left last, trade_lots t o left last) (by_number (eqb o.number number))
    where
      by_number : (same : Bool)
          → (pick same (min left o.lots) 0 + lots_traded side number s.trades) + lots_numbered number s.rest ≡ pick same o.lots 0 + lots_numbered number os
      by_number true = omega arith
      by_number false = omega arith

  pub swept_accounted : (lots last : ℕ) (queue : List Order) → LotsAccounted side queue (sweep t lots last queue).rest (sweep t lots last queue).trades
  unfolding sum_of
  swept_accounted =
      sweep_ind t (λ left last os s. LotsAccounted side os s.rest s.trades)
      (λ left last os w. nothing_traded side os)
      (λ left last o os some m short.
      record {
        each = λ number. part_accounted number left last o os short;
        together = omega (arith, traded_cons (trade_with t o left last) [], traded_nil, trade_lots t o left last);
      })
      (λ left last o os s some m long ih.
      record {
        each = λ number. full_accounted number left last o os s long (ih.each number);
        together = omega (arith, ih.together, traded_cons (trade_with t o left last) s.trades, trade_lots t o left last);
      })

  -- all lots that are traded are the arriving order's
  its_number : (o : Order) (left last : ℕ) → order_on t.sell (trade_with t o left last) ≡ t.number
  unfolding trade_with
  its_number o left last = by_side t.sell
    where
      by_side : (sell : Bool) → pick sell (pick sell t.number o.number) (pick sell o.number t.number) ≡ t.number
      by_side true = refl
      by_side false = refl

  one_its : (o : Order) (left last : ℕ) (ts : List Trade) → lots_traded t.sell t.number ts ≡ traded_lots ts
      → lots_traded t.sell t.number (trade_with t o left last ∷ ts) ≡ traded_lots (trade_with t o left last ∷ ts)
  unfolding sum_of traded_lots
  one_its o left last ts e = rw (its_number o left last, eq-eqb t.number t.number refl) (omega (arith, e))

  pub swept_its : (lots last : ℕ) (queue : List Order) → lots_traded t.sell t.number (sweep t lots last queue).trades ≡ traded_lots (sweep t lots last queue).trades
  unfolding sum_of traded_lots
  swept_its =
      sweep_ind t (λ left last os s. lots_traded t.sell t.number s.trades ≡ traded_lots s.trades)
      (λ left last os w. refl) (λ left last o os some m short. one_its o left last [] refl) (λ left last o os s some m long ih. one_its o left last s.trades ih)

  -- ---- 8. price then time

  pub swept_priority : (lots last : ℕ) (queue : List Order) → sorted side queue ≡ true → used_once (numbers queue) ≡ true
      → PriceThenTime side queue (sweep t lots last queue).rest (sweep t lots last queue).trades
  swept_priority lots last queue s u =
      front_priority side queue (sweep t lots last queue).rest (sweep t lots last queue).trades s u (swept_accounted lots last queue).each (swept_front lots last queue)

  -- ---- 9. nothing better is left

  -- behind an order that is no counterpart there is none
  none_behind : (price : ℕ) (os : List Order) → Behind side price t.best → AllBehind side price os
      → meets t.condition t.sell t.best price ≡ false → all_of (λ o. not (counterpart t o)) os ≡ true
  unfolding all_of
  none_behind price [] b h e = refl
  none_behind price (o ∷ os) b (h, r) e =
      true_both (not (counterpart t o)) (all_of (λ o. not (counterpart t o)) os)
      (ap not (unmet_behind t.condition t.sell t.best price o.price b h e)) (none_behind price os b r e)

  none_unmet : (os : List Order) → Unmet t os → sorted side os ≡ true → AllBehind side t.best os → all_of (λ o. not (counterpart t o)) os ≡ true
  unfolding all_of
  none_unmet [] u s b = refl
  none_unmet (o ∷ os) u s (b, r) =
      true_both (not (counterpart t o)) (all_of (λ o. not (counterpart t o)) os) (ap not u) (none_behind o.price os b (sorted_behind side o os s) u)

  none_left : (lots last : ℕ) (queue : List Order) → sorted side queue ≡ true → AllBehind side t.best queue
      → traded_lots (sweep t lots last queue).trades < lots → all_of (λ o. not (counterpart t o)) (sweep t lots last queue).rest ≡ true
  none_left =
      sweep_ind t (λ left last os s. sorted side os ≡ true → AllBehind side t.best os → traded_lots s.trades < left → all_of (λ o. not (counterpart t o)) s.rest ≡ true)
      (λ left last os w k b h. ⊎_elim (λ (e : left ≡ 0). absurd (omega (arith, traded_nil))) (λ u. none_unmet os u k b) w)
      (λ left last o os some m short k b h. absurd (omega (arith, traded_cons (trade_with t o left last) [], traded_nil, trade_lots t o left last)))
      (λ left last o os s some m long ih k b h.
      ih (sorted_tail side o os k) b.1 (omega (arith, traded_cons (trade_with t o left last) s.trades, trade_lots t o left last)))

  pub swept_nothing_better : (lots last : ℕ) (queue : List Order) → sorted side queue ≡ true → used_once (numbers queue) ≡ true → t.best ≡ best_price queue
      → NothingBetterLeft t lots queue (sweep t lots last queue).rest (sweep t lots last queue).trades
  swept_nothing_better lots last queue s u e =
      record {
        complete = none_left lots last queue s (rw e (best_first side queue s));
        not_through =
            front_behind side queue (sweep t lots last queue).rest (sweep t lots last queue).trades s u (swept_accounted lots last queue).each (swept_front lots last queue);
      }

  -- ---- 10. at its limit or better

  unlimited_price : (o : Order) (left last : ℕ) → is_limit t.condition ≡ false → (trade_with t o left last).price ≡ o.price
  unfolding trade_price
  unlimited_price o left last e = trade_price_lem t o left last ∙ by_condition t.condition e
    where
      by_condition : (condition : PriceCondition) → is_limit condition ≡ false → trade_price t.method condition o.price last ≡ o.price
      by_condition (Limit limit) e = absurd (true≢false e)
      by_condition Market e = refl
      by_condition Best e = refl

  best_price_lem : t.condition ≡ Best → (o : Order) (left last : ℕ) → counterpart t o ≡ true → eqb (trade_with t o left last).price t.best ≡ true
  unfolding meets
  best_price_lem e o left last m =
      let m' : meets Best t.sell t.best o.price ≡ true = rw e at m in
      rw (unlimited_price o left last (ap is_limit e)) m'

  pub swept_limits : (tick : ℕ) → 1 ≤ tick → RoundsTo tick t.method → ((limit : ℕ) → t.condition ≡ Limit limit → on_tick tick limit ≡ true)
      → (lots last : ℕ) (queue : List Order) → all_of (λ o. on_tick tick o.price) queue ≡ true → t.best ≡ best_price queue
      → AtLimitOrBetter t queue (sweep t lots last queue).trades
  swept_limits tick some rounds on lots last queue h e =
      record {
        turns = swept_in_turn t lots last queue;
        limited = λ limit c. swept_between tick some t rounds limit c (on limit c) lots last queue h;
        resting =
            λ c. swept_pairs (λ o trade. trade.price ≡ o.price) t (λ o. true) (λ o left last m f. unlimited_price o left last c) lots last queue (every_order queue);
        single =
            λ c. rw (← e) (swept_each t (λ trade. eqb trade.price t.best) (λ o. true) (λ last. Unit {0})
            (λ o left last some m f l. (best_price_lem c o left last m, tt)) lots last queue tt (every_order queue));
      }
