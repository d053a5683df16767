-- "All three lie between sell and buy, which is to be shown once for any method" (document 02, ticket 6), of every trade of a limit
-- order's sweep; trade i of any sweep is with order i. Assumes nothing.
use Rattle.laws.specs.Logic.{Bool, true, false, not, List, [], ◌∷◌, ◌≡◌, refl}
use Rattle.laws.specs.Numbers.{ℕ, zero, suc, ◌<◌, ◌≤◌, arith, length}
use Rattle.laws.specs.Choice.{all_of, both_true, pick}
use Rattle.rules.specs.Bounds.{on_tick}
use Rattle.rules.specs.Fairness.{AllBetween, BetweenSellAndBuy, TradedInTurn, account_on, order_at, order_on, trade_of}
use Rattle.rules.specs.Matching.{counterpart, meets, sweep, trade_with}
use Rattle.rules.specs.declared.{Order.Order, Taker.Taker, Trade.Trade}
use Rattle.rules.specs.declared.PriceCondition.TheVariants.{Limit}
use Rattle.theory.proofs.Prices.{RoundsTo, price_between}
use Rattle.theory.proofs.Sweep.{sweep_ind, trade_price_lem}

-- ---- trade i with order i

-- what holds of the first trade and its order, and of those behind them
abbrev Pairwise : (Order → Trade → Type 0) → List Order → List Trade → Type 0
Pairwise P os ts = (i : ℕ) → i < length ts → P (order_at os i) (trade_of ts i)

module _ (P : Order → Trade → Type 0) where
  none_paired : (os : List Order) → Pairwise P os []
  none_paired os i h = absurd (omega arith)

  one_paired : (o : Order) (os : List Order) (t : Trade) (ts : List Trade) → P o t → Pairwise P os ts → Pairwise P (o ∷ os) (t ∷ ts)
  one_paired o os t ts p rest zero h = p
  one_paired o os t ts p rest (suc i) h = rest i (omega arith)

  -- what holds of every trade with a counterpart that passes a test holds of trade i and order i of every sweep
  pub swept_pairs : (t : Taker) (fit : Order → Bool) → ((o : Order) (left last : ℕ) → counterpart t o ≡ true → fit o ≡ true → P o (trade_with t o left last))
      → (left last : ℕ) (os : List Order) → all_of fit os ≡ true → Pairwise P os (sweep t left last os).trades
  unfolding all_of
  swept_pairs t fit each =
      sweep_ind t (λ left last os s. all_of fit os ≡ true → Pairwise P os s.trades)
      (λ left last os w h. none_paired os)
      (λ left last o os some met short h.
      one_paired o os (trade_with t o left last) [] (each o left last met (both_true (fit o) (all_of fit os) h).0) (none_paired os))
      (λ left last o os s some met enough ih h.
      let q = both_true (fit o) (all_of fit os) h in
      one_paired o os (trade_with t o left last) s.trades (each o left last met q.0) (ih q.1))

-- the resting order of a trade, and its account
mine_and_others : (sell : Bool) (mine other : ℕ) → pick (not sell) (pick sell mine other) (pick sell other mine) ≡ other
mine_and_others true mine other = refl
mine_and_others false mine other = refl

pub resting_number : (t : Taker) (o : Order) (left last : ℕ) → order_on (not t.sell) (trade_with t o left last) ≡ o.number
unfolding trade_with
resting_number t o left last = mine_and_others t.sell t.number o.number

resting_account : (t : Taker) (o : Order) (left last : ℕ) → account_on (not t.sell) (trade_with t o left last) ≡ o.account
unfolding trade_with
resting_account t o left last = mine_and_others t.sell t.account o.account

pub every_order : (os : List Order) → all_of (λ o. true) os ≡ true
unfolding all_of
every_order [] = refl
every_order (o ∷ os) = every_order os

-- TRADE i OF A SWEEP IS WITH ORDER i
pub swept_in_turn : (t : Taker) (left last : ℕ) (os : List Order) → TradedInTurn t.sell os (sweep t left last os).trades
swept_in_turn t left last os =
    record {
      order =
          swept_pairs (λ o trade. order_on (not t.sell) trade ≡ o.number) t (λ o. true) (λ o left last met fit. resting_number t o left last) left last os
          (every_order os);
      account =
          swept_pairs (λ o trade. account_on (not t.sell) trade ≡ o.account) t (λ o. true) (λ o left last met fit. resting_account t o left last) left last os
          (every_order os);
    }

-- EVERY TRADE OF A LIMIT ORDER'S SWEEP LIES BETWEEN SELL AND BUY, by any pairing method, where limit and resting prices are tick multiples
module _ (tick : ℕ) (some : 1 ≤ tick) (t : Taker) (rounds : RoundsTo tick t.method) (limit : ℕ) (limited : t.condition ≡ Limit limit) (on : on_tick tick limit ≡ true) where
  trade_between : (o : Order) (left last : ℕ) → counterpart t o ≡ true → on_tick tick o.price ≡ true
      → BetweenSellAndBuy t.sell limit o.price (trade_with t o left last).price
  trade_between o left last met ep =
      let met' : meets (Limit limit) t.sell t.best o.price ≡ true = rw limited at met in
      let b = price_between tick t.method limit t.sell t.best o.price last some rounds on ep met' in
      rw (trade_price_lem t o left last, limited) (record { sell_price = omega (arith, b.0); buy_price = omega (arith, b.1) })

  pub swept_between : (left last : ℕ) (os : List Order) → all_of (λ o. on_tick tick o.price) os ≡ true → AllBetween t.sell limit os (sweep t left last os).trades
  swept_between left last os h =
      record {
        turns = swept_in_turn t left last os;
        each = swept_pairs (λ o trade. BetweenSellAndBuy t.sell limit o.price trade.price) t (λ o. on_tick tick o.price) trade_between left last os h;
      }
