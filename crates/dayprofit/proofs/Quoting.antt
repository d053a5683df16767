-- The price from quotes, and the whole settlement price, by the tests of the code. Assumes nothing.
use Rattle.std.specs.Prelude.{None, Some}
use Rattle.laws.specs.Logic.{List, [], ◌∷◌, ◌≡◌, refl, sym, ap₂, ◌∙◌}
use Rattle.laws.specs.Numbers.{ℕ, ◌*◌, ◌/◌, ◌≤◌, arith, div-mul-le_self, div-le_of_le-mul}
use Rattle.laws.specs.Sums.{sum_of}
use Rattle.rules.specs.Exchange.{Listing}
use Rattle.rules.specs.Matching.{middle, traded_lots}
use Rattle.rules.specs.Memory.{queue_in, recorded_trades}
use Rattle.rules.specs.Settlement.{weighted_price, quoted_price, price_from, trades_in, settlement_price}
use Rattle.rules.specs.declared.{Contract.Contract, Order.Order, Trade.Trade}
use Rattle.book.specs.Places.{front}
use Rattle.dayprofit.specs.Day.{AllSized, TurnoverIs, PriceIs}
use Rattle.dayprofit.specs.declared.price.Turnover.{Turnover}
use Rattle.dayprofit.proofs.Trading.{some_lots, value_small}
use mir.Facts.{Fits-below}
use mir.Syntax.{w32, w64}
use mir.Val.{Fits}

-- ---- quotes, by the best orders of the two queues

module _ (reference : ℕ) where
  pub no_bid : (buys sells : List Order) → front buys ≡ None → reference ≡ quoted_price reference buys sells
  unfolding quoted_price
  no_bid [] sells e = refl
  no_bid (b ∷ bs) sells e = cc

  pub no_offer : (buys sells : List Order) → front sells ≡ None → reference ≡ quoted_price reference buys sells
  unfolding quoted_price
  no_offer [] sells e = refl
  no_offer (b ∷ bs) [] e = refl
  no_offer (b ∷ bs) (s ∷ ss) e = cc

  pub both_quoted : (buys sells : List Order) {b s : Order} {r : ℕ} → front buys ≡ Some b → front sells ≡ Some s → r ≡ middle b.price s.price reference → r ≡ quoted_price reference buys sells
  unfolding quoted_price
  both_quoted [] sells e f g = cc
  both_quoted (c ∷ bs) [] e f g = cc
  both_quoted (c ∷ bs) (d ∷ ss) {b} {s} e f g =
      let p : c ≡ b = cc in
      let q : d ≡ s = cc in
      g ∙ rw (p, q)

-- the price of the quotes of an area, by the counts of its two queues
module _ (reference : ℕ) (buys sells : List ℕ) (c : ℕ) where
  abbrev pub Quoted : ℕ → ℕ → ℕ → Type 0
  Quoted buycount sellcount r = r ≡ quoted_price reference (queue_in buys c buycount) (queue_in sells c sellcount)

-- ---- the weighted price

module _ (value lots tick : ℕ) (low : value ≤ 1_000_000 * lots) where
  weighted_small : value / lots / tick * tick ≤ 1_000_000
  weighted_small = omega (arith, div-mul-le_self (value / lots) tick, div-le_of_le-mul lots {m = value} {n = 1_000_000} (omega arith))

  pub weighted_fits : Fits w64 (value / lots / tick * tick)
  weighted_fits = Fits-below {n = 1_000_000} tt weighted_small

  pub weighted_narrow : Fits w32 (value / lots / tick * tick)
  weighted_narrow = Fits-below {n = 1_000_000} tt weighted_small

-- ---- the settlement price, by the lots traded

module _ (tick reference : ℕ) (buys sells : List Order) (day : Turnover) (r : ℕ) where
  abbrev pub Priced : List Trade → Type 0
  Priced ts = r ≡ price_from tick reference ts buys sells

  -- trades in their ranges have lots, so no lots are no trade
  no_lots : (t : Trade) (ts : List Trade) → AllSized (t ∷ ts) → TurnoverIs (t ∷ ts) day → day.lots ≡ 0 → ⊥
  no_lots t ts s q none = omega (arith, some_lots t ts s, q.lots)

  pub price_quoted : (ts : List Trade) → AllSized ts → TurnoverIs ts day → day.lots ≡ 0 → r ≡ quoted_price reference buys sells → Priced ts
  unfolding price_from
  price_quoted [] s q none e = e
  price_quoted (t ∷ ts) s q none e = absurd (no_lots t ts s q none)

  pub price_weighted : (ts : List Trade) → TurnoverIs ts day → (day.lots ≡ 0 → ⊥) → r ≡ day.value / day.lots / tick * tick → Priced ts
  unfolding price_from weighted_price traded_lots sum_of
  price_weighted [] q some e = absurd (some q.lots)
  price_weighted (t ∷ ts) q some e = e ∙ rw (q.value, q.lots)

-- in any exchange with the listing and the trades
pub price_in : (contract : Contract) (buys : List ℕ) (buycount : ℕ) (sells : List ℕ) (sellcount : ℕ) (area : List ℕ) (count c r : ℕ)
    → r ≡ price_from contract.tick contract.reference (trades_in c (recorded_trades area count)) (queue_in buys c buycount) (queue_in sells c sellcount)
    → PriceIs contract buys buycount sells sellcount area count c r
unfolding settlement_price
price_in contract buys buycount sells sellcount area count c r e x listed traded =
    e ∙ sym (ap₂ (λ (l : Listing) (ts : List Trade). price_from l.contract.tick l.contract.reference (trades_in c ts) l.buys l.sells) listed traded)

pub turnover_low : (ts : List Trade) (day : Turnover) → AllSized ts → TurnoverIs ts day → day.value ≤ 1_000_000 * day.lots
turnover_low ts day s t = omega (arith, value_small ts s, t.value, t.lots)
