-- Prices on the tick: a price allowed today is a tick multiple, and so is a settlement price. Assumes nothing.
use Rattle.laws.specs.Logic.{true, List, [], ◌∷◌, ◌≡◌}
use Rattle.laws.specs.Numbers.{ℕ, ◌+◌, ◌-◌, ◌*◌, ◌/◌, ◌%◌, ◌≤◌, min, max, mul-le-mul_right, mul-mod_left, div-mul-le_self, div-le_of_le-mul, le-div_iff_mul-le}
use Rattle.laws.specs.Numbers.{arith, leb-true, eq-eqb, leb}
use Rattle.laws.specs.Choice.{all_of, both_true}
use Rattle.laws.specs.Sums.{sum_of}
use Rattle.rules.specs.Bounds.{within, on_tick, day_low, day_high, allowed_today, max_price}
use Rattle.rules.specs.Matching.{traded_lots}
use Rattle.rules.specs.Settlement.{traded_value, weighted_price}
use Rattle.rules.specs.declared.{Contract.Contract, Trade.Trade}
use Rattle.theory.proofs.Prices.{allowed_facts}
use Rattle.theory.proofs.Terms.{Multiple}

-- the day's range lies within one tick and 1,000,000
pub allowed_multiple : (c : Contract) (price : ℕ) → allowed_today c price ≡ true → Multiple c.tick price
unfolding day_low day_high
allowed_multiple c price h =
    let f = allowed_facts c price h in
    let low : max c.tick (c.reference - c.band) ≤ price = f.low in
    let high : price ≤ min (c.reference + c.band) (max_price / c.tick * c.tick) = f.high in
    record { on_tick_lem = f.tick; low = omega arith; high = omega (arith, div-mul-le_self max_price c.tick) }

-- ---- the weighted price of trades whose prices are tick multiples

value_between :
    (low high : ℕ) (ts : List Trade) → all_of (λ t. within low high t.price) ts ≡ true →
    (low * traded_lots ts ≤ traded_value ts) × (traded_value ts ≤ high * traded_lots ts)
unfolding all_of traded_lots traded_value sum_of
value_between low high [] h = (omega arith, omega arith)
value_between low high (t ∷ ts) h =
    let p = both_true (within low high t.price) (all_of (λ t. within low high t.price) ts) h in
    let q = both_true (leb low t.price) (leb t.price high) p.0 in
    let l = mul-le-mul_right t.lots (leb-true low t.price q.0) in
    let u = mul-le-mul_right t.lots (leb-true t.price high q.1) in
    let ih = value_between low high ts p.1 in
    (omega arith, omega arith)

-- "weighted by lots, rounded down, then down to a tick": from one tick to 1,000,000, since each price is
pub weighted_multiple :
    (tick : ℕ) (ts : List Trade) → 1 ≤ tick → 1 ≤ traded_lots ts → all_of (λ t. within tick max_price t.price) ts ≡ true → Multiple tick
    (weighted_price tick ts)
unfolding weighted_price on_tick
weighted_multiple tick ts some lots h =
    let v = value_between tick max_price ts h in
    let w = traded_value ts / traded_lots ts in
    let lo : tick ≤ w = (le-div_iff_mul-le lots).1 v.0 in
    let hi : w ≤ max_price = div-le_of_le-mul (traded_lots ts) (omega (arith, v.1)) in
    let one : 1 ≤ w / tick = (le-div_iff_mul-le some).1 (omega arith) in
    record {
      on_tick_lem = eq-eqb (w / tick * tick % tick) 0 (mul-mod_left (w / tick) tick);
      low = omega (arith, mul-le-mul_right tick one);
      high = omega (arith, div-mul-le_self w tick);
    }
