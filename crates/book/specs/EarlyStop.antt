-- Reading up to the first non-counterpart: what a reader of a queue finds who stops there. On a sorted queue it is what the
-- rules say of the whole queue; the laws are in proofs/EarlyStop.antt. Assumes nothing.
use Rattle.std.specs.Prelude.{◌&&◌, List, [], ◌∷◌, ℕ, ◌+◌, ◌-◌, ltb}
use Rattle.laws.specs.Choice.{pick}
use Rattle.rules.specs.Matching.{counterpart}
use Rattle.rules.specs.declared.Order.{Order}
use Rattle.rules.specs.declared.Taker.{Taker}

-- the counterparts' lots, added up as far as the first order that is no counterpart
unfoldable pub fillable_front : Taker → List Order → ℕ
fillable_front t [] = 0
fillable_front t (o ∷ os) = pick (counterpart t o) (o.lots + fillable_front t os) 0

-- the counterparts that the lots left reach: one trade with each
unfoldable pub count_trades : Taker → ℕ → List Order → ℕ
count_trades t left [] = 0
count_trades t left (o ∷ os) = pick (ltb 0 left && counterpart t o) (1 + count_trades t (left - o.lots) os) 0
