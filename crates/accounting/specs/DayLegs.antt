-- The legs of one account's day in one contract: what they sold for and bought, which lots are open, and when each close finds the
-- lots that it closes. Assumes nothing.
use Rattle.std.specs.Prelude.{true, false, List, [], ◌∷◌, ◌*◌, ◌≤◌, ℤ, pos, neg_ℤ, ◌+ℤ◌, ◌-ℤ◌}
use Rattle.rules.specs.Article32.{lots_in}
use Rattle.rules.specs.Settlement.{Leg, leg, Day, after_day_leg}

-- what legs sold for less what they cost, open or close
unfoldable pub flow : List Leg → ℤ
flow [] = pos 0
flow (leg true close p n ∷ ls) = pos (p * n) +ℤ flow ls
flow (leg false close p n ∷ ls) = neg_ℤ (pos (p * n)) +ℤ flow ls

-- the lots that legs bought less those they sold
unfoldable pub net : List Leg → ℤ
net [] = pos 0
net (leg true close p n ∷ ls) = neg_ℤ (pos n) +ℤ net ls
net (leg false close p n ∷ ls) = pos n +ℤ net ls

-- long lots less short lots
unfoldable pub net_open : Day → ℤ
net_open d = pos (lots_in d.long) -ℤ pos (lots_in d.short)

-- a leg closes no more lots than are open on the side that it closes: a sell closes long lots, a buy short ones
unfoldable pub Covered : Day → Leg → Type 0
Covered d (leg false false p n) = Unit {0}
Covered d (leg true false p n) = Unit {0}
Covered d (leg true true p n) = n ≤ lots_in d.long
Covered d (leg false true p n) = n ≤ lots_in d.short

-- each leg in turn
unfoldable pub AllCovered : Day → List Leg → Type 0
AllCovered d [] = Unit {0}
AllCovered d (l ∷ ls) = Covered d l × AllCovered (after_day_leg d l) ls
