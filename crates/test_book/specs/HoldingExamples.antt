-- Worked cases of a trade's legs, by hand: what one leg does to a holding, and what trades do to the account records. Assumes
-- nothing.
use Rattle.std.specs.Prelude.{true, false, List, [], ◌∷◌, ◌≡◌, refl, ℕ, pos}
use Rattle.rules.specs.Exchange.{account_at, holding_at, no_holding}
use Rattle.rules.specs.Holdings.{after_leg, book_leg, book_trade, book_trades}
use Rattle.rules.specs.declared.Account.{Account}
use Rattle.rules.specs.declared.Holding.{Holding}
use Rattle.rules.specs.declared.Trade.{Trade}

-- 4 long lots are from yesterday
abbrev has : ℕ → ℕ → Holding
has long short = record { long = long; short = short; startlong = 4; startshort = 0 }

-- ---- one leg of 3 lots on 5 long and 2 short

abbrev legs : List Holding
legs = after_leg (has 5 2) false 0 3 ∷ after_leg (has 5 2) true 0 3 ∷ after_leg (has 5 2) true 1 3 ∷ after_leg (has 5 2) false 1 3 ∷ []

-- buy open, sell open, sell close, buy close: a close never leaves less than none
legs_are : legs ≡ has 8 2 ∷ has 5 5 ∷ has 2 2 ∷ has 5 0 ∷ []
unfolding after_leg
legs_are = refl

-- ---- two accounts, two contracts: account 0 has 5 long of contract 1

abbrev holder : ℕ → Account
holder long = record { balance = pos 100; maker = 0; holdings = no_holding ∷ has long 0 ∷ [] }

abbrev other : ℕ → Account
other long = record { balance = pos 70; maker = 0; holdings = no_holding ∷ record { long = long; short = 0; startlong = 0; startshort = 0 } ∷ [] }

-- account 1 opens 3 lots, which account 0 closes; then account 0 meets its own order: it opens 3 and closes 3
abbrev trades : List Trade
trades =
    record { contract = 1; price = 100; lots = 3; buyorder = 1; sellorder = 2; buyer = 1; seller = 0; buyclose = 0; sellclose = 1 }
    ∷ record { contract = 1; price = 101; lots = 3; buyorder = 3; sellorder = 4; buyer = 0; seller = 0; buyclose = 0; sellclose = 1 }
    ∷ []

-- with the buyer's leg first, 2 + 3 - 3 are left of the second trade; by the seller's first it would be 3. Balances, the other
-- contract and the lots at the start of the day stay
booked : book_trades (holder 5 ∷ other 0 ∷ []) trades ≡ holder 2 ∷ other 3 ∷ []
unfolding book_trades book_trade book_leg holding_at account_at after_leg
booked = refl
