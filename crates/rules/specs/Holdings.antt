-- A trade's two legs and what they do to the holdings (document 01, "Matching"). Assumes nothing.
use Rattle.std.specs.Prelude.{Bool, true, false, ◌&&◌, List, [], ◌∷◌, map, ℕ, ◌+◌, ◌-◌, leb, eqb, set}
use Rattle.laws.specs.Choice.{pick}
use Rattle.rules.specs.Exchange.{account_at, holding_at}
use Rattle.rules.specs.declared.Account.{Account}
use Rattle.rules.specs.declared.Holding.{Holding}
use Rattle.rules.specs.declared.Trade.{Trade}

abbrev pub with_long : Holding → ℕ → Holding
with_long h lots = record { long = lots; short = h.short; startlong = h.startlong; startshort = h.startshort }

abbrev pub with_short : Holding → ℕ → Holding
with_short h lots = record { long = h.long; short = lots; startlong = h.startlong; startshort = h.startshort }

-- "Buy open adds long, sell open adds short, sell close lowers long, buy close lowers short." (close is 0 for an open. A
-- close of more than is held would leave 0; `never_below_zero` says that in a well-formed state there is none.)
unfoldable pub after_leg : Holding → Bool → ℕ → ℕ → Holding
after_leg h sell close lots =
    pick sell
    (pick (eqb close 0) (with_short h (h.short + lots)) (with_long h (h.long - lots)))
    (pick (eqb close 0) (with_long h (h.long + lots)) (with_short h (h.short - lots)))

-- an account's holdings with one place changed
abbrev pub with_holding : Account → ℕ → Holding → Account
with_holding a c h = record { balance = a.balance; maker = a.maker; holdings = set a.holdings c h }

unfoldable pub book_leg : List Account → ℕ → ℕ → Bool → ℕ → ℕ → List Account
book_leg accounts a c sell close lots =
    set accounts a (with_holding (account_at accounts a) c (after_leg (holding_at accounts a c) sell close lots))

abbrev pub book_buyer : List Account → Trade → List Account
book_buyer accounts t = book_leg accounts t.buyer t.contract false t.buyclose t.lots

abbrev pub book_seller : List Account → Trade → List Account
book_seller accounts t = book_leg accounts t.seller t.contract true t.sellclose t.lots

-- "the buyer's leg is booked first"
unfoldable pub book_trade : List Account → Trade → List Account
book_trade accounts t = book_seller (book_buyer accounts t) t

unfoldable pub book_trades : List Account → List Trade → List Account
book_trades accounts [] = accounts
book_trades accounts (t ∷ ts) = book_trades (book_trade accounts t) ts

-- ---- the replay

-- a leg closes no more than is held
unfoldable pub leg_covered : List Account → ℕ → ℕ → Bool → ℕ → ℕ → Bool
leg_covered accounts a c sell close lots =
    pick (eqb close 0) true (leb lots (pick sell (holding_at accounts a c).long (holding_at accounts a c).short))

-- "replaying the day's trades over the starting holdings never goes below zero"
unfoldable pub never_below_zero : List Account → List Trade → Bool
never_below_zero accounts [] = true
never_below_zero accounts (t ∷ ts) =
    leg_covered accounts t.buyer t.contract false t.buyclose t.lots
    && leg_covered (book_buyer accounts t) t.seller t.contract true t.sellclose t.lots
    && never_below_zero (book_trade accounts t) ts

-- the holdings at the start of the day
abbrev pub start_holding : Holding → Holding
start_holding h = record { long = h.startlong; short = h.startshort; startlong = h.startlong; startshort = h.startshort }

abbrev pub start_account : Account → Account
start_account a = record { balance = a.balance; maker = a.maker; holdings = map start_holding a.holdings }

unfoldable pub start_of_day : List Account → List Account
start_of_day accounts = map start_account accounts

-- two accounts, and two lists of them, hold the same lots
unfoldable pub same_lots : List Holding → List Holding → Bool
same_lots [] [] = true
same_lots [] (k ∷ ks) = false
same_lots (h ∷ hs) [] = false
same_lots (h ∷ hs) (k ∷ ks) = eqb h.long k.long && eqb h.short k.short && same_lots hs ks

unfoldable pub same_holdings : List Account → List Account → Bool
same_holdings [] [] = true
same_holdings [] (b ∷ bs) = false
same_holdings (a ∷ as') [] = false
same_holdings (a ∷ as') (b ∷ bs) = same_lots a.holdings b.holdings && same_holdings as' bs
