-- Margin (document 01, "Margin and settlement", as ticket 2 of document 02 changes it; 002, Article 26). Assumes nothing.
use Rattle.std.specs.Prelude.{Bool, ℕ, zero, suc, ◌+◌, ◌-◌, ◌*◌, ◌/◌, max, eqb, length}
use Rattle.laws.specs.Choice.{pick}
use Rattle.rules.specs.Bounds.{rate_parts}
use Rattle.rules.specs.Exchange.{Exchange, Listing, listing_at, holding_at, resting_opens}
use Rattle.rules.specs.Holdings.{book_leg}
use Rattle.rules.specs.declared.Contract.{Contract}
use Rattle.rules.specs.declared.Holding.{Holding}

-- "The charge for one lot is multiplier x reference x rate / 10,000, rounded up."
unfoldable pub charge_of : ℕ → ℕ → ℕ → ℕ
charge_of multiplier reference rate = (multiplier * reference * rate + (rate_parts - 1)) / rate_parts

abbrev pub charge : Contract → ℕ
charge c = charge_of c.multiplier c.reference c.rate

-- "the larger (house) of (long plus resting buy opens) and (short plus resting sell opens)", of one account in one contract
unfoldable pub charged_lots : Listing → ℕ → Holding → ℕ
charged_lots l a h = max (h.long + resting_opens a l.buys) (h.short + resting_opens a l.sells)

-- "For each contract, charged margin is now the charge times the larger ..", over the first n contracts
unfoldable pub charged_to : Exchange → ℕ → ℕ → ℕ
charged_to x a zero = 0
charged_to x a (suc c) = charged_to x a c + charge (listing_at x c).contract * charged_lots (listing_at x c) a (holding_at x.accounts a c)

abbrev pub charged : Exchange → ℕ → ℕ
charged x a = charged_to x a (length x.listings)

-- the state with an open's lots booked, as though the account held them already: a buy's are long, a sell's short. An open that rests
-- is charged the same, since lots held and lots that rest are added up.
abbrev pub with_open : Exchange → ℕ → ℕ → Bool → ℕ → Exchange
with_open x a c sell lots =
    record { listings = x.listings; accounts = book_leg x.accounts a c sell 0 lots; trades = x.trades; next = x.next; nextstamp = x.nextstamp; settlements = x.settlements }

-- "all charged margin, its lots included": what is charged with an open of the account in contract c
abbrev pub charged_with : Exchange → ℕ → ℕ → Bool → ℕ → ℕ
charged_with x a c sell lots = charged (with_open x a c sell lots) a

-- ---- the same sum written out: `charged_with` is this of every account and contract that exist (`lots_included`, proofs/LotsIncluded)

-- "the larger (house) of (long plus resting buy opens) and (short plus resting sell opens)", its lots included: those of a buy in the
-- first, those of a sell in the second
unfoldable pub charged_lots_with : Listing → ℕ → Holding → Bool → ℕ → ℕ
charged_lots_with l a h sell lots =
    max (h.long + resting_opens a l.buys + pick sell 0 lots) (h.short + resting_opens a l.sells + pick sell lots 0)

-- over the first n contracts; the lots are in contract c
unfoldable pub included_to : Exchange → ℕ → ℕ → Bool → ℕ → ℕ → ℕ
included_to x a c sell lots zero = 0
included_to x a c sell lots (suc d) =
    included_to x a c sell lots d
    + charge (listing_at x d).contract * charged_lots_with (listing_at x d) a (holding_at x.accounts a d) sell (pick (eqb d c) lots 0)
