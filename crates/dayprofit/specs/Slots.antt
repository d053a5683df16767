-- Sums by account, contract and side: where each stands, and what the passes over the day's trades leave there. Assumes nothing.
use Rattle.std.specs.Prelude.{Bool, true, false, not, List, ◌≡◌, ℕ, ◌+◌, ◌-◌, ◌*◌, ◌<◌, ◌≤◌, eqb, length, get_or, set}
use Rattle.laws.specs.Choice.{pick}
use Rattle.laws.specs.Sums.{sum_of}
use Rattle.rules.specs.Article32.{lots_in}
use Rattle.rules.specs.Bounds.{max_contracts, max_accounts, max_lots, max_price}
use Rattle.rules.specs.Exchange.{no_trade}
use Rattle.rules.specs.Memory.{recorded_trades}
use Rattle.rules.specs.Settlement.{legs, first_lots}
use Rattle.rules.specs.declared.Holding.{Holding}
use Rattle.rules.specs.declared.Trade.{Trade}
use Rattle.dayprofit.specs.Day.{Sized, SizedDay, SizedTrades}
use Rattle.dayprofit.specs.Sides.{lots_if, value_if, opened_today, cost, side_from, SumsSmall, ProfitFrom, day_lots_most}
use Rattle.dayprofit.specs.declared.profit.Profit.{Profit}
use Rattle.dayprofit.specs.declared.profit.Sums.{Sums}

-- an account's buys or sells in a contract: two slots for each contract
abbrev pub account_slots : ℕ
account_slots = 2 * max_contracts

abbrev pub slots : ℕ
slots = account_slots * max_accounts

abbrev pub slot_of : ℕ → ℕ → Bool → ℕ
slot_of a c sell = account_slots * a + 2 * c + pick sell 1 0

-- the account of a trade's buy or sell leg, and whether it closes
abbrev pub party_of : Bool → Trade → ℕ
party_of sell t = pick sell t.seller t.buyer

abbrev pub close_of : Bool → Trade → Bool
close_of sell t = not (eqb (pick sell t.sellclose t.buyclose) 0)

abbrev pub leg_slot : Bool → Trade → ℕ
leg_slot sell t = slot_of (party_of sell t) t.contract sell

-- one place of a list changed, where asked
abbrev pub changed : Bool → List ℕ → ℕ → ℕ → List ℕ
changed here xs at x = pick here (set xs at x) xs

-- a trade whose legs have slots
pub record Placed (t : Trade) : Type 0 where
  pub contract : t.contract < max_contracts
  pub buyer : t.buyer < max_accounts
  pub seller : t.seller < max_accounts

-- a day's trades
pub record PlacedDay (ts : List Trade) : Type 0 where
  pub day : SizedDay ts
  pub placed : (i : ℕ) → i < length ts → Placed (get_or ts i no_trade)

-- the trades recorded in an area
pub record PlacedTrades (area : List ℕ) (count : ℕ) : Type 0 where
  pub trades : SizedTrades area count
  pub placed : (i : ℕ) → i < count → Placed (get_or (recorded_trades area count) i no_trade)

-- what a slot may have before a leg is added: the lots and the value of a day's trades and of one leg more
abbrev pub slot_lots_most : ℕ
slot_lots_most = day_lots_most + max_lots

abbrev pub slot_value_most : ℕ
slot_value_most = max_price * slot_lots_most

-- two arrays of slots, and room for a trade's value in the slot of a leg
pub record Addable (lots value : List ℕ) (at : ℕ) (t : Trade) : Type 0 where
  pub lots_room : length lots ≡ slots
  pub value_room : length value ≡ slots
  pub placed : Placed t
  pub sized : Sized t
  pub small : get_or value at 0 ≤ slot_value_most

-- ---- what the passes leave

-- the lots and the value of the legs that close, or that open
pub record SumsAre (close : Bool) (ts : List Trade) (lots value : List ℕ) : Type 0 where
  pub lots_are : (a c : ℕ) (sell : Bool) → a < max_accounts → c < max_contracts → get_or lots (slot_of a c sell) 0 ≡ sum_of (lots_if sell close) (legs a c ts)
  pub value_is : (a c : ℕ) (sell : Bool) → a < max_accounts → c < max_contracts → get_or value (slot_of a c sell) 0 ≡ sum_of (value_if sell close) (legs a c ts)

-- what the first lots of a side's opening legs were opened for, as many as its slot said
pub record UsedAre (ts : List Trade) (left used : List ℕ) : Type 0 where
  pub each : (a c : ℕ) (short : Bool) → a < max_accounts → c < max_contracts
      → get_or used (slot_of a c short) 0 ≡ cost (first_lots (get_or left (slot_of a c short) 0) (opened_today short (legs a c ts)))

-- how many of the lots that a side's slot said were never opened: none on a day whose closes are covered
pub record LeftAre (ts : List Trade) (left left' : List ℕ) : Type 0 where
  pub each : (a c : ℕ) (short : Bool) → a < max_accounts → c < max_contracts
      → get_or left' (slot_of a c short) 0 ≡ get_or left (slot_of a c short) 0 - lots_in (opened_today short (legs a c ts))

-- ---- an account's day in a contract, from its slots

pub record Rooms (closed closes opened opens used : List ℕ) : Type 0 where
  pub closed_room : length closed ≡ slots
  pub closes_room : length closes ≡ slots
  pub opened_room : length opened ≡ slots
  pub opens_room : length opens ≡ slots
  pub used_room : length used ≡ slots

-- sells close long lots and open short ones, buys the other way round
abbrev pub sums_at : List ℕ → List ℕ → List ℕ → List ℕ → List ℕ → ℕ → ℕ → Bool → Sums
sums_at closed closes opened opens used a c short =
    record {
      closed = get_or closed (slot_of a c (not short)) 0;
      closes = get_or closes (slot_of a c (not short)) 0;
      opened = get_or opened (slot_of a c short) 0;
      opens = get_or opens (slot_of a c short) 0;
      used = get_or used (slot_of a c short) 0;
    }

pub record DaySmall (closed closes opened opens used : List ℕ) (a c reference : ℕ) (h : Holding) (price : ℕ) : Type 0 where
  pub account : a < max_accounts
  pub contract : c < max_contracts
  pub rooms : Rooms closed closes opened opens used
  pub long : SumsSmall reference h.startlong (sums_at closed closes opened opens used a c false)
  pub short : SumsSmall reference h.startshort (sums_at closed closes opened opens used a c true)
  pub marked : price ≤ max_price

abbrev pub DayFrom : List ℕ → List ℕ → List ℕ → List ℕ → List ℕ → ℕ → ℕ → ℕ → Holding → ℕ → Profit → Type 0
DayFrom closed closes opened opens used a c reference h price r =
    ProfitFrom (side_from reference h.startlong (sums_at closed closes opened opens used a c false))
    (side_from reference h.startshort (sums_at closed closes opened opens used a c true)) price r
