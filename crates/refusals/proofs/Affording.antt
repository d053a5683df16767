-- Code 9 of an insert: what is charged with the lots of an open, against the balance. Assumes nothing.
use mathlib.Core.Bool.{Bool, true, false}
use mathlib.Core.List.{List}
use mathlib.Core.Path.{◌≡◌, refl, ap, ◌∙◌}
use Prim.Native.Nat.{ℕ, ◌+◌, ◌-◌, ◌<◌, ◌≤◌}
use native.Mathlib.Omega.{arith}
use lib.IntN.{pos}
use lib.ListN.{length, get_or, set}
use lib.Seq.{get_or-set_same}
use lib.Signed.{lt_z}
use Rattle.rules.specs.Bounds.{max_lots, balance_most}
use Rattle.laws.specs.Bound.{Within}
use Rattle.laws.specs.Lists.{at_set}
use Rattle.rules.specs.Answers.{money_refused}
use Rattle.rules.specs.Exchange.{Exchange, account_at, holding_at, no_account, no_contract, no_holding, place_of}
use Rattle.rules.specs.Holdings.{after_leg, book_leg, with_holding}
use Rattle.rules.specs.Margin.{charged_with, with_open}
use Rattle.rules.specs.Memory.{Memory, exchange_of, listing_in, memory, WellFormedState}
use Rattle.rules.specs.declared.Account.{Account}
use Rattle.rules.specs.declared.Holding.{Holding}
use Rattle.rules.specs.declared.NewOrder.{NewOrder}
use Rattle.rules.specs.declared.State.{State}
use Rattle.theory.proofs.InUse.{used_leg}
use Rattle.holdings.specs.Bounds.{HoldingWithin, booked_most}
use Rattle.margin.specs.Charge.{Chargeable, ChargeableIn, ChargedIs}
use Rattle.refusals.specs.Insertion.{Present}
use Rattle.engine.proofs.Formed.{Formed, account_at_lem, balance_within, few_accounts, formed}
use Rattle.engine.proofs.Margins.{chargeable, in_contract}

-- an open adds its lots to one side
open_leg : (h : Holding) (sell : Bool) (lots : ℕ) → ((after_leg h sell 0 lots).long ≤ h.long + lots) × ((after_leg h sell 0 lots).short ≤ h.short + lots)
unfolding after_leg
open_leg h true lots = (omega arith, omega arith)
open_leg h false lots = (omega arith, omega arith)

-- the state with an open's lots held
abbrev with_leg : State → ℕ → ℕ → Bool → ℕ → State
with_leg s a c sell lots =
    record {
      contracts = s.contracts;
      accounts = book_leg s.accounts a c sell 0 lots;
      buycounts = s.buycounts;
      sellcounts = s.sellcounts;
      contractcount = s.contractcount;
      accountcount = s.accountcount;
      tradecount = s.tradecount;
      next = s.next;
      nextstamp = s.nextstamp;
      settlements = s.settlements;
    }

-- what is in use of it is the rules' state with the lots held
leg_in_use : (s : State) (buys sells trades : List ℕ) (a c : ℕ) (sell : Bool) (lots : ℕ) → a < s.accountcount → c < s.contractcount
    → exchange_of (memory (with_leg s a c sell lots) buys sells trades) ≡ with_open (exchange_of (memory s buys sells trades)) a c sell lots
unfolding exchange_of listing_in
leg_in_use s buys sells trades a c sell lots ha hc = rw (used_leg s.contractcount s.accountcount s.accounts a c sell 0 lots ha hc)

module _ {s : State} {buys sells trades : List ℕ} (w : WellFormedState s buys sells trades) (o : NewOrder) (p : Present s o) where
  abbrev m : Memory
  m = memory s buys sells trades

  abbrev x : Exchange
  x = exchange_of m

  f : Formed m
  f = formed w

  abbrev a : ℕ
  a = place_of o.account

  abbrev c : ℕ
  c = place_of o.contract

  pub close_free : o.close ≡ true → false ≡ money_refused x o
  unfolding money_refused
  close_free e = rw e

  -- what the account holds, and the same with the order's lots
  abbrev holdings : List Holding
  holdings = (get_or s.accounts a no_account).holdings

  abbrev after : Holding
  after = after_leg (get_or holdings c no_holding) o.sell 0 o.lots

  in_place : c < length holdings
  unfolding account_at
  in_place = omega (arith, p.contract, p.account, f.contracts_high, f.accounts_high, f.declared.holdings a (omega (arith, p.account, f.accounts_high)))

  with_lots_lem : o.lots ≤ max_lots → (i : ℕ) → i < s.contractcount
      → ChargeableIn (get_or s.contracts i no_contract) buys (get_or s.buycounts i 0) sells (get_or s.sellcounts i 0) i a (get_or (set holdings c after) i no_holding)
  with_lots_lem few i li =
      let leg = open_leg (get_or holdings c no_holding) o.sell o.lots in
      at_set
      (λ (i : ℕ) (h : Holding). i < s.contractcount → ChargeableIn (get_or s.contracts i no_contract) buys (get_or s.buycounts i 0) sells (get_or s.sellcounts i 0) i a h)
      holdings c after no_holding in_place
      (λ l. in_contract m f a p.account c l after (omega (arith, leg.0)) (omega (arith, leg.1)))
      i (λ n l. in_contract m f a p.account i l (get_or holdings i no_holding) (omega arith) (omega arith)) li

  -- the account of the state with the lots held
  held_after : (get_or (with_leg s a c o.sell o.lots).accounts a no_account).holdings ≡ set holdings c after
  unfolding book_leg account_at holding_at
  held_after = ap (λ (u : Account). u.holdings) (get_or-set_same s.accounts a _ no_account (omega (arith, p.account, few_accounts m f)))

  -- the places of the contract and of the account
  module _ (few : o.lots ≤ max_lots) {place holder : ℕ} (is : place ≡ o.contract - 1) (whose : holder ≡ o.account - 1) {who : Account} (ew : get_or s.accounts (o.account - 1) no_account ≡ who) where
    pub can_hold : HoldingWithin booked_most (get_or who.holdings place no_holding)
    can_hold =
        let g = (chargeable m f a p.account).each c p.contract in
        rw (is, ← ew) (record { long = omega (arith, g.long); short = omega (arith, g.short) })

    pub balance_fits : Within balance_most who.balance
    unfolding account_at
    balance_fits = rw (← ew) (balance_within m f a p.account)

    module _ {held : Account} (eh : held ≡ with_holding who place (after_leg (get_or who.holdings place no_holding) o.sell 0 o.lots)) where
      pub can_charge : Chargeable held.holdings s.contracts s.contractcount buys s.buycounts sells s.sellcounts holder
      can_charge = rw (eh, whose, is, ← ew) (record { account = omega (arith, p.account, f.accounts_high); few = f.contracts_high; each = with_lots_lem few })

      module _ {total : ℕ} (et : ChargedIs held.holdings s.contracts s.contractcount buys s.buycounts sells s.sellcounts holder total) where
        charged_is : total ≡ charged_with x a c o.sell o.lots
        charged_is =
            et.charged (with_leg s a c o.sell o.lots) trades
            (record { account = rw whose p.account; held = rw (whose, eh, is, ← ew) held_after; listed = refl; count = refl; bought = refl; sold = refl })
            ∙ rw (whose, leg_in_use s buys sells trades a c o.sell o.lots p.account p.contract)

        pub money_is : {r : Bool} → o.close ≡ false → r ≡ lt_z who.balance (pos total) → r ≡ money_refused x o
        unfolding money_refused account_at
        money_is opens er = er ∙ rw (← ew, opens, charged_is, account_at_lem m f a p.account)
