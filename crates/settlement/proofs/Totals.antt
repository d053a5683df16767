-- An account's profit over the contracts, as a loop adds it up. Assumes nothing.
use lib.IntN.{ℤ, pos, ◌+ℤ◌, ◌*ℤ◌, *ℤ_comm}
use mir.Syntax.{w64}
use mir.Val.{SFits, to_z, of_z}
use Rattle.laws.specs.Logic.{true, false, List, ◌≡◌, refl, sym, ap, ap₂, ◌∙◌}
use Rattle.laws.specs.Numbers.{ℕ, ◌+◌, ◌*◌, ◌<◌, ◌≤◌, mul-le-mul_left, add-one, arith, length, get_or, get_or-take}
use Rattle.laws.specs.Bound.{Within, within_le, within_zero, within_add, within_times}
use Rattle.laws.specs.Sums.{sum_to, sum_to_ext}
use Rattle.laws.proofs.Signed.{back, total_fits, total_back}
use Rattle.rules.specs.Exchange.{Exchange, contract_at, held_at, holding_at, no_contract, no_holding}
use Rattle.rules.specs.Memory.{recorded_trades}
use Rattle.rules.specs.Settlement.{day_of, holding_gain, settlement_price, closing_profit, holding_profit}
use Rattle.rules.specs.declared.{Account.Account, Contract.Contract, State.State}
use Rattle.dayprofit.specs.Sides.{Profitable}
use Rattle.dayprofit.specs.Slots.{SumsAre, UsedAre, Rooms, DayFrom}
use Rattle.dayprofit.proofs.Gains.{Summed, day_small, closing_by_slots, holding_by_slots}
use Rattle.settlement.specs.Settling.{account_in, HasDay, priced_in, terms_of, price_of, held_by, closing_in, holding_part, Totallable, TotalFrom, AllDue, AllPayable}
use Rattle.settlement.specs.declared.balances.Priced.{Priced}
use Rattle.dayprofit.specs.declared.profit.Profit.{Profit}

-- a total t of the first c values of f, each of at most 4 x 10^15
pub record Adding (f : ℕ → ℤ) (t : ℤ) (c : ℕ) : Type 0 where
  pub total : t ≡ sum_to c f
  pub small : Within (4_000_000_000_000_000 * c) t

module _ (f : ℕ → ℤ) where
  pub adding_none : Adding f (pos 0) 0
  unfolding sum_to
  adding_none = record { total = refl; small = within_le (omega arith) within_zero }

  -- the code's total by its bits t
  module _ (t c : ℕ) (few : c < 4) (w : Adding f (to_z w64 t) c) (v : ℤ) (e : v ≡ f c) (small : Within 4_000_000_000_000_000 v) where
    pub adding_fits : SFits w64 (to_z w64 t +ℤ to_z w64 (of_z w64 v))
    adding_fits = total_fits t w.small small (omega arith)

    pub adding_more : Adding f (to_z w64 (of_z w64 (to_z w64 t +ℤ to_z w64 (of_z w64 v)))) (c + 1)
    unfolding sum_to
    adding_more =
        let b : to_z w64 (of_z w64 (to_z w64 t +ℤ to_z w64 (of_z w64 v))) ≡ to_z w64 t +ℤ v = total_back t w.small small (omega arith) in
        record { total = rw (add-one c) (b ∙ rw (w.total, e)); small = rw b (within_le (omega arith) (within_add w.small small)) }

-- a profit as the code reads it from its bits, and times a multiplier
module _ (k : ℕ) (z : ℤ) (h : k ≤ 1_000) (w : Within 4_000_000_000_000 z) where
  its_bits : to_z w64 (of_z w64 z) ≡ z
  its_bits = back 4_000_000_000_000 (omega arith) w

  pub bits_small : Within 4_000_000_000_000 (to_z w64 (of_z w64 z))
  bits_small = rw its_bits w

  module _ (v : ℤ) (e : v ≡ pos k *ℤ to_z w64 (of_z w64 z)) where
    multiplied_is : v ≡ pos k *ℤ z
    multiplied_is = e ∙ rw its_bits

    multiplied_small : Within 4_000_000_000_000_000 v
    multiplied_small = rw (multiplied_is, *ℤ_comm (pos k) z) (within_le (mul-le-mul_left 4_000_000_000_000 h) (within_times k w))

-- ---- one account's closing and holding profit, from the sums of the day's legs

module _ (holder : Account) (p : Priced) (closed closes opened opens used : List ℕ) (a : ℕ) where
  abbrev closing_term : ℕ → ℤ
  closing_term c = pos (terms_of p c).multiplier *ℤ closing_in holder p closed closes opened opens used a c

  abbrev holding_term : ℕ → ℤ
  holding_term c = pos (terms_of p c).multiplier *ℤ holding_part holder p closed closes opened opens used a c

pub record Totalling (holder : Account) (p : Priced) (closed closes opened opens used : List ℕ) (a : ℕ) (gained held : ℤ) (c : ℕ) : Type 0 where
  pub within : c ≤ p.count
  pub closing : Adding (closing_term holder p closed closes opened opens used a) gained c
  pub holding : Adding (holding_term holder p closed closes opened opens used a) held c

module _ (holder : Account) (p : Priced) (closed closes opened opens used : List ℕ) (a : ℕ) where
  pub totalling_none : Totalling holder p closed closes opened opens used a (pos 0) (pos 0) 0
  totalling_none = record { within = omega arith; closing = adding_none _; holding = adding_none _ }

module _ {holder : Account} {p : Priced} {closed closes opened opens used : List ℕ} {a c : ℕ} (g : Totallable holder p closed closes opened opens used a) where
  module _ (h : c < p.count) {r : Profit}
      (q : DayFrom closed closes opened opens used a c (terms_of p c).reference (held_by holder c) (price_of p c) r) where
    pub closing_bits : Within 4_000_000_000_000 (to_z w64 (of_z w64 r.closing))
    closing_bits = bits_small (terms_of p c).multiplier r.closing (g.multiplier c h) q.closing_small

    pub holding_bits : Within 4_000_000_000_000 (to_z w64 (of_z w64 r.holding))
    holding_bits = bits_small (terms_of p c).multiplier r.holding (g.multiplier c h) q.holding_small

    few : c < 4
    few = omega (arith, g.contracts)

    -- the code's sums by their bits
    module _ (gained held : ℕ) (w : Totalling holder p closed closes opened opens used a (to_z w64 gained) (to_z w64 held) c) where
      module _ {x : ℤ} (e : x ≡ pos (terms_of p c).multiplier *ℤ to_z w64 (of_z w64 r.closing)) where
        closing_is : x ≡ closing_term holder p closed closes opened opens used a c
        closing_is = multiplied_is (terms_of p c).multiplier r.closing (g.multiplier c h) q.closing_small x e ∙ ap (λ (z : ℤ). pos (terms_of p c).multiplier *ℤ z) q.closing

        closing_part : Within 4_000_000_000_000_000 x
        closing_part = multiplied_small (terms_of p c).multiplier r.closing (g.multiplier c h) q.closing_small x e

        pub closing_fits : SFits w64 (to_z w64 gained +ℤ to_z w64 (of_z w64 x))
        closing_fits = adding_fits _ gained c few w.closing x closing_is closing_part

        module _ {y : ℤ} (f : y ≡ pos (terms_of p c).multiplier *ℤ to_z w64 (of_z w64 r.holding)) where
          holding_is : y ≡ holding_term holder p closed closes opened opens used a c
          holding_is = multiplied_is (terms_of p c).multiplier r.holding (g.multiplier c h) q.holding_small y f ∙ ap (λ (z : ℤ). pos (terms_of p c).multiplier *ℤ z) q.holding

          holding_part_lem : Within 4_000_000_000_000_000 y
          holding_part_lem = multiplied_small (terms_of p c).multiplier r.holding (g.multiplier c h) q.holding_small y f

          pub holding_fits : SFits w64 (to_z w64 held +ℤ to_z w64 (of_z w64 y))
          holding_fits = adding_fits _ held c few w.holding y holding_is holding_part_lem

          pub totalling_more : Totalling holder p closed closes opened opens used a (to_z w64 (of_z w64 (to_z w64 gained +ℤ to_z w64 (of_z w64 x)))) (to_z w64 (of_z w64 (to_z w64 held +ℤ to_z w64 (of_z w64 y)))) (c + 1)
          totalling_more =
              record {
                within = omega arith;
                closing = adding_more _ gained c few w.closing x closing_is closing_part;
                holding = adding_more _ held c few w.holding y holding_is holding_part_lem;
              }

  pub totalling_done : {gained held : ℤ} → p.count ≤ c → Totalling holder p closed closes opened opens used a gained held c
      → TotalFrom holder p closed closes opened opens used a (record { closing = gained; holding = held })
  totalling_done h w =
      let e : c ≡ p.count = omega (arith, w.within) in
      record {
        closing = w.closing.total ∙ ap (λ (n : ℕ). sum_to n (closing_term holder p closed closes opened opens used a)) e;
        holding = w.holding.total ∙ ap (λ (n : ℕ). sum_to n (holding_term holder p closed closes opened opens used a)) e;
        closing_small = within_le (omega (arith, w.within, g.contracts)) w.closing.small;
        holding_small = within_le (omega (arith, w.within, g.contracts)) w.holding.small;
      }

-- ---- the sums are the day's: an account's total is its profit by Article 32

-- in any exchange with this day
pub record TotalIs (s : State) (trades prices : List ℕ) (a : ℕ) (r : Profit) : Type 0 where
  pub closing : (x : Exchange) → HasDay x s trades prices → r.closing ≡ closing_profit x a
  pub holding : (x : Exchange) → HasDay x s trades prices → r.holding ≡ holding_profit x a
  pub closing_small : Within 16_000_000_000_000_000 r.closing
  pub holding_small : Within 16_000_000_000_000_000 r.holding

held_at_lem : {x : Exchange} {s : State} {trades prices : List ℕ} → HasDay x s trades prices → (a c : ℕ) → a < s.accountcount → c < s.contractcount
    → held_at x a c ≡ held_by (account_in s a) c
unfolding holding_at
held_at_lem {x} {s} has a c la lc = rw (has.holder a la) (get_or-take s.contractcount (account_in s a).holdings c no_holding lc)

-- what the code has added up of the day's legs, slot by slot
pub record DaySums (s : State) (trades closed closes opened opens left used : List ℕ) : Type 0 where
  pub closing : SumsAre true (recorded_trades trades s.tradecount) closed closes
  pub opening : SumsAre false (recorded_trades trades s.tradecount) opened opens
  pub due : AllDue s closed left
  pub taken : UsedAre (recorded_trades trades s.tradecount) left used

module _ {s : State} {trades prices : List ℕ} (g : AllPayable s trades prices) {closed closes opened opens left used : List ℕ}
    (d : DaySums s trades closed closes opened opens left used) (a : ℕ) (la : a < s.accountcount) where
  day_sums : Summed (recorded_trades trades s.tradecount) closed closes opened opens left used
  day_sums = record { closing = d.closing; opening = d.opening; taken = d.taken }

  few_accounts : a < 32
  few_accounts = omega (arith, g.accounts)

  few_contracts : (c : ℕ) → c < s.contractcount → c < 4
  few_contracts c lc = omega (arith, g.contracts)

  profitable : (c : ℕ) → c < s.contractcount
      → Profitable (get_or s.contracts c no_contract).reference (held_by (account_in s a) c) a c trades s.tradecount (get_or prices c 0)
  profitable c lc = rw (g.has.terms c lc, held_at_lem g.has a c la lc, g.has.price c lc) at (g.each a c la lc)

  totallable : Rooms closed closes opened opens used → Totallable (account_in s a) (priced_in s prices) closed closes opened opens used a
  totallable rooms =
      record {
        account = few_accounts;
        contracts = g.contracts;
        multiplier = λ c lc. rw (g.has.terms c lc) at (g.multiplier c lc);
        each = λ c lc. day_small trades s.tradecount closed closes opened opens left used day_sums a c few_accounts (few_contracts c lc) _ (held_by (account_in s a) c) _
            (profitable c lc) (d.due.long a c la (few_contracts c lc)) (d.due.short a c la (few_contracts c lc)) rooms;
      }

  module _ (x : Exchange) (has : HasDay x s trades prices) where
    -- a sum over the state's contracts is one over the exchange's
    over_contracts : (f g : ℕ → ℤ) → ((c : ℕ) → c < s.contractcount → f c ≡ g c)
        → sum_to s.contractcount (λ c. pos (get_or s.contracts c no_contract).multiplier *ℤ f c) ≡ sum_to (length x.listings) (λ c. pos (contract_at x c).multiplier *ℤ g c)
    over_contracts f g e =
        rw has.count (sum_to_ext s.contractcount _ _ (λ c lc. ap₂ (λ (t : Contract) (z : ℤ). pos t.multiplier *ℤ z) (sym (has.terms c lc)) (e c lc)))

    reference_is : (c : ℕ) → c < s.contractcount → (contract_at x c).reference ≡ (get_or s.contracts c no_contract).reference
    reference_is c lc = ap (λ (t : Contract). t.reference) (has.terms c lc)

    closing_profit_lem : (w : ℤ) → w ≡ sum_to s.contractcount (closing_term (account_in s a) (priced_in s prices) closed closes opened opens used a) → w ≡ closing_profit x a
    unfolding closing_profit
    closing_profit_lem w e =
        e ∙ over_contracts _ _ (λ c lc. closing_by_slots trades s.tradecount closed closes opened opens left used day_sums a c few_accounts (few_contracts c lc) _ (held_by (account_in s a) c) _
        (profitable c lc) (d.due.long a c la (few_contracts c lc)) (d.due.short a c la (few_contracts c lc)) x (reference_is c lc) (held_at_lem has a c la lc) has.day)

    holding_profit_lem : (w : ℤ) → w ≡ sum_to s.contractcount (holding_term (account_in s a) (priced_in s prices) closed closes opened opens used a) → w ≡ holding_profit x a
    unfolding holding_profit
    holding_profit_lem w e =
        e ∙ over_contracts _ (λ c. holding_gain (settlement_price x c) (day_of x a c)) (λ c lc. holding_by_slots trades s.tradecount closed closes opened opens left used day_sums a c few_accounts (few_contracts c lc) _ (held_by (account_in s a) c) _
        (profitable c lc) (d.due.long a c la (few_contracts c lc)) (d.due.short a c la (few_contracts c lc)) x (reference_is c lc) (held_at_lem has a c la lc) has.day
        ∙ ap (λ (p : ℕ). holding_gain p (day_of x a c)) (sym (has.price c lc)))

  total_is : {r : Profit} → TotalFrom (account_in s a) (priced_in s prices) closed closes opened opens used a r → TotalIs s trades prices a r
  total_is w =
      record {
        closing = λ x has. closing_profit_lem x has _ w.closing;
        holding = λ x has. holding_profit_lem x has _ w.holding;
        closing_small = w.closing_small;
        holding_small = w.holding_small;
      }

-- what is known of the day's sums before an account is paid: the accounts can be, each can be totalled, and its total is its profit
pub record DaySummed (s : State) (trades prices closed closes opened opens used : List ℕ) : Type 0 where
  pub payable : AllPayable s trades prices
  pub totallable : (a : ℕ) → a < s.accountcount → Totallable (account_in s a) (priced_in s prices) closed closes opened opens used a
  pub total : (a : ℕ) → a < s.accountcount → {r : Profit} → TotalFrom (account_in s a) (priced_in s prices) closed closes opened opens used a r → TotalIs s trades prices a r

pub day_summed : {s : State} {trades prices closed closes opened opens left used : List ℕ} → AllPayable s trades prices → DaySums s trades closed closes opened opens left used
    → Rooms closed closes opened opens used → DaySummed s trades prices closed closes opened opens used
day_summed g d rooms = record { payable = g; totallable = λ a la. totallable g d a la rooms; total = λ a la w. total_is g d a la w }
