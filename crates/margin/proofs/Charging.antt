-- Charged margin contract by contract, as a loop adds it up, and its bounds. Assumes nothing.
use mir.Facts.{Fits-below}
use mir.Syntax.{w64}
use mir.Val.{Fits}
use Rattle.laws.specs.Logic.{List, ◌≡◌, refl, sym, ap, ◌∙◌}
use Rattle.laws.specs.Numbers.{ℕ, zero, suc, ◌+◌, ◌*◌, ◌<◌, ◌≤◌, max, le_trans, le_of_eq, mul-le-mul_left, mul-le-mul_right, add-one, arith, get_or}
use Rattle.rules.specs.Exchange.{no_account, no_contract, no_holding, resting_opens}
use Rattle.rules.specs.Margin.{charge_of, charge, charged_lots, charged_to, charged}
use Rattle.rules.specs.Memory.{Memory, exchange_of, listing_in, queue_in, memory}
use Rattle.rules.specs.declared.{Contract.Contract, Holding.Holding, Order.Order, State.State}
use Rattle.theory.proofs.Codecs.{length_queue}
use Rattle.theory.proofs.InUse.{contracts_in_use, listing_in_use, holding_in_use}
use Rattle.margin.specs.Charge.{listing_from, listing_with, ChargeTerms, ChargeableIn, ChargeableWith, Chargeable, Has, ChargedIs, ChargedAt}

-- ---- one contract

-- multiplier x reference, and x rate
pub value_small : (c : Contract) → ChargeTerms c → c.multiplier * c.reference ≤ 1_000_000_000
value_small c t = le_trans (mul-le-mul_right c.reference t.multiplier) (mul-le-mul_left 1_000 t.reference)

pub rated_small : (c : Contract) → ChargeTerms c → c.multiplier * c.reference * c.rate ≤ 10_000_000_000_000
rated_small c t = le_trans (mul-le-mul_right c.rate (value_small c t)) (mul-le-mul_left 1_000_000_000 t.rate)

pub charge_small : (c : Contract) → ChargeTerms c → charge c ≤ 1_000_000_000
unfolding charge_of
charge_small c t = omega (arith, rated_small c t)

module _ (k : Contract) (buys sells : List Order) (a : ℕ) (h : Holding) (g : ChargeableWith k buys sells a h) where
  lots_small : charged_lots (listing_with k buys sells) a h ≤ 200_000
  unfolding charged_lots
  lots_small = omega (arith, g.long, g.short)

  charged_small : charge k * charged_lots (listing_with k buys sells) a h ≤ 200_000_000_000_000
  charged_small =
      le_trans (mul-le-mul_right (charged_lots (listing_with k buys sells) a h) (charge_small k g.terms))
      (mul-le-mul_left 1_000_000_000 lots_small)

  -- as the code adds it up
  module _ (r bids offers lots : ℕ) (er : r ≡ charge k) (eb : bids ≡ resting_opens a buys)
      (eo : offers ≡ resting_opens a sells) (el : lots ≡ max (h.long + bids) (h.short + offers)) where
    pub charged_here_lem : r * lots ≡ charge k * charged_lots (listing_with k buys sells) a h
    unfolding charged_lots
    charged_here_lem = rw (el, er, eb, eo)

    pub charged_here_small : r * lots ≤ 200_000_000_000_000
    charged_here_small = le_trans (le_of_eq charged_here_lem) charged_small

pub charged_in_areas : (k : Contract) (buys : List ℕ) (buycount : ℕ) (sells : List ℕ) (sellcount c a : ℕ) (h : Holding)
    → ChargeableIn k buys buycount sells sellcount c a h → ChargeableWith k (queue_in buys c buycount) (queue_in sells c sellcount) a h
charged_in_areas k buys buycount sells sellcount c a h g =
    record { terms = g.terms; bids = omega (arith, length_queue buys c buycount, g.bids); offers = omega (arith, length_queue sells c sellcount, g.offers); long = g.long; short = g.short }

-- ---- the first contracts

module _ (m : Memory) (a : ℕ) (la : a < m.state.accountcount) where
  -- what a turn of the loop adds
  abbrev charged_at : ℕ → ℕ
  charged_at c =
      charge (get_or m.state.contracts c no_contract)
      * charged_lots (listing_from (get_or m.state.contracts c no_contract) m.buys (get_or m.state.buycounts c 0) m.sells (get_or m.state.sellcounts c 0) c) a
      (get_or (get_or m.state.accounts a no_account).holdings c no_holding)

  charged_none : 0 ≡ charged_to (exchange_of m) a 0
  unfolding charged_to
  charged_none = refl

  charged_more : (c total v : ℕ) → c < m.state.contractcount → total ≡ charged_to (exchange_of m) a c → v ≡ charged_at c
      → total + v ≡ charged_to (exchange_of m) a (c + 1)
  unfolding charged_to listing_in
  charged_more c total v lc e f = rw (add-one c, listing_in_use m c lc, holding_in_use m a c la lc, e, f)

-- ---- the loop over the contracts: `total` is the margin of the first c

module _ (holdings : List Holding) (terms : List Contract) (buys buycounts sells sellcounts : List ℕ) (a : ℕ) where
  abbrev pub charged_here : ℕ → ℕ
  charged_here c =
      charge (get_or terms c no_contract)
      * charged_lots (listing_from (get_or terms c no_contract) buys (get_or buycounts c 0) sells (get_or sellcounts c 0) c) a (get_or holdings c no_holding)

  unfoldable pub charged_first : ℕ → ℕ
  charged_first zero = 0
  charged_first (suc c) = charged_first c + charged_here c

  pub record Charging (contracts total c : ℕ) : Type 0 where
    pub within : c ≤ contracts
    pub margin : total ≡ charged_first c
    pub small : total ≤ 200_000_000_000_000 * c

-- of a state it is the rules' margin
pub charged_first_lem : (s : State) (buys sells trades : List ℕ) (a n : ℕ) → a < s.accountcount → n ≤ s.contractcount
    → charged_first (get_or s.accounts a no_account).holdings s.contracts buys s.buycounts sells s.sellcounts a n
    ≡ charged_to (exchange_of (memory s buys sells trades)) a n
unfolding charged_first
charged_first_lem s buys sells trades a zero la h = charged_none (memory s buys sells trades) a la
charged_first_lem s buys sells trades a (suc n) la h =
    charged_more (memory s buys sells trades) a la n _ _ h (charged_first_lem s buys sells trades a n la (omega arith)) refl
    ∙ ap (charged_to (exchange_of (memory s buys sells trades)) a) (add-one n)

-- once all contracts are in
all_charged : (s : State) (buys sells trades : List ℕ) (a : ℕ) → a < s.accountcount
    → charged_first (get_or s.accounts a no_account).holdings s.contracts buys s.buycounts sells s.sellcounts a s.contractcount
    ≡ charged (exchange_of (memory s buys sells trades)) a
all_charged s buys sells trades a la =
    charged_first_lem s buys sells trades a s.contractcount la (omega arith)
    ∙ ap (charged_to (exchange_of (memory s buys sells trades)) a) (sym (contracts_in_use (memory s buys sells trades)))

module _ (holdings : List Holding) (terms : List Contract) (contracts : ℕ) (buys buycounts sells sellcounts : List ℕ) (a : ℕ)
    (g : Chargeable holdings terms contracts buys buycounts sells sellcounts a) where
  pub charging_none : Charging holdings terms buys buycounts sells sellcounts a contracts 0 0
  unfolding charged_first
  charging_none = record { within = omega arith; margin = refl; small = omega arith }

  module _ (c total v : ℕ) (lc : c < contracts) (w : Charging holdings terms buys buycounts sells sellcounts a contracts total c)
      (e : v ≡ charged_here holdings terms buys buycounts sells sellcounts a c) where
    pub turn_small : v ≤ 200_000_000_000_000
    turn_small = le_trans (le_of_eq e) (charged_small _ _ _ _ _ (charged_in_areas _ _ _ _ _ _ _ _ (g.each c lc)))

    pub total_fits : Fits w64 (total + v)
    total_fits = Fits-below {n = 1_000_000_000_000_000} tt (omega (arith, turn_small, w.small, g.few))

    margin_more : total + v ≡ charged_first holdings terms buys buycounts sells sellcounts a (c + 1)
    unfolding charged_first
    margin_more = rw (add-one c, w.margin, e)

    pub charging_more : Charging holdings terms buys buycounts sells sellcounts a contracts (total + v) (c + 1)
    charging_more =
        record { within = omega arith; margin = margin_more; small = omega (arith, turn_small, w.small) }

  pub charging_done : (total c : ℕ) → contracts ≤ c → Charging holdings terms buys buycounts sells sellcounts a contracts total c
      → ChargedIs holdings terms contracts buys buycounts sells sellcounts a total
  charging_done total c stop w =
      record { charged = λ s trades h. at_end ∙ of_state s trades h; small = omega (arith, w.small, w.within, g.few) }
    where
      at_end : total ≡ charged_first holdings terms buys buycounts sells sellcounts a contracts
      at_end = w.margin ∙ ap (charged_first holdings terms buys buycounts sells sellcounts a) (omega (arith, w.within, stop))

      of_state : (s : State) (trades : List ℕ) → Has s holdings terms contracts buycounts sellcounts a
          → charged_first holdings terms buys buycounts sells sellcounts a contracts ≡ charged (exchange_of (memory s buys sells trades)) a
      of_state s trades h = rw (← h.held, ← h.listed, ← h.count, ← h.bought, ← h.sold) (all_charged s buys sells trades a h.account)

-- what is charged by what a state has is the state's charged margin
pub charged_at_lem : (s : State) (buys sells : List ℕ) (a r : ℕ) → a < s.accountcount → ChargedAt s buys sells a r → (trades : List ℕ)
    → r ≡ charged (exchange_of (memory s buys sells trades)) a
charged_at_lem s buys sells a r la e trades =
    e.charged s trades (record { account = la; held = refl; listed = refl; count = refl; bought = refl; sold = refl })
