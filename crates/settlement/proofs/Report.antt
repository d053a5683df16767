-- What a settlement prints, in arrays with zeros past the counts: prices contract by contract, charged margin account by account.
-- Assumes nothing.
use Rattle.laws.specs.Logic.{List, ◌≡◌, refl, ◌∙◌}
use Rattle.laws.specs.Numbers.{ℕ, ◌+◌, ◌<◌, ◌≤◌, get_or, set, replicate}
use Rattle.laws.specs.Tabulate.{tabulate}
use Rattle.laws.specs.Written.{Writing, writing_none, writing_more, writing_done}
use Rattle.areas.specs.Lists.{padded}
use Rattle.rules.specs.Exchange.{no_contract}
use Rattle.rules.specs.Margin as margin
use Rattle.rules.specs.Memory.{Memory, exchange_of, listing_in, memory}
use Rattle.rules.specs.Settlement.{settlement_price}
use Rattle.rules.specs.declared.State.{State}
use Rattle.theory.proofs.InUse.{listing_in_use}
use Rattle.dayprofit.specs.Day.{PriceIs}
use Rattle.margin.specs.Charge.{ChargedAt}
use Rattle.margin.proofs.Charging.{charged_at_lem}
use Rattle.settlement.specs.Settling.{AllChargeable, ChargesAre}
use Rattle.settlement.proofs.Places.{overwritten_padded}

-- ---- prices

-- the price by what stands in the state is the rules' price
pub price_in_use : (m : Memory) (c : ℕ) → c < m.state.contractcount → (r : ℕ)
    → PriceIs (get_or m.state.contracts c no_contract) m.buys (get_or m.state.buycounts c 0) m.sells (get_or m.state.sellcounts c 0) m.trades m.state.tradecount c r
    → r ≡ settlement_price (exchange_of m) c
unfolding exchange_of listing_in
price_in_use m c lc r e = e (exchange_of m) (listing_in_use m c lc) refl

abbrev pub PricesSoFar : Memory → ℕ → List ℕ → Type 0
PricesSoFar m c prices = Writing (settlement_price (exchange_of m)) (replicate 4 0) m.state.contractcount c prices

pub prices_done : (m : Memory) (c : ℕ) (prices : List ℕ) → m.state.contractcount ≤ c → PricesSoFar m c prices
    → prices ≡ padded 4 0 (tabulate m.state.contractcount (settlement_price (exchange_of m)))
prices_done m c prices h w = writing_done _ _ _ c prices h w ∙ overwritten_padded _ _ 4 0

-- ---- charged margin, whatever trades the day has

pub record ChargesSoFar (s : State) (buys sells : List ℕ) (a : ℕ) (r : List ℕ) : Type 0 where
  pub each : (trades : List ℕ) → Writing (margin.charged (exchange_of (memory s buys sells trades))) (replicate 32 0) s.accountcount a r

module _ (s : State) (buys sells : List ℕ) where
  pub charges_none : ChargesSoFar s buys sells 0 (replicate 32 0)
  charges_none = record { each = λ trades. writing_none _ _ _ }

  pub charges_more : AllChargeable s buys sells → (a v : ℕ) (r : List ℕ) → a < s.accountcount → ChargedAt s buys sells a v → ChargesSoFar s buys sells a r
      → ChargesSoFar s buys sells (a + 1) (set r a v)
  charges_more g a v r h e w = record { each = λ trades. writing_more _ _ _ g.accounts a v r h (charged_at_lem s buys sells a v h e trades) (w.each trades) }

  pub charges_done : (a : ℕ) (r : List ℕ) → s.accountcount ≤ a → ChargesSoFar s buys sells a r → ChargesAre s buys sells r
  charges_done a r h w = record { charged = λ trades. writing_done _ _ _ a r h (w.each trades) ∙ overwritten_padded _ _ 32 0 }
