-- Recorded trades, each tested by itself. Assumes nothing.
use Rattle.laws.specs.Logic.{Bool, not, ◌&&◌, List, [], ◌∷◌, ◌≡◌, refl, ap, ◌∙◌}
use Rattle.laws.specs.Numbers.{ℕ, ◌<◌, eqb, leb, ltb, ltb-true, get_or, length-replicate}
use Rattle.laws.specs.Choice.{by_test}
use Rattle.laws.specs.Tabulate.{length_tabulate, get_d_tabulate}
use Rattle.laws.specs.Tests.{group}
use Rattle.rules.specs.Bounds.{within, allowed_today}
use Rattle.rules.specs.Exchange.{Listing, listing_at, no_contract, no_listing}
use Rattle.rules.specs.WellFormed.{trade_in_range}
use Rattle.rules.specs.declared.{Contract.Contract, Trade.Trade}
use Rattle.audit.specs.Parts.{tested}

module _ (contracts : List Contract) (n accounts next : ℕ) where
  -- the contract of a place in use is the one that code reads there
  contract_tested : (c : ℕ) → c < n → (listing_at (tested contracts n accounts next) c).contract ≡ get_or contracts c no_contract
  unfolding listing_at tested
  contract_tested c h =
      ap (λ (l : Listing). l.contract) (get_d_tabulate n c (λ c. record { contract = get_or contracts c no_contract; buys = []; sells = [] }) no_listing h)

  abbrev numbers_in_range : Trade → Bool
  numbers_in_range t = not (eqb t.buyorder t.sellorder) && leb 1 t.buyorder && ltb t.buyorder next && leb 1 t.sellorder && ltb t.sellorder next

  -- the tests in the definition's order, the price's on the contract that code reads
  pub trade_tested : (t : Trade) → trade_in_range (tested contracts n accounts next) t
      ≡ (ltb t.contract n && ltb t.buyer accounts && ltb t.seller accounts && numbers_in_range t
      && allowed_today (get_or contracts t.contract no_contract) t.price && within 1 1_000 t.lots && leb t.buyclose 1 && leb t.sellclose 1)
  unfolding trade_in_range tested
  trade_tested t =
      rw (length_tabulate, length-replicate)
      (group (ltb t.contract n && ltb t.buyer accounts && ltb t.seller accounts) (not (eqb t.buyorder t.sellorder))
      (leb 1 t.buyorder ∷ ltb t.buyorder next ∷ leb 1 t.sellorder ∷ ltb t.sellorder next ∷ [])
      (allowed_today (listing_at (tested contracts n accounts next) t.contract).contract t.price ∷ within 1 1_000 t.lots ∷ leb t.buyclose 1 ∷ leb t.sellclose 1 ∷ [])
      ∙ by_test (ltb t.contract n) (λ e. rw (contract_tested t.contract (ltb-true _ _ e)) refl) (λ e. rw e refl))
