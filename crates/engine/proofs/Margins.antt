-- Margin of an account of a well-formed state: it can be charged. Assumes nothing.
use mathlib.Core.Bool.{true, false}
use Prim.Native.Nat.{ℕ, ◌+◌, ◌<◌, ◌≤◌}
use native.Mathlib.Omega.{arith}
use lib.ListN.{length, get_or}
use Rattle.rules.specs.Exchange.{account_at, holding_at, no_account, no_contract, no_holding}
use Rattle.rules.specs.Memory.{Memory, exchange_of, listing_in}
use Rattle.rules.specs.declared.Contract.{Contract}
use Rattle.rules.specs.declared.Holding.{Holding}
use Rattle.theory.proofs.Terms.{Terms, terms, terms_passed}
use Rattle.invariants.proofs.Clauses.{HoldingOk, ListingOk}
use Rattle.margin.specs.Charge.{ChargeTerms, ChargeableIn, ChargeableAt}
use Rattle.engine.proofs.Formed.{Formed, contracts_count, accounts_count, listing_at_lem, holding_at_lem}

charge_terms : (c : Contract) → Terms c → ChargeTerms c
charge_terms c t =
    record {
      multiplier = t.multiplier_high;
      reference = t.reference.high;
      rate = t.rate_high;
    }

module _ (m : Memory) (f : Formed m) where
  -- the terms of a contract in use
  pub contract_terms : (c : ℕ) → c < m.state.contractcount → Terms (get_or m.state.contracts c no_contract)
  unfolding listing_in
  contract_terms c l =
      let k : ListingOk (length (exchange_of m).accounts) (exchange_of m).next (exchange_of m).nextstamp (listing_in m c) = rw (listing_at_lem m f c l) at (f.contents.listing c (rw (contracts_count m f) l)) in
      terms _ (terms_passed (get_or m.state.contracts c no_contract) k.contract)

  module _ (a : ℕ) (here : a < m.state.accountcount) where
    abbrev held : ℕ → Holding
    held c = get_or (get_or m.state.accounts a no_account).holdings c no_holding

    -- what it holds in a contract can be charged, and so with the lots of one order more
    pub in_contract : (c : ℕ) → c < m.state.contractcount → (h : Holding) → h.long ≤ (held c).long + 1_000 → h.short ≤ (held c).short + 1_000
        → ChargeableIn (get_or m.state.contracts c no_contract) m.buys (get_or m.state.buycounts c 0) m.sells (get_or m.state.sellcounts c 0) c a h
    unfolding listing_in holding_at account_at
    in_contract c l h long short =
        let t = contract_terms c l in
        let k : HoldingOk (listing_in m c) a (held c) =
        rw (listing_at_lem m f c l, holding_at_lem m f a c here l) at (f.contents.holding a c (rw (accounts_count m f) here) (rw (contracts_count m f) l)) in
        record {
          terms = charge_terms (get_or m.state.contracts c no_contract) t;
          bids = f.buys_high c l;
          offers = f.sells_high c l;
          buyroom = omega (arith, f.buys_high c l, f.buys_room);
          sellroom = omega (arith, f.sells_high c l, f.sells_room);
          long = omega (arith, k.opens false, t.limit_high);
          short = omega (arith, k.opens true, t.limit_high);
        }

    pub chargeable : ChargeableAt m.state m.buys m.sells a
    chargeable =
        record {
          account = omega (arith, here, f.accounts_high);
          few = f.contracts_high;
          each = λ c l. in_contract c l (held c) (omega arith) (omega arith);
        }
