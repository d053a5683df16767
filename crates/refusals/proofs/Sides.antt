-- One contract of a well-formed state as the code reads it: the queue of a side lies in the side's area, sorted, its orders are of
-- accounts in use, and what these accounts hold and have resting is small. Assumes nothing.
use mathlib.Core.Bool.{Bool, true, false, not}
use mathlib.Core.List.{List}
use mathlib.Core.Path.{◌≡◌, refl, ap}
use Prim.Native.Nat.{ℕ, ◌<◌, ◌≤◌}
use native.Mathlib.Omega.{arith}
use lib.ListN.{length, get_or}
use Rattle.laws.specs.Choice.{all_of, all_of_at}
use Rattle.rules.specs.Answers.{mark, taker_for}
use Rattle.rules.specs.Bounds.{terms_in_range, max_resting, max_limit}
use Rattle.rules.specs.Exchange.{Exchange, Listing, holding_at, listing_at, no_contract, no_order, opposite, own, resting}
use Rattle.rules.specs.Memory.{Memory, exchange_of, listing_in, queue_in, first_word}
use Rattle.rules.specs.WellFormed.{order_in_range, sorted}
use Rattle.rules.specs.declared.Contract.{Contract}
use Rattle.rules.specs.declared.NewOrder.{NewOrder}
use Rattle.rules.specs.declared.Order.{Order}
use Rattle.theory.proofs.Codecs.{length_queue}
use Rattle.theory.proofs.Terms.{terms, terms_passed}
use Rattle.holdings.specs.Bounds.{HoldingWithin, held_most}
use Rattle.invariants.proofs.Clauses.{HoldingOk, ListingOk, order_ok}
use Rattle.engine.specs.Sides.{side_area, side_count}
use Rattle.refusals.specs.Insertion.{Facing}
use Rattle.engine.proofs.Formed.{Formed, accounts_count, contracts_count, holding_at_lem, listing_at_lem}

module _ (m : Memory) (f : Formed m) (c : ℕ) (h : c < m.state.contractcount) where
  abbrev x : Exchange
  x = exchange_of m

  abbrev queue_of : Bool → List Order
  queue_of side = queue_in (side_area side m.buys m.sells) c (side_count side m.state c)

  -- ---- its queues

  pub side_is : (side : Bool) → own side (listing_at x c) ≡ queue_of side
  unfolding listing_in
  side_is true = ap (λ (l : Listing). l.sells) (listing_at_lem m f c h)
  side_is false = ap (λ (l : Listing). l.buys) (listing_at_lem m f c h)

  pub opposite_is : (side : Bool) → opposite side (listing_at x c) ≡ queue_of (not side)
  opposite_is true = side_is false
  opposite_is false = side_is true

  pub side_room : (side : Bool) → first_word c (side_count side m.state c) ≤ length (side_area side m.buys m.sells)
  side_room true = omega (arith, f.sells_high c h, f.sells_room)
  side_room false = omega (arith, f.buys_high c h, f.buys_room)

  pub side_few : (side : Bool) → length (queue_of side) ≤ max_resting
  side_few true = rw length_queue (f.sells_high c h)
  side_few false = rw length_queue (f.buys_high c h)

  -- room for 64 orders
  pub side_long : (side : Bool) → first_word c max_resting ≤ length (side_area side m.buys m.sells)
  side_long true = omega (arith, f.sells_room)
  side_long false = omega (arith, f.buys_room)

  there : c < length x.listings
  there = rw (contracts_count m f) h

  listing : ListingOk (length x.accounts) x.next x.nextstamp (listing_at x c)
  listing = f.contents.listing c there

  pub side_sorted : (side : Bool) → sorted side (queue_of side) ≡ true
  side_sorted side = rw (← side_is side) (listing.order side)

  -- an order meets the queue opposite it, best price first
  pub opposite_facing : (number quote stamp : ℕ) (terms : Contract) (o : NewOrder) → Facing (taker_for number quote stamp terms (queue_of (not o.sell)) o) (queue_of (not o.sell))
  opposite_facing number quote stamp terms o = record { few = side_few (not o.sell); order = side_sorted (not o.sell); best = refl }

  pub side_account : (side : Bool) (i : ℕ) → i < side_count side m.state c → (get_or (queue_of side) i no_order).account < m.state.accountcount
  side_account side i l =
      let all : all_of (order_in_range (length x.accounts) x.next x.nextstamp (listing_at x c).contract) (queue_of side) ≡ true = rw (← side_is side) (listing.orders side) in
      let one = order_ok (length x.accounts) x.next x.nextstamp (listing_at x c).contract (get_or (queue_of side) i no_order)
      (all_of_at (order_in_range (length x.accounts) x.next x.nextstamp (listing_at x c).contract) (queue_of side) i no_order all (rw length_queue l)) in
      omega (arith, one.account, accounts_count m f)

  -- ---- its terms

  pub contract_is : (listing_at x c).contract ≡ get_or m.state.contracts c no_contract
  unfolding listing_in
  contract_is = ap (λ (l : Listing). l.contract) (listing_at_lem m f c h)

  pub contract_terms : terms_in_range (get_or m.state.contracts c no_contract) ≡ true
  contract_terms = rw (← contract_is) (terms_passed (listing_at x c).contract listing.contract)

  limit_high : (listing_at x c).contract.limit ≤ max_limit
  limit_high = rw contract_is (terms (get_or m.state.contracts c no_contract) contract_terms).limit_high

  -- ---- what an account in use holds and has resting

  module _ (a : ℕ) (l : a < m.state.accountcount) where
    holding : HoldingOk (listing_at x c) a (holding_at m.state.accounts a c)
    holding = rw (← holding_at_lem m f a c l h) (f.contents.holding a c (rw (accounts_count m f) l) there)

    pub held_low : HoldingWithin held_most (holding_at m.state.accounts a c)
    held_low =
        let bought = holding.opens false in
        let sold = holding.opens true in
        record { long = omega (arith, limit_high); short = omega (arith, limit_high) }

    pub resting_low : (side close : Bool) → resting (mark close) a (queue_of side) ≤ max_limit
    resting_low side false = rw (← side_is side) (omega (arith, holding.opens side, limit_high))
    resting_low side true = rw (← side_is side) (omega (arith, holding.closes side, holding.opens (not side), limit_high))
