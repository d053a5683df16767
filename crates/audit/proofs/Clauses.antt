-- A contract with its queues: the tests that code makes of it, and what they say. Assumes nothing.
use Rattle.laws.specs.Logic.{Bool, true, false, ◌&&◌, ◌||◌, [], ◌∷◌, ◌≡◌, refl}
use Rattle.laws.specs.Numbers.{ℕ}
use Rattle.laws.specs.Choice.{all_of}
use Rattle.laws.specs.Chains.{all_passed}
use Rattle.rules.specs.Bounds.{in_auction}
use Rattle.rules.specs.Exchange.{Listing}
use Rattle.rules.specs.WellFormed.{contract_in_range, order_in_range, orders_in_range, queues_sorted, sorted, uncrossed}
use Rattle.audit.specs.Parts.{listing_in_range}
use Rattle.invariants.proofs.Clauses.{ListingOk, listing_ok}

-- the tests of a contract with its queues, one after the other
pub listing_tests : (accounts next nextstamp : ℕ) (l : Listing) → listing_in_range accounts next nextstamp l
    ≡ (contract_in_range l.contract
    && sorted false l.buys
    && sorted true l.sells
    && (in_auction l.contract || uncrossed l.buys l.sells)
    && all_of (order_in_range accounts next nextstamp l.contract) l.buys
    && all_of (order_in_range accounts next nextstamp l.contract) l.sells)
unfolding listing_in_range queues_sorted orders_in_range
listing_tests accounts next nextstamp l = flat (contract_in_range l.contract) (sorted false l.buys) (sorted true l.sells) _ _ _
  where
    flat : (a b c d e f : Bool) → (a && (b && c && d) && (e && f)) ≡ (a && b && c && d && e && f)
    flat false b c d e f = refl
    flat true false c d e f = refl
    flat true true false d e f = refl
    flat true true true false e f = refl
    flat true true true true e f = refl

-- what a contract's test says
pub listing_tested : (accounts next nextstamp : ℕ) (l : Listing) → listing_in_range accounts next nextstamp l ≡ true → ListingOk accounts next nextstamp l
unfolding listing_in_range
listing_tested accounts next nextstamp l h =
    let p = all_passed (contract_in_range l.contract) (queues_sorted l ∷ orders_in_range accounts next nextstamp l ∷ []) h in
    listing_ok accounts next nextstamp l p.0 p.1.0 p.1.1
