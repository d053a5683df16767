-- The rules list the clauses one after the other; the audit walks over each contract once, and tests the makers' marks after the
-- queues. Both ways pass the same states. Assumes nothing.
use Rattle.laws.specs.Logic.{Bool, true, ◌&&◌, List, [], ◌∷◌, ◌≡◌}
use Rattle.laws.specs.Numbers.{length, get_or}
use Rattle.laws.specs.Choice.{all, all_of, all_of_at, all_of_imp, all_of_true, same_test}
use Rattle.laws.specs.Chains.{Passed, all_passed, join}
use Rattle.laws.specs.Tests.{chain}
use Rattle.rules.specs.Exchange.{Exchange, Listing, no_listing}
use Rattle.rules.specs.WellFormed.{counters_in_range, contract_in_range, mark_in_range, ranges_kept, queues_sorted, orders_in_range, all_numbers, all_stamps, used_once, listing_quoted, resting_in_range, trade_in_range, replays, holdings_in_range, balance_in_range, well_formed_contents}
use Rattle.audit.specs.Parts.{listing_in_range}

-- three tests of every contract, one after the other or together
three_at_once : (p q r : Listing → Bool) (l : List Listing) → all_of (λ a. p a && q a && r a) l ≡ (all_of p l && all_of q l && all_of r l)
three_at_once p q r l =
    same_test (all_of (λ a. p a && q a && r a) l) (all_of p l && all_of q l && all_of r l)
    (λ h. join (all_of p l) (all_of q l ∷ all_of r l ∷ []) (
      all_of_imp (λ a. p a && q a && r a) p l (λ a e. (apart a e).0) h,
      (all_of_imp (λ a. p a && q a && r a) q l (λ a e. (apart a e).1.0) h, all_of_imp (λ a. p a && q a && r a) r l (λ a e. (apart a e).1.1) h),
    ))
    (λ h. let k = all_passed (all_of p l) (all_of q l ∷ all_of r l ∷ []) h in
    all_of_true (λ a. p a && q a && r a) l no_listing
    (λ i b. join (p (get_or l i no_listing)) (q (get_or l i no_listing) ∷ r (get_or l i no_listing) ∷ [])
    (all_of_at p l i no_listing k.0 b, (all_of_at q l i no_listing k.1.0 b, all_of_at r l i no_listing k.1.1 b))))
  where
    apart : (a : Listing) → (p a && q a && r a) ≡ true → Passed (p a) (q a ∷ r a ∷ [])
    apart a e = all_passed (p a) (q a ∷ r a ∷ []) e

-- the same tests in another order
reordered : (counters terms marks queues orders numbers stamps quotes trades replay holdings balances : Bool) →
    (counters && terms && marks && queues && (orders && numbers && stamps && quotes) && trades && replay && holdings && balances)
    ≡ (counters && (terms && queues && orders) && numbers && stamps && quotes && marks && trades && replay && holdings && balances)
reordered counters terms marks queues orders numbers stamps quotes trades replay holdings balances =
    same_test _ _
    (λ h. let p = all_passed counters (terms ∷ marks ∷ queues ∷ (orders && numbers && stamps && quotes) ∷ rest) h in
    let o = all_passed orders (numbers ∷ stamps ∷ quotes ∷ []) p.1.1.1.1.0 in
    join counters ((terms && queues && orders) ∷ numbers ∷ stamps ∷ quotes ∷ marks ∷ rest)
    (p.0, (join terms (queues ∷ orders ∷ []) (p.1.0, (p.1.1.1.0, o.0)), (o.1.0, (o.1.1.0, (o.1.1.1, (p.1.1.0, p.1.1.1.1.1)))))))
    (λ h. let p = all_passed counters ((terms && queues && orders) ∷ numbers ∷ stamps ∷ quotes ∷ marks ∷ rest) h in
    let l = all_passed terms (queues ∷ orders ∷ []) p.1.0 in
    join counters (terms ∷ marks ∷ queues ∷ (orders && numbers && stamps && quotes) ∷ rest)
    (p.0, (l.0, (p.1.1.1.1.1.0, (l.1.0, (join orders (numbers ∷ stamps ∷ quotes ∷ []) (l.1.1, (p.1.1.0, (p.1.1.1.0, p.1.1.1.1.0))), p.1.1.1.1.1.1))))))
  where
    rest : List Bool
    rest = trades ∷ replay ∷ holdings ∷ balances ∷ []

pub walked : (x : Exchange) → well_formed_contents x
    ≡ chain
    (counters_in_range x
    ∷ all_of (listing_in_range (length x.accounts) x.next x.nextstamp) x.listings
    ∷ used_once (all_numbers x.listings)
    ∷ used_once (all_stamps x.listings)
    ∷ all_of (listing_quoted x.accounts) x.listings
    ∷ all_of mark_in_range x.accounts
    ∷ all_of (trade_in_range x) x.trades
    ∷ replays x
    ∷ all (holdings_in_range x) (length x.accounts)
    ∷ all_of (balance_in_range x.settlements) x.accounts
    ∷ [])
unfolding well_formed_contents ranges_kept resting_in_range listing_in_range
walked x =
    rw (three_at_once (λ l. contract_in_range l.contract) queues_sorted (orders_in_range (length x.accounts) x.next x.nextstamp) x.listings)
    (reordered (counters_in_range x) (all_of (λ l. contract_in_range l.contract) x.listings) (all_of mark_in_range x.accounts) _ _ _ _ _ _ _ _ _)
