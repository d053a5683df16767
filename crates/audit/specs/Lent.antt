-- A contract in use with its queues, by the queues that are lent. Assumes nothing.
use Rattle.std.specs.Prelude.{Bool, ℕ}
use Rattle.rules.specs.Exchange.{Listing}
use Rattle.audit.specs.Parts.{listing, listing_in_range}
use Rattle.audit.specs.declared.lent.Queues.{Queues}

abbrev pub listing_of : Queues → ℕ → Listing
listing_of q c = listing q.state.now q.buys.now q.sells.now c

abbrev pub in_range : Queues → ℕ → Bool
in_range q c = listing_in_range q.state.now.accountcount q.state.now.next q.state.now.nextstamp (listing_of q c)
