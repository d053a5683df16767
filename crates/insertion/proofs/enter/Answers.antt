-- `insertion::enter` meets its contract: by what was decided of the order. Assumes nothing.
use Rattle.insertion.proofs.Arriving.{listing_entered}
use Rattle.insertion.proofs.enter.Goals as goal

pub returns-in-Listing : goal.returns-in-Listing
returns-in-Listing c = listing_entered c.arrive-decision.ensures c.in-Listing.is _ _
