-- What `quoting::rest_marked` leaves: an order that is not refused rests, or would trade. Assumes nothing.
use Rattle.std.proofs.Common.{arith, refl}
use Rattle.insertion.proofs.Entering.{known, ready}
use Rattle.quoting.proofs.Marking.{marked_enterable, numbers_low}
use Rattle.quoting.proofs.Resting.{order_rests}
use Rattle.quoting.proofs.rest_marked.Goals as goal

pub overflow_add-number : goal.overflow_add-number
overflow_add-number c = omega (arith, numbers_low c.requires.0 c.args.o c.requires.1 c.in_ok-order_code.ensures refl)

pub arrival_of-arrival-requires : goal.arrival_of-arrival-requires
arrival_of-arrival-requires c =
    known c.requires.0 c.args.o _ _ _ (marked_enterable c.requires.0 c.args.o c.requires.1 c.in_ok-order_code.ensures refl)

pub arrive-decision-requires : goal.arrive-decision-requires
arrive-decision-requires c =
    (ready c.requires.0 c.args.o _ _ _ (marked_enterable c.requires.0 c.args.o c.requires.1 c.in_ok-order_code.ensures refl) c.arrival_of-arrival.ensures).arrives

pub returns-in-Listing : goal.returns-in-Listing
returns-in-Listing c =
    order_rests c.requires.0 c.args.o c.requires.1 c.in_ok-order_code.ensures c.arrival_of-arrival.ensures c.arrive-decision.ensures c.in-Listing.is
