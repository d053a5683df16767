-- What `quoting::enter_marked` leaves: an order that is not refused enters marked. Assumes nothing.
use Rattle.std.proofs.Common.{arith, refl}
use Rattle.insertion.proofs.Entering.{carried_told, entered_place, known, order_entered, ready}
use Rattle.quoting.proofs.Marking.{marked_enterable, marked_entered, marked_fits, numbers_low}
use Rattle.quoting.proofs.enter_marked.Goals as goal

pub bounds-state-a : goal.bounds-state-a
bounds-state-a c = marked_fits c.requires.0 c.args.o c.requires.1 c.place_of-a.ensures

pub overflow_add-number : goal.overflow_add-number
overflow_add-number c = omega (arith, numbers_low c.requires.0 c.args.o c.requires.1 c.in_ok-order_code.ensures refl)

pub arrival_of-arrival-requires : goal.arrival_of-arrival-requires
arrival_of-arrival-requires c =
    known c.requires.0 c.args.o _ _ _ (marked_enterable c.requires.0 c.args.o c.requires.1 c.in_ok-order_code.ensures refl)

pub enter-e-requires : goal.enter-e-requires
enter-e-requires c =
    ready c.requires.0 c.args.o _ _ _ (marked_enterable c.requires.0 c.args.o c.requires.1 c.in_ok-order_code.ensures refl) c.arrival_of-arrival.ensures

pub carried-requires : goal.carried-requires
carried-requires c =
    entered_place c.requires.0 c.args.o _ _ _ (marked_enterable c.requires.0 c.args.o c.requires.1 c.in_ok-order_code.ensures refl)
    c.arrival_of-arrival.ensures _ _ c.enter-e.ensures

pub returns-clause-outcome : goal.returns-clause-outcome
returns-clause-outcome c =
    let may = marked_enterable c.requires.0 c.args.o c.requires.1 c.in_ok-order_code.ensures refl in
    marked_entered c.requires.0 c.args.o c.requires.1 c.in_ok-order_code.ensures refl
    (carried_told c.carried.ensures (order_entered c.requires.0 c.args.o _ _ _ may c.arrival_of-arrival.ensures _ _ c.enter-e.ensures))
