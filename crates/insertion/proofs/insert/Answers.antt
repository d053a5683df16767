-- `insertion::insert` meets its contract: a refusal leaves all as it was, and an accepted order arrives with the next number. Assumes nothing.
use Rattle.std.proofs.Common.{arith, refl, sym}
use Rattle.theory.proofs.Codes.{not_accepted}
use Rattle.engine.proofs.Decisions.{refusal_decided, refusal_passed}
use Rattle.engine.proofs.Outcomes.{refusal}
use Rattle.insertion.proofs.Arriving.{arrived_decided}
use Rattle.insertion.proofs.Entering.{enterable, insert_entered, known, next_low, order_entered, ready}
use Rattle.insertion.proofs.insert.Goals as goal

pub returns-in_err-code_of : goal.returns-in_err-code_of
returns-in_err-code_of c =
    refusal_decided (refusal _ _ _ _ _ _ (omega (arith, not_accepted c.in_err-code_of.field-0.0)) (sym c.in_err-code_of.ensures) refl) (refusal_passed _ _ c.from_residual.ensures.1)

pub overflow_add-number : goal.overflow_add-number
overflow_add-number c = omega (arith, next_low c.requires.0 c.args.o (sym c.in_ok-code_of.ensures))

pub arrival_of-a-requires : goal.arrival_of-a-requires
arrival_of-a-requires c = known c.requires.0 c.args.o _ _ _ (enterable c.requires.0 c.args.o (sym c.in_ok-code_of.ensures))

pub arrive-requires : goal.arrive-requires
arrive-requires c = (ready c.requires.0 c.args.o _ _ _ (enterable c.requires.0 c.args.o (sym c.in_ok-code_of.ensures)) c.arrival_of-a.ensures).arrives

pub returns : goal.returns
returns c =
    let may = enterable c.requires.0 c.args.o (sym c.in_ok-code_of.ensures) in
    arrived_decided (ready c.requires.0 c.args.o _ _ _ may c.arrival_of-a.ensures)
    (λ r buys' sells' trades' k. insert_entered c.requires.0 c.args.o (sym c.in_ok-code_of.ensures) (order_entered c.requires.0 c.args.o _ _ _ may c.arrival_of-a.ensures buys' sells' k))
    c.arrive.ensures
