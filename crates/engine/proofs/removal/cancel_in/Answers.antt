-- Each return by its law in Removals.antt. Assumes nothing.
use Rattle.std.proofs.Common.{arith, refl}
use Rattle.engine.proofs.Removals.{cancel_none, cancel_another, cancel_done, found}
use Rattle.engine.proofs.removal.cancel_in.Goals as goal

pub returns-in_default : goal.returns-in_default
returns-in_default c = (cancel_none _ _ _ _ _ (rw c.new.ensures at c.in_default.ensures), refl)

pub returns-then-found-account : goal.returns-then-found-account
returns-then-found-account c =
    (refl, (cancel_another c.args.account c.args.number c.args.area.now c.args.c c.args.count (rw c.new.ensures at c.in-Some.ensures) c.if-found-account.true, refl))

pub remove-requires : goal.remove-requires
remove-requires c =
    (found c.args.account c.args.number c.args.area.now c.args.c c.args.count (rw c.new.ensures at c.in-Some.ensures), c.requires.0)

pub overflow_sub-result : goal.overflow_sub-result
overflow_sub-result c =
    omega (arith, found c.args.account c.args.number c.args.area.now c.args.c c.args.count (rw c.new.ensures at c.in-Some.ensures))

pub returns : goal.returns
returns c =
    cancel_done c.args.account c.args.number c.args.area.now c.args.c c.args.count (rw c.new.ensures at c.in-Some.ensures) c.requires.1
    c.if-found-account.false c.remove.ensures
