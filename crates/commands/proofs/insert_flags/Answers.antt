-- `commands::insert_flags` meets its contract: `masked` turns each shift and mask into the bits they read. Assumes nothing.
use borrow.Author.Tests.{eq-eqb, ne_eqb, le-ltb, lt-ltb}
use Rattle.rules.specs.Command.{insert_flags}
use Rattle.commands.proofs.Flags.{masked}
use Rattle.commands.proofs.insert_flags.Goals as goal

pub returns-then-flags-ne0 : goal.returns-then-flags-ne0
unfolding insert_flags
returns-then-flags-ne0 c = rw (← masked c.args.flags 6 2, ne_eqb _ _ c.if-flags-ne0.true)

pub returns-then-flags-ge3 : goal.returns-then-flags-ge3
unfolding insert_flags
returns-then-flags-ge3 c =
    let f = c.args.flags in
    rw (← masked f 6 2, ← masked f 2 2, eq-eqb _ _ c.if-flags-ne0.false, le-ltb _ _ c.if-flags-ge3.true)

pub returns : goal.returns
unfolding insert_flags
returns c =
    let f = c.args.flags in
    rw (← masked f 6 2, ← masked f 2 2, ← masked f 4 2, eq-eqb _ _ c.if-flags-ne0.false, lt-ltb _ _ c.if-flags-ge3.false)
