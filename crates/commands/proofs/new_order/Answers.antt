-- `commands::new_order` meets its contract: `masked` turns each shift and mask into the bits they read. Assumes nothing.
use Rattle.rules.specs.Command.{new_order}
use Rattle.commands.proofs.Flags.{masked, masked_low}
use Rattle.commands.proofs.new_order.Goals as goal

pub returns : goal.returns
unfolding new_order
returns c =
    let f = c.args.r.flags in
    rw (c.price_condition-condition.ensures, c.time_condition-time.ensures, masked f 2 2, masked f 4 2, masked f 1 1, masked_low f 1)
