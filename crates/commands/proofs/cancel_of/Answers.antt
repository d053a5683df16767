-- `commands::cancel_of` meets its contract: the operator's bit is read as the definition reads it. Assumes nothing.
use borrow.Author.Tests.{le-leb}
use Rattle.laws.specs.Choice.{all_of}
use Rattle.rules.specs.Command.{zeros, cancel_of}
use Rattle.commands.proofs.Flags.{masked_low}
use Rattle.commands.proofs.cancel_of.Goals as goal

pub returns : goal.returns
unfolding zeros all_of cancel_of
returns c = rw (← c.all_zero.ensures, c.if-not-all_zero.false, le-leb _ _ c.if-flags-gt1.false, masked_low c.args.r.flags 1)
