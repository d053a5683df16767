-- What `basket::read_commands` leaves: one more command is read, and all are. Assumes nothing.
use Rattle.std.proofs.Common.{ap, ◌∙◌, arith}
use lib.ListN.{length-replicate}
use Rattle.laws.specs.Written.{writing_done, writing_more, writing_none}
use Rattle.rules.specs.Command.{command_of}
use Rattle.rules.specs.declared.Command.TheVariants.{Malformed}
use Rattle.baskets.proofs.basket.read_commands.Goals as goal

pub loop-k-init : goal.loop-k-init
loop-k-init c = writing_none _ _ _

pub loop-k-preserved : goal.loop-k-preserved
loop-k-preserved c =
    writing_more _ _ _ (omega (arith, length-replicate 100 Malformed)) _ _ _ c.loop-k-test.true
    (c.command_of.ensures ∙ ap command_of c.record_at-record.ensures) c.loop-k.invariant

pub returns : goal.returns
returns c = writing_done _ _ _ _ _ (omega arith) c.loop-k.invariant
