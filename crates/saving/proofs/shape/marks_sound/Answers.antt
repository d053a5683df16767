-- Assumes nothing.
use Rattle.std.proofs.Common.{refl, sym, arith}
use Rattle.laws.specs.Choice.{all_more, all_none, all_stop}
use Rattle.saving.proofs.Shapes.{mark_right, mark_wrong}
use Rattle.saving.proofs.shape.marks_sound.Goals as goal

pub loop-a-init : goal.loop-a-init
loop-a-init c = all_none _

pub u8_at-requires : goal.u8_at-requires
u8_at-requires c = omega (arith, c.args.file.now.laid.few_accounts, c.args.file.now.laid.few_contracts, c.args.file.now.laid.ends)

pub returns-then-u8_at-gt1 : goal.returns-then-u8_at-gt1
returns-then-u8_at-gt1 c =
    sym (all_stop _ _ _ c.loop-a-test.true (mark_wrong _ _ _ c.args.file.now.laid _ _ _ refl c.u8_at.ensures c.if-u8_at-gt1.true))

pub loop-a-preserved : goal.loop-a-preserved
loop-a-preserved c = all_more _ _ c.loop-a.invariant (mark_right _ _ _ c.args.file.now.laid _ _ _ refl c.u8_at.ensures c.if-u8_at-gt1.false)
