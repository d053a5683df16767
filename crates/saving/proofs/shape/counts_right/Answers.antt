-- Assumes nothing.
use Rattle.saving.proofs.Shapes.{holdings_wrong, one_decides}
use Rattle.saving.proofs.shape.counts_right.Goals as goal

pub returns-then-holdings-file : goal.returns-then-holdings-file
returns-then-holdings-file c = holdings_wrong _ _ _ c.args.file.now.laid _ c.u32_at-holdings.ensures c.if-holdings-file.true

pub returns : goal.returns
returns c = one_decides _ _ _ c.args.file.now.laid _ c.u32_at-holdings.ensures c.if-holdings-file.false _ c.u32_at.ensures
