-- One word more is added.
use native.Mathlib.Omega.{arith}
use Rattle.std.proofs.Common.{◌∙◌}
use Rattle.clients.proofs.StartLots.{adding_none, adding_more}
use Rattle.clients.proofs.starts.sum.Goals as goal

pub loop-k-init : goal.loop-k-init
loop-k-init c = adding_none _ _

pub loop-k-preserved : goal.loop-k-preserved
loop-k-preserved c =
    adding_more _ _ _ _ _ c.loop-k-test.true (c.from-lots.ensures ∙ c.word_at.ensures)
    (omega (arith, c.from-lots.ensures, c.word_at.type_inv)) c.loop-k.invariant
