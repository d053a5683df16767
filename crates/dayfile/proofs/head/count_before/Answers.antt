-- Assumes nothing.
use Rattle.std.proofs.Common.{sym, ◌∙◌, ⊎_elim, arith}
use Rattle.dayfile.proofs.Counts.{as_read, ends_before, none_read, too_many}
use Rattle.dayfile.proofs.head.count_before.Goals as goal

pub returns-then-file-end : goal.returns-then-file-end
returns-then-file-end c = ends_before _ _ _ c.if-file-end.true

pub returns-then-count-eq0 : goal.returns-then-count-eq0
returns-then-count-eq0 c =
    let e = c.u32_at-count.ensures in
    ⊎_elim (λ z. none_read _ _ _ (sym e ∙ z) (omega arith)) (λ k. too_many _ _ _ (omega (arith, e, k.1))) c.then-count-eq0.either

pub returns : goal.returns
returns c = let e = c.u32_at-count.ensures in (e ∙ as_read _ _ _ (omega arith) (omega (arith, e)), omega arith, omega arith)
