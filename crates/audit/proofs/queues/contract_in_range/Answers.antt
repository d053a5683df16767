use Rattle.std.proofs.Common.{sym, ◌∙◌}
use Rattle.theory.proofs.Terms.{terms}
use Rattle.audit.proofs.queues.contract_in_range.Goals as goal
use Rattle.audit.proofs.queues.contract_in_range.Goals.{then-terms_in_range, else-terms_in_range}

pub tick_multiple-requires : goal.tick_multiple-requires
tick_multiple-requires c =
    elim c.if-terms_in_range.branch [
      | then-terms_in_range w ↦ (terms _ (sym c.terms_in_range.ensures ∙ w.if-terms_in_range.true)).tick_low
      | else-terms_in_range w ↦ absurd (cc)
    ]
