-- `answers::absent_code` meets its contract: the two tests in their order. Assumes nothing.
use Rattle.std.proofs.Common.{sym, ◌∙◌}
use Rattle.engine.proofs.Named.{account_absent, contract_absent, none_absent}
use Rattle.engine.proofs.answers.absent_code.Goals as goal

pub returns-then-is_absent : goal.returns-then-is_absent
returns-then-is_absent c = account_absent c.requires _ _ (sym c.is_absent.ensures ∙ c.if-is_absent.true)

pub returns-then-is_absent-2 : goal.returns-then-is_absent-2
returns-then-is_absent-2 c = contract_absent c.requires _ _ (sym c.is_absent.ensures ∙ c.if-is_absent.false) (sym c.is_absent-2.ensures ∙ c.if-is_absent-2.true)

pub returns : goal.returns
returns c = none_absent c.requires _ _ (sym c.is_absent.ensures ∙ c.if-is_absent.false) (sym c.is_absent-2.ensures ∙ c.if-is_absent-2.false)
