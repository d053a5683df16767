-- The holdings of the accounts before the index are written. Assumes nothing.
use Rattle.std.proofs.Common.{get_or}
use Rattle.rules.specs.Exchange.{no_account}
use Rattle.sections.specs.Sections.{account_holdings}
use Rattle.sections.proofs.Rows.{Telling}
use Rattle.sections.proofs.put_holdings.Given as goal

abbrev pub invariant-loop-a : goal.invariant-loop-a
invariant-loop-a l = Telling (λ k. account_holdings (get_or l.fn.accounts k no_account) l.contracts) l.count l.fn.out l.at l.a-index l.next l.out
