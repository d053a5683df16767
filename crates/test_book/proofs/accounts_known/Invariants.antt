-- The orders passed are of known accounts. Assumes nothing.
use Rattle.std.proofs.Common.{ℕ, ◌<◌, get_or}
use Rattle.rules.specs.Bounds.{max_accounts}
use Rattle.rules.specs.Exchange.{no_order}
use Rattle.test_book.proofs.accounts_known.Given as goal

abbrev pub invariant-loop-i : goal.invariant-loop-i
invariant-loop-i l = (k : ℕ) → k < l.i → (get_or l.queue k no_order).account < max_accounts
