use Rattle.std.proofs.Common.{◌≡◌, ℕ, ◌<◌, get_or}
use Rattle.rules.specs.Exchange.{no_order}
use Rattle.rules.specs.Memory.{word_of}
use Rattle.audit.proofs.numbers.list_queue.Given as goal

abbrev pub invariant-loop-i : goal.invariant-loop-i
invariant-loop-i l = (k : ℕ) → k < l.i → get_or l.values k 0 ≡ word_of l.word (get_or l.queue k no_order)
