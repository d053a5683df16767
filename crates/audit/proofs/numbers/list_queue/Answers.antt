use Rattle.std.proofs.Common.{arith}
use Rattle.rules.specs.Memory.{word_of}
use Rattle.audit.proofs.FieldLists.{queue_values}
use Rattle.audit.proofs.numbers.list_queue.Goals as goal

pub returns : goal.returns
returns c = queue_values (word_of c.args.word) _ _ (omega arith) (λ k h. c.loop-i.invariant k (omega arith))
