-- The queue that `side` gives, told by its place. Assumes nothing.
use Rattle.std.proofs.Common.{arith}
use Rattle.exports.proofs.Parts.{empty_part, placed, whole_part}
use Rattle.exports.proofs.side.side_part.Goals as goal

pub returns-then-words-eq0 : goal.returns-then-words-eq0
returns-then-words-eq0 c = empty_part _ _ _ _ _ c.count_of-count.ensures c.side-queue.ensures c.if-words-eq0.true

pub overflow_sub-result : goal.overflow_sub-result
overflow_sub-result c = let p = placed _ _ _ _ _ c.count_of-count.ensures c.side-queue.ensures c.if-words-eq0.false in omega arith

pub overflow_mul-result : goal.overflow_mul-result
overflow_mul-result c = let p = placed _ _ _ _ _ c.count_of-count.ensures c.side-queue.ensures c.if-words-eq0.false in omega arith

pub returns : goal.returns
returns c = whole_part _ _ _ _ _ c.count_of-count.ensures c.side-queue.ensures c.if-words-eq0.false
