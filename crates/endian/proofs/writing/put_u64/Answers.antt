-- The bytes copied are those that are told. Assumes nothing.
use Rattle.laws.specs.Logic.{◌∙◌}
use Rattle.laws.specs.Numbers.{arith}
use Rattle.endian.proofs.Writes.{copied, length_eight, eight_is}
use Rattle.endian.proofs.writing.put_u64.Goals as goal

pub returns : goal.returns
returns c = copied _ _ _ _ 8 c.requires (length_eight c.args.n) (c.copy_from_slice.ensures.after ∙ c.to_le_bytes.ensures ∙ eight_is c.args.n (omega arith))
