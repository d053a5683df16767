-- The byte is stored at its place. Assumes nothing.
use Rattle.endian.proofs.Writes.{one_byte}
use Rattle.endian.proofs.writing.put_byte.Goals as goal

pub returns : goal.returns
returns c = one_byte _ _ _ c.requires
