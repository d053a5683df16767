-- `flags::removal_flags` meets its contract. Assumes nothing.
use Rattle.exports.proofs.FlagsRead.{removal_read}
use Rattle.exports.proofs.flags.removal_flags.Goals as goal

pub returns : goal.returns
returns c = removal_read _ c.flag_if.ensures.0
