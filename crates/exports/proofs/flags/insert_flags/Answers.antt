-- `flags::insert_flags` meets its contract: four flags added, each in bits of its own. Assumes nothing.
use Rattle.exports.proofs.FlagsRead.{insert_read}
use Rattle.exports.proofs.flags.insert_flags.Goals as goal

pub returns : goal.returns
returns c = insert_read c.flag_if.ensures.0 c.flag_if-2.ensures.0 c.price_flag.ensures.0 c.time_flag.ensures.0
