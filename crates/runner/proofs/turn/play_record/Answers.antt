-- The step leaves counts in range; then its lines. Assumes nothing.
use Rattle.runner.proofs.Responded.{counts_in_range_lem, turn_is}
use Rattle.runner.proofs.turn.play_record.Goals as goal

pub put_response-end-requires : goal.put_response-end-requires
put_response-end-requires c = (counts_in_range_lem c.requires.0 _ _ c.command_of-command.ensures c.step-response.ensures, c.requires.1)

pub returns : goal.returns
returns c = search turn_is
