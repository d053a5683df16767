-- Assumes nothing.
use Rattle.std.proofs.Common.{sym, ◌∙◌, arith}
use Rattle.laws.specs.Choice.{all_none, all_more, all_stop}
use Rattle.rules.specs.DayFile.{contract_place}
use Rattle.dayfile.proofs.head.contracts_sound.Goals as goal

pub loop-c-init : goal.loop-c-init
loop-c-init c = all_none _

pub contract_sound-requires : goal.contract_sound-requires
unfolding contract_place
contract_sound-requires c = (omega arith, omega arith)

pub returns-then-not-contract_sound : goal.returns-then-not-contract_sound
returns-then-not-contract_sound c = sym (all_stop _ _ _ c.loop-c-test.true (sym c.contract_sound.ensures ∙ c.if-not-contract_sound.true))

pub loop-c-preserved : goal.loop-c-preserved
loop-c-preserved c = all_more _ _ c.loop-c.invariant (sym c.contract_sound.ensures ∙ c.if-not-contract_sound.false)
