-- Assumes nothing.
use Rattle.std.proofs.Common.{length, arith}
use Rattle.sections.proofs.Rows.{telling_none, telling_fits, telling_more, telling_done}
use Rattle.saving.specs.Parts.{contract_row}
use Rattle.saving.proofs.Sections.{both_written, count_room, length_contract, second_room}
use Rattle.saving.proofs.writing.put_contract_section.Goals as goal

pub put_u32-next-requires : goal.put_u32-next-requires
put_u32-next-requires c = count_room (length c.args.list.now) (contract_row c.args.list.now (length c.args.list.now)) _ _ c.requires.few.1

pub loop-c-init : goal.loop-c-init
loop-c-init c = telling_none _ _ _ _ (omega (arith, second_room _ _ c.put_u32-next.ensures c.requires.few.1))

pub put_contract-next-requires : goal.put_contract-next-requires
put_contract-next-requires c =
    let r = second_room _ _ c.put_u32-next.ensures c.requires.few.1 in
    (telling_fits _ _ _ _ _ _ _ c.loop-c-test.true c.loop-c.invariant (length_contract _) r, c.requires.by_index _ c.loop-c-test.true)

pub loop-c-preserved : goal.loop-c-preserved
loop-c-preserved c = telling_more _ _ _ _ _ _ _ c.loop-c-test.true c.loop-c.invariant c.put_contract-next.ensures

pub returns : goal.returns
returns c = both_written _ _ c.put_u32-next.ensures (telling_done _ _ _ _ _ _ _ c.loop-c-test.false c.loop-c.invariant)
