-- Assumes nothing.
use Rattle.std.proofs.Common.{length, arith}
use Rattle.sections.proofs.Rows.{telling_none, telling_fits, telling_more, telling_done}
use Rattle.saving.specs.Parts.{account_row}
use Rattle.saving.proofs.Sections.{both_written, count_room, length_account, second_room}
use Rattle.saving.proofs.writing.put_account_section.Goals as goal

pub put_u32-next-requires : goal.put_u32-next-requires
put_u32-next-requires c = count_room (length c.args.list.now) (account_row c.args.list.now (length c.args.list.now)) _ _ c.requires.few.1

pub loop-a-init : goal.loop-a-init
loop-a-init c = telling_none _ _ _ _ (omega (arith, second_room _ _ c.put_u32-next.ensures c.requires.few.1))

pub put_account-next-requires : goal.put_account-next-requires
put_account-next-requires c =
    let r = second_room _ _ c.put_u32-next.ensures c.requires.few.1 in
    (telling_fits _ _ _ _ _ _ _ c.loop-a-test.true c.loop-a.invariant (length_account _) r, c.requires.by_index _ c.loop-a-test.true)

pub loop-a-preserved : goal.loop-a-preserved
loop-a-preserved c = telling_more _ _ _ _ _ _ _ c.loop-a-test.true c.loop-a.invariant c.put_account-next.ensures

pub returns : goal.returns
returns c = both_written _ _ c.put_u32-next.ensures (telling_done _ _ _ _ _ _ _ c.loop-a-test.false c.loop-a.invariant)
