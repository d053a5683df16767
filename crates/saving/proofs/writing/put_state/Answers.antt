-- The four sections. Assumes nothing.
use Rattle.std.proofs.Common.{arith, length-take-le}
use Rattle.saving.proofs.Sections.{all_written, first_accounts, first_contracts, room_first, room_last, room_second, room_third}
use Rattle.saving.proofs.writing.put_state.Goals as goal

pub put_contract_section-first-requires-clause-few : goal.put_contract_section-first-requires-clause-few
put_contract_section-first-requires-clause-few c =
    let s = c.args.state in
    let n = length-take-le s.contractcount s.contracts (omega (arith, c.requires.contracts)) in
    let e = first_contracts s.contracts s.contractcount (omega (arith, c.requires.contracts)) in
    (omega (arith, c.requires.contracts), rw e (room_first s c.args.out.now c.requires.room))

pub put_account_section-second-requires-clause-few : goal.put_account_section-second-requires-clause-few
put_account_section-second-requires-clause-few c =
    let s = c.args.state in
    let n = length-take-le s.accountcount s.accounts (omega (arith, c.requires.accounts)) in
    let e = first_contracts s.contracts s.contractcount (omega (arith, c.requires.contracts)) in
    let f = first_accounts s.accounts s.accountcount (omega (arith, c.requires.accounts)) in
    (omega (arith, c.requires.accounts), rw f (room_second s c.args.out.now c.requires.room (rw e at c.put_contract_section-first.ensures)))

pub put_holding_section-third-requires : goal.put_holding_section-third-requires
put_holding_section-third-requires c =
    let s = c.args.state in
    let e = first_contracts s.contracts s.contractcount (omega (arith, c.requires.contracts)) in
    let f = first_accounts s.accounts s.accountcount (omega (arith, c.requires.accounts)) in (
      c.requires.accounts,
      c.requires.contracts,
      room_third s c.args.out.now c.requires.room (rw e at c.put_contract_section-first.ensures) (rw f at c.put_account_section-second.ensures),
    )

pub put_settlements-requires : goal.put_settlements-requires
put_settlements-requires c =
    let s = c.args.state in
    let e = first_contracts s.contracts s.contractcount (omega (arith, c.requires.contracts)) in
    let f = first_accounts s.accounts s.accountcount (omega (arith, c.requires.accounts)) in
    room_last s c.args.out.now c.requires.room (rw e at c.put_contract_section-first.ensures) (rw f at c.put_account_section-second.ensures)
    c.put_holding_section-third.ensures

pub returns : goal.returns
returns c =
    let s = c.args.state in
    let e = first_contracts s.contracts s.contractcount (omega (arith, c.requires.contracts)) in
    let f = first_accounts s.accounts s.accountcount (omega (arith, c.requires.accounts)) in
    all_written s c.args.out.now c.requires.room (rw e at c.put_contract_section-first.ensures) (rw f at c.put_account_section-second.ensures)
    c.put_holding_section-third.ensures c.put_settlements.ensures
