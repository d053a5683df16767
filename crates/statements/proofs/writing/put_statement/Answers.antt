-- The three sections, each after its count.
use native.Mathlib.Omega.{arith}
use Rattle.statements.proofs.Sections.{few_entries, room_first, room_second, room_third, room_fourth, room_fifth, room_sixth, all_told}
use Rattle.statements.proofs.writing.put_statement.Goals as goal

pub put_u32-first-requires : goal.put_u32-first-requires
put_u32-first-requires c = room_first _ _ _ _ _ _ c.args.out.now c.requires.room

pub put_trades-second-requires : goal.put_trades-second-requires
put_trades-second-requires c =
    record {
      count_in_bounds = (c.requires.area_room, room_second _ _ _ _ _ _ _ c.requires.room c.put_u32-first.ensures);
      by_index = c.requires.each;
    }

pub overflow_mul-entries : goal.overflow_mul-entries
overflow_mul-entries c = omega (arith, few_entries c.requires.few_clients c.requires.few_contracts)

pub overflow_cast-entries : goal.overflow_cast-entries
overflow_cast-entries c = omega (arith, few_entries c.requires.few_clients c.requires.few_contracts)

pub put_u32-third-requires : goal.put_u32-third-requires
put_u32-third-requires c = room_third _ _ _ _ _ _ _ c.requires.room c.put_u32-first.ensures c.put_trades-second.ensures

pub put_holdings-fourth-requires : goal.put_holdings-fourth-requires
put_holdings-fourth-requires c = (
  omega (arith, c.requires.few_clients),
  c.requires.few_contracts,
  room_fourth _ _ _ _ _ _ _ c.requires.room c.put_u32-first.ensures c.put_trades-second.ensures c.put_u32-third.ensures,
)

pub put_u32-fifth-requires : goal.put_u32-fifth-requires
put_u32-fifth-requires c =
    room_fifth _ _ _ _ _ _ _ c.requires.room c.put_u32-first.ensures c.put_trades-second.ensures
    c.put_u32-third.ensures c.put_holdings-fourth.ensures

pub put_profits-requires : goal.put_profits-requires
put_profits-requires c = (
  c.requires.few_clients,
  room_sixth _ _ _ _ _ _ _ c.requires.room c.put_u32-first.ensures c.put_trades-second.ensures
      c.put_u32-third.ensures c.put_holdings-fourth.ensures c.put_u32-fifth.ensures,
)

pub returns : goal.returns
returns c =
    all_told _ _ _ _ _ _ _ c.requires.room c.put_u32-first.ensures c.put_trades-second.ensures
    c.put_u32-third.ensures c.put_holdings-fourth.ensures c.put_u32-fifth.ensures c.put_profits.ensures
