-- A client closes too much, the area is too short, or the day is told.
use native.Mathlib.Omega.{arith}
use Rattle.std.proofs.Common.{sym}
use Rattle.statements.proofs.Days.{covered_is, profitable, replayable, size_most, tellable, told_short, told_uncovered, told_whole}
use Rattle.statements.proofs.broker.tell.Goals as goal

pub replay-requires : goal.replay-requires
replay-requires c = replayable c.requires c.client_accounts-accounts.ensures

pub returns-in_default : goal.returns-in_default
returns-in_default c = told_uncovered c.requires c.client_accounts-accounts.ensures c.in_default.ensures

pub overflow_mul-length : goal.overflow_mul-length
overflow_mul-length c = omega (arith, size_most c.requires c.client_accounts-accounts.ensures)

pub overflow_add-length : goal.overflow_add-length
overflow_add-length c = omega (arith, size_most c.requires c.client_accounts-accounts.ensures)

pub overflow_add-length-2 : goal.overflow_add-length-2
overflow_add-length-2 c = omega (arith, size_most c.requires c.client_accounts-accounts.ensures)

pub overflow_add-length-3 : goal.overflow_add-length-3
overflow_add-length-3 c = omega (arith, size_most c.requires c.client_accounts-accounts.ensures)

pub returns-then-out-length : goal.returns-then-out-length
returns-then-out-length c = told_short c.requires c.client_accounts-accounts.ensures c.in-Some.ensures c.if-out-length.true

pub books-books-requires : goal.books-books-requires
books-books-requires c =
    let clients = c.client_accounts-accounts.ensures in
    profitable c.requires clients (sym (covered_is c.requires clients c.in-Some.ensures))

pub put_statement-requires : goal.put_statement-requires
put_statement-requires c =
    tellable c.requires c.client_accounts-accounts.ensures c.in-Some.ensures
    c.books-books.ensures _ c.if-out-length.false

pub returns : goal.returns
returns c =
    told_whole c.requires c.client_accounts-accounts.ensures c.in-Some.ensures
    c.books-books.ensures c.if-out-length.false c.put_statement.ensures
