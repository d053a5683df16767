-- The book is the first one with so many orders entered. Assumes nothing.
use Rattle.std.proofs.Common.{◌≡◌}
use Rattle.bench_book.proofs.Runs.{book_of}
use Rattle.bench_book.specs.Calls.{start, entered}
use Rattle.bench_book.proofs.bench_sweeps.Given as goal

abbrev pub invariant-loop-done : goal.invariant-loop-done
invariant-loop-done l =
    book_of l.own l.own_count l.opposite l.opposite_count l.trades l.made l.last l.accounts
    ≡ entered l.s (start l.s l.fn.own l.fn.opposite l.fn.trades) l._done
