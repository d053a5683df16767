use Rattle.book.specs.Removal.{is_pulled}
use Rattle.book.proofs.Pulls.{Pulling}
use Rattle.book.proofs.removal.pull.Given as goal

abbrev pub invariant-loop-i : goal.invariant-loop-i
invariant-loop-i l = Pulling (is_pulled l.quote l.account) l.initial.area l.c l.count l.area l.kept l.lots l.i
