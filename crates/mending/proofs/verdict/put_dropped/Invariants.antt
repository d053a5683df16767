-- The dropped ones of the first k records are listed. Assumes nothing.
use Rattle.std.proofs.Common.{◌≡◌, ◌*◌}
use Rattle.endian.specs.Written.{Written}
use Rattle.mending.specs.Mend.{kept, dropped, entry_width}
use Rattle.mending.proofs.verdict.put_dropped.Given as goal

abbrev pub invariant-loop-k : goal.invariant-loop-k
invariant-loop-k l = record {
  counted : l.kept ≡ kept l.file l.first l.k;
  written : Written (entry_width * l.k) l.fn.list l.at (dropped l.file l.first l.k) l.list l.next;
}
