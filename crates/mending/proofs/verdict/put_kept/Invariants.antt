-- The kept ones of the first k records are written. Assumes nothing.
use Rattle.std.proofs.Common.{◌≡◌, ◌*◌}
use Rattle.rules.specs.DayFile.{command_width}
use Rattle.endian.specs.Written.{Written}
use Rattle.mending.specs.Mend.{kept, kept_bytes}
use Rattle.mending.proofs.verdict.put_kept.Given as goal

abbrev pub invariant-loop-k : goal.invariant-loop-k
invariant-loop-k l = record {
  counted : l.kept ≡ kept l.file l.first l.k;
  written : Written (command_width * l.k) l.fn.out l.at (kept_bytes l.file l.first l.k) l.out l.next;
}
