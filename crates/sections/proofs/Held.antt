-- A holding as bytes. Assumes nothing.
use mathlib.Core.List.{List}
use mathlib.Core.Path.{◌≡◌, refl}
use Prim.Native.Nat.{ℕ}
use lib.ListN.{length}
use Rattle.rules.specs.declared.Holding.{Holding}
use Rattle.endian.specs.Numbers.{two, four}
use Rattle.endian.specs.Written.{Written}
use Rattle.endian.proofs.Writes.{then}
use Rattle.sections.specs.Sections.{holding_bytes, holding_width}

pub holding_written : {before middle after : List ℕ} {at j next : ℕ} (h : Holding) → Written 4 before at (four h.long) middle j → Written 4 middle j (four h.short) after next
    → Written holding_width before at (holding_bytes h) after next
unfolding holding_bytes
holding_written h w v = then w v

pub length_holding : (h : Holding) → length (holding_bytes h) ≡ holding_width
unfolding holding_bytes four two
length_holding h = refl
