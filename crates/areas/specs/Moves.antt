-- A part of an area whose words move by w places, as opening or closing a gap moves them. Assumes nothing.
use Rattle.std.specs.Prelude.{ℕ, ◌-◌, List, ◌++◌, length, take, drop, replicate}

-- all but the last w moved back by w; the first w stay as they were
unfoldable pub moved_back : ℕ → List ℕ → List ℕ
moved_back w p = take w p ++ take (length p - w) p

-- all but the first w moved forward by w; the last w stay as they were
unfoldable pub moved_forward : ℕ → List ℕ → List ℕ
moved_forward w p = drop w p ++ drop (length p - w) p

-- the first w taken out: the others moved to the front, and zeros behind them
unfoldable pub closed_up : ℕ → List ℕ → List ℕ
closed_up w p = drop w p ++ replicate w 0
