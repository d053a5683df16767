-- Bytes written into a lent buffer from a place on. Assumes nothing.
use Rattle.std.specs.Prelude.{List, ◌≡◌, ℕ, ◌+◌, ◌≤◌, length}
use Rattle.areas.specs.Lists.{over}

-- `bytes`, at most `most` of them, stand in the buffer from `at` on, all else is as it was, and `next` is the place after them.
-- The last two fields follow, and are there for the caller's next write.
pub record Written (most : ℕ) (before : List ℕ) (at : ℕ) (bytes after : List ℕ) (next : ℕ) : Type 0 where
  pub content : after ≡ over before at bytes
  pub ends : next ≡ at + length bytes
  pub short : length bytes ≤ most
  pub kept : length after ≡ length before
  pub inside : next ≤ length before
