-- What entering an order asks for, and what it leaves, for its contract. Assumes nothing.
use Rattle.std.specs.Prelude.{Bool, List, ◌≡◌, ℕ, ◌+◌, ◌*◌, ◌≤◌, length}
use Rattle.areas.specs.Records.{store}
use Rattle.rules.specs.Holdings.{book_trades}
use Rattle.rules.specs.Matching.{Entered, enter, traded_lots, last_price}
use Rattle.rules.specs.Memory.{queue_in, put_queue, trade_words, trade_stride, first_word}
use Rattle.rules.specs.declared.Account.{Account}
use Rattle.rules.specs.declared.Taker.{Taker}
use Rattle.matching.specs.Sweep.{SweepReady}
use Rattle.matching.specs.declared.entry.Entry.{Entry}

-- all that the sweep asks for, and room for the own queue with what rests
pub record EntryReady
    (t : Taker) (lots price : ℕ) (day : Bool) (last : ℕ) (held : List Account) (owns : List ℕ) (own : ℕ) (opposites : List ℕ)
    (opposite : ℕ) (area : List ℕ) (before : ℕ) : Type 0 where
  pub sweeps : SweepReady t lots last held opposites opposite area before
  pub rests : first_word t.contract (length (enter t lots price day last (queue_in owns t.contract own) (queue_in opposites t.contract opposite)).own) ≤ length owns

-- the answer, and all three areas
pub record EntryIs
    (e : Entered) (c : ℕ) (owns : List ℕ) (own : ℕ) (opposites : List ℕ) (opposite : ℕ) (area : List ℕ) (before last₀ : ℕ)
    (held : List Account) (r : Entry) (owns' opposites' area' : List ℕ) : Type 0 where
  pub traded : r.traded ≡ traded_lots e.trades
  pub rested : r.rested ≡ e.rested
  pub own_count : r.own ≡ length e.own
  pub opposite_count : r.opposite ≡ length e.opposite
  pub made : r.made ≡ before + length e.trades
  pub last : r.last ≡ last_price last₀ e.trades
  pub accounts : r.accounts ≡ book_trades held e.trades
  pub own_queue_lem : owns' ≡ put_queue owns c own e.own
  pub opposite_queue_lem : opposites' ≡ put_queue opposites c opposite e.opposite
  pub trades : area' ≡ store trade_words area (trade_stride * before) e.trades
