-- What stands after trades are made one after the other. Assumes nothing.
use Rattle.std.specs.Prelude.{List, ◌≡◌, ℕ, ◌+◌, ◌*◌, length}
use Rattle.areas.specs.Records.{store}
use Rattle.rules.specs.Holdings.{book_trades}
use Rattle.rules.specs.Matching.{traded_lots, last_price}
use Rattle.rules.specs.Memory.{trade_words, trade_stride}
use Rattle.rules.specs.declared.Account.{Account}
use Rattle.rules.specs.declared.Trade.{Trade}

-- lots traded, trades of the day, the last price and the accounts, and the trades at the next free places of their area
pub record AllBooked (ts : List Trade) (before last₀ : ℕ) (held₀ : List Account) (area₀ : List ℕ) (done made₁ last₁ : ℕ) (held : List Account) (area : List ℕ) : Type 0 where
  pub traded : done ≡ traded_lots ts
  pub made : made₁ ≡ before + length ts
  pub last : last₁ ≡ last_price last₀ ts
  pub accounts : held ≡ book_trades held₀ ts
  pub trades : area ≡ store trade_words area₀ (trade_stride * before) ts
