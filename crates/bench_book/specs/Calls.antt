-- What the benchmark's calls ask for and what they give, in terms of the rules. Assumes nothing.
use Rattle.std.specs.Prelude.{List, ◌≡◌, ℕ, zero, suc, ◌+◌, ◌*◌, ◌<◌, pos, length, replicate}
use Rattle.areas.specs.Records.{store}
use Rattle.rules.specs.Bounds.{max_contracts, max_accounts}
use Rattle.rules.specs.Command.{price_condition}
use Rattle.rules.specs.Exchange.{holding_at}
use Rattle.rules.specs.Holdings.{book_trades}
use Rattle.rules.specs.Matching.{Entered, enter, last_price}
use Rattle.rules.specs.Memory.{queue_in, put_queue, trade_words, trade_stride}
use Rattle.rules.specs.declared.Account.{Account}
use Rattle.rules.specs.declared.Order.{Order}
use Rattle.rules.specs.declared.PairingMethod.TheVariants.{Middle}
use Rattle.rules.specs.declared.Taker.{Taker}
use Rattle.matching.specs.Entry.{EntryReady}
use Rattle.bench_book.specs.declared.Sweeps.{Sweeps}
use Rattle.bench_book.specs.declared.Swept.{Swept}

abbrev pub order_of : ℕ → ℕ → ℕ → ℕ → ℕ → Order
order_of price number account lots close = record { price = price; number = number; account = account; lots = lots; close = close; stamp = 0; quote = 0 }

abbrev pub taker_of : Sweeps → Taker
taker_of s =
    record {
      account = s.account;
      contract = s.contract;
      sell = s.sell;
      close = s.close;
      number = s.number;
      stamp = s.number;
      quote = 0;
      condition = price_condition s.kind s.price;
      method = Middle;
      best = s.best;
    }

-- 32 accounts that hold as many lots of everything
abbrev pub accounts_of : ℕ → List Account
accounts_of lots =
    replicate max_accounts
    (record { balance = pos 0; maker = 0; holdings = replicate max_contracts (record { long = lots; short = lots; startlong = lots; startshort = lots }) })

-- ---- one order entered again and again

-- the areas, the counts, the last price and the accounts between two orders
pub record Book : Type 0 where
  pub owns : List ℕ
  pub own : ℕ
  pub opposites : List ℕ
  pub opposite : ℕ
  pub area : List ℕ
  pub made : ℕ
  pub last : ℕ
  pub accounts : List Account

abbrev pub start : Sweeps → List ℕ → List ℕ → List ℕ → Book
start s owns opposites area =
    record {
      owns = owns;
      own = s.own;
      opposites = opposites;
      opposite = s.opposite;
      area = area;
      made = s.made;
      last = s.last;
      accounts = accounts_of s.held;
    }

-- what the order does to a book
unfoldable pub outcome : Sweeps → Book → Entered
outcome s b =
    enter (taker_of s) s.lots s.price s.day b.last (queue_in b.owns s.contract b.own) (queue_in b.opposites s.contract b.opposite)

abbrev pub after : Sweeps → Book → Entered → Book
after s b e =
    record {
      owns = put_queue b.owns s.contract b.own e.own;
      own = length e.own;
      opposites = put_queue b.opposites s.contract b.opposite e.opposite;
      opposite = length e.opposite;
      area = store trade_words b.area (trade_stride * b.made) e.trades;
      made = b.made + length e.trades;
      last = last_price b.last e.trades;
      accounts = book_trades b.accounts e.trades;
    }

unfoldable pub entered : Sweeps → Book → ℕ → Book
entered s b zero = b
entered s b (suc n) = after s (entered s b n) (outcome s (entered s b n))

-- what the book asks for, each time
abbrev pub BookReady : Sweeps → Book → Type 0
BookReady s b =
    EntryReady (taker_of s) s.lots s.price s.day b.last b.accounts b.owns b.own b.opposites b.opposite b.area b.made

pub record SweepsReady (s : Sweeps) (times : ℕ) (owns opposites area : List ℕ) : Type 0 where
  pub contract : s.contract < max_contracts
  pub probe : s.probe < max_accounts
  pub each : (n : ℕ) → n < times → BookReady s (entered s (start s owns opposites area) n)

-- the answer, and all three areas
pub record SweptOf (s : Sweeps) (b : Book) (r : Swept) (owns opposites area : List ℕ) : Type 0 where
  pub own : r.own ≡ b.own
  pub opposite : r.opposite ≡ b.opposite
  pub made : r.made ≡ b.made
  pub last : r.last ≡ b.last
  pub long : r.long ≡ (holding_at b.accounts s.probe s.contract).long
  pub short : r.short ≡ (holding_at b.accounts s.probe s.contract).short
  pub own_queue_lem : owns ≡ b.owns
  pub opposite_queue_lem : opposites ≡ b.opposites
  pub trades : area ≡ b.area

abbrev pub SweptIs : Sweeps → ℕ → List ℕ → List ℕ → List ℕ → Swept → List ℕ → List ℕ → List ℕ → Type 0
SweptIs s times owns opposites area r owns' opposites' area' =
    SweptOf s (entered s (start s owns opposites area) times) r owns' opposites' area'
