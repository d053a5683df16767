-- The money side of a run, whatever the commands are called: what of a state is money, what the moves of the rules' Kinds.antt
-- make of it, and the states that a list of moves leads to. A kind of command added later owes that its step makes its move
-- (proofs/EachKind.antt). Assumes nothing.
use Rattle.std.specs.Prelude.{List, [], ◌∷◌, ◌++◌, ◌≡◌, ℕ, ◌<◌, eqb, ℤ, pos, neg_ℤ, ◌+ℤ◌, ◌-ℤ◌, ◌*ℤ◌}
use Rattle.laws.specs.Choice.{pick}
use Rattle.laws.specs.Sums.{sum_to}
use Rattle.rules.specs.Condition3.{net_holding}
use Rattle.rules.specs.Exchange.{Exchange, listing_at, account_at}
use Rattle.rules.specs.Kinds.{Move, pays_in, pays_out, makes, settles}
use Rattle.rules.specs.declared.Trade.{Trade}
use Rattle.accounting.specs.Money.{proceeds, net_at_start, AllKnown}

-- balances by account, net holdings at the start of the day by account and contract, references and multipliers by contract,
-- the day's trades
pub record Books : Type 0 where
  pub balance : ℕ → ℤ
  pub start : ℕ → ℕ → ℤ
  pub reference : ℕ → ℕ
  pub multiplier : ℕ → ℕ
  pub trades : List Trade

unfoldable pub books_of : Exchange → Books
books_of x =
    record {
      balance = λ a. (account_at x.accounts a).balance;
      start = net_at_start x;
      reference = λ c. (listing_at x c).contract.reference;
      multiplier = λ c. (listing_at x c).contract.multiplier;
      trades = x.trades;
    }

-- what a settlement pays for one contract, before the multiplier: today's proceeds, and the net holding at the settlement price
-- now less that at the reference before
unfoldable pub marked : Books → ℕ → ℕ → ℕ → ℤ
marked s price a c =
    proceeds a c s.trades +ℤ pos price *ℤ (s.start a c +ℤ net_holding a c s.trades) -ℤ pos (s.reference c) *ℤ s.start a c

-- the books with one account paid (or paying: less than nothing)
abbrev pub paid_to : Books → ℕ → ℤ → Books
paid_to s account amount =
    record {
      balance = λ a. s.balance a +ℤ pick (eqb account a) amount (pos 0);
      start = s.start;
      reference = s.reference;
      multiplier = s.multiplier;
      trades = s.trades;
    }

-- the books after a move, in a market of so many contracts
unfoldable pub after : ℕ → Books → Move → Books
after contracts s (pays_in account amount) = paid_to s account (pos amount)
after contracts s (pays_out account amount) = paid_to s account (neg_ℤ (pos amount))
after contracts s (makes ts) =
    record { balance = s.balance; start = s.start; reference = s.reference; multiplier = s.multiplier; trades = s.trades ++ ts }
after contracts s (settles price) =
    record {
      balance = λ a. s.balance a +ℤ sum_to contracts (λ c. pos (s.multiplier c) *ℤ marked s (price c) a c);
      start = λ a c. s.start a c +ℤ net_holding a c s.trades;
      reference = price;
      multiplier = s.multiplier;
      trades = [];
    }

-- two books that agree on the accounts and contracts in use
pub record Same (accounts contracts : ℕ) (s s' : Books) : Type 0 where
  pub balance : (a : ℕ) → a < accounts → s.balance a ≡ s'.balance a
  pub start : (a c : ℕ) → a < accounts → c < contracts → s.start a c ≡ s'.start a c
  pub reference : (c : ℕ) → c < contracts → s.reference c ≡ s'.reference c
  pub multiplier : (c : ℕ) → c < contracts → s.multiplier c ≡ s'.multiplier c
  pub trades : s.trades ≡ s'.trades

-- a list of moves leads from books to books; the trades of each day are between accounts in use
pub data Reached (accounts contracts : ℕ) : Books → List Move → Books → Type 0 where
  stay : {s : Books} → Reached accounts contracts s [] s
  move : {s s₁ s₂ : Books} {m : Move} {ms : List Move} →
      AllKnown accounts s.trades → Same accounts contracts (after contracts s m) s₁ → Reached accounts contracts s₁ ms s₂ →
      Reached accounts contracts s (m ∷ ms) s₂

-- ---- what the moves pay an account

unfoldable pub paid_by : ℕ → Move → ℤ
paid_by a (pays_in account amount) = pick (eqb account a) (pos amount) (pos 0)
paid_by a (pays_out account amount) = pick (eqb account a) (neg_ℤ (pos amount)) (pos 0)
paid_by a (makes ts) = pos 0
paid_by a (settles price) = pos 0

unfoldable pub paid : ℕ → List Move → ℤ
paid a [] = pos 0
paid a (m ∷ ms) = paid_by a m +ℤ paid a ms

-- ---- what no settlement changes

-- the balance that the account would have without its holdings: what they were marked at is taken off, what today's trades
-- bring in is added
unfoldable pub cash : ℕ → Books → ℕ → ℤ
cash contracts s a =
    s.balance a +ℤ sum_to contracts (λ c. pos (s.multiplier c) *ℤ (proceeds a c s.trades -ℤ pos (s.reference c) *ℤ s.start a c))

-- the net holding now
unfoldable pub position : Books → ℕ → ℕ → ℤ
position s a c = s.start a c +ℤ net_holding a c s.trades

-- what trades bring in over all contracts, times multiplier
unfoldable pub brought : ℕ → Books → ℕ → List Trade → ℤ
brought contracts s a ts = sum_to contracts (λ c. pos (s.multiplier c) *ℤ proceeds a c ts)

-- in each contract as many lots are long as short
unfoldable pub Level : ℕ → ℕ → Books → Type 0
Level accounts contracts s = (c : ℕ) → c < contracts → sum_to accounts (λ a. s.start a c) ≡ pos 0
