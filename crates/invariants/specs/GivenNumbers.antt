-- ORDER NUMBERS AND TIME STAMPS ARE NEVER GIVEN TWICE IN A DAY; AN ORDER KEEPS ITS NUMBER FOR LIFE: the words of law 7, of every command but
-- settle on a well-formed state (`x` before, `y` after) and of a list of them. The theorems stand in proofs/GivenNumbers.antt. Assumes nothing.
use Rattle.std.specs.Prelude.{Bool, true, ◌&&◌, ◌||◌, List, [], ◌∷◌, ◌++◌, ◌≡◌, ℕ, zero, suc, ◌-◌, ◌≤◌, eqb, leb}
use Rattle.laws.specs.Choice.{all_of, pick}
use Rattle.rules.specs.Command.{is_insert, is_quote}
use Rattle.rules.specs.Exchange.{Exchange, listing_at, own}
use Rattle.rules.specs.Memory.{Memory, exchange_of, respond}
use Rattle.rules.specs.Step.{has_number, is_of}
use Rattle.rules.specs.WellFormed.{used_once}
use Rattle.rules.specs.declared.Answer.{Answer}
use Rattle.rules.specs.declared.Command.{Command}
use Rattle.rules.specs.declared.Order.{Order}
use Rattle.invariants.specs.RestingOrders.{some_order}

-- ---- given once

-- so many numbers from one on
unfoldable pub up_from : ℕ → ℕ → List ℕ
up_from n zero = []
up_from n (suc k) = n ∷ up_from (suc n) k

-- how many order numbers an accepted command takes: an insert one, a quote two, its buy's and the next for its sell
abbrev pub numbers_taken : Command → ℕ
numbers_taken command = pick (is_insert command) 1 (pick (is_quote command) 2 0)

-- the order numbers that an answer gives: a refusal none
abbrev pub numbers_given : Command → Answer → List ℕ
numbers_given command answer = pick (eqb answer.code 0) (up_from answer.number (numbers_taken command)) []

-- the time stamps that a command uses up: from the next of before on, as many as the next has risen
abbrev pub stamps_given : Exchange → Exchange → List ℕ
stamps_given x y = up_from x.nextstamp (y.nextstamp - x.nextstamp)

-- .. and those of a list of commands
unfoldable pub all_numbers_given : Memory → List Command → List ℕ
all_numbers_given m [] = []
all_numbers_given m (c ∷ cs) = numbers_given c (respond m c).answer ++ all_numbers_given (respond m c).memory cs

unfoldable pub all_stamps_given : Memory → List Command → List ℕ
all_stamps_given m [] = []
all_stamps_given m (c ∷ cs) = stamps_given (exchange_of m) (exchange_of (respond m c).memory) ++ all_stamps_given (respond m c).memory cs

-- Of a list of commands without settlements no order number is in two answers, and no time stamp is used up twice.
pub record GivenOnce (m : Memory) (cs : List Command) : Type 0 where
  pub numbers : used_once (all_numbers_given m cs) ≡ true
  pub stamps : used_once (all_stamps_given m cs) ≡ true

-- ---- for life

-- the same order: number, account, open or close. Its price and its lots may have been changed.
abbrev pub is_same_order : Order → Order → Bool
is_same_order o p = has_number o.number p && is_of o.account p && eqb p.close o.close

-- the order is one of those, or has a number that had not been given
abbrev pub keeps_number : ℕ → List Order → Order → Bool
keeps_number next before o = leb next o.number || some_order (is_same_order o) before

-- it has the time stamp that it had, or one that had not been given
abbrev pub keeps_stamp : ℕ → List Order → Order → Bool
keeps_stamp nextstamp before o = leb nextstamp o.stamp || some_order (λ p. has_number o.number p && eqb p.stamp o.stamp) before

pub record NumbersForLife (x y : Exchange) : Type 0 where
  -- the next order number and the next time stamp never fall
  pub next : x.next ≤ y.next
  pub nextstamp : x.nextstamp ≤ y.nextstamp
  -- An order that rests has a number that had not been given before; or it is the order that had this number before, in the same contract,
  -- on the same side, of the same account, to open or to close as it was.
  pub orders : (c : ℕ) (sell : Bool) → all_of (keeps_number x.next (own sell (listing_at x c))) (own sell (listing_at y c)) ≡ true
  -- Its time stamp is the one that it had, or one that had not been given before.
  pub stamps : (c : ℕ) (sell : Bool) → all_of (keeps_stamp x.nextstamp (own sell (listing_at x c))) (own sell (listing_at y c)) ≡ true
