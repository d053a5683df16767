-- WHAT A COMMAND MAY TOUCH: the words of laws that hold of the rules' `step`, of every command on every state (`x` before, `y` after). The
-- theorems stand in proofs/Touches.antt; those that need a well-formed state have their words in the crate invariants. Assumes nothing.
use Rattle.std.specs.Prelude.{Bool, true, false, not, List, [], ◌∷◌, ◌++◌, map, ◌≡◌, ℕ, ◌+◌, eqb}
use Rattle.laws.specs.Choice.{pick}
use Rattle.rules.specs.Command.{Field, unused, holds, account_field, contract_field, is_payment}
use Rattle.rules.specs.Exchange.{Exchange, absent, contract_at, held_at, holder_at, listing_at, listing_named, own, place_of}
use Rattle.rules.specs.Holdings.{book_trades}
use Rattle.rules.specs.Kinds.{code_of, decide, step}
use Rattle.rules.specs.Step.{is_of}
use Rattle.rules.specs.declared.Account.{Account}
use Rattle.rules.specs.declared.Command.{Command}
use Rattle.rules.specs.declared.Holding.{Holding}
use Rattle.rules.specs.declared.Order.{Order}
use Rattle.rules.specs.declared.Trade.{Trade}

-- ---- what a command names

-- the field is used and has a number that none of the places has: 0, left blank, or above their count
abbrev pub is_blank : {A : Type 0} → Field → List A → Bool
is_blank unused places = false
is_blank (holds number) places = absent number places

-- the field has the number of this place; a blank one names none
abbrev pub names : Field → ℕ → Bool
names unused place = false
names (holds number) place = eqb number (place + 1)

-- ---- 1. A COMMAND THAT IS REFUSED CHANGES NOTHING, and given again at once gets the same answer.

pub record RefusedChangesNothing (x : Exchange) (command : Command) : Type 0 where
  pub unchanged : (code_of x command ≡ 0 → ⊥) → step x command ≡ x
  pub again : (code_of x command ≡ 0 → ⊥) → decide (step x command) command ≡ decide x command

-- ---- 2. A BLANK FIELD NAMES NOTHING: a command whose contract or account is blank or absent is refused and changes nothing.

pub record RefusedAndUnchanged (x : Exchange) (command : Command) : Type 0 where
  pub refused : code_of x command ≡ 0 → ⊥
  pub unchanged : step x command ≡ x

pub record BlankIsRefused (x : Exchange) (command : Command) : Type 0 where
  pub contract : is_blank (contract_field command) x.listings ≡ true → RefusedAndUnchanged x command
  pub account : is_blank (account_field command) x.accounts ≡ true → RefusedAndUnchanged x command

-- ---- 3. NO OTHER CONTRACT: a command other than settle changes no queue, term, state or price of another contract than the one that it
-- names, and nobody's holding in it.

pub record ContractStays (c : ℕ) (x y : Exchange) : Type 0 where
  pub listing : listing_at y c ≡ listing_at x c
  pub held : (a : ℕ) → held_at y a c ≡ held_at x a c

-- ---- 4. A PULL LEAVES IN ITS CONTRACT EXACTLY THE OTHER ACCOUNTS' ORDERS, in their order, and changes nothing else.

-- the orders of a queue that satisfy a test, in their order; those of an account
unfoldable pub orders_where : (Order → Bool) → List Order → List Order
orders_where test [] = []
orders_where test (o ∷ os) = pick (test o) (o ∷ orders_where test os) (orders_where test os)

abbrev pub orders_of : ℕ → List Order → List Order
orders_of a queue = orders_where (is_of a) queue

-- nothing has changed but the two queues of the contract at a place
pub record QueuesAlone (x : Exchange) (c : ℕ) (y : Exchange) : Type 0 where
  pub terms : contract_at y c ≡ contract_at x c
  pub others : (d : ℕ) → (d ≡ c → ⊥) → listing_at y d ≡ listing_at x d
  pub accounts : y.accounts ≡ x.accounts
  pub trades : y.trades ≡ x.trades
  pub next : y.next ≡ x.next
  pub nextstamp : y.nextstamp ≡ x.nextstamp
  pub settlements : y.settlements ≡ x.settlements

pub record PullTakesOwn (x : Exchange) (account contract : ℕ) (y : Exchange) : Type 0 where
  pub queues : (sell : Bool) →
      own sell (listing_named y contract) ≡ orders_where (λ o. not (is_of (place_of account) o)) (own sell (listing_named x contract))
  pub otherwise : QueuesAlone x (place_of contract) y

-- NO PULL TOUCHES ANOTHER'S ORDER, whatever it names, accepted or refused: in every contract and on each side the orders of every other
-- account are what they were
pub record OrdersUntouched (a : ℕ) (x y : Exchange) : Type 0 where
  pub orders : (c : ℕ) (sell : Bool) → orders_of a (own sell (listing_at y c)) ≡ orders_of a (own sell (listing_at x c))

-- ---- 6. NOBODY TAKES ANOTHER'S MONEY: a command other than settle changes no balance but, for deposit and withdraw, that of the account
-- that it names; orders move no money; holdings change by trades alone.

abbrev pub BalanceStays : ℕ → Exchange → Exchange → Type 0
BalanceStays a x y = (holder_at y a).balance ≡ (holder_at x a).balance

-- what each account holds, contract by contract
abbrev pub holdings_of : List Account → List (List Holding)
holdings_of accounts = map (λ a. a.holdings) accounts

-- the trades made are those recorded behind the day's earlier ones, and booking them is all that happens to the holdings
pub record HeldByTrades (x y : Exchange) : Type 0 where
  pub made : List Trade
  pub recorded : y.trades ≡ x.trades ++ made
  pub held : holdings_of y.accounts ≡ holdings_of (book_trades x.accounts made)

pub record MoneyStays (x : Exchange) (command : Command) (y : Exchange) : Type 0 where
  pub others : (a : ℕ) → names (account_field command) a ≡ false → BalanceStays a x y
  pub orders : is_payment command ≡ false → (a : ℕ) → BalanceStays a x y
  pub holdings : HeldByTrades x y
  pub payments : is_payment command ≡ true → holdings_of y.accounts ≡ holdings_of x.accounts
