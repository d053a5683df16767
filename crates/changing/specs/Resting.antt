-- A resting order as the code finds it, what a change of it has passed before its place may be lost, and what is written of one queue.
-- Assumes nothing.
use Rattle.std.specs.Prelude.{Bool, true, List, [], ◌∷◌, ◌++◌, ◌≡◌, ℕ, ◌-◌, ◌<◌, length, get_or, set}
use Rattle.laws.specs.Choice.{pick}
use Rattle.areas.specs.Lists.{insert_at, remove_at}
use Rattle.rules.specs.Answers.{Refusal, first_of, named_refusals, no_such_order, not_continuous, numbered, owner_refusals}
use Rattle.rules.specs.Change.{loses, new_fields_refusals, unmarked}
use Rattle.rules.specs.Exchange.{no_account, no_contract, no_order, place_of}
use Rattle.rules.specs.Matching.{with_lots}
use Rattle.rules.specs.Memory.{WellFormedState, exchange_of, memory, put_queue, queue_in}
use Rattle.book.specs.Places.{index_of}
use Rattle.rules.specs.declared.Account.{Account}
use Rattle.rules.specs.declared.Contract.{Contract}
use Rattle.rules.specs.declared.Order.{Order}
use Rattle.rules.specs.declared.State.{State}
use Rattle.engine.specs.Decision.{counted_as, listed_in}
use Rattle.engine.specs.declared.updates.Listed.{Listed}
use Rattle.changing.specs.declared.Asked.{Asked}
use Rattle.changing.specs.declared.Resting.{Resting}

-- the order with a number among a contract's, its side, and its place there
pub record RestingIs (number : ℕ) (buys sells : List Order) (r : Resting) : Type 0 where
  pub order : numbered number (buys ++ sells) ≡ r.order ∷ []
  pub sell : r.sell ≡ no_such_order (numbered number buys)
  pub place : r.place ≡ index_of number (pick r.sell sells buys)
  pub within : r.place < length (pick r.sell sells buys)

-- 14, 15, 5 and 7, of the order found; `account` is the account's place
abbrev pub resting_refusals : Contract → ℕ → Order → ℕ → ℕ → List Refusal
resting_refusals terms account order lots price = owner_refusals account (order ∷ []) ++ new_fields_refusals terms lots price

-- the order found, and a change that is refused neither for its account and contract nor for these
pub record Changeable (s : State) (buys sells trades : List ℕ) (account contract number lots price : ℕ) (r : Resting) : Type 0 where
  pub state : first_of (named_refusals (exchange_of (memory s buys sells trades)) not_continuous account contract) ≡ 0
  pub resting : RestingIs number (queue_in buys (place_of contract) (get_or s.buycounts (place_of contract) 0)) (queue_in sells (place_of contract) (get_or s.sellcounts (place_of contract) 0)) r
  pub order : first_of (resting_refusals (get_or s.contracts (place_of contract) no_contract) (place_of account) r.order lots price) ≡ 0

-- ---- one queue written: other lots and no mark at a place, an order taken out of one, and put back

abbrev pub lessened_in : List ℕ → ℕ → ℕ → ℕ → ℕ → List ℕ
lessened_in area c count place lots =
    put_queue area c count (set (queue_in area c count) place (unmarked (with_lots (get_or (queue_in area c count) place no_order) lots)))

abbrev pub removed_in : List ℕ → ℕ → ℕ → ℕ → List ℕ
removed_in area c count place = put_queue area c count (remove_at place (queue_in area c count))

abbrev pub put_back_in : List ℕ → ℕ → ℕ → ℕ → Order → List ℕ
put_back_in area c count place o = put_queue area c count (insert_at place o (queue_in area c count))

-- ---- the contract with one order less on a side

abbrev pub one_less : Listed → Bool → Listed
one_less l sell = counted_as l (pick sell l.bought (l.bought - 1)) (pick sell (l.sold - 1) l.sold)

-- ---- a change that loses its place, its account, its contract and its order as they were read

pub record LosesPlace (s : State) (who : Account) (buys sells trades : List ℕ) (k : Asked) (l : Listed) (r : Resting) : Type 0 where
  pub formed : WellFormedState s buys sells trades
  pub owner : get_or s.accounts (place_of k.account) no_account ≡ who
  pub listed : l ≡ listed_in s (place_of k.contract)
  pub changeable : Changeable s buys sells trades k.account k.contract k.number k.lots k.price r
  pub some : k.lots ≡ 0 → ⊥
  pub lost : loses r.order k.lots k.price ≡ true
