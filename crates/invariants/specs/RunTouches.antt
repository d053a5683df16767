-- WHAT COMMANDS MAY TOUCH, of the memory that a call leaves and of a run: the words of laws of every memory `m`, well formed or not (a state
-- that is not well formed answers 21 to everything), and every list of commands, where `m'` is left. The theorems stand in
-- proofs/RunTouches.antt. Assumes nothing.
use Rattle.std.specs.Prelude.{Bool, true, false, not, ◌&&◌, List, ◌∷◌, ◌≡◌, ℕ}
use Rattle.laws.specs.Choice.{all_of}
use Rattle.rules.specs.Command.{account_field, contract_field, is_payment, is_settle}
use Rattle.rules.specs.Condition3.{balance_in, is_accepted, run}
use Rattle.rules.specs.Memory.{Memory, exchange_of, respond, well_formed_memory}
use Rattle.rules.specs.Touches.{ContractStays, HeldByTrades, is_blank, names}
use Rattle.rules.specs.declared.Command.{Command}
use Rattle.invariants.specs.GivenNumbers.{GivenOnce, NumbersForLife}
use Rattle.invariants.specs.RestingOrders.{OrdersStay}

-- ---- 1. A COMMAND THAT IS REFUSED CHANGES NO WORD OF THE MEMORY; given again at once it gets the same answer; and a run leaves what it would
-- have left without it.

pub record RefusedLeavesMemory (m : Memory) (c : Command) : Type 0 where
  pub unchanged : is_accepted m c ≡ false → (respond m c).memory ≡ m
  pub again : is_accepted m c ≡ false → respond (respond m c).memory c ≡ respond m c
  pub omitted : is_accepted m c ≡ false → (cs : List Command) → run m (c ∷ cs) ≡ run m cs

-- ---- 2. A COMMAND WHOSE CONTRACT OR ACCOUNT IS BLANK OR ABSENT IS REFUSED, so that the same is so of it.

pub record BlankLeavesMemory (m : Memory) (c : Command) : Type 0 where
  pub contract : is_blank (contract_field c) (exchange_of m).listings ≡ true → is_accepted m c ≡ false
  pub account : is_blank (account_field c) (exchange_of m).accounts ≡ true → is_accepted m c ≡ false

-- ---- a list without settlements; one that names neither this contract, nor this account, or has no payment of it

abbrev pub within_day : List Command → Bool
within_day cs = all_of (λ c. not (is_settle c)) cs

abbrev pub none_names_contract : ℕ → List Command → Bool
none_names_contract place cs = all_of (λ c. not (names (contract_field c) place)) cs

abbrev pub none_names_account : ℕ → List Command → Bool
none_names_account place cs = all_of (λ c. not (names (account_field c) place)) cs

abbrev pub no_payment_of : ℕ → List Command → Bool
no_payment_of place cs = all_of (λ c. not (is_payment c && names (account_field c) place)) cs

-- ---- a list of commands within a day

pub record RunTouches (m : Memory) (cs : List Command) (m' : Memory) : Type 0 where
  -- 3. A contract that none of them names has its queues, its terms, its state and its price, and everybody's holding in it is what it was.
  pub contracts : (c : ℕ) → none_names_contract c cs ≡ true → ContractStays c (exchange_of m) (exchange_of m')
  -- 5. From a well-formed state: each order of an account that none of them names rests as it did, or has lost exactly the lots that it traded,
  -- at its limit or better for it, and stays ahead of every later order at its price.
  pub orders : well_formed_memory m ≡ true → (a : ℕ) → none_names_account a cs ≡ true → OrdersStay a (exchange_of m) (exchange_of m')
  -- 6. An account of which none of them is a payment has its balance: orders move no money.
  pub balances : (a : ℕ) → no_payment_of a cs ≡ true → balance_in m' a ≡ balance_in m a
  -- Holdings have changed by the trades that were made, and by nothing else.
  pub holdings : HeldByTrades (exchange_of m) (exchange_of m')
  -- 7. No order number and no time stamp is given twice,
  pub given : GivenOnce m cs
  -- and an order keeps its number for life.
  pub life : NumbersForLife (exchange_of m) (exchange_of m')
