-- Condition 3: marking to market never makes or loses money. One claim about a whole list of commands, the memory m that they
-- start from and the memory m' that is left. The balances and holdings compared are those of m and m'; which commands are
-- accepted, which trades are made and what the settlement price is come from the rules, applied to the commands in turn from m.
-- Assumes nothing.
use Rattle.std.specs.Prelude.{Bool, true, ◌&&◌, List, [], ◌∷◌, ◌++◌, ◌≡◌, ℕ, ◌*◌, ◌<◌, eqb, ℤ, pos, ◌+ℤ◌, ◌-ℤ◌, ◌*ℤ◌, length}
use Rattle.laws.specs.Choice.{pick}
use Rattle.laws.specs.Sums.{sum_of, sum_to}
use Rattle.rules.specs.Exchange.{contract_at, holder_at, held_at}
use Rattle.rules.specs.Kinds.{Move, pays_in, pays_out, makes, settles, nothing, kind_of}
use Rattle.rules.specs.Memory.{Memory, exchange_of, respond}
use Rattle.rules.specs.Settlement.{settlement_price}
use Rattle.rules.specs.declared.Holding.{Holding}
use Rattle.rules.specs.declared.Trade.{Trade}
use Rattle.rules.specs.declared.Command.{Command}
use Rattle.rules.specs.declared.Command.TheVariants.{Settle}

-- ---- a run: "Each command gets the state that the last one left, and nothing else writes to it."

unfoldable pub run : Memory → List Command → Memory
run m [] = m
run m (c ∷ cs) = run (respond m c).memory cs

-- "Acceptance (code 0)"
unfoldable pub is_accepted : Memory → Command → Bool
is_accepted m c = eqb (respond m c).answer.code 0

-- what the commands move, each from the state that the last one left; a refused one moves nothing
unfoldable pub move_of : Memory → Command → Move
move_of m c = pick (is_accepted m c) (kind_of (exchange_of m) c).moves nothing

unfoldable pub moves_of : Memory → List Command → List Move
moves_of m [] = []
moves_of m (c ∷ cs) = move_of m c ∷ moves_of (respond m c).memory cs

-- ---- "Money is paid in by accepted deposits, out by accepted withdrawals."

unfoldable pub in_to : ℕ → Move → ℕ
in_to a (pays_in account amount) = pick (eqb account a) amount 0
in_to a (pays_out account amount) = 0
in_to a (makes ts) = 0
in_to a (settles price) = 0

unfoldable pub out_of : ℕ → Move → ℕ
out_of a (pays_in account amount) = 0
out_of a (pays_out account amount) = pick (eqb account a) amount 0
out_of a (makes ts) = 0
out_of a (settles price) = 0

unfoldable pub paid_in : ℕ → Memory → List Command → ℕ
paid_in a m cs = sum_of (in_to a) (moves_of m cs)

unfoldable pub paid_out : ℕ → Memory → List Command → ℕ
paid_out a m cs = sum_of (out_of a) (moves_of m cs)

-- ---- "The trades are those that the second condition's rules yield for the list."

unfoldable pub made_by : Move → List Trade
made_by (pays_in account amount) = []
made_by (pays_out account amount) = []
made_by (makes ts) = ts
made_by (settles price) = []

unfoldable pub made : List Move → List Trade
made [] = []
made (v ∷ vs) = made_by v ++ made vs

unfoldable pub trades_made : Memory → List Command → List Trade
trades_made m cs = made (moves_of m cs)

-- ---- "A trade's price x lots x multiplier is its seller's sale and its buyer's cost, open or close. Net holding is the
-- lots its trades bought less those they sold, contract by contract".

abbrev pub is_buyer : ℕ → ℕ → Trade → Bool
is_buyer a c t = eqb t.contract c && eqb t.buyer a

abbrev pub is_seller : ℕ → ℕ → Trade → Bool
is_seller a c t = eqb t.contract c && eqb t.seller a

unfoldable pub sales : ℕ → ℕ → List Trade → ℕ
sales a c ts = sum_of (λ t. pick (is_seller a c t) (t.price * t.lots) 0) ts

unfoldable pub costs : ℕ → ℕ → List Trade → ℕ
costs a c ts = sum_of (λ t. pick (is_buyer a c t) (t.price * t.lots) 0) ts

unfoldable pub bought : ℕ → ℕ → List Trade → ℕ
bought a c ts = sum_of (λ t. pick (is_buyer a c t) t.lots 0) ts

unfoldable pub sold : ℕ → ℕ → List Trade → ℕ
sold a c ts = sum_of (λ t. pick (is_seller a c t) t.lots 0) ts

unfoldable pub net_holding : ℕ → ℕ → List Trade → ℤ
net_holding a c ts = pos (bought a c ts) -ℤ pos (sold a c ts)

-- ---- what a memory holds, of the accounts and contracts in use

abbrev pub accounts_of : Memory → ℕ
accounts_of m = length (exchange_of m).accounts

abbrev pub contracts_of : Memory → ℕ
contracts_of m = length (exchange_of m).listings

abbrev pub balance_in : Memory → ℕ → ℤ
balance_in m a = (holder_at (exchange_of m) a).balance

abbrev pub holding_in : Memory → ℕ → ℕ → Holding
holding_in m a c = held_at (exchange_of m) a c

-- "the engine's long less short"
abbrev pub net_in : Memory → ℕ → ℕ → ℤ
net_in m a c = pos (holding_in m a c).long -ℤ pos (holding_in m a c).short

abbrev pub multiplier_in : Memory → ℕ → ℕ
multiplier_in m c = (contract_at (exchange_of m) c).multiplier

abbrev pub reference_in : Memory → ℕ → ℕ
reference_in m c = (contract_at (exchange_of m) c).reference

-- ---- "trades and holdings times the contract's multiplier": the parts of the sum, over all contracts

-- "what its trades sold for", and "what they cost"
unfoldable pub sold_for : Memory → ℕ → List Trade → ℤ
sold_for m a ts = sum_to (contracts_of m) (λ c. pos (multiplier_in m c) *ℤ pos (sales a c ts))

unfoldable pub cost_of : Memory → ℕ → List Trade → ℤ
cost_of m a ts = sum_to (contracts_of m) (λ c. pos (multiplier_in m c) *ℤ pos (costs a c ts))

-- net holdings at prices, both by contract
unfoldable pub at_prices : Memory → (ℕ → ℕ) → (ℕ → ℤ) → ℤ
at_prices m price net = sum_to (contracts_of m) (λ c. pos (multiplier_in m c) *ℤ (pos (price c) *ℤ net c))

-- ---- where a list starts: the money that each account brings, and by account and contract its net holding after trades made since

pub record Start : Type 0 where
  pub money : ℕ → ℤ
  pub net_after : ℕ → ℕ → List Trade → ℤ

-- "Opening money is the balance in that state." Nothing is held, so the net holding is that of the trades.
abbrev pub opened : Memory → Start
opened m = record { money = balance_in m; net_after = net_holding }

-- a state that opens "without holdings or recorded trades"
pub record Opening (m : Memory) : Type 0 where
  pub no_trades : (exchange_of m).trades ≡ []
  pub no_long : (a c : ℕ) → a < accounts_of m → c < contracts_of m → (holding_in m a c).long ≡ 0
  pub no_short : (a c : ℕ) → a < accounts_of m → c < contracts_of m → (holding_in m a c).short ≡ 0

-- "for a loaded run, now starts from the loaded balance less the loaded net holding at the loaded reference, times multiplier ..
-- Its net holding starts from the loaded one" (document 02, ticket 10)
unfoldable pub loaded_worth : Memory → ℕ → ℤ
loaded_worth m a = at_prices m (reference_in m) (net_in m a)

abbrev pub loaded : Memory → Start
loaded m = record { money = λ a. balance_in m a -ℤ loaded_worth m a; net_after = λ a c ts. net_in m a c +ℤ net_holding a c ts }

-- "its long and short totals are equal, no trades .. exist"
abbrev pub TotalsEqual : Memory → ℕ → Type 0
TotalsEqual m c = sum_to (accounts_of m) (λ a. pos (holding_in m a c).long) ≡ sum_to (accounts_of m) (λ a. pos (holding_in m a c).short)

pub record Loaded (m : Memory) : Type 0 where
  pub no_trades : (exchange_of m).trades ≡ []
  pub totals : (c : ℕ) → c < contracts_of m → TotalsEqual m c

-- ---- the claim

-- a list that ends with an accepted settlement, and all before it
pub record EndsSettled (m : Memory) (cs before : List Command) : Type 0 where
  pub ends : cs ≡ before ++ (Settle ∷ [])
  pub accepted : is_accepted (run m before) Settle ≡ true

-- "that day's settlement price": of the state that the settlement finds
abbrev pub settled_at : Memory → List Command → ℕ → ℕ
settled_at m before = settlement_price (exchange_of (run m before))

pub record Condition3 (start : Start) (m : Memory) (cs : List Command) (m' : Memory) : Type 0 where
  -- "all balances together equal the money paid in minus the money paid out, opening money counted as paid in"
  pub together :
      sum_to (accounts_of m) (balance_in m')
      ≡ (sum_to (accounts_of m) (balance_in m) +ℤ sum_to (accounts_of m) (λ a. pos (paid_in a m cs))) -ℤ sum_to (accounts_of m) (λ a. pos (paid_out a m cs))
  -- "After every such list that ends with an accepted settlement, each account's balance equals its opening money plus accepted deposits
  -- minus accepted withdrawals, plus what its trades sold for minus what they cost, plus its net holding at that day's settlement price,
  -- trades and holdings times the contract's multiplier."
  pub each :
      (before : List Command) → EndsSettled m cs before → (a : ℕ) → a < accounts_of m →
      balance_in m' a
      ≡ start.money a +ℤ pos (paid_in a m cs) -ℤ pos (paid_out a m cs)
      +ℤ sold_for m a (trades_made m cs) -ℤ cost_of m a (trades_made m cs)
      +ℤ at_prices m (settled_at m before) (λ c. start.net_after a c (trades_made m cs))
  -- "it equals the engine's long less short"
  pub net :
      (a c : ℕ) → a < accounts_of m → c < contracts_of m →
      net_in m' a c ≡ start.net_after a c (trades_made m cs)

-- CONDITION 3 OF A CALL that carries out the commands cs on the memory m and leaves m': from a state that opens without holdings,
-- and from one that was loaded
pub record MoneyKept (m : Memory) (cs : List Command) (m' : Memory) : Type 0 where
  pub from_nothing : Opening m → Condition3 (opened m) m cs m'
  pub from_loaded : Loaded m → Condition3 (loaded m) m cs m'
