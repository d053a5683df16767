-- WHAT AN ACCOUNT MAY RELY ON: the words of laws 14 to 16 of docs/RULES.md, a record each. Their theorems
-- stand in proofs/AccountLaws. Assumes nothing.
use Rattle.std.specs.Prelude.{Bool, true, false, not, ◌&&◌, List, [], ◌∷◌, ◌≡◌, ℕ, suc, ◌+◌, ◌<◌, ◌≤◌, eqb, pos, length}
use Rattle.std.specs.Int.Signed.{le_z}
use Rattle.laws.specs.Choice.{pick}
use Rattle.rules.specs.Change.{asked, loses_place, old_order}
use Rattle.rules.specs.Command.{Field, unused, holds, account_field, is_settle}
use Rattle.rules.specs.Condition3.{contracts_of, holding_in, Loaded, Opening, TotalsEqual}
use Rattle.rules.specs.Exchange.{Exchange, contract_at, holder_at, listing_at, own, place_of, resting_closes, resting_opens}
use Rattle.rules.specs.Kinds.{code_of}
use Rattle.rules.specs.Margin.{charged}
use Rattle.rules.specs.Memory.{Memory, exchange_of, respond}
use Rattle.rules.specs.Step.{with_balance}
use Rattle.rules.specs.Touches.{names}
use Rattle.rules.specs.declared.Account.{Account}
use Rattle.rules.specs.declared.Command.{Command}
use Rattle.rules.specs.declared.Command.TheVariants.{Malformed, Deposit, Withdraw, Insert, Cancel, Pull, Phase, Settle, Quote, Change}

-- ---- 14. LONG LOTS ARE SHORT LOTS, AND WHAT RESTS IS ALLOWED: m is the memory before some commands, m' the one they leave

pub record LongIsShort (m m' : Memory) : Type 0 where
  -- In each contract all long lots together equal all short lots together, wherever they did before.
  pub equal : ((c : ℕ) → c < contracts_of m → TotalsEqual m c) → (c : ℕ) → c < contracts_of m → TotalsEqual m' c
  -- So it is from every opening, where nobody holds anything.
  pub from_opening : Opening m → (c : ℕ) → c < contracts_of m → TotalsEqual m' c
  -- So it is from every loaded state.
  pub from_loaded : Loaded m → (c : ℕ) → c < contracts_of m → TotalsEqual m' c

-- of a memory with so many accounts and contracts; a buy opens long lots and closes short ones, a sell the other way round
pub record RestingAllowed (accounts contracts : ℕ) (m : Memory) : Type 0 where
  -- The lots that an account holds on a side and its resting opens there together keep the contract's limit.
  pub opens : (a c : ℕ) → a < accounts → c < contracts → (sell : Bool) →
      pick sell (holding_in m a c).short (holding_in m a c).long + resting_opens a (own sell (listing_at (exchange_of m) c)) ≤ (contract_at (exchange_of m) c).limit
  -- Its resting closes are covered by the lots that it holds on the other side.
  pub closes : (a c : ℕ) → a < accounts → c < contracts → (sell : Bool) →
      resting_closes a (own sell (listing_at (exchange_of m) c)) ≤ pick sell (holding_in m a c).long (holding_in m a c).short

-- ---- 15. MARGIN IS WITHIN THE BALANCE

-- all charged margin of the account at a place is within its balance
abbrev pub WithinBalance : Exchange → ℕ → Type 0
WithinBalance x a = le_z (pos (charged x a)) (holder_at x a).balance ≡ true

-- the command enters an open: an insert's, a quote's two, or a resting open that a change takes from its place
abbrev pub enters_open : Exchange → Command → Bool
enters_open x Malformed = false
enters_open x (Deposit account amount) = false
enters_open x (Withdraw account amount) = false
enters_open x (Insert o) = not o.close
enters_open x (Cancel account contract operator number) = false
enters_open x (Pull account contract operator) = false
enters_open x (Phase contract phase) = false
enters_open x Settle = false
enters_open x (Quote account contract lots buy sell) = true
enters_open x (Change account contract number lots price) =
    loses_place x (asked account contract number lots price) && not (eqb (old_order x (asked account contract number lots price)).close 1)

-- y is the state that the command leaves of x
pub record MarginWithinBalance (x : Exchange) (command : Command) (y : Exchange) : Type 0 where
  -- After an accepted open all charged margin of its account is within its balance: an insert's, a quote's, a changed order's.
  pub opened : enters_open x command ≡ true → code_of x command ≡ 0 → (a : ℕ) → names (account_field command) a ≡ true → WithinBalance y a
  -- A withdrawal never brings the balance below what is charged.
  pub withdrawn : (account amount : ℕ) → command ≡ Withdraw account amount → code_of x command ≡ 0 → WithinBalance y (place_of account)
  -- Once within its balance an account stays so, whatever anybody does, until a settlement.
  pub stays : is_settle command ≡ false → (a : ℕ) → a < length x.accounts → WithinBalance x a → WithinBalance y a

-- ---- 16. BALANCES ARE PRIVATE

-- accounts with every balance that is not seen blotted out: 0 stands in its place
unfoldable pub accounts_seen : (ℕ → Bool) → List Account → List Account
accounts_seen seen [] = []
accounts_seen seen (a ∷ as') = pick (seen 0) a (with_balance a (pos 0)) ∷ accounts_seen (λ i. seen (suc i)) as'

unfoldable pub state_seen : (ℕ → Bool) → Exchange → Exchange
state_seen seen x =
    record {
      listings = x.listings;
      accounts = accounts_seen seen x.accounts;
      trades = x.trades;
      next = x.next;
      nextstamp = x.nextstamp;
      settlements = x.settlements;
    }

-- two states that differ in balances not seen, and in nothing else
abbrev pub AlikeBut : (ℕ → Bool) → Exchange → Exchange → Type 0
AlikeBut seen x y = state_seen seen x ≡ state_seen seen y

-- the command is of an account whose balance is seen, or of none
abbrev pub is_from : (ℕ → Bool) → Field → Bool
is_from seen unused = true
is_from seen (holds number) = seen (place_of number)

-- m and n are well formed and differ in balances not seen alone: of one account, λ a. eqb a account sees its own
pub record BalancesPrivate (seen : ℕ → Bool) (m n : Memory) (command : Command) : Type 0 where
  -- The answer to a command depends on its own account's balance alone.
  pub answer : (respond m command).answer ≡ (respond n command).answer
  -- Afterwards the two states differ in the same balances alone, after a settlement too.
  pub after : AlikeBut seen (exchange_of (respond m command).memory) (exchange_of (respond n command).memory)
