-- A command's record: kinds, flags, fields that are not used (document 01, "The day file"). Assumes nothing.
use Rattle.std.specs.Prelude.{Bool, ◌&&◌, ◌||◌, List, [], ◌∷◌, ℕ, ◌/◌, ◌%◌, ◌^◌, leb, ltb, eqb}
use Rattle.laws.specs.Choice.{pick, all_of}
use Rattle.rules.specs.Bounds.{phase_known}
use Rattle.rules.specs.declared.Record.{Record}
use Rattle.rules.specs.declared.NewOrder.{NewOrder}
use Rattle.rules.specs.declared.PriceCondition.{PriceCondition}
use Rattle.rules.specs.declared.PriceCondition.TheVariants.{Limit, Market, Best}
use Rattle.rules.specs.declared.TimeCondition.{TimeCondition}
use Rattle.rules.specs.declared.TimeCondition.TheVariants.{GoodForDay, ImmediateOrCancel, FillOrKill}
use Rattle.rules.specs.declared.Command.{Command}
use Rattle.rules.specs.declared.Command.TheVariants.{Malformed, Deposit, Withdraw, Insert, Cancel, Pull, Phase, Settle, Quote, Change}

-- "Fields not used are zero."
unfoldable pub zeros : List ℕ → Bool
zeros fields = all_of (λ n. eqb n 0) fields

-- w bits of a flags byte from bit k on
unfoldable pub bits : ℕ → ℕ → ℕ → ℕ
bits k w flags = flags / 2 ^ k % 2 ^ w

abbrev pub bit : ℕ → ℕ → Bool
bit k flags = eqb (bits k 1 flags) 1

-- "limit 0, market 1, best 2 .. Value 3 is unknown"; a limit holds its price
unfoldable pub price_condition : ℕ → ℕ → PriceCondition
price_condition value price = pick (eqb value 0) (Limit price) (pick (eqb value 1) Market Best)

-- "good for day 0, immediate or cancel 1, fill or kill 2. Value 3 is unknown"
unfoldable pub time_condition : ℕ → TimeCondition
time_condition value = pick (eqb value 0) GoodForDay (pick (eqb value 1) ImmediateOrCancel FillOrKill)

-- "bit 0 sell, bit 1 close, bits 2 and 3 price condition, bits 4 and 5 time condition, bits 6 and 7 zero"
unfoldable pub insert_flags : ℕ → Bool
insert_flags flags = eqb (bits 6 2 flags) 0 && ltb (bits 2 2 flags) 3 && ltb (bits 4 2 flags) 3

unfoldable pub new_order : Record → NewOrder
new_order r =
    record {
      account = r.account;
      contract = r.contract;
      sell = bit 0 r.flags;
      close = bit 1 r.flags;
      lots = r.lots;
      price = r.price;
      condition = price_condition (bits 2 2 r.flags) r.price;
      time = time_condition (bits 4 2 r.flags);
    }

-- the fields that each kind uses, and its flags
unfoldable pub deposit_of : Record → Command
deposit_of r =
    pick (zeros (r.contract ∷ r.flags ∷ r.lots ∷ r.price ∷ r.number ∷ [])) (Deposit r.account r.amount) Malformed

unfoldable pub withdraw_of : Record → Command
withdraw_of r =
    pick (zeros (r.contract ∷ r.flags ∷ r.lots ∷ r.price ∷ r.number ∷ [])) (Withdraw r.account r.amount) Malformed

unfoldable pub insert_of : Record → Command
insert_of r = pick (zeros (r.number ∷ r.amount ∷ []) && insert_flags r.flags) (Insert (new_order r)) Malformed

-- "Cancel and pull flags: bit 0 operator, the rest zero."
unfoldable pub cancel_of : Record → Command
cancel_of r =
    pick (zeros (r.lots ∷ r.price ∷ r.amount ∷ []) && leb r.flags 1)
    (Cancel r.account r.contract (bit 0 r.flags) r.number)
    Malformed

unfoldable pub pull_of : Record → Command
pull_of r =
    pick (zeros (r.lots ∷ r.price ∷ r.number ∷ r.amount ∷ []) && leb r.flags 1)
    (Pull r.account r.contract (bit 0 r.flags))
    Malformed

-- "State flags: 0 pre-open, 1 continuous, 2 no trading, 3 closed", and 4, auction: "flags above 4 are unknown" (02, ticket 4)
unfoldable pub phase_of : Record → Command
phase_of r =
    pick (zeros (r.account ∷ r.lots ∷ r.price ∷ r.number ∷ r.amount ∷ []) && phase_known r.flags)
    (Phase r.contract r.flags)
    Malformed

unfoldable pub settle_of : Record → Command
settle_of r =
    pick (zeros (r.account ∷ r.contract ∷ r.flags ∷ r.lots ∷ r.price ∷ r.number ∷ r.amount ∷ [])) Settle Malformed

-- "the price field holds the buy price, the order number field the sell price" (02, ticket 7)
unfoldable pub quote_of : Record → Command
quote_of r =
    pick (zeros (r.flags ∷ r.amount ∷ [])) (Quote r.account r.contract r.lots r.price r.number) Malformed

-- "Kind 9 .. gives account, contract, order number, the new remaining lots and the price" (02, ticket 8)
unfoldable pub change_of : Record → Command
change_of r =
    pick (zeros (r.flags ∷ r.amount ∷ [])) (Change r.account r.contract r.number r.lots r.price) Malformed

-- code 1: "kind, flag value or unused field is wrong"
unfoldable pub command_of : Record → Command
command_of r =
    pick (eqb r.kind 1) (deposit_of r)
    (pick (eqb r.kind 2) (withdraw_of r)
    (pick (eqb r.kind 3) (insert_of r)
    (pick (eqb r.kind 4) (cancel_of r)
    (pick (eqb r.kind 5) (pull_of r)
    (pick (eqb r.kind 6) (phase_of r)
    (pick (eqb r.kind 7) (settle_of r)
    (pick (eqb r.kind 8) (quote_of r)
    (pick (eqb r.kind 9) (change_of r) Malformed))))))))

-- the kind's number, 0 for what is no command
abbrev pub kind_number : Command → ℕ
kind_number Malformed = 0
kind_number (Deposit account amount) = 1
kind_number (Withdraw account amount) = 2
kind_number (Insert o) = 3
kind_number (Cancel account contract operator number) = 4
kind_number (Pull account contract operator) = 5
kind_number (Phase contract phase) = 6
kind_number Settle = 7
kind_number (Quote account contract lots buy sell) = 8
kind_number (Change account contract number lots price) = 9

abbrev pub is_malformed : Command → Bool
is_malformed command = eqb (kind_number command) 0

abbrev pub is_insert : Command → Bool
is_insert command = eqb (kind_number command) 3

abbrev pub is_settle : Command → Bool
is_settle command = eqb (kind_number command) 7

abbrev pub is_quote : Command → Bool
is_quote command = eqb (kind_number command) 8

abbrev pub is_change : Command → Bool
is_change command = eqb (kind_number command) 9

-- a deposit or a withdrawal
abbrev pub is_payment : Command → Bool
is_payment command = eqb (kind_number command) 1 || eqb (kind_number command) 2

-- ---- the two fields in which a command names a contract and an account, by number as given

-- a field for a number: a command's kind does not use it, or it holds the number
pub data Field : Type 0 where
  unused : Field
  holds : ℕ → Field

abbrev pub contract_field : Command → Field
contract_field Malformed = unused
contract_field (Deposit account amount) = unused
contract_field (Withdraw account amount) = unused
contract_field (Insert o) = holds o.contract
contract_field (Cancel account contract operator number) = holds contract
contract_field (Pull account contract operator) = holds contract
contract_field (Phase contract phase) = holds contract
contract_field Settle = unused
contract_field (Quote account contract lots buy sell) = holds contract
contract_field (Change account contract number lots price) = holds contract

abbrev pub account_field : Command → Field
account_field Malformed = unused
account_field (Deposit account amount) = holds account
account_field (Withdraw account amount) = holds account
account_field (Insert o) = holds o.account
account_field (Cancel account contract operator number) = holds account
account_field (Pull account contract operator) = holds account
account_field (Phase contract phase) = unused
account_field Settle = unused
account_field (Quote account contract lots buy sell) = holds account
account_field (Change account contract number lots price) = holds account
