-- Flags made of what they say are read by the rules as just that. Assumes nothing.
use Rattle.std.specs.Prelude.{Bool, true, ◌≡◌, ℕ, leb}
use Rattle.rules.specs.Command.{bit, bits, insert_flags, price_condition, time_condition}
use Rattle.rules.specs.declared.PriceCondition.{PriceCondition}
use Rattle.rules.specs.declared.PriceCondition.TheVariants.{Limit, Market, Best}
use Rattle.rules.specs.declared.TimeCondition.{TimeCondition}
use Rattle.rules.specs.declared.TimeCondition.TheVariants.{GoodForDay, ImmediateOrCancel, FillOrKill}

-- the price that a condition holds, and what it adds to the flags
abbrev pub price_held : PriceCondition → ℕ
price_held (Limit price) = price
price_held Market = 0
price_held Best = 0

abbrev pub price_flag : PriceCondition → ℕ
price_flag (Limit price) = 0
price_flag Market = 4
price_flag Best = 8

abbrev pub time_flag : TimeCondition → ℕ
time_flag GoodForDay = 0
time_flag ImmediateOrCancel = 16
time_flag FillOrKill = 32

-- "bit 0 sell, bit 1 close, bits 2 and 3 price condition, bits 4 and 5 time condition, bits 6 and 7 zero"
pub record InsertFlagsRead (sell close : Bool) (condition : PriceCondition) (time : TimeCondition) (flags : ℕ) : Type 0 where
  pub known : insert_flags flags ≡ true
  pub side : bit 0 flags ≡ sell
  pub closes : bit 1 flags ≡ close
  pub priced : price_condition (bits 2 2 flags) (price_held condition) ≡ condition
  pub timed : time_condition (bits 4 2 flags) ≡ time

-- "Cancel and pull flags: bit 0 operator, the rest zero."
pub record RemovalFlagsRead (operator : Bool) (flags : ℕ) : Type 0 where
  pub known : leb flags 1 ≡ true
  pub bit_0 : bit 0 flags ≡ operator
