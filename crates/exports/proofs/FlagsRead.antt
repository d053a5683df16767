-- Flags put together are read back, case by case. Assumes nothing.
use mathlib.Core.Bool.{Bool, true, false}
use mathlib.Core.Path.{◌≡◌, refl}
use Prim.Native.Nat.{ℕ, ◌+◌}
use Rattle.laws.specs.Choice.{pick}
use Rattle.rules.specs.Command.{bits, insert_flags, price_condition, time_condition}
use Rattle.rules.specs.declared.PriceCondition.{PriceCondition}
use Rattle.rules.specs.declared.PriceCondition.TheVariants.{Limit, Market, Best}
use Rattle.rules.specs.declared.TimeCondition.{TimeCondition}
use Rattle.rules.specs.declared.TimeCondition.TheVariants.{GoodForDay, ImmediateOrCancel, FillOrKill}
use Rattle.exports.specs.Flags.{InsertFlagsRead, RemovalFlagsRead, price_flag, time_flag}

abbrev together : Bool → Bool → PriceCondition → TimeCondition → ℕ
together sell close condition time = pick sell 1 0 + pick close 2 0 + price_flag condition + time_flag time

read_back : (sell close : Bool) (condition : PriceCondition) (time : TimeCondition) → InsertFlagsRead sell close condition time (together sell close condition time)
unfolding bits insert_flags price_condition time_condition
read_back true true (Limit price) GoodForDay = record { known = refl; side = refl; closes = refl; priced = refl; timed = refl }
read_back true true (Limit price) ImmediateOrCancel = record { known = refl; side = refl; closes = refl; priced = refl; timed = refl }
read_back true true (Limit price) FillOrKill = record { known = refl; side = refl; closes = refl; priced = refl; timed = refl }
read_back true true Market GoodForDay = record { known = refl; side = refl; closes = refl; priced = refl; timed = refl }
read_back true true Market ImmediateOrCancel = record { known = refl; side = refl; closes = refl; priced = refl; timed = refl }
read_back true true Market FillOrKill = record { known = refl; side = refl; closes = refl; priced = refl; timed = refl }
read_back true true Best GoodForDay = record { known = refl; side = refl; closes = refl; priced = refl; timed = refl }
read_back true true Best ImmediateOrCancel = record { known = refl; side = refl; closes = refl; priced = refl; timed = refl }
read_back true true Best FillOrKill = record { known = refl; side = refl; closes = refl; priced = refl; timed = refl }
read_back true false (Limit price) GoodForDay = record { known = refl; side = refl; closes = refl; priced = refl; timed = refl }
read_back true false (Limit price) ImmediateOrCancel = record { known = refl; side = refl; closes = refl; priced = refl; timed = refl }
read_back true false (Limit price) FillOrKill = record { known = refl; side = refl; closes = refl; priced = refl; timed = refl }
read_back true false Market GoodForDay = record { known = refl; side = refl; closes = refl; priced = refl; timed = refl }
read_back true false Market ImmediateOrCancel = record { known = refl; side = refl; closes = refl; priced = refl; timed = refl }
read_back true false Market FillOrKill = record { known = refl; side = refl; closes = refl; priced = refl; timed = refl }
read_back true false Best GoodForDay = record { known = refl; side = refl; closes = refl; priced = refl; timed = refl }
read_back true false Best ImmediateOrCancel = record { known = refl; side = refl; closes = refl; priced = refl; timed = refl }
read_back true false Best FillOrKill = record { known = refl; side = refl; closes = refl; priced = refl; timed = refl }
read_back false true (Limit price) GoodForDay = record { known = refl; side = refl; closes = refl; priced = refl; timed = refl }
read_back false true (Limit price) ImmediateOrCancel = record { known = refl; side = refl; closes = refl; priced = refl; timed = refl }
read_back false true (Limit price) FillOrKill = record { known = refl; side = refl; closes = refl; priced = refl; timed = refl }
read_back false true Market GoodForDay = record { known = refl; side = refl; closes = refl; priced = refl; timed = refl }
read_back false true Market ImmediateOrCancel = record { known = refl; side = refl; closes = refl; priced = refl; timed = refl }
read_back false true Market FillOrKill = record { known = refl; side = refl; closes = refl; priced = refl; timed = refl }
read_back false true Best GoodForDay = record { known = refl; side = refl; closes = refl; priced = refl; timed = refl }
read_back false true Best ImmediateOrCancel = record { known = refl; side = refl; closes = refl; priced = refl; timed = refl }
read_back false true Best FillOrKill = record { known = refl; side = refl; closes = refl; priced = refl; timed = refl }
read_back false false (Limit price) GoodForDay = record { known = refl; side = refl; closes = refl; priced = refl; timed = refl }
read_back false false (Limit price) ImmediateOrCancel = record { known = refl; side = refl; closes = refl; priced = refl; timed = refl }
read_back false false (Limit price) FillOrKill = record { known = refl; side = refl; closes = refl; priced = refl; timed = refl }
read_back false false Market GoodForDay = record { known = refl; side = refl; closes = refl; priced = refl; timed = refl }
read_back false false Market ImmediateOrCancel = record { known = refl; side = refl; closes = refl; priced = refl; timed = refl }
read_back false false Market FillOrKill = record { known = refl; side = refl; closes = refl; priced = refl; timed = refl }
read_back false false Best GoodForDay = record { known = refl; side = refl; closes = refl; priced = refl; timed = refl }
read_back false false Best ImmediateOrCancel = record { known = refl; side = refl; closes = refl; priced = refl; timed = refl }
read_back false false Best FillOrKill = record { known = refl; side = refl; closes = refl; priced = refl; timed = refl }

pub insert_read : {sell close : Bool} {condition : PriceCondition} {time : TimeCondition} {a b c d : ℕ} → a ≡ pick sell 1 0 → b ≡ pick close 2 0 → c ≡ price_flag condition → d ≡ time_flag time
    → InsertFlagsRead sell close condition time (a + b + c + d)
insert_read {sell} {close} {condition} {time} ea eb ec ed = rw (ea, eb, ec, ed) (read_back sell close condition time)

pub removal_read : (operator : Bool) {flags : ℕ} → flags ≡ pick operator 1 0 → RemovalFlagsRead operator flags
unfolding bits
removal_read true e = rw e (record { known = refl; bit_0 = refl })
removal_read false e = rw e (record { known = refl; bit_0 = refl })
