-- What every code has. Assumes nothing.
use Rattle.std.proofs.Common.{◌≡◌, arith}
use Rattle.rules.specs.Codes.{code_number}
use Rattle.rules.specs.declared.codes.Code.{Code}
use Rattle.rules.specs.declared.codes.Code.TheVariants.{Malformed, NoSuchAccount, NoSuchContract, PhaseForbids, LotsOutOfRange, DayWithoutLimit, PriceNotAllowed, AboveHolding, TooLittleMoney, NumbersUsedUp, NotFilledAtOnce, NoRoomForTrades, QueueFull, NoSuchOrder, AnothersOrder, AmountOutOfRange, PhaseChangeNotListed, ContractNotClosed, SettlementsUsedUp, FileBroken, StateNotWellFormed, BundleTooLarge, NoMarketMaker, BuyNotBelowSell, ClientsDoNotFit, OrderUnposted, ClientClosesTooMuch, StateNotWritable, AreaTooShort, TotalsDiffer}

-- no refusal has the number of an acceptance
pub not_accepted : (code : Code) → code_number code ≡ 0 → ⊥
not_accepted Malformed e = omega arith
not_accepted NoSuchAccount e = omega arith
not_accepted NoSuchContract e = omega arith
not_accepted PhaseForbids e = omega arith
not_accepted LotsOutOfRange e = omega arith
not_accepted DayWithoutLimit e = omega arith
not_accepted PriceNotAllowed e = omega arith
not_accepted AboveHolding e = omega arith
not_accepted TooLittleMoney e = omega arith
not_accepted NumbersUsedUp e = omega arith
not_accepted NotFilledAtOnce e = omega arith
not_accepted NoRoomForTrades e = omega arith
not_accepted QueueFull e = omega arith
not_accepted NoSuchOrder e = omega arith
not_accepted AnothersOrder e = omega arith
not_accepted AmountOutOfRange e = omega arith
not_accepted PhaseChangeNotListed e = omega arith
not_accepted ContractNotClosed e = omega arith
not_accepted SettlementsUsedUp e = omega arith
not_accepted FileBroken e = omega arith
not_accepted StateNotWellFormed e = omega arith
not_accepted BundleTooLarge e = omega arith
not_accepted NoMarketMaker e = omega arith
not_accepted BuyNotBelowSell e = omega arith
not_accepted ClientsDoNotFit e = omega arith
not_accepted OrderUnposted e = omega arith
not_accepted ClientClosesTooMuch e = omega arith
not_accepted StateNotWritable e = omega arith
not_accepted AreaTooShort e = omega arith
not_accepted TotalsDiffer e = omega arith
