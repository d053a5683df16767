-- The codes by name, and the paper's number of each. Assumes nothing.
use Rattle.std.specs.Prelude.{Ok, Err, Result, ℕ}
use Rattle.rules.specs.declared.codes.Code.{Code}
use Rattle.rules.specs.declared.codes.Code.TheVariants.{Malformed, NoSuchAccount, NoSuchContract, PhaseForbids, LotsOutOfRange, DayWithoutLimit, PriceNotAllowed, AboveHolding, TooLittleMoney, NumbersUsedUp, NotFilledAtOnce, NoRoomForTrades, QueueFull, NoSuchOrder, AnothersOrder, AmountOutOfRange, PhaseChangeNotListed, ContractNotClosed, SettlementsUsedUp, FileBroken, StateNotWellFormed, BundleTooLarge, NoMarketMaker, BuyNotBelowSell, ClientsDoNotFit, OrderUnposted, ClientClosesTooMuch, StateNotWritable, AreaTooShort, TotalsDiffer}

abbrev pub code_number : Code → ℕ
-- "kind, flag value or unused field is wrong"
code_number Malformed = 1
-- "account 0 or absent"
code_number NoSuchAccount = 2
-- "contract 0 or absent"
code_number NoSuchContract = 3
-- "contract state forbids it"
code_number PhaseForbids = 4
-- "lots outside 1 to 1,000"
code_number LotsOutOfRange = 5
-- "market or best with good for day"
code_number DayWithoutLimit = 6
-- "limit price off tick or outside low to high; market or best with a price not 0"
code_number PriceNotAllowed = 7
-- "open: holding, resting opens on that side and lots exceed the limit; close: lots exceed holding less own resting closes on it"
code_number AboveHolding = 8
-- "open or withdraw: too little available"
code_number TooLittleMoney = 9
-- "order numbers used up"
code_number NumbersUsedUp = 10
-- "fill or kill: fillable lots below lots"
code_number NotFilledAtOnce = 11
-- "it would make more trades than the day has room for"
code_number NoRoomForTrades = 12
-- "good for day, own side has 64, fillable lots below lots"
code_number QueueFull = 13
-- "no such resting order in that contract"
code_number NoSuchOrder = 14
-- "resting order of another account"
code_number AnothersOrder = 15
-- "amount not 1 to 10^15, or deposit lifts the balance above 10^18"
code_number AmountOutOfRange = 16
-- "state change not listed"
code_number PhaseChangeNotListed = 17
-- "settle: a contract is not closed"
code_number ContractNotClosed = 18
-- "settle: 250 made already"
code_number SettlementsUsedUp = 19
-- "day file broken: count, length or value out of range"
code_number FileBroken = 20
-- "state not well formed"
code_number StateNotWellFormed = 21
-- "22 if it is over 100 or the answer area is shorter"
code_number BundleTooLarge = 22
-- "code 23 if not a maker"
code_number NoMarketMaker = 23
-- "24 if buy is not below sell"
code_number BuyNotBelowSell = 24
-- "25 over 16 clients, or starting holdings don't add up in some contract and side"
code_number ClientsDoNotFit = 25
-- "26 an order of the account that traded is unposted, posted twice or posted to an unknown client"
code_number OrderUnposted = 26
-- "27 a client would close more than it holds"
code_number ClientClosesTooMuch = 27
-- "28 state not writable"
code_number StateNotWritable = 28
-- "29 output area too short"
code_number AreaTooShort = 29
-- "30 if a contract's long and short totals differ"
code_number TotalsDiffer = 30

-- the code that a result is: 0 where "none below applies"
abbrev pub code_in : {A : Type 0} → Result A Code → ℕ
code_in (Ok _) = 0
code_in (Err code) = code_number code
