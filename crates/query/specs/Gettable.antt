-- How much could I get? What an order would trade now, and how many resting orders are read to know it (document 02, ticket 3).
-- The contract's state plays no part, nor does the time condition beyond code 6. Assumes nothing.
use Rattle.std.specs.Prelude.{Ok, Err, Result, not, List, [], ◌∷◌, ◌++◌, ◌≡◌, ℕ, ◌+◌, ◌-◌, min, eqb, ltb}
use Rattle.laws.specs.Choice.{pick}
use Rattle.rules.specs.Answers.{Refusal, ◌when◌, absent_refusals, day_without_limit, fields_refusals, fillable_lots, first_of, listing_of, taker_of}
use Rattle.rules.specs.Codes.{code_number}
use Rattle.rules.specs.Command.{command_of, is_insert, new_order}
use Rattle.rules.specs.Exchange.{Exchange, opposite}
use Rattle.rules.specs.Matching.{counterpart, fillable}
use Rattle.rules.specs.Memory.{Memory, exchange_of, well_formed_memory}
use Rattle.rules.specs.declared.NewOrder.{NewOrder}
use Rattle.rules.specs.declared.Order.{Order}
use Rattle.rules.specs.declared.Record.{Record}
use Rattle.rules.specs.declared.Taker.{Taker}
use Rattle.rules.specs.declared.codes.Code.{Code}
use Rattle.query.specs.declared.Reading.{Reading}
use Rattle.query.specs.declared.scan.Gathered.{Gathered}

-- ---- the two numbers

-- "The answer is the smaller of its lots and the fillable lots": the whole queue's, so "the answer equals the one from reading the
-- whole queue"
unfoldable pub lots_now : Exchange → NewOrder → ℕ
lots_now x o = min o.lots (fillable_lots x o)

-- "Reading ends when the lots are covered or an order that is no counterpart is met. Give back the number of resting orders read,
-- that last one counted": where lots are left to cover, the next order is read, and reading goes on behind a counterpart only
unfoldable pub orders_read : Taker → ℕ → List Order → ℕ
orders_read t left [] = 0
orders_read t left (o ∷ os) = pick (ltb 0 left) (1 + pick (counterpart t o) (orders_read t (left - o.lots) os) 0) 0

unfoldable pub read_now : Exchange → NewOrder → ℕ
read_now x o = orders_read (taker_of x x.next 0 o) o.lots (opposite o.sell (listing_of x o))

-- ---- the refusals, "as for insert, in that order, with no state test"

unfoldable pub question_refusals : Exchange → NewOrder → List Refusal
question_refusals x o =
    absent_refusals x o.account o.contract
    -- 5 to 7; its 6 is "market or best with good for day" in every state, auction's own is no part of it (02, ticket 4)
    ++ fields_refusals (day_without_limit o.condition o.time) (listing_of x o).contract o

-- "21, 1, 2, 3, 5, 6, 7"
unfoldable pub ask_refusals : Memory → Record → List Refusal
ask_refusals m r =
    (21 when not (well_formed_memory m))
    -- "kind, flag value or unused field is wrong": the 24 bytes are those that would insert the order, another kind is a wrong one
    ∷ (1 when not (is_insert (command_of r)))
    ∷ question_refusals (exchange_of m) (new_order r)

-- ---- the answer

-- "both numbers are then 0"
abbrev pub refused_reading : ℕ → Reading
refused_reading code = record { code = code; lots = 0; read = 0 }

-- what was gathered, or the code of the first refusal
abbrev pub reading_from : Result Gathered Code → Reading
reading_from (Ok gathered) = record { code = 0; lots = gathered.lots; read = gathered.read }
reading_from (Err code) = refused_reading (code_number code)

-- a code, and for 0 the two numbers
unfoldable pub reading_with : ℕ → Exchange → NewOrder → Reading
reading_with code x o = pick (eqb code 0) (record { code = 0; lots = lots_now x o; read = read_now x o }) (refused_reading code)

-- an order on a well-formed state
unfoldable pub order_reading : Exchange → NewOrder → Reading
order_reading x o = reading_with (first_of (question_refusals x o)) x o

-- THE WHOLE ANSWER, on any state and any 24 bytes
unfoldable pub gettable_now : Memory → Record → Reading
gettable_now m r = reading_with (first_of (ask_refusals m r)) (exchange_of m) (new_order r)

-- ---- what a reader of the opposite queue gathers for an order of so many lots
pub record GatheredIs (t : Taker) (wanted : ℕ) (queue : List Order) (r : Gathered) : Type 0 where
  pub lots : r.lots ≡ min wanted (fillable t queue)
  pub read : r.read ≡ orders_read t wanted queue
