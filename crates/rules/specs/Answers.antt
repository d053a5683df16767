-- "Numbers given back": the table of answers, and for kinds 1 to 7 the order in which their refusals are tried. A refusal stands
-- in a kind's list as `code when test`; the code given is the first whose test holds. Code 1 stands in Kinds.antt. Assumes
-- nothing.
use Rattle.std.specs.Prelude.{Bool, true, false, not, ◌&&◌, ◌||◌, List, [], ◌∷◌, ◌++◌, ℕ, ◌+◌, leb, ltb, eqb, pos, ◌+ℤ◌, ◌-ℤ◌, length}
use Rattle.std.specs.Int.Signed.{lt_z}
use Rattle.laws.specs.Choice.{pick, all_of}
use Rattle.rules.specs.Bounds.{within, allowed_today, pre_open, continuous, no_trading, closed, auction, in_auction, max_lots, max_resting, max_trades, max_settlements, numbers_end, max_amount, max_balance}
use Rattle.rules.specs.Auction.{match_of}
use Rattle.rules.specs.Exchange.{Exchange, Listing, listing_named, phase_now, holder_of, holding_of, place_of, absent, own, opposite, best_price, resting}
use Rattle.rules.specs.Margin.{charged, charged_with}
use Rattle.rules.specs.Matching.{sweep, fillable, method_of}
use Rattle.rules.specs.declared.Contract.{Contract}
use Rattle.rules.specs.declared.Holding.{Holding}
use Rattle.rules.specs.declared.NewOrder.{NewOrder}
use Rattle.rules.specs.declared.Order.{Order}
use Rattle.rules.specs.declared.PriceCondition.{PriceCondition}
use Rattle.rules.specs.declared.PriceCondition.TheVariants.{Limit, Market, Best}
use Rattle.rules.specs.declared.TimeCondition.{TimeCondition}
use Rattle.rules.specs.declared.TimeCondition.TheVariants.{GoodForDay, ImmediateOrCancel, FillOrKill}
use Rattle.rules.specs.declared.Taker.{Taker}

infix 20 ◌when◌
pub data Refusal : Type 0 where
  ◌when◌ : ℕ → Bool → Refusal

-- "given exactly when (first in the order below)"; 0 when "none below applies"
unfoldable pub first_of : List Refusal → ℕ
first_of [] = 0
first_of ((code when test) ∷ rs) = pick test code (first_of rs)

-- ---- an order on arrival

abbrev pub is_good_for_day : TimeCondition → Bool
is_good_for_day GoodForDay = true
is_good_for_day ImmediateOrCancel = false
is_good_for_day FillOrKill = false

abbrev pub is_fill_or_kill : TimeCondition → Bool
is_fill_or_kill GoodForDay = false
is_fill_or_kill ImmediateOrCancel = false
is_fill_or_kill FillOrKill = true

abbrev pub is_limit : PriceCondition → Bool
is_limit (Limit price) = true
is_limit Market = false
is_limit Best = false

-- a mark: 1 for a close, 0 for an open
abbrev pub mark : Bool → ℕ
mark true = 1
mark false = 0

-- a good-for-day limit order, as a change and a quote send it (02, tickets 8 and 7)
abbrev pub day_limit_order : ℕ → ℕ → Bool → Bool → ℕ → ℕ → NewOrder
day_limit_order account contract sell close lots price =
    record { account = account; contract = contract; sell = sell; close = close; lots = lots; price = price; condition = Limit price; time = GoodForDay }

unfoldable pub listing_of : Exchange → NewOrder → Listing
listing_of x o = listing_named x o.contract

-- the queue on the order's side, and the one it trades with
abbrev pub own_queue : Exchange → NewOrder → List Order
own_queue x o = own o.sell (listing_of x o)

abbrev pub opposite_queue : Exchange → NewOrder → List Order
opposite_queue x o = opposite o.sell (listing_of x o)

-- the order with the number that it has, its quote mark (02, ticket 7) and its time stamp, in a contract with these terms, against the
-- opposite queue
abbrev pub taker_for : ℕ → ℕ → ℕ → Contract → List Order → NewOrder → Taker
taker_for number quote stamp terms queue o =
    record {
      account = place_of o.account;
      contract = place_of o.contract;
      sell = o.sell;
      close = mark o.close;
      number = number;
      stamp = stamp;
      quote = quote;
      condition = o.condition;
      method = method_of terms;
      best = best_price queue;
    }

-- it gets the next time stamp: "new at insert and at each loss of place" (02, ticket 8)
unfoldable pub taker_of : Exchange → ℕ → ℕ → NewOrder → Taker
taker_of x number quote o = taker_for number quote x.nextstamp (listing_of x o).contract (opposite_queue x o) o

unfoldable pub fillable_lots : Exchange → NewOrder → ℕ
fillable_lots x o = fillable (taker_of x x.next 0 o) (opposite_queue x o)

-- how many trades so many lots would make with a queue: in auction none, since orders "rest without matching" (02, ticket 4)
unfoldable pub trades_against : Contract → Taker → ℕ → List Order → ℕ
trades_against c t lots queue = pick (in_auction c) 0 (length (sweep t lots c.last queue).trades)

unfoldable pub trades_needed : Exchange → ℕ → NewOrder → ℕ
trades_needed x number o = trades_against (listing_of x o).contract (taker_of x number 0 o) o.lots (opposite_queue x o)

-- ---- the tests of an insert

-- 4: "Insert needs continuous.", and auction (02, ticket 4)
unfoldable pub takes_orders : Contract → Bool
takes_orders c = eqb c.phase continuous || in_auction c

-- 4 of a quote and of a change: "in continuous only" (02, tickets 7 and 8)
abbrev pub not_continuous : Contract → Bool
not_continuous c = not (eqb c.phase continuous)

-- 6: "market or best with good for day", whatever the contract's state
abbrev pub day_without_limit : PriceCondition → TimeCondition → Bool
day_without_limit condition time = not (is_limit condition) && is_good_for_day time

-- 6: "in auction 6 for any insert not limit good for day" (02, ticket 4)
unfoldable pub conditions_refused : Contract → NewOrder → Bool
conditions_refused c o =
    day_without_limit o.condition o.time || in_auction c && not (is_limit o.condition && is_good_for_day o.time)

-- 7: "limit price off tick or outside low to high; market or best with a price not 0"
unfoldable pub price_refused_by : Contract → PriceCondition → ℕ → Bool
price_refused_by c (Limit limit) price = not (allowed_today c limit)
price_refused_by c Market price = not (eqb price 0)
price_refused_by c Best price = not (eqb price 0)

abbrev pub price_refused : Contract → NewOrder → Bool
price_refused c o = price_refused_by c o.condition o.price

-- 8, open: "holding, resting opens on that side and lots exceed the limit"; close: "lots exceed holding less own resting closes on
-- it", where a sell closes long lots and a buy short ones. `rested` are the account's lots resting on the order's side: opens of an
-- open, closes of a close.
unfoldable pub lots_refused : Contract → Holding → ℕ → NewOrder → Bool
lots_refused c h rested o =
    pick o.close
    (ltb (pick o.sell h.long h.short) (rested + o.lots))
    (ltb c.limit (pick o.sell h.short h.long + rested + o.lots))

unfoldable pub holding_refused : Exchange → NewOrder → Bool
holding_refused x o =
    lots_refused (listing_of x o).contract (holding_of x o.account o.contract)
    (resting (mark o.close) (place_of o.account) (own_queue x o)) o

-- 9, open: "An open passes if all charged margin, its lots included, is at most the balance" (02, ticket 2)
unfoldable pub money_refused : Exchange → NewOrder → Bool
money_refused x o =
    not o.close
    && lt_z (holder_of x o.account).balance
    (pos (charged_with x (place_of o.account) (place_of o.contract) o.sell o.lots))

-- 10: "order numbers used up"
abbrev pub numbers_used_up : Exchange → Bool
numbers_used_up x = leb numbers_end x.next

-- 10: "stamps used up, for inserts too"; "Stamps end at 999,999 a day." (02, ticket 8)
abbrev pub stamps_used_up : Exchange → Bool
stamps_used_up x = leb numbers_end x.nextstamp

-- 11: "fill or kill: fillable lots below lots"
abbrev pub kill_refused : ℕ → ℕ → TimeCondition → Bool
kill_refused fillableNow lots time = is_fill_or_kill time && ltb fillableNow lots

-- 12: "it would make more trades than the day has room for": so many are recorded, so many are needed
abbrev pub no_room_for : ℕ → ℕ → Bool
no_room_for recorded needed = ltb max_trades (recorded + needed)

unfoldable pub trades_refused : Exchange → ℕ → NewOrder → Bool
trades_refused x number o = no_room_for (length x.trades) (trades_needed x number o)

-- 13: "good for day, own side has 64, fillable lots below lots"; in auction "13 whenever the own side has 64" (02, ticket 4). `ownOrders`
-- are the orders that rest on its own side
abbrev pub full_refused : Bool → ℕ → ℕ → ℕ → TimeCondition → Bool
full_refused duringAuction ownOrders fillableNow lots time =
    is_good_for_day time && leb max_resting ownOrders && (duringAuction || ltb fillableNow lots)

-- ---- the refusals of each kind, "Order: 21, 1, then .."

-- 2 and 3: "account 0 or absent"; "contract 0 or absent"
abbrev pub absent_refusals : Exchange → ℕ → ℕ → List Refusal
absent_refusals x account contract =
    (2 when absent account x.accounts)
    ∷ (3 when absent contract x.listings)
    ∷ []

-- and 4, "contract state forbids it", with which the kinds begin that name an account and a contract; `forbids` is the kind's own test
abbrev pub named_refusals : Exchange → (Contract → Bool) → ℕ → ℕ → List Refusal
named_refusals x forbids account contract =
    absent_refusals x account contract ++ (4 when forbids (listing_named x contract).contract) ∷ []

-- an order's own fields, by its contract's terms; `conditions` is the test of 6
abbrev pub fields_refusals : Bool → Contract → NewOrder → List Refusal
fields_refusals conditions terms o =
    -- "lots outside 1 to 1,000"
    (5 when not (within 1 max_lots o.lots))
    ∷ (6 when conditions)
    ∷ (7 when price_refused terms o)
    ∷ []

-- its account's lots and money
abbrev pub account_refusals : Exchange → NewOrder → List Refusal
account_refusals x o =
    (8 when holding_refused x o)
    ∷ (9 when money_refused x o)
    ∷ []

-- the order in the book
abbrev pub book_refusals : Exchange → NewOrder → List Refusal
book_refusals x o =
    (10 when (numbers_used_up x || stamps_used_up x))
    ∷ (11 when kill_refused (fillable_lots x o) o.lots o.time)
    ∷ (12 when trades_refused x x.next o)
    ∷ (13 when full_refused (in_auction (listing_of x o).contract) (length (own_queue x o)) (fillable_lots x o) o.lots o.time)
    ∷ []

-- an order's code "from 5 on" (02, ticket 7)
unfoldable pub order_refusals : Exchange → NewOrder → List Refusal
order_refusals x o =
    fields_refusals (conditions_refused (listing_of x o).contract o) (listing_of x o).contract o
    ++ account_refusals x o
    ++ book_refusals x o

-- "for insert 2 to 13 rising"
unfoldable pub insert_refusals : Exchange → NewOrder → List Refusal
insert_refusals x o = named_refusals x (λ c. not (takes_orders c)) o.account o.contract ++ order_refusals x o

-- 4: "Cancel and pull need continuous, or no trading with the operator bit (001, table 2)." In auction "cancel and pull work"
-- (02, ticket 4), with the operator bit or without.
unfoldable pub removal_refused : Contract → Bool → Bool
removal_refused c operator = not (eqb c.phase continuous || eqb c.phase no_trading && operator || in_auction c)

-- the resting order with a number, buys first: a list of one, empty where there is none
unfoldable pub numbered : ℕ → List Order → List Order
numbered n [] = []
numbered n (o ∷ os) = pick (eqb o.number n) (o ∷ []) (numbered n os)

unfoldable pub resting_order : Listing → ℕ → List Order
resting_order l n = numbered n (l.buys ++ l.sells)

unfoldable pub no_such_order : List Order → Bool
no_such_order [] = true
no_such_order (o ∷ os) = false

unfoldable pub of_another : ℕ → List Order → Bool
of_another a [] = false
of_another a (o ∷ os) = not (eqb o.account a)

-- 14 and 15: "no such resting order in that contract", "resting order of another account"; the order found is a list of one or none, and
-- `a` the account's place
abbrev pub owner_refusals : ℕ → List Order → List Refusal
owner_refusals a found =
    (14 when no_such_order found)
    ∷ (15 when of_another a found)
    ∷ []

-- "cancel 2, 3, 4, 14, 15"
unfoldable pub cancel_refusals : Exchange → ℕ → ℕ → Bool → ℕ → List Refusal
cancel_refusals x account contract operator number =
    named_refusals x (λ c. removal_refused c operator) account contract
    ++ owner_refusals (place_of account) (resting_order (listing_named x contract) number)

-- "pull 2, 3, 4"
unfoldable pub pull_refusals : Exchange → ℕ → ℕ → Bool → List Refusal
pull_refusals x account contract operator = named_refusals x (λ c. removal_refused c operator) account contract

-- 16: "amount not 1 to 10^15, or deposit lifts the balance above 10^18"
unfoldable pub amount_refused : ℕ → Bool
amount_refused amount = not (within 1 max_amount amount)

unfoldable pub lifts_too_high : Exchange → ℕ → ℕ → Bool
lifts_too_high x account amount = lt_z (pos max_balance) ((holder_of x account).balance +ℤ pos amount)

-- "deposit 2, 16"
unfoldable pub deposit_refusals : Exchange → ℕ → ℕ → List Refusal
deposit_refusals x account amount =
    (2 when absent account x.accounts)
    ∷ (16 when (amount_refused amount || lifts_too_high x account amount))
    ∷ []

-- 9, withdraw: "a withdrawal passes if the balance after it is at least the charged margin" (02, ticket 2)
unfoldable pub leaves_too_little : Exchange → ℕ → ℕ → Bool
leaves_too_little x account amount =
    lt_z ((holder_of x account).balance -ℤ pos amount) (pos (charged x (place_of account)))

-- "withdraw 2, 16, 9"
unfoldable pub withdraw_refusals : Exchange → ℕ → ℕ → List Refusal
withdraw_refusals x account amount =
    (2 when absent account x.accounts)
    ∷ (16 when amount_refused amount)
    ∷ (9 when leaves_too_little x account amount)
    ∷ []

-- 17: "State changes (house ..): 0 to 1, 0 to 3, 1 to 2, 2 to 1, 1 to 3, 2 to 3." Auction is "reached from pre-open, left only to
-- continuous" (02, ticket 4): 0 to 4, 4 to 1.
unfoldable pub change_listed : ℕ → ℕ → Bool
change_listed from to =
    eqb from pre_open && eqb to continuous
    || eqb from pre_open && eqb to closed
    || eqb from continuous && eqb to no_trading
    || eqb from no_trading && eqb to continuous
    || eqb from continuous && eqb to closed
    || eqb from no_trading && eqb to closed
    || eqb from pre_open && eqb to auction
    || eqb from auction && eqb to continuous

-- "state 3, 17", "then 12 for the state change if the match needs more room" (02, ticket 4)
unfoldable pub phase_refusals : Exchange → ℕ → ℕ → List Refusal
phase_refusals x contract phase =
    (3 when absent contract x.listings)
    ∷ (17 when not (change_listed (phase_now x contract) phase))
    ∷ (12 when no_room_for (length x.trades) (length (match_of x (place_of contract)).trades))
    ∷ []

-- "settle 18, 19"
unfoldable pub settle_refusals : Exchange → List Refusal
settle_refusals x =
    (18 when not (all_of (λ l. eqb l.contract.phase closed) x.listings))
    ∷ (19 when leb max_settlements x.settlements)
    ∷ []
