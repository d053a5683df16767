-- Changing a resting order (document 02, ticket 8; 001, 4.1.2.3). Assumes nothing.
use Rattle.std.specs.Prelude.{Bool, not, ◌&&◌, ◌||◌, List, [], ◌∷◌, ◌++◌, ℕ, ltb, eqb, get_or}
use Rattle.laws.specs.Choice.{pick}
use Rattle.rules.specs.Answers.{Refusal, ◌when◌, day_limit_order, numbered, resting_order, no_such_order, named_refusals, not_continuous, owner_refusals, account_refusals, stamps_used_up, trades_refused}
use Rattle.rules.specs.Bounds.{allowed_today, max_lots}
use Rattle.rules.specs.Exchange.{Exchange, Listing, listing_named, place_of, no_order}
use Rattle.rules.specs.Matching.{Entered, traded_lots, with_lots}
use Rattle.rules.specs.Step.{Effect, accepted, with_listing, listing_without, has_number, cancelled, entered_of, exchange_after}
use Rattle.rules.specs.declared.Contract.{Contract}
use Rattle.rules.specs.declared.NewOrder.{NewOrder}
use Rattle.rules.specs.declared.Order.{Order}
use Rattle.rules.specs.declared.Trade.{Trade}

-- "account, contract, order number, the new remaining lots and the price"
pub record Asked : Type 0 where
  pub account : ℕ
  pub contract : ℕ
  pub number : ℕ
  pub lots : ℕ
  pub price : ℕ

abbrev pub asked : ℕ → ℕ → ℕ → ℕ → ℕ → Asked
asked account contract number lots price =
    record { account = account; contract = contract; number = number; lots = lots; price = price }

-- the order as it rests, and its side: a sell where it is not among the buys
unfoldable pub old_order : Exchange → Asked → Order
old_order x k = get_or (resting_order (listing_named x k.contract) k.number) 0 no_order

unfoldable pub is_sell : Exchange → Asked → Bool
is_sell x k = no_such_order (numbered k.number (listing_named x k.contract).buys)

-- "fewer lots keep the place in the queue; more lots or another price lose it"
abbrev pub loses : Order → ℕ → ℕ → Bool
loses o lots price = ltb o.lots lots || not (eqb price o.price)

-- zero lots are no loss of place but a removal
unfoldable pub loses_place : Exchange → Asked → Bool
loses_place x k = not (eqb k.lots 0) && loses (old_order x k) k.lots k.price

-- "as though the old order were gone"
unfoldable pub gone : Exchange → Asked → Exchange
gone x k = with_listing x (place_of k.contract) (listing_without (has_number k.number) (listing_named x k.contract))

-- "then matched at once": it arrives as a good-for-day limit order of its account, on its side, to open or close as before
unfoldable pub arriving : Exchange → Asked → NewOrder
arriving x k = day_limit_order k.account k.contract (is_sell x k) (eqb (old_order x k).close 1) k.lots k.price

-- "The number stays." "In a quote, any other change of an order drops that order's mark."
unfoldable pub reentered : Exchange → Asked → Entered
reentered x k = entered_of (gone x k) k.number 0 (arriving x k)

-- ---- "Refusals: 21, 1, 2, 3, 4, 14, 15; then, unless lots are zero, 5 and 7 as for insert, and where the place is lost 8, 9, 10
-- (stamps used up ..) and 12. 13 never occurs here."

-- "unless lots are zero, 5 and 7 as for insert", of the new lots and price
abbrev pub new_fields_refusals : Contract → ℕ → ℕ → List Refusal
new_fields_refusals terms lots price =
    -- "lots outside 1 to 1,000", zero aside
    (5 when ltb max_lots lots)
    ∷ (7 when (not (eqb lots 0) && not (allowed_today terms price)))
    ∷ []

-- "8, 9, 10 (stamps used up ..) and 12", of an order that arrives again with its number
abbrev pub reentry_refusals : Exchange → ℕ → NewOrder → List Refusal
reentry_refusals x number o =
    account_refusals x o
    ++ (10 when stamps_used_up x)
    ∷ (12 when trades_refused x number o)
    ∷ []

unfoldable pub change_refusals : Exchange → Asked → List Refusal
change_refusals x k =
    named_refusals x not_continuous k.account k.contract
    ++ owner_refusals (place_of k.account) (resting_order (listing_named x k.contract) k.number)
    ++ new_fields_refusals (listing_named x k.contract).contract k.lots k.price
    -- "where the place is lost", "tested as though the old order were gone"
    ++ pick (loses_place x k) (reentry_refusals (gone x k) k.number (arriving x k)) []

-- ---- "The answer gives the number, lots traded, and lots now resting (removed, for zero lots)."

-- the place lost: the order gone, then entered with its number and the next time stamp
unfoldable pub place_lost : Exchange → Asked → Effect
place_lost x k =
    record {
      number = k.number;
      traded = traded_lots (reentered x k).trades;
      lots = (reentered x k).rested;
      stages = gone x k ∷ exchange_after (gone x k) (arriving x k) (reentered x k) x.next ∷ [];
    }

-- "Equal lots and price change nothing."
unfoldable pub unchanged : Exchange → Asked → Effect
unchanged x k = record { number = k.number; traded = 0; lots = k.lots; stages = [] }

-- fewer lots at the same price: that order's lots alone, and its mark
abbrev pub unmarked : Order → Order
unmarked o =
    record { price = o.price; number = o.number; account = o.account; lots = o.lots; close = o.close; stamp = o.stamp; quote = 0 }

unfoldable pub lessened : ℕ → ℕ → List Order → List Order
lessened number lots [] = []
lessened number lots (o ∷ os) = pick (has_number number o) (unmarked (with_lots o lots)) o ∷ lessened number lots os

abbrev pub listing_lessened : Asked → Listing → Listing
listing_lessened k l =
    record { contract = l.contract; buys = lessened k.number k.lots l.buys; sells = lessened k.number k.lots l.sells }

unfoldable pub place_kept : Exchange → Asked → Effect
place_kept x k = accepted k.number 0 k.lots (with_listing x (place_of k.contract) (listing_lessened k (listing_named x k.contract)))

-- "Zero lots removes the order, its price not looked at."
unfoldable pub changed : Exchange → Asked → Effect
changed x k =
    pick (eqb k.lots 0) (cancelled x (place_of k.contract) k.number)
    (pick (loses_place x k) (place_lost x k)
    (pick (eqb k.lots (old_order x k).lots) (unchanged x k) (place_kept x k)))

-- the trades that it makes
unfoldable pub change_trades : Exchange → Asked → List Trade
change_trades x k = pick (loses_place x k) (reentered x k).trades []
