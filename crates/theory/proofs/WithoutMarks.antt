-- QUOTE MARKS PLAY NO PART in what an order is refused for, what it trades and where it rests (document 02, ticket 7): on the state without
-- its marks it has the same refusals, makes the same trades and leaves the same state, marks aside. Assumes nothing.
use Rattle.laws.specs.Logic.{Bool, true, false, ◌&&◌, List, [], ◌∷◌, ◌++◌, map, ◌≡◌, refl, sym, ap, ◌∙◌}
use Rattle.laws.specs.Numbers.{ℕ, zero, suc, ◌-◌, min, eqb, ltb, length, length-map, List·getD-map}
use Rattle.laws.specs.Choice.{pick}
use Rattle.laws.specs.Lists.{map_set}
use Rattle.laws.specs.Sums.{sum_of}
use Rattle.rules.specs.Answers.{fillable_lots, holding_refused, is_good_for_day, listing_of, money_refused, order_refusals, mark, taker_of, trades_needed, trades_refused, trades_against}
use Rattle.rules.specs.Bounds.{in_auction}
use Rattle.rules.specs.Change.{unmarked}
use Rattle.rules.specs.Exchange.{Exchange, Listing, best_price, listing_at, lots_where, no_listing, opposite, own, place_of, resting, worse}
use Rattle.rules.specs.Margin.{charged_lots, charged_to, with_open}
use Rattle.rules.specs.Matching.{Entered, Swept, after_trade, counterpart, enter, fillable, remainder, rest_in, rest_lots, rest_whole, stays, sweep, trade_price, trade_with, untouched}
use Rattle.rules.specs.Step.{entered_among, entered_of, exchange_after, limit_of, listing_after}
use Rattle.rules.specs.declared.{NewOrder.NewOrder, Order.Order, Taker.Taker}

-- a queue, a contract's queues and a state without quote marks
abbrev pub plain : List Order → List Order
plain queue = map unmarked queue

abbrev pub plain_listing : Listing → Listing
plain_listing l = record { contract = l.contract; buys = plain l.buys; sells = plain l.sells }

unfoldable pub without_marks : Exchange → Exchange
without_marks x =
    record {
      listings = map plain_listing x.listings;
      accounts = x.accounts;
      trades = x.trades;
      next = x.next;
      nextstamp = x.nextstamp;
      settlements = x.settlements;
    }

-- an arriving order, and what is left when it is entered
abbrev plain_taker : Taker → Taker
plain_taker t =
    record {
      account = t.account;
      contract = t.contract;
      sell = t.sell;
      close = t.close;
      number = t.number;
      stamp = t.stamp;
      quote = 0;
      condition = t.condition;
      method = t.method;
      best = t.best;
    }

abbrev pub plain_entered : Entered → Entered
plain_entered e = record { trades = e.trades; rested = e.rested; own = plain e.own; opposite = plain e.opposite }

-- ---- queues

plain_append : (os ps : List Order) → plain (os ++ ps) ≡ plain os ++ plain ps
plain_append [] ps = refl
plain_append (o ∷ os) ps = ap (λ (l : List Order). unmarked o ∷ l) (plain_append os ps)

plain_sum : (f : Order → ℕ) → ((o : Order) → f (unmarked o) ≡ f o) → (queue : List Order) → sum_of f (plain queue) ≡ sum_of f queue
unfolding sum_of
plain_sum f same [] = refl
plain_sum f same (o ∷ os) = rw (same o, plain_sum f same os)

plain_best : (queue : List Order) → best_price (plain queue) ≡ best_price queue
unfolding best_price
plain_best [] = refl
plain_best (o ∷ os) = refl

plain_own : (sell : Bool) (l : Listing) → own sell (plain_listing l) ≡ plain (own sell l)
plain_own true l = refl
plain_own false l = refl

plain_opposite : (sell : Bool) (l : Listing) → opposite sell (plain_listing l) ≡ plain (opposite sell l)
plain_opposite true l = refl
plain_opposite false l = refl

plain_resting : (close a : ℕ) (queue : List Order) → resting close a (plain queue) ≡ resting close a queue
unfolding resting lots_where
plain_resting close a = plain_sum (λ o. pick (eqb o.account a && eqb o.close close) o.lots 0) (λ o. refl)

plain_counterparts : (t : Taker) (queue : List Order) → fillable (plain_taker t) (plain queue) ≡ fillable t queue
unfolding fillable lots_where
plain_counterparts t = plain_sum (λ o. pick (counterpart t o) o.lots 0) (λ o. refl)

-- ---- the sweep, and where a remainder rests

plain_stays : (o : Order) (n : ℕ) → stays (unmarked o) n ≡ plain (stays o n)
unfolding stays
plain_stays o zero = refl
plain_stays o (suc n) = refl

plain_sweep : (t : Taker) (left last : ℕ) (os : List Order) →
    sweep (plain_taker t) left last (plain os) ≡ record { trades = (sweep t left last os).trades; rest = plain (sweep t left last os).rest }
unfolding sweep trade_with
plain_sweep t left last [] = refl
plain_sweep t left last (o ∷ os) = by_trade (ltb 0 left && counterpart t o) (plain_sweep t (left - n) (trade_price t.method t.condition o.price last) os)
  where
    n : ℕ
    n = min left o.lots

    turn : Swept → Swept
    turn s = after_trade (trade_with t o left last) (stays o (o.lots - n)) s

    after : Swept
    after = sweep t (left - n) (trade_price t.method t.condition o.price last) os

    kept : List Order → Swept → Swept
    kept os s = after_trade (trade_with t o left last) os s

    by_trade : (b : Bool) →
        sweep (plain_taker t) (left - n) (trade_price t.method t.condition o.price last) (plain os) ≡ record { trades = after.trades; rest = plain after.rest } →
        pick b (kept (stays (unmarked o) (o.lots - n)) (sweep (plain_taker t) (left - n) (trade_price t.method t.condition o.price last) (plain os))) (untouched (plain (o ∷ os)))
        ≡ record { trades = (pick b (turn after) (untouched (o ∷ os))).trades; rest = plain (pick b (turn after) (untouched (o ∷ os))).rest }
    by_trade true ih = rw (ih, plain_stays o (o.lots - n), plain_append (stays o (o.lots - n)) after.rest) refl
    by_trade false ih = refl

plain_rest_in : (sell : Bool) (o : Order) (queue : List Order) → rest_in sell (unmarked o) (plain queue) ≡ plain (rest_in sell o queue)
unfolding rest_in
plain_rest_in sell o [] = refl
plain_rest_in sell o (p ∷ ps) = by_price (worse sell p.price o.price) (plain_rest_in sell o ps)
  where
    by_price : (b : Bool) → rest_in sell (unmarked o) (plain ps) ≡ plain (rest_in sell o ps) →
        pick b (unmarked o ∷ plain (p ∷ ps)) (unmarked p ∷ rest_in sell (unmarked o) (plain ps)) ≡ plain (pick b (o ∷ p ∷ ps) (p ∷ rest_in sell o ps))
    by_price true ih = refl
    by_price false ih = rw ih refl

plain_rest : (t : Taker) (price n : ℕ) (queue : List Order) → rest_lots (plain_taker t) price n (plain queue) ≡ plain (rest_lots t price n queue)
unfolding rest_lots remainder
plain_rest t price zero queue = refl
plain_rest t price (suc n) queue = plain_rest_in t.sell (remainder t price (suc n)) queue

-- ---- an order entered

-- the order entered on a listing
abbrev entered_by : Taker → NewOrder → Listing → Entered
entered_by t o l = entered_among l.contract t o (own o.sell l) (opposite o.sell l)

plain_whole : (t : Taker) (lots price : ℕ) (mine others : List Order) → rest_whole (plain_taker t) lots price (plain mine) (plain others) ≡ plain_entered (rest_whole t lots price mine others)
unfolding rest_whole
plain_whole t lots price mine others = rw (plain_rest t price lots mine) refl

plain_enter : (t : Taker) (lots price : ℕ) (day : Bool) (last : ℕ) (mine others : List Order) →
    enter (plain_taker t) lots price day last (plain mine) (plain others) ≡ plain_entered (enter t lots price day last mine others)
unfolding enter
plain_enter t lots price day last mine others = rw (plain_sweep t lots last others, plain_rest t price _ mine) refl

plain_entered_lem : (t : Taker) (o : NewOrder) (l : Listing) → entered_by (plain_taker t) o (plain_listing l) ≡ plain_entered (entered_by t o l)
plain_entered_lem t o l =
    rw (plain_own o.sell l, plain_opposite o.sell l, plain_whole t o.lots (limit_of o.condition) (own o.sell l) (opposite o.sell l), plain_enter t o.lots (limit_of o.condition) (is_good_for_day o.time) l.contract.last (own o.sell l) (opposite o.sell l))
    (by_auction (in_auction l.contract) _ _)
  where
    by_auction : (b : Bool) (d e : Entered) → pick b (plain_entered d) (plain_entered e) ≡ plain_entered (pick b d e)
    by_auction true d e = refl
    by_auction false d e = refl

module _ (x : Exchange) where
  plain_listing_lem : (c : ℕ) → listing_at (without_marks x) c ≡ plain_listing (listing_at x c)
  unfolding without_marks listing_at
  plain_listing_lem c = List·getD-map plain_listing x.listings c no_listing

  module _ (o : NewOrder) where
    plain_listing_of : listing_of (without_marks x) o ≡ plain_listing (listing_of x o)
    unfolding listing_of
    plain_listing_of = plain_listing_lem (place_of o.contract)

    plain_taker_lem : (number quote : ℕ) → taker_of (without_marks x) number 0 o ≡ plain_taker (taker_of x number quote o)
    unfolding taker_of without_marks
    plain_taker_lem number quote = rw (plain_listing_of, plain_opposite o.sell (listing_of x o), plain_best (opposite o.sell (listing_of x o))) refl

    -- IT MAKES THE SAME TRADES, AND AS MANY LOTS REST
    pub entered_unmarked : (number quote : ℕ) → entered_of (without_marks x) number 0 o ≡ plain_entered (entered_of x number quote o)
    unfolding entered_of
    entered_unmarked number quote =
        ap (λ (t : Taker). entered_by t o (listing_of (without_marks x) o)) (plain_taker_lem number quote)
        ∙ ap (entered_by (plain_taker (taker_of x number quote o)) o) plain_listing_of ∙ plain_entered_lem (taker_of x number quote o) o (listing_of x o)

    -- ---- .. AND IT LEAVES THE SAME STATE, MARKS ASIDE

    plain_after : (sell : Bool) (l : Listing) (e : Entered) → plain_listing (listing_after l sell e) ≡ listing_after (plain_listing l) sell (plain_entered e)
    unfolding listing_after
    plain_after true l e = refl
    plain_after false l e = refl

    plain_exchange : (e : Entered) (next : ℕ) → without_marks (exchange_after x o e next) ≡ exchange_after (without_marks x) o (plain_entered e) next
    unfolding without_marks exchange_after
    plain_exchange e next =
        rw (plain_listing_of, map_set plain_listing x.listings (place_of o.contract) (listing_after (listing_of x o) o.sell e), plain_after o.sell (listing_of x o) e) refl

    pub after_unmarked : (number quote next : ℕ) →
        without_marks (exchange_after x o (entered_of x number quote o) next) ≡ exchange_after (without_marks x) o (entered_of (without_marks x) number 0 o) next
    after_unmarked number quote next =
        plain_exchange (entered_of x number quote o) next
        ∙ ap (λ (e : Entered). exchange_after (without_marks x) o e next) (sym (entered_unmarked number quote))

    -- ---- it is refused for the same

    plain_contract : (listing_of (without_marks x) o).contract ≡ (listing_of x o).contract
    plain_contract = ap (λ (l : Listing). l.contract) plain_listing_of

    plain_fillable : fillable_lots (without_marks x) o ≡ fillable_lots x o
    unfolding fillable_lots without_marks
    plain_fillable =
        ap (λ (t : Taker). fillable t (opposite o.sell (listing_of (without_marks x) o))) (plain_taker_lem x.next 0)
        ∙ ap (λ (l : Listing). fillable (plain_taker (taker_of x x.next 0 o)) (opposite o.sell l)) plain_listing_of
        ∙ rw (plain_opposite o.sell (listing_of x o)) (plain_counterparts (taker_of x x.next 0 o) (opposite o.sell (listing_of x o)))

    plain_trades : (number : ℕ) → trades_needed (without_marks x) number o ≡ trades_needed x number o
    unfolding trades_needed trades_against
    plain_trades number =
        rw (plain_taker_lem number 0, plain_listing_of, plain_opposite o.sell (listing_of x o), plain_sweep (taker_of x number 0 o) o.lots (listing_of x o).contract.last (opposite o.sell (listing_of x o))) refl

    plain_holding : holding_refused (without_marks x) o ≡ holding_refused x o
    unfolding holding_refused without_marks
    plain_holding =
        rw (plain_listing_of, plain_own o.sell (listing_of x o), plain_resting (mark o.close) (place_of o.account) (own o.sell (listing_of x o))) refl

plain_charged : (x : Exchange) (a n : ℕ) → charged_to (without_marks x) a n ≡ charged_to x a n
unfolding charged_to charged_lots without_marks
plain_charged x a zero = refl
plain_charged x a (suc c) =
    rw (plain_charged x a c, plain_listing_lem x c, plain_resting 0 a (listing_at x c).buys, plain_resting 0 a (listing_at x c).sells) refl

module _ (x : Exchange) (o : NewOrder) where
  plain_money : money_refused (without_marks x) o ≡ money_refused x o
  unfolding money_refused without_marks
  plain_money =
      rw (length-map x.listings plain_listing, plain_charged (with_open x (place_of o.account) (place_of o.contract) o.sell o.lots) (place_of o.account) (length x.listings)) refl

  plain_length : length (own o.sell (listing_of (without_marks x) o)) ≡ length (own o.sell (listing_of x o))
  plain_length = rw (plain_listing_of x o, plain_own o.sell (listing_of x o)) (length-map (own o.sell (listing_of x o)) unmarked)

  plain_room : (number : ℕ) → trades_refused (without_marks x) number o ≡ trades_refused x number o
  unfolding trades_refused without_marks
  plain_room number = rw (plain_trades x o number) refl

  -- ON THE STATE WITHOUT ITS MARKS AN ORDER HAS THE SAME REFUSALS
  pub refusals_unmarked : order_refusals (without_marks x) o ≡ order_refusals x o
  unfolding order_refusals
  refusals_unmarked =
      rw (plain_contract x o, plain_holding x o, plain_money, plain_fillable x o, plain_room (without_marks x).next, plain_length, plain_next, plain_stamps) refl
    where
      plain_next : (without_marks x).next ≡ x.next
      plain_next = unfold without_marks in refl

      plain_stamps : (without_marks x).nextstamp ≡ x.nextstamp
      plain_stamps = unfold without_marks in refl
