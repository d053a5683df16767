-- Laws 8 to 11 (rules, specs/Fairness) of every order that is entered on a well-formed state, having passed its tests. Assumes nothing.
use borrow.Author.Rules.{rules}
use Rattle.laws.specs.Logic.{Bool, true, false, not, true≢false, List, [], ◌∷◌, ◌++◌, ◌≡◌, refl, sym, ap, subst⁻¹, ◌∙◌}
use Rattle.laws.specs.Numbers.{ℕ, zero, suc, ◌+◌, min, arith, eqb, length, get_or, get_or-set_same}
use Rattle.laws.specs.Choice.{all_of, all_of_imp, pick, by_test}
use Rattle.laws.specs.Sums.{sum_of}
use Rattle.rules.specs.Answers.{fillable_lots, is_fill_or_kill, is_good_for_day, listing_of, taker_of}
use Rattle.rules.specs.Bounds.{in_auction, on_tick}
use Rattle.rules.specs.Exchange.{Exchange, Listing, listing_at, lots_where, no_listing, opposite, own, place_of}
use Rattle.rules.specs.FairCommands.{Entering, FairlyEntered}
use Rattle.rules.specs.Fairness.{AtLimitOrBetter, LotsAccounted, NothingBetterLeft, PriceThenTime, lots_numbered, lots_traded}
use Rattle.rules.specs.Matching.{Entered, enter, fillable, remainder, rest_lots, rest_whole, rested_lots, traded_lots}
use Rattle.rules.specs.Step.{entered_of, exchange_after, limit_of, listing_after}
use Rattle.rules.specs.WellFormed.{all_listed, all_numbers, listed, numbers, order_in_range, sorted, used_once}
use Rattle.rules.specs.declared.{NewOrder.NewOrder, Order.Order, Taker.Taker}
use Rattle.rules.specs.declared.TimeCondition.TheVariants.{FillOrKill}
use Rattle.theory.proofs.AuctionSteps.{entered_either, entered_elsewhere, entered_by_sweep}
use Rattle.theory.proofs.Fillable.{swept_at_most, swept_fillable, traded_nil}
use Rattle.theory.proofs.Prices.{allowed_facts, method_rounds}
use Rattle.theory.proofs.Queue.{once_append}
use Rattle.theory.proofs.Terms.{contract_terms}
use Rattle.invariants.proofs.Clauses.{ListingOk, WellFormed, order_ok}
use Rattle.invariants.proofs.InsertAccepted.{Passes}
use Rattle.invariants.proofs.Sorting.{rest_in_sum}
use Rattle.invariants.proofs.SweptFairly.{nothing_traded, swept_accounted, swept_its, swept_limits, swept_nothing_better, swept_priority}

-- ---- numbers used once over all queues are used once in each

pub once_each : (ls : List Listing) → used_once (all_numbers ls) ≡ true → (c : ℕ) (sell : Bool) → used_once (numbers (own sell (get_or ls c no_listing))) ≡ true
unfolding all_listed listed used_once
once_each [] u c true = refl
once_each [] u c false = refl
once_each (l ∷ ls) u zero false = (once_append (numbers l.buys) (numbers l.sells ++ all_numbers ls) u).0
once_each (l ∷ ls) u zero true =
    (once_append (numbers l.sells) (all_numbers ls) (once_append (numbers l.buys) (numbers l.sells ++ all_numbers ls) u).1).0
once_each (l ∷ ls) u (suc c) sell =
    once_each ls (once_append (numbers l.sells) (all_numbers ls) (once_append (numbers l.buys) (numbers l.sells ++ all_numbers ls) u).1).1 c sell

-- ---- nothing has traded

none_priority : (sell : Bool) (os : List Order) → PriceThenTime sell os os []
unfolding sum_of
none_priority sell os = record { filled = λ i j h k a some. absurd (omega arith); leaves = λ i j h k a some. absurd (omega arith) }

none_limits : (t : Taker) (os : List Order) → AtLimitOrBetter t os []
unfolding all_of
none_limits t os = search rules depth 12

module _ (x : Exchange) (k : WellFormed x) (number quote : ℕ) (o : NewOrder) (p : Passes x number o) where
  abbrev t : Taker
  t = taker_of x number quote o

  abbrev l : Listing
  l = listing_of x o

  abbrev queue : List Order
  queue = opposite o.sell l

  abbrev last : ℕ
  last = l.contract.last

  ok : ListingOk (length x.accounts) x.next x.nextstamp l
  unfolding listing_of
  ok = k.listing (place_of o.contract) p.contract

  -- the queue that it meets is the own queue of the other side
  other_side : (P : Bool → List Order → Type 0) → ((sell : Bool) → P sell (own sell l)) → P (not o.sell) queue
  other_side P f = by_side o.sell
    where
      by_side : (sell : Bool) → P (not sell) (opposite sell l)
      by_side true = f false
      by_side false = f true

  in_order : sorted (not o.sell) queue ≡ true
  in_order = other_side (λ sell q. sorted sell q ≡ true) ok.order

  used_once_lem : used_once (numbers queue) ≡ true
  unfolding listing_of listing_at
  used_once_lem = other_side (λ sell q. used_once (numbers q) ≡ true) (once_each x.listings k.once (place_of o.contract))

  on_tick_lem : all_of (λ q. on_tick l.contract.tick q.price) queue ≡ true
  on_tick_lem =
      other_side (λ sell q. all_of (λ r. on_tick l.contract.tick r.price) q ≡ true)
      (λ sell. all_of_imp (order_in_range (length x.accounts) x.next x.nextstamp l.contract) (λ r. on_tick l.contract.tick r.price) (own sell l)
      (λ r h. (allowed_facts l.contract r.price (order_ok (length x.accounts) x.next x.nextstamp l.contract r h).price).tick) (ok.orders sell))

  -- what is said of an order entered by the sweep
  by_sweep : (P : Entered → Type 0) → in_auction l.contract ≡ false → P (entered_by_sweep x number quote o) → P (entered_of x number quote o)
  by_sweep P a h = subst⁻¹ P (entered_elsewhere x number quote o a) h

  fillable_is : fillable t queue ≡ fillable_lots x o
  unfolding fillable taker_of fillable_lots
  fillable_is = refl

  -- ---- 11, of the order

  its_lots : lots_traded t.sell number (entered_of x number quote o).trades ≡ traded_lots (entered_of x number quote o).trades
  unfolding enter rest_whole taker_of sum_of traded_lots
  its_lots =
      entered_either x number quote o (λ e. lots_traded t.sell number e.trades ≡ traded_lots e.trades) (λ a. refl)
      (λ a. swept_its t o.lots last queue)

  most_traded : in_auction l.contract ≡ false → traded_lots (entered_of x number quote o).trades ≡ min o.lots (fillable t queue)
  unfolding enter taker_of
  most_traded a = by_sweep (λ e. traded_lots e.trades ≡ min o.lots (fillable t queue)) a (swept_fillable t o.lots last queue in_order refl)

  -- fill or kill is entered outside auction alone, and can be filled
  not_auctioned : is_good_for_day o.time ≡ false → in_auction l.contract ≡ false
  not_auctioned g = by_test (in_auction l.contract) (λ e. absurd (true≢false (sym (p.rests e) ∙ g))) (λ e. e)

  whole_traded : o.time ≡ FillOrKill → traded_lots (entered_of x number quote o).trades ≡ o.lots
  whole_traded e = omega (arith, most_traded (not_auctioned (ap is_good_for_day e)), fillable_is, p.kill (ap is_fill_or_kill e))

  rests_whole : is_good_for_day o.time ≡ true → traded_lots (entered_of x number quote o).trades + (entered_of x number quote o).rested ≡ o.lots
  unfolding enter rest_whole rested_lots
  rests_whole g =
      entered_either x number quote o (λ e. traded_lots e.trades + e.rested ≡ o.lots) (λ a. omega (arith, traded_nil))
      (λ a. rw g (omega (arith, swept_at_most t o.lots last queue)))

  none_rests : is_good_for_day o.time ≡ false → ((entered_of x number quote o).rested ≡ 0) × ((entered_of x number quote o).own ≡ own o.sell l)
  unfolding enter rested_lots rest_lots
  none_rests g = by_sweep (λ e. (e.rested ≡ 0) × (e.own ≡ own o.sell l)) (not_auctioned g) (rw g (refl, refl))

  rest_added : (number' n : ℕ) → lots_numbered number' (rest_lots t (limit_of o.condition) n (own o.sell l)) ≡ pick (eqb number number') n 0 + lots_numbered number' (own o.sell l)
  unfolding rest_lots remainder taker_of lots_where
  rest_added number' zero = by_number (eqb number number')
    where
      by_number : (same : Bool) → lots_numbered number' (own o.sell l) ≡ pick same 0 0 + lots_numbered number' (own o.sell l)
      by_number true = omega arith
      by_number false = omega arith
  rest_added number' (suc n) =
      rest_in_sum (λ p. pick (eqb p.number number') p.lots 0) t.sell (remainder t (limit_of o.condition) (suc n)) (own o.sell l)

  own_added : (number' : ℕ) → lots_numbered number' (entered_of x number quote o).own ≡ pick (eqb number number') (entered_of x number quote o).rested 0 + lots_numbered number' (own o.sell l)
  unfolding enter rest_whole
  own_added number' =
      entered_either x number quote o (λ e. lots_numbered number' e.own ≡ pick (eqb number number') e.rested 0 + lots_numbered number' (own o.sell l))
      (λ a. rest_added number' o.lots) (λ a. rest_added number' _)

  -- ---- what it leaves

  abbrev entering : ℕ → Entering
  entering next = record { state = x; number = number; quote = quote; next = next; order = o }

  left_listing : (next : ℕ) → listing_of (exchange_after x o (entered_of x number quote o) next) o ≡ listing_after l o.sell (entered_of x number quote o)
  unfolding listing_of listing_at exchange_after
  left_listing next = get_or-set_same x.listings (place_of o.contract) (listing_after l o.sell (entered_of x number quote o)) no_listing p.contract

  own_left : (next : ℕ) → own o.sell (listing_of (exchange_after x o (entered_of x number quote o) next) o) ≡ (entered_of x number quote o).own
  unfolding listing_after
  own_left next = ap (own o.sell) (left_listing next) ∙ by_side o.sell
    where
      by_side : (sell : Bool) → own sell (listing_after l sell (entered_of x number quote o)) ≡ (entered_of x number quote o).own
      by_side true = refl
      by_side false = refl

  opposite_left : (next : ℕ) → opposite o.sell (listing_of (exchange_after x o (entered_of x number quote o) next) o) ≡ (entered_of x number quote o).opposite
  unfolding listing_after
  opposite_left next = ap (opposite o.sell) (left_listing next) ∙ by_side o.sell
    where
      by_side : (sell : Bool) → opposite sell (listing_after l sell (entered_of x number quote o)) ≡ (entered_of x number quote o).opposite
      by_side true = refl
      by_side false = refl

  -- EVERY ORDER ENTERED ON A WELL-FORMED STATE IS ENTERED FAIRLY
  pub fairly_entered : (next : ℕ) → FairlyEntered (entering next) (exchange_after x o (entered_of x number quote o) next)
  unfolding taker_of enter rest_whole exchange_after
  fairly_entered next =
      record {
        leaves = refl;
        own_queue_lem = own_left next;
        opposite_queue_lem = opposite_left next;
        recorded = refl;
        priority =
            entered_either x number quote o (λ e. PriceThenTime (not o.sell) queue e.opposite e.trades) (λ a. none_priority (not o.sell) queue)
            (λ a. swept_priority t o.lots last queue in_order used_once_lem);
        nothing_better =
            λ a. by_sweep (λ e. NothingBetterLeft t o.lots queue e.opposite e.trades) a (swept_nothing_better t o.lots last queue in_order used_once_lem refl);
        limits =
            entered_either x number quote o (λ e. AtLimitOrBetter t queue e.trades) (λ a. none_limits t queue)
            (λ a. swept_limits t l.contract.tick (contract_terms l.contract ok.contract).tick_low (method_rounds l.contract)
            (λ limit c. (allowed_facts l.contract limit (p.price limit c)).tick) o.lots last queue on_tick_lem refl);
        accounted =
            entered_either x number quote o (λ e. LotsAccounted (not o.sell) queue e.opposite e.trades) (λ a. nothing_traded (not o.sell) queue)
            (λ a. swept_accounted t o.lots last queue);
        order = record { its = its_lots; most = most_traded; whole = whole_traded; rests = rests_whole; vanishes = none_rests; added = own_added };
      }
