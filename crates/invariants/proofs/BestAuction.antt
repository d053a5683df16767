-- Law 13 (rules, specs/AuctionFairness): THE AUCTION TRADES THE MOST THAT CAN TRADE AT ONE PRICE. Trades that respect limits and lots trade at most the
-- volume of their price, and of that the auction has the largest; and both queues are taken from their fronts. Assumes nothing.
use Rattle.laws.specs.Logic.{Bool, true, false, ◌&&◌, List, [], ◌∷◌, ◌≡◌, refl}
use Rattle.laws.specs.Numbers.{ℕ, ◌+◌, ◌-◌, ◌<◌, ◌≤◌, arith, ltb-true, ltb-false, eqb, ltb, length}
use Rattle.laws.specs.Choice.{all_of, pick}
use Rattle.laws.specs.Sums.{sum_of, sum_of_ext}
use Rattle.rules.specs.Auction.{Matched, after_match, auction_match, chosen_price, less_first, lots_reaching, match_at, paired, reaches, trade_at, unmatched, volume}
use Rattle.rules.specs.Exchange.{lots_where}
use Rattle.rules.specs.AuctionFairness.{RespectsLimits, BestAuction, left_on, lots_allowed}
use Rattle.rules.specs.Fairness.{LotsAccounted, all_lots, lots_numbered, lots_traded, order_at, order_on}
use Rattle.rules.specs.Matching.{traded_lots, with_lots}
use Rattle.rules.specs.WellFormed.{numbers, sorted, used_once}
use Rattle.rules.specs.declared.{Order.Order, Trade.Trade}
use Rattle.theory.proofs.AuctionOutcome.{auction_either, auction_lots}
use Rattle.theory.proofs.AuctionTrades.{match_prices}
use Rattle.theory.proofs.AuctionTurns.{less_filled, less_part, match_ind}
use Rattle.theory.proofs.Fillable.{traded_cons}
use Rattle.invariants.proofs.LargestPrice.{largest_of_all}
use Rattle.invariants.proofs.QueueFronts.{TakenFromFront, front_priority, less_front, none_front, one_lots}
use Rattle.invariants.proofs.SumsByKey.{sums_by_key}
use Rattle.invariants.proofs.SweptFairly.{nothing_traded}

-- ---- no trades trade more

allowed_by_key : (sell : Bool) (price number : ℕ) (queue : List Order)
    → lots_allowed sell price number queue ≡ sum_of (λ o. pick (eqb o.number number) (pick (reaches sell price o) o.lots 0) 0) queue
unfolding lots_where
allowed_by_key sell price number queue = sum_of_ext _ _ queue (λ o. by_number (eqb o.number number) (reaches sell price o) o.lots)
  where
    by_number : (same met : Bool) (lots : ℕ) → pick (same && met) lots 0 ≡ pick same (pick met lots 0) 0
    by_number true met lots = refl
    by_number false met lots = refl

-- lots traded on a side, by orders that each trade no more than they may at the price, are no more than reach it
side_at_most : (sell : Bool) (price : ℕ) (queue : List Order) (trades : List Trade)
    → ((number : ℕ) → lots_traded sell number trades ≤ lots_allowed sell price number queue) → traded_lots trades ≤ lots_reaching sell price queue
unfolding traded_lots lots_reaching lots_where
side_at_most sell price queue trades h =
    sums_by_key (order_on sell) (λ trade. trade.lots) (λ o. o.number) (λ o. pick (reaches sell price o) o.lots 0) trades queue
    (λ number. omega (arith, h number, allowed_by_key sell price number queue))

-- trades at one price that respect limits and lots trade at most its volume
allowed_at_most : (price : ℕ) (buys sells : List Order) (trades : List Trade) → RespectsLimits price buys sells trades → traded_lots trades ≤ volume buys sells price
unfolding volume
allowed_at_most price buys sells trades a =
    omega (arith, side_at_most false price buys trades (a.within false), side_at_most true price sells trades (a.within true))

-- ---- the lots of one order, turn by turn

-- the lots that the first order of a queue trades are taken from those that pass a test, if it does
less_where : (test : Order → Bool) → ((o : Order) (lots : ℕ) → test (with_lots o lots) ≡ test o) → (n : ℕ) (o : Order) (os : List Order) → n ≤ o.lots
    → lots_where test (o ∷ os) ≡ pick (test o) n 0 + lots_where test (less_first n o os)
unfolding lots_where sum_of
less_where test same n o os h = by_lots (ltb n o.lots) refl
  where
    part : (passes : Bool) → n < o.lots → pick passes o.lots 0 + lots_where test os ≡ pick passes n 0 + (pick passes (o.lots - n) 0 + lots_where test os)
    part true l = omega arith
    part false l = omega arith

    full : (passes : Bool) → o.lots ≤ n → pick passes o.lots 0 + lots_where test os ≡ pick passes n 0 + lots_where test os
    full true l = omega arith
    full false l = omega arith

    by_lots : (short : Bool) → ltb n o.lots ≡ short → pick (test o) o.lots 0 + lots_where test os ≡ pick (test o) n 0 + lots_where test (less_first n o os)
    by_lots true k =
        let l = ltb-true n o.lots k in
        rw (less_part n o os l, same o (o.lots - n)) (part (test o) l)
    by_lots false k =
        let l = ltb-false n o.lots k in
        rw (less_filled n o os l) (full (test o) l)

-- and from all
less_in : (n : ℕ) (o : Order) (os : List Order) → n ≤ o.lots → all_lots (o ∷ os) ≡ n + all_lots (less_first n o os)
unfolding sum_of lots_where
less_in n o os h = less_where (λ p. true) (λ p lots. refl) n o os h

-- one turn of one side: what is said of the lots traded behind it is said of the trade before them too
module _ (number n : ℕ) (o : Order) (os : List Order) (h : n ≤ o.lots) where
  one_allowed : (sell : Bool) (price more : ℕ) → reaches sell price o ≡ true → more ≤ lots_allowed sell price number (less_first n o os)
      → pick (eqb o.number number) n 0 + more ≤ lots_allowed sell price number (o ∷ os)
  one_allowed sell price more e l =
      omega (arith, less_where (λ p. eqb p.number number && reaches sell price p) (λ p lots. refl) n o os h, by_number (eqb o.number number) (reaches sell price o) e)
    where
      by_number : (same met : Bool) → met ≡ true → pick (same && met) n 0 ≡ pick same n 0
      by_number true met e = rw e
      by_number false met e = refl

  one_accounted : (more left : ℕ) → more + left ≡ lots_numbered number (less_first n o os) → pick (eqb o.number number) n 0 + more + left ≡ lots_numbered number (o ∷ os)
  one_accounted more left e = omega (arith, less_where (λ p. eqb p.number number) (λ p lots. refl) n o os h)

-- ---- a match at a price: what holds of each side

-- each side with its lots allowed, its lots accounted for and its queue taken from the front
pub record SideMatched (sell : Bool) (price : ℕ) (before after : List Order) (trades : List Trade) : Type 0 where
  pub allowed : (number : ℕ) → lots_traded sell number trades ≤ lots_allowed sell price number before
  pub accounted : LotsAccounted sell before after trades
  pub front : TakenFromFront before after

abbrev pub BothMatched : ℕ → List Order → List Order → Matched → Type 0
BothMatched price bs ss m = (sell : Bool) → SideMatched sell price (pick sell ss bs) (left_on sell m) m.trades

pub none_matched : (sell : Bool) (price : ℕ) (os : List Order) → SideMatched sell price os os []
unfolding sum_of
none_matched sell price os = record { allowed = λ number. omega arith; accounted = nothing_traded sell os; front = none_front os }

both_unmatched : (price : ℕ) (bs ss : List Order) → BothMatched price bs ss (unmatched bs ss)
both_unmatched price bs ss true = none_matched true price ss
both_unmatched price bs ss false = none_matched false price bs

-- one turn of one side: the trade has the order's number there
one_matched : (sell : Bool) (price n : ℕ) (o : Order) (os after : List Order) (trade : Trade) (trades : List Trade) → n ≤ o.lots → reaches sell price o ≡ true
    → order_on sell trade ≡ o.number → trade.lots ≡ n → SideMatched sell price (less_first n o os) after trades → SideMatched sell price (o ∷ os) after (trade ∷ trades)
unfolding sum_of
one_matched sell price n o os after trade trades h e number lots r =
    record {
      allowed = λ k. rw (number, lots) (one_allowed k n o os h sell price (lots_traded sell k trades) e (r.allowed k));
      accounted =
          record {
            each = λ k. rw (number, lots) (one_accounted k n o os h (lots_traded sell k trades) (lots_numbered k after) (r.accounted.each k));
            together = omega (arith, traded_cons trade trades, r.accounted.together, less_in n o os h);
          };
      front = less_front n o os after r.front;
    }

match_both : (contract price : ℕ) (bs ss : List Order) → BothMatched price bs ss (match_at contract price bs ss)
unfolding trade_at
match_both contract price =
    match_ind contract price (λ bs ss m. BothMatched price bs ss m) (λ bs ss a. both_unmatched price bs ss) (λ b bs s ss m f g ih. turned b bs s ss m f g ih)
  where
    turned : (b : Order) (bs : List Order) (s : Order) (ss : List Order) (m : Matched) → reaches false price b ≡ true → reaches true price s ≡ true
        → BothMatched price (less_first (paired b s) b bs) (less_first (paired b s) s ss) m → BothMatched price (b ∷ bs) (s ∷ ss) (after_match (trade_at contract price (paired b s) b s) m)
    turned b bs s ss m f g ih true = one_matched true price (paired b s) s ss m.sells (trade_at contract price (paired b s) b s) m.trades (omega arith) g refl refl (ih true)
    turned b bs s ss m f g ih false = one_matched false price (paired b s) b bs m.buys (trade_at contract price (paired b s) b s) m.trades (omega arith) f refl refl (ih false)

-- ---- the auction

module _ (contract last : ℕ) (buys sells : List Order) where
  abbrev price : ℕ
  price = chosen_price last buys sells

  abbrev matched : Matched
  matched = auction_match contract last buys sells

  abbrev queue : Bool → List Order
  queue sell = pick sell sells buys

  auction_both : BothMatched price buys sells matched
  auction_both = auction_either contract last buys sells (λ m. BothMatched price buys sells m) (λ z. both_unmatched price buys sells) (λ h. match_both contract price buys sells)

  -- its trades are at its price and respect limits and lots
  auction_allowed : RespectsLimits price buys sells matched.trades
  unfolding all_of
  auction_allowed =
      record {
        uniform =
            auction_either contract last buys sells (λ m. all_of (λ trade. eqb trade.price price) m.trades ≡ true) (λ z. refl)
            (λ h. match_prices contract price buys sells);
        within = λ sell. (auction_both sell).allowed;
      }

  -- an order that may trade some lots at a price reaches it
  reaches_price : (sell : Bool) (os : List Order) → used_once (numbers os) ≡ true → (i : ℕ) → i < length os → 0 < lots_allowed sell price (order_at os i).number os
      → reaches sell price (order_at os i) ≡ true
  reaches_price sell os u i h some = by_reach (reaches sell price (order_at os i)) refl (one_lots (reaches sell price) os u i h)
    where
      by_reach : (met : Bool) → reaches sell price (order_at os i) ≡ met → lots_allowed sell price (order_at os i).number os ≡ pick met (order_at os i).lots 0
          → reaches sell price (order_at os i) ≡ true
      by_reach true e k = e
      by_reach false e k = absurd (omega arith)

  -- MAXIMUM, UNIFORM, INDIVIDUALLY RATIONAL AND FAIR, of sorted queues whose numbers are used once
  pub best_auction : ((sell : Bool) → sorted sell (queue sell) ≡ true) → ((sell : Bool) → used_once (numbers (queue sell)) ≡ true) → BestAuction last buys sells matched
  best_auction order once =
      record {
        allowed = auction_allowed;
        rational = λ sell i h some. reaches_price sell (queue sell) (once sell) i h (omega (arith, (auction_both sell).allowed (order_at (queue sell) i).number));
        maximum = λ p trades a.
            omega (arith, allowed_at_most p buys sells trades a, largest_of_all last buys sells p, auction_lots contract last buys sells (order false) (order true));
        fair = λ sell. front_priority sell (queue sell) (left_on sell matched) matched.trades (order sell) (once sell) (auction_both sell).accounted.each (auction_both sell).front;
        accounted = λ sell. (auction_both sell).accounted;
      }
