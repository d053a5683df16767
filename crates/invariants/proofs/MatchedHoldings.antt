-- The match of an auction keeps every account's limits and the coverage of its closes: both orders of a trade rested, so either leg
-- takes what was counted for it. Assumes nothing.
use Rattle.laws.specs.Logic.{Bool, true, false, List, ◌∷◌, ◌≡◌}
use Rattle.laws.specs.Numbers.{ℕ, ◌-◌, arith, ltb-true, ltb-false, ltb}
use Rattle.laws.specs.Choice.{all_of, both_true, by_test}
use Rattle.rules.specs.Auction.{Matched, less_first, match_at, paired, trade_at, unmatched, after_match}
use Rattle.rules.specs.Holdings.{book_buyer, book_trade, book_trades, leg_covered, never_below_zero}
use Rattle.rules.specs.Matching.{with_lots}
use Rattle.rules.specs.WellFormed.{order_in_range}
use Rattle.rules.specs.declared.{Account.Account, Contract.Contract, Order.Order, Trade.Trade}
use Rattle.theory.proofs.AuctionTaken.{less_kept}
use Rattle.theory.proofs.AuctionTurns.{less_filled, less_part, match_ind}
use Rattle.theory.proofs.Holdings.{never_nil}
use Rattle.invariants.proofs.Clauses.{order_ok}
use Rattle.invariants.proofs.InsertQueues.{order_fewer}
use Rattle.invariants.proofs.Legs.{Kept, buyer_covered, seller_covered, trade_kept}
use Rattle.invariants.proofs.SweptHoldings.{Fewer, fewer_kept, fewer_none}

-- no trade closes what is not held, and limits and coverage are kept with the orders that are left
pub record MatchKept (accounts : ℕ) (limit : ℕ → ℕ) (c : ℕ) (l : List Account) (m : Matched) : Type 0 where
  pub never : never_below_zero l m.trades ≡ true
  pub kept : Kept accounts limit c (book_trades l m.trades) m.buys m.sells

pub unmatched_kept : (accounts : ℕ) (limit : ℕ → ℕ) (c : ℕ) (l : List Account) (bs ss : List Order) → Kept accounts limit c l bs ss → MatchKept accounts limit c l (unmatched bs ss)
unfolding book_trades
unmatched_kept accounts limit c l bs ss k = record { never = never_nil l; kept = k }

-- what stays of an order counts for no more than its lots left
less_fewer : (n : ℕ) (o : Order) (os : List Order) → Fewer (less_first n o os) (with_lots o (o.lots - n) ∷ os)
less_fewer n o os =
    by_test (ltb n o.lots) (λ e. rw (less_part n o os (ltb-true n o.lots e)) (λ close a. omega arith))
    (λ e. rw (less_filled n o os (ltb-false n o.lots e)) (fewer_none (with_lots o (o.lots - n)) os))

module _ (accounts : ℕ) (limit : ℕ → ℕ) (next nextstamp : ℕ) (contract : Contract) (c price : ℕ) where
  abbrev test : Order → Bool
  test = order_in_range accounts next nextstamp contract

  module _ (l : List Account) (b : Order) (bs : List Order) (s : Order) (ss : List Order) (x : test b ≡ true) (y : test s ≡ true)
      (k : Kept accounts limit c l (b ∷ bs) (s ∷ ss)) where
    abbrev lots : ℕ
    lots = paired b s

    abbrev trade : Trade
    trade = trade_at c price (paired b s) b s

    buy_leg_lem : leg_covered l b.account c false b.close lots ≡ true
    buy_leg_lem =
        let p = order_ok accounts next nextstamp contract b x in
        let q = order_ok accounts next nextstamp contract s y in
        buyer_covered accounts limit c l b s bs ss lots (omega arith) (omega arith) p.close q.close p.account q.account k

    sell_leg_lem : leg_covered (book_buyer l trade) s.account c true s.close lots ≡ true
    unfolding trade_at
    sell_leg_lem =
        let p = order_ok accounts next nextstamp contract b x in
        let q = order_ok accounts next nextstamp contract s y in
        seller_covered accounts limit c l b s bs ss lots (omega arith) (omega arith) p.close q.close p.account q.account k

    turn_kept : Kept accounts limit c (book_trade l trade) (less_first lots b bs) (less_first lots s ss)
    unfolding trade_at book_trade
    turn_kept =
        let p = order_ok accounts next nextstamp contract b x in
        let q = order_ok accounts next nextstamp contract s y in
        fewer_kept accounts limit c (book_trade l trade) (with_lots b (b.lots - lots) ∷ bs) (less_first lots b bs) (with_lots s (s.lots - lots) ∷ ss) (less_first lots s ss)
        (less_fewer lots b bs) (less_fewer lots s ss)
        (trade_kept accounts limit c l b s bs ss lots (omega arith) (omega arith) p.close q.close p.account q.account k)

    turn : (m : Matched) → MatchKept accounts limit c (book_trade l trade) m → MatchKept accounts limit c l (after_match trade m)
    unfolding never_below_zero book_trades trade_at
    turn m i = search (buy_leg_lem, sell_leg_lem) depth 12

  pub match_kept : (bs ss : List Order) (l : List Account) → all_of test bs ≡ true → all_of test ss ≡ true → Kept accounts limit c l bs ss →
      MatchKept accounts limit c l (match_at c price bs ss)
  unfolding all_of
  match_kept =
      match_ind c price
      (λ bs ss m. (l : List Account) → all_of test bs ≡ true → all_of test ss ≡ true → Kept accounts limit c l bs ss → MatchKept accounts limit c l m)
      (λ bs ss a l x y k. unmatched_kept accounts limit c l bs ss k)
      (λ b bs s ss m f g ih l x y k.
      let p = both_true (test b) (all_of test bs) x in
      let q = both_true (test s) (all_of test ss) y in
      let n = paired b s in
      turn l b bs s ss p.0 q.0 k m
      (ih (book_trade l (trade_at c price n b s))
      (less_kept n b bs test (order_fewer accounts next nextstamp contract) x) (less_kept n s ss test (order_fewer accounts next nextstamp contract) y)
      (turn_kept l b bs s ss p.0 q.0 k)))
