-- What auction changes of an insert and of a change of state. In every other state the order is entered by the sweep, and a change of
-- state changes nothing else. Assumes nothing.
use Rattle.laws.specs.Logic.{Bool, true, false, ◌&&◌, List, [], ◌∷◌, append-nil, ◌≡◌, refl, ap}
use Rattle.laws.specs.Numbers.{ℕ, ◌-◌, min, ltb, length}
use Rattle.laws.specs.Choice.{pick, pick_either, pick_false}
use Rattle.rules.specs.Answers.{is_good_for_day, listing_of, taker_of, trades_needed, trades_against}
use Rattle.rules.specs.Auction.{Matched, match_of, unmatched}
use Rattle.rules.specs.Bounds.{in_auction}
use Rattle.rules.specs.Exchange.{Exchange, listing_at, opposite, own}
use Rattle.rules.specs.FairCommands.{auction_of}
use Rattle.rules.specs.Holdings.{book_trades}
use Rattle.rules.specs.Matching.{Entered, Swept, after_trade, counterpart, enter, last_price, rest_whole, stays, sweep, trade_price, trade_with, untouched}
use Rattle.rules.specs.Step.{accepted, entered_of, exchange_matched, limit_of, listing_matched, phase_changed, with_contract, with_listing, with_phase}
use Rattle.rules.specs.declared.{NewOrder.NewOrder, Order.Order, Trade.Trade}
use Rattle.theory.proofs.Fillable.{traded_nil}

-- ---- an insert

-- the quote mark plays no part in what an order trades
unmarked_sweep : (x : Exchange) (number quote : ℕ) (o : NewOrder) (left last : ℕ) (queue : List Order) → sweep (taker_of x number 0 o) left last queue ≡ sweep (taker_of x number quote o) left last queue
unfolding sweep taker_of trade_with
unmarked_sweep x number quote o left last [] = refl
unmarked_sweep x number quote o left last (p ∷ ps) =
    ap
    (λ (s : Swept). pick (ltb 0 left && counterpart (taker_of x number 0 o) p) (after_trade (trade_with (taker_of x number 0 o) p left last) (stays p (p.lots - min left p.lots)) s) (untouched (p ∷ ps)))
    (unmarked_sweep x number quote o (left - min left p.lots) (trade_price (taker_of x number 0 o).method (taker_of x number 0 o).condition p.price last) ps)

module _ (x : Exchange) (number quote : ℕ) (o : NewOrder) where
  -- the order at rest with all its lots, and the order entered by the sweep
  abbrev pub rested_whole : Entered
  rested_whole = rest_whole (taker_of x number quote o) o.lots (limit_of o.condition) (own o.sell (listing_of x o)) (opposite o.sell (listing_of x o))

  abbrev pub entered_by_sweep : Entered
  entered_by_sweep =
      enter (taker_of x number quote o) o.lots (limit_of o.condition) (is_good_for_day o.time) (listing_of x o).contract.last
      (own o.sell (listing_of x o))
      (opposite o.sell (listing_of x o))

  pub entered_elsewhere : in_auction (listing_of x o).contract ≡ false → entered_of x number quote o ≡ entered_by_sweep
  unfolding entered_of
  entered_elsewhere e = pick_false (in_auction (listing_of x o).contract) rested_whole entered_by_sweep e

  -- what holds of both holds of the order entered
  pub entered_either : (P : Entered → Type 0) → (in_auction (listing_of x o).contract ≡ true → P rested_whole)
      → (in_auction (listing_of x o).contract ≡ false → P entered_by_sweep) → P (entered_of x number quote o)
  unfolding entered_of
  entered_either P = pick_either P (in_auction (listing_of x o).contract) rested_whole entered_by_sweep

  -- 12 counts the trades that are made
  pub trades_needed_lem : trades_needed x number o ≡ length (entered_of x number quote o).trades
  unfolding trades_needed trades_against entered_of rest_whole enter
  trades_needed_lem = cases (in_auction (listing_of x o).contract)
    where
      cases : (b : Bool)
          → pick b 0 (length (sweep (taker_of x number 0 o) o.lots (listing_of x o).contract.last (opposite o.sell (listing_of x o))).trades) ≡ length (pick b rested_whole entered_by_sweep).trades
      cases true = refl
      cases false = ap (λ (s : Swept). length s.trades) (unmarked_sweep x number quote o o.lots (listing_of x o).contract.last (opposite o.sell (listing_of x o)))

-- ---- a change of state

module _ (x : Exchange) (c : ℕ) where
  abbrev pub unmatched_of : Matched
  unmatched_of = unmatched (listing_at x c).buys (listing_at x c).sells

  pub match_elsewhere : in_auction (listing_at x c).contract ≡ false → match_of x c ≡ unmatched_of
  unfolding match_of
  match_elsewhere e = pick_false (in_auction (listing_at x c).contract) (auction_of x c) unmatched_of e

  pub match_either : (P : Matched → Type 0) → (in_auction (listing_at x c).contract ≡ true → P (auction_of x c))
      → (in_auction (listing_at x c).contract ≡ false → P unmatched_of) → P (match_of x c)
  unfolding match_of
  match_either P = pick_either P (in_auction (listing_at x c).contract) (auction_of x c) unmatched_of

  -- a change that makes no trades replaces the contract and nothing else
  pub nothing_matched : (phase : ℕ) → exchange_matched x c phase unmatched_of ≡ with_listing x c (with_contract (listing_at x c) (with_phase (listing_at x c).contract phase))
  unfolding exchange_matched listing_matched book_trades last_price
  nothing_matched phase =
      ap (λ (ts : List Trade). record {
        listings = (with_listing x c (with_contract (listing_at x c) (with_phase (listing_at x c).contract phase))).listings;
        accounts = x.accounts;
        trades = ts;
        next = x.next;
        nextstamp = x.nextstamp;
        settlements = x.settlements;
      }) (append-nil x.trades)

  -- OUT OF AUCTION, A CHANGE OF STATE IS NO MORE THAN THAT
  pub changed_elsewhere : in_auction (listing_at x c).contract ≡ false → (phase : ℕ)
      → phase_changed x c phase ≡ accepted 0 0 0 (with_listing x c (with_contract (listing_at x c) (with_phase (listing_at x c).contract phase)))
  unfolding phase_changed
  changed_elsewhere e phase = rw (match_elsewhere e, traded_nil, nothing_matched phase)
