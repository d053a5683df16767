-- LAWS 8 TO 13 OF A COMMAND (Fairness, AuctionFairness): `FairMatching` and `FairAuction`, of the state that it meets, the command and the state
-- that it leaves. Proved of every command on a well-formed state in invariants (proofs/FairCommands). Assumes nothing.
use Rattle.std.specs.Prelude.{Bool, true, false, not, List, ◌++◌, ◌≡◌, ℕ, ◌+◌}
use Rattle.rules.specs.Answers.{listing_of, opposite_queue, own_queue, taker_of}
use Rattle.rules.specs.Auction.{Matched, auction_match}
use Rattle.rules.specs.AuctionFairness.{BestAuction, LargestVolume, left_on}
use Rattle.rules.specs.Bounds.{in_auction}
use Rattle.rules.specs.Change.{Asked, arriving, gone, loses_place}
use Rattle.rules.specs.Command.{is_settle}
use Rattle.rules.specs.Condition3.{made_by}
use Rattle.rules.specs.Exchange.{Exchange, contract_at, listing_at, own, place_of}
use Rattle.rules.specs.Fairness.{AtLimitOrBetter, LotsAccounted, NothingBetterLeft, OrderAccounted, PriceThenTime}
use Rattle.rules.specs.Kinds.{code_of, kind_of}
use Rattle.rules.specs.Matching.{Entered}
use Rattle.rules.specs.Quote.{Offered, buy_of, sell_of, with_buy, without_quote}
use Rattle.rules.specs.Step.{entered_of, exchange_after, exchange_matched}
use Rattle.rules.specs.declared.Command.{Command}
use Rattle.rules.specs.declared.Command.TheVariants.{Insert, Phase, Quote, Change}
use Rattle.rules.specs.declared.NewOrder.{NewOrder}
use Rattle.rules.specs.declared.Order.{Order}
use Rattle.rules.specs.declared.Taker.{Taker}

-- ---- an order that a command enters

-- the state that it meets, its number and quote mark, the next order number after it, and the order
pub record Entering : Type 0 where
  pub state : Exchange
  pub number : ℕ
  pub quote : ℕ
  pub next : ℕ
  pub order : NewOrder

-- an order that gets the next number: an insert's, and those of a quote, the buy and then the sell, on the state that each step leaves
abbrev pub entering_next : Exchange → ℕ → NewOrder → Entering
entering_next x quote o = record { state = x; number = x.next; quote = quote; next = x.next + 1; order = o }

abbrev pub entering_buy : Exchange → Offered → Entering
entering_buy x q = entering_next (without_quote x q) 1 (buy_of q)

abbrev pub entering_sell : Exchange → Offered → Entering
entering_sell x q = entering_next (with_buy x q) 1 (sell_of q)

-- an order that has lost its place keeps its number, and arrives where the old one is gone
abbrev pub entering_anew : Exchange → Asked → Entering
entering_anew x k = record { state = gone x k; number = k.number; quote = 0; next = x.next; order = arriving x k }

-- what comes of it, and the state that it leaves
abbrev pub entered_from : Entering → Entered
entered_from a = entered_of a.state a.number a.quote a.order

abbrev pub after_entering : Entering → Exchange
after_entering a = exchange_after a.state a.order (entered_from a) a.next

abbrev pub taker_by : Entering → Taker
taker_by a = taker_of a.state a.number a.quote a.order

abbrev pub in_auction_for : Entering → Bool
in_auction_for a = in_auction (listing_of a.state a.order).contract

-- the queue that it trades with
abbrev pub queue_met : Entering → List Order
queue_met a = opposite_queue a.state a.order

-- laws 8 to 11 of it, where it leaves y
pub record FairlyEntered (a : Entering) (y : Exchange) : Type 0 where
  -- what it leaves in the book and records is what the laws speak of
  pub leaves : y ≡ after_entering a
  pub own_queue_lem : own_queue y a.order ≡ (entered_from a).own
  pub opposite_queue_lem : opposite_queue y a.order ≡ (entered_from a).opposite
  pub recorded : y.trades ≡ a.state.trades ++ (entered_from a).trades
  -- 8. price then time
  pub priority : PriceThenTime (not a.order.sell) (queue_met a) (entered_from a).opposite (entered_from a).trades
  -- 9. nothing better is left; in auction an order rests without matching
  pub nothing_better : in_auction_for a ≡ false → NothingBetterLeft (taker_by a) a.order.lots (queue_met a) (entered_from a).opposite (entered_from a).trades
  -- 10. each trades at its limit or better
  pub limits : AtLimitOrBetter (taker_by a) (queue_met a) (entered_from a).trades
  -- 11. every lot is accounted for, of the queue and of the order
  pub accounted : LotsAccounted (not a.order.sell) (queue_met a) (entered_from a).opposite (entered_from a).trades
  pub order : OrderAccounted (taker_by a) (in_auction_for a) a.order (own_queue a.state a.order) (queue_met a) (entered_from a)

-- LAWS 8 TO 11 OF A COMMAND on x that leaves y
pub record FairMatching (x : Exchange) (command : Command) (y : Exchange) : Type 0 where
  -- an accepted insert enters its order fairly
  pub inserts : (o : NewOrder) → command ≡ Insert o → code_of x command ≡ 0 → FairlyEntered (entering_next x 0 o) y
  -- an accepted quote enters both its orders fairly
  pub quotes : (q : Offered) → command ≡ Quote q.account q.contract q.lots q.buy q.sell → code_of x command ≡ 0
      → FairlyEntered (entering_buy x q) (with_buy x q) × FairlyEntered (entering_sell x q) y
  -- an accepted change that loses its place enters its order anew, fairly
  pub changes : (k : Asked) → command ≡ Change k.account k.contract k.number k.lots k.price → code_of x command ≡ 0 → loses_place x k ≡ true
      → FairlyEntered (entering_anew x k) y
  -- and the trades that an accepted command records are those that its kind makes (Kinds); a settlement ends the day
  pub recorded : code_of x command ≡ 0 → is_settle command ≡ false → y.trades ≡ x.trades ++ made_by (kind_of x command).moves

-- the auction of the contract at a place
abbrev pub auction_of : Exchange → ℕ → Matched
auction_of x c = auction_match c (contract_at x c).last (listing_at x c).buys (listing_at x c).sells

-- laws 12 and 13 of the contract at place c, which goes from auction to another state
pub record AuctionHeld (x : Exchange) (c phase : ℕ) (y : Exchange) : Type 0 where
  -- 12
  pub price : LargestVolume (contract_at x c).last (listing_at x c).buys (listing_at x c).sells
  -- 13
  pub trades : BestAuction (contract_at x c).last (listing_at x c).buys (listing_at x c).sells (auction_of x c)
  -- what it leaves in the book and records is that match
  pub leaves : y ≡ exchange_matched x c phase (auction_of x c)
  pub queues : (sell : Bool) → own sell (listing_at y c) ≡ left_on sell (auction_of x c)
  pub recorded : y.trades ≡ x.trades ++ (auction_of x c).trades

-- LAWS 12 AND 13 OF A COMMAND on x that leaves y: a change of state that is accepted and leaves auction
pub record FairAuction (x : Exchange) (command : Command) (y : Exchange) : Type 0 where
  pub held : (contract phase : ℕ) → command ≡ Phase contract phase → code_of x command ≡ 0 → in_auction (contract_at x (place_of contract)) ≡ true
      → AuctionHeld x (place_of contract) phase y
