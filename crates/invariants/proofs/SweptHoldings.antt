-- A sweep keeps every account's limits and the coverage of its closes: the arriving order's lots count as if they rested in front
-- of its own side's queue. Assumes nothing.
use Rattle.laws.specs.Logic.{Bool, true, false, List, [], ◌∷◌, ◌≡◌}
use Rattle.laws.specs.Numbers.{ℕ, ◌-◌, ◌<◌, ◌≤◌, min, arith}
use Rattle.laws.specs.Choice.{pick, all_of, both_true}
use Rattle.laws.specs.Chains.{join}
use Rattle.rules.specs.Exchange.{resting}
use Rattle.rules.specs.Holdings.{book_trade, book_trades, leg_covered, book_buyer, never_below_zero}
use Rattle.rules.specs.Matching.{with_lots, remainder, Swept, untouched, sweep, traded_lots, trade_with}
use Rattle.rules.specs.WellFormed.{order_in_range}
use Rattle.rules.specs.declared.{Account.Account, Contract.Contract, Order.Order, PairingMethod.PairingMethod, PriceCondition.PriceCondition, Taker.Taker, Trade.Trade}
use Rattle.theory.proofs.Fillable.{traded_nil, traded_cons}
use Rattle.theory.proofs.Holdings.{never_nil}
use Rattle.theory.proofs.Sweep.{trade_lots, part_filled, filled, sweep_ind}
use Rattle.invariants.proofs.Clauses.{order_ok}
use Rattle.invariants.proofs.Legs.{resting_cons, Kept, buyer_covered, seller_covered, trade_kept}

-- the two queues by side: own and opposite
abbrev pub KeptBy : Bool → ℕ → (ℕ → ℕ) → ℕ → List Account → List Order → List Order → Type 0
KeptBy sell accounts limit c l own opposite = Kept accounts limit c l (pick sell opposite own) (pick sell own opposite)

-- one trade: both legs are covered, and both orders have so many lots fewer
pub record TradeKept (accounts : ℕ) (limit : ℕ → ℕ) (t : Taker) (price : ℕ) (own : List Order) (l : List Account) (left last : ℕ)
    (o : Order) (os : List Order) : Type 0 where
  pub buy : leg_covered l (trade_with t o left last).buyer t.contract false (trade_with t o left last).buyclose (min left o.lots) ≡ true
  pub sell : leg_covered (book_buyer l (trade_with t o left last)) (trade_with t o left last).seller t.contract true (trade_with t o left last).sellclose (min left o.lots) ≡ true
  pub kept :
      KeptBy t.sell accounts limit t.contract (book_trade l (trade_with t o left last)) (remainder t price (left - min left o.lots) ∷ own)
      (with_lots o (o.lots - min left o.lots) ∷ os)

module _ (accounts : ℕ) (limit : ℕ → ℕ) (price : ℕ) (account contract close number stamp quote best : ℕ) (condition : PriceCondition) (method : PairingMethod) (own : List Order) (l : List Account)
    (here : account < accounts) (mark : close ≤ 1) where
  abbrev taker : Bool → Taker
  taker sell = record { account = account; contract = contract; sell = sell; close = close; number = number; stamp = stamp; quote = quote; condition = condition; method = method; best = best }

  turn_by : (sell : Bool) (left last : ℕ) (o : Order) (os : List Order) → o.account < accounts → o.close ≤ 1 →
      KeptBy sell accounts limit contract l (remainder (taker sell) price left ∷ own) (o ∷ os) → TradeKept accounts limit
      (taker sell) price own l left last o os
  unfolding remainder trade_with book_trade
  turn_by false left last o os there its-mark kept =
      let k = min left o.lots in
      let b : Order = record { price = price; number = number; account = account; lots = left; close = close; stamp = stamp; quote = quote } in
      record {
        buy = buyer_covered accounts limit contract l b o own os k (omega arith) (omega arith) mark its-mark here there kept;
        sell = seller_covered accounts limit contract l b o own os k (omega arith) (omega arith) mark its-mark here there kept;
        kept = trade_kept accounts limit contract l b o own os k (omega arith) (omega arith) mark its-mark here there kept;
      }
  turn_by true left last o os there its-mark kept =
      let k = min left o.lots in
      let s : Order = record { price = price; number = number; account = account; lots = left; close = close; stamp = stamp; quote = quote } in
      record {
        buy = buyer_covered accounts limit contract l o s os own k (omega arith) (omega arith) its-mark mark there here kept;
        sell = seller_covered accounts limit contract l o s os own k (omega arith) (omega arith) its-mark mark there here kept;
        kept = trade_kept accounts limit contract l o s os own k (omega arith) (omega arith) its-mark mark there here kept;
      }

-- fewer resting lots keep what more kept
abbrev pub Fewer : List Order → List Order → Type 0
Fewer queue' queue = (close a : ℕ) → resting close a queue' ≤ resting close a queue

pub fewer_kept : (accounts : ℕ) (limit : ℕ → ℕ) (c : ℕ) (l : List Account) (buys buys' sells sells' : List Order) → Fewer buys' buys → Fewer sells' sells →
    Kept accounts limit c l buys sells → Kept accounts limit c l buys' sells'
fewer_kept accounts limit c l buys buys' sells sells' f g k a h =
    let p = k a h in
    record {
      buy_opens_lem = omega (arith, f 0 a);
      sell_opens_lem = omega (arith, g 0 a);
      buy_closes_lem = omega (arith, f 1 a);
      sell_closes_lem = omega (arith, g 1 a);
    }

pub fewer_by : (sell : Bool) (accounts : ℕ) (limit : ℕ → ℕ) (c : ℕ) (l : List Account) (own own' opposite opposite' : List Order) → Fewer own' own →
    Fewer opposite' opposite →
    KeptBy sell accounts limit c l own opposite → KeptBy sell accounts limit c l own' opposite'
fewer_by false accounts limit c l own own' opposite opposite' f g = fewer_kept accounts limit c l own own' opposite opposite' f g
fewer_by true accounts limit c l own own' opposite opposite' f g = fewer_kept accounts limit c l opposite opposite' own own' g f

-- an order without lots counts for nothing
pub fewer_none : (o : Order) (os : List Order) → Fewer os (o ∷ os)
fewer_none o os close a = omega (arith, resting_cons close a o os)

fewer_same : (os : List Order) → Fewer os os
fewer_same os close a = omega arith

-- a whole sweep: no trade closes what is not held, and limits and coverage are kept with what is left of the lots
pub record SweptKept (accounts : ℕ) (limit : ℕ → ℕ) (price : ℕ) (t : Taker) (own : List Order) (l : List Account) (left : ℕ) (s : Swept) : Type 0 where
  pub never : never_below_zero l s.trades ≡ true
  pub kept : KeptBy t.sell accounts limit t.contract (book_trades l s.trades) (remainder t price (left - traded_lots s.trades) ∷ own) s.rest

-- an order that rests without matching makes no trades
pub untouched_kept : (accounts : ℕ) (limit : ℕ → ℕ) (price : ℕ) (t : Taker) (own : List Order) (l : List Account) (left : ℕ) (os : List Order) →
    KeptBy t.sell accounts limit t.contract l (remainder t price left ∷ own) os → SweptKept accounts limit price t own l left (untouched os)
unfolding book_trades
untouched_kept accounts limit price t own l left os kept =
    let e : left - traded_lots [] ≡ left = omega (arith, traded_nil) in
    record { never = never_nil l; kept = rw e kept }

module _ (accounts : ℕ) (limit : ℕ → ℕ) (price next nextstamp : ℕ) (contract : Contract) (t : Taker) (own : List Order) (here : t.account < accounts)
    (mark : t.close ≤ 1) where
  abbrev test : Order → Bool
  test = order_in_range accounts next nextstamp contract

  turn : (l : List Account) (left last : ℕ) (o : Order) (os : List Order) → all_of test (o ∷ os) ≡ true →
      KeptBy t.sell accounts limit t.contract l (remainder t price left ∷ own) (o ∷ os) → TradeKept accounts limit t price own l left last o os
  unfolding all_of
  turn l left last o os h =
      let k = order_ok accounts next nextstamp contract o (both_true (test o) (all_of test os) h).0 in
      turn_by accounts limit price t.account t.contract t.close t.number t.stamp t.quote t.best t.condition t.method own l here mark
      t.sell left last o os k.account k.close

  module _ (l : List Account) (left last : ℕ) (o : Order) (os : List Order) (q : TradeKept accounts limit t price own l left last o os) where
    -- the trade in front of those that are covered behind it
    never_on : (ts : List Trade) → never_below_zero (book_trade l (trade_with t o left last)) ts ≡ true →
        never_below_zero l (trade_with t o left last ∷ ts) ≡ true
    unfolding never_below_zero trade_with
    never_on ts h =
        join (leg_covered l (trade_with t o left last).buyer t.contract false (trade_with t o left last).buyclose (min left o.lots))
        (leg_covered (book_buyer l (trade_with t o left last)) (trade_with t o left last).seller t.contract true
        (trade_with t o left last).sellclose (min left o.lots)
        ∷ never_below_zero (book_trade l (trade_with t o left last)) ts ∷ [])
        (q.buy, (q.sell, h))

    part_kept : left < o.lots → SweptKept accounts limit price t own l left (part_filled t o left last os)
    unfolding book_trades
    part_kept short =
        let m : min left o.lots ≡ left = omega arith in
        let e : traded_lots (trade_with t o left last ∷ []) ≡ left =
        omega (arith, traded_cons (trade_with t o left last) [], traded_nil, trade_lots t o left last) in
        record { never = never_on [] (never_nil (book_trade l (trade_with t o left last))); kept = rw e (rw m at q.kept) }

    full_kept : (s : Swept) → o.lots ≤ left → (KeptBy t.sell accounts limit t.contract (book_trade l (trade_with t o left last))
        (remainder t price (left - o.lots) ∷ own) os → SweptKept accounts limit price t own (book_trade l (trade_with t o left last))
        (left - o.lots) s) →
        SweptKept accounts limit price t own l left (filled t o left last s)
    unfolding book_trades
    full_kept s enough on =
        let m : min left o.lots ≡ o.lots = omega arith in
        let r = on
        (fewer_by t.sell accounts limit t.contract (book_trade l (trade_with t o left last)) (remainder t price (left - o.lots) ∷ own)
        (remainder t price (left - o.lots) ∷ own) (with_lots o (o.lots - o.lots) ∷ os) os
        (fewer_same (remainder t price (left - o.lots) ∷ own)) (fewer_none (with_lots o (o.lots - o.lots)) os) (rw m at q.kept)) in
        let e : left - traded_lots (trade_with t o left last ∷ s.trades) ≡ left - o.lots - traded_lots s.trades =
        omega (arith, traded_cons (trade_with t o left last) s.trades, trade_lots t o left last) in
        record { never = never_on s.trades r.never; kept = rw e r.kept }

  pub swept_kept : (left last : ℕ) (os : List Order) (l : List Account) → all_of test os ≡ true →
      KeptBy t.sell accounts limit t.contract l (remainder t price left ∷ own) os → SweptKept accounts limit price t own l left
      (sweep t left last os)
  unfolding all_of book_trades
  swept_kept =
      sweep_ind t
      (λ left last os s. (l : List Account) → all_of test os ≡ true → KeptBy t.sell accounts limit t.contract l
      (remainder t price left ∷ own) os → SweptKept accounts limit price t own l left s)
      (λ left last os w l h k.
      let e : left - traded_lots [] ≡ left = omega (arith, traded_nil) in
      record { never = never_nil l; kept = rw e k })
      (λ left last o os some met short l h k. part_kept l left last o os (turn l left last o os h k) short)
      (λ left last o os s some met enough ih l h k.
      full_kept l left last o os (turn l left last o os h k) s enough
      (ih (book_trade l (trade_with t o left last)) (both_true (test o) (all_of test os) h).1))
