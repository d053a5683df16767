-- AT MOST ONE OF THE TWO ORDERS OF A QUOTE TRADES: where the buy meets a sell, every buy stands below that sell, and so below the quote's
-- own sell, which then meets none. Assumes nothing.
use Rattle.laws.specs.Logic.{Bool, true, false, List, [], ◌∷◌, ◌++◌, append-nil, ◌⊎◌, ⊎_elim, inl, inr, ◌≡◌, refl, ap, ◌∙◌}
use Rattle.laws.specs.Numbers.{ℕ, zero, suc, ◌+◌, ◌<◌, ◌≤◌, arith, eqb-true, leb-true, ltb-true, lt-leb, not-false, eqb, leb, ltb, length, get_or-set_same}
use Rattle.laws.specs.Choice.{pick, by_test}
use Rattle.rules.specs.Answers.{first_of, listing_of, taker_of}
use Rattle.rules.specs.Bounds.{auction, continuous, in_auction}
use Rattle.rules.specs.Exchange.{Exchange, Listing, listing_at, no_listing, place_of, worse}
use Rattle.rules.specs.Kinds.{code_of, kind_of, last_of, step}
use Rattle.rules.specs.Matching.{Entered, counterpart, enter, meets, remainder, rest_in, rest_lots, sweep}
use Rattle.rules.specs.Quote.{Offered, buy_entered, buy_of, half, offered, quote_refusals, quoted, sell_entered, sell_of, with_buy, with_sell, without_quote}
use Rattle.rules.specs.Step.{exchange_after, listing_after}
use Rattle.rules.specs.WellFormed.{uncrossed}
use Rattle.rules.specs.declared.Command.TheVariants.{Quote}
use Rattle.rules.specs.declared.{Order.Order, Taker.Taker, Trade.Trade}
use Rattle.theory.proofs.AuctionSteps.{entered_elsewhere}
use Rattle.theory.proofs.Stages.{decided}
use Rattle.theory.proofs.Sweep.{sweep_end, sweep_unmet}
use Rattle.invariants.specs.QuoteTrades.{OneOrderTrades}
use Rattle.invariants.proofs.Clauses.{WellFormed}
use Rattle.invariants.proofs.QuoteKeeps.{gone_keeps, gone_listing, gone_there, holder, listed, tests}

-- ---- queues

-- a sweep trades nothing, or the first order that it meets is a counterpart
none_or_met : (t : Taker) (left last : ℕ) (os : List Order) → ((sweep t left last os).trades ≡ []) ⊎ ((p : Order) × ((ps : List Order) × ((os ≡ p ∷ ps) × (counterpart t p ≡ true))))
none_or_met t left last [] = inl (rw (sweep_end t left last) refl)
none_or_met t left last (p ∷ ps) = by_test (counterpart t p) (λ e. inr (p, (ps, (refl, e)))) (λ e. inl (rw (sweep_unmet t left last p ps e) refl))

-- the first of these buys, if there is one, is at most at a price
abbrev AtMost : ℕ → List Order → Type 0
AtMost price [] = Unit {0}
AtMost price (p ∷ ps) = p.price ≤ price

rest_at_most : (price : ℕ) (o : Order) (os : List Order) → o.price ≤ price → AtMost price os → AtMost price (rest_in false o os)
unfolding rest_in
rest_at_most price o [] h k = h
rest_at_most price o (p ∷ ps) h k = by_place (worse false p.price o.price)
  where
    by_place : (b : Bool) → AtMost price (pick b (o ∷ p ∷ ps) (p ∷ rest_in false o ps))
    by_place true = h
    by_place false = k

-- a sell above them trades nothing
none_above : (t : Taker) (limit price left last : ℕ) (os : List Order) → ((p : Order) → counterpart t p ≡ leb limit p.price) → price < limit → AtMost price os → (sweep t left last os).trades ≡ []
none_above t limit price left last [] c h k = rw (sweep_end t left last) refl
none_above t limit price left last (p ∷ ps) c h k = rw (sweep_unmet t left last p ps (c p ∙ lt-leb limit p.price (omega arith))) refl

-- the remainder of a buy at the price, in front of buys that are at most at it
rested_at_most : (t : Taker) (price n : ℕ) (os : List Order) → t.sell ≡ false → AtMost price os → AtMost price (rest_lots t price n os)
unfolding rest_lots remainder
rested_at_most t price zero os s k = k
rested_at_most t price (suc n) os s k = rw s (rest_at_most price _ os (omega arith) k)

-- buys below the first sell that a buy at the price meets
below_met : (price : ℕ) (buys : List Order) (p : Order) (ps : List Order) → uncrossed buys (p ∷ ps) ≡ true → p.price ≤ price → AtMost price buys
unfolding uncrossed
below_met price [] p ps u h = tt
below_met price (b ∷ bs) p ps u h = omega (arith, ltb-true b.price p.price u)

-- ---- a quote that is accepted

module _ (x : Exchange) (w : WellFormed x) (q : Offered) (e : first_of (quote_refusals x q) ≡ 0) where
  abbrev empty : Exchange
  empty = without_quote x q

  abbrev place : ℕ
  place = place_of q.contract

  abbrev before : Listing
  before = listing_at empty place

  here : place_of q.account < length x.accounts
  here = holder x w q e

  there : place < length x.listings
  there = listed x w q e

  -- "in continuous only", so not in auction, and the book is uncrossed
  no_auction : in_auction before.contract ≡ false
  unfolding quote_refusals
  no_auction =
      rw (gone_listing x w q here there)
      (ap (λ (n : ℕ). eqb n auction) (eqb-true (listing_at x place).contract.phase continuous (not-false (eqb (listing_at x place).contract.phase continuous) (tests x w q e).1.1.0)))

  apart : uncrossed before.buys before.sells ≡ true
  apart = ((gone_keeps x w q here there).listing place (gone_there x w q here there)).apart no_auction

  below : q.buy < q.sell
  unfolding quote_refusals
  below = ltb-true q.buy q.sell (not-false (ltb q.buy q.sell) (tests x w q e).1.1.1.1.0)

  abbrev buyer : Taker
  buyer = taker_of empty empty.next 1 (buy_of q)

  -- ---- the sell

  abbrev between : Listing
  between = listing_at (with_buy x q) place

  between_is : between ≡ listing_after before false (buy_entered x q)
  unfolding with_buy exchange_after listing_at half listing_of
  between_is = get_or-set_same empty.listings place _ no_listing (gone_there x w q here there)

  abbrev seller : Taker
  seller = taker_of (with_buy x q) (with_buy x q).next 1 (sell_of q)

  no_auction_between : in_auction between.contract ≡ false
  unfolding listing_after
  no_auction_between = ap (λ (l : Listing). in_auction l.contract) between_is ∙ no_auction

  sell_trades : (sell_entered x q).trades ≡ (sweep seller q.lots between.contract.last between.buys).trades
  unfolding half listing_of enter
  sell_trades = ap (λ (r : Entered). r.trades) (entered_elsewhere (with_buy x q) (with_buy x q).next 1 (sell_of q) no_auction_between)

  -- where the buy meets a sell, no buy stands above it
  met_below : (p : Order) (ps : List Order) → before.sells ≡ p ∷ ps → counterpart buyer p ≡ true → AtMost q.buy between.buys
  unfolding taker_of half meets enter listing_after listing_of
  met_below p ps s c =
      rw (ap (λ (l : Listing). l.buys) between_is, ap (λ (r : Entered). r.own) (entered_elsewhere empty empty.next 1 (buy_of q) no_auction))
      (rested_at_most buyer q.buy _ before.buys refl
      (below_met q.buy before.buys p ps (rw s at apart) (leb-true p.price q.buy c)))

  one : ((buy_entered x q).trades ≡ []) ⊎ ((sell_entered x q).trades ≡ [])
  unfolding taker_of half meets enter listing_of
  one =
      ⊎_elim (λ n. inl (ap (λ (r : Entered). r.trades) (entered_elsewhere empty empty.next 1 (buy_of q) no_auction) ∙ n))
      (λ m. inr (sell_trades
      ∙ none_above seller q.sell q.buy q.lots between.contract.last between.buys (λ p. refl) below (met_below m.0 m.1.0 m.1.1.0 m.1.1.1)))
      (none_or_met buyer q.lots before.contract.last before.sells)

  all_trades : (with_sell x q).trades ≡ x.trades ++ (buy_entered x q).trades ++ (sell_entered x q).trades
  unfolding with_sell with_buy without_quote exchange_after
  all_trades = refl

  pub one_order_trades : OneOrderTrades x q (last_of x (quoted x q).stages)
  unfolding quoted
  one_order_trades = record {
    one = one;
    recorded = ⊎_elim (λ n. inr (all_trades ∙ ap (λ (ts : List Trade). x.trades ++ ts ++ (sell_entered x q).trades) n ∙ ap (λ (ts : List Trade). ts ++ (sell_entered x q).trades) (append-nil x.trades)))
        (λ n. inl (all_trades ∙ ap (λ (ts : List Trade). x.trades ++ (buy_entered x q).trades ++ ts) n ∙ append-nil (x.trades ++ (buy_entered x q).trades))) one;
  }

-- of the step
pub quote_one_trades : (x : Exchange) → WellFormed x → (account contract lots buy sell : ℕ) → code_of x (Quote account contract lots buy sell) ≡ 0 →
    OneOrderTrades x (offered account contract lots buy sell) (step x (Quote account contract lots buy sell))
unfolding step code_of kind_of
quote_one_trades x w account contract lots buy sell e =
    decided (λ d. OneOrderTrades x (offered account contract lots buy sell) (last_of x d.stages)) x (Quote account contract lots buy sell)
    (λ a. one_order_trades x w (offered account contract lots buy sell) a) (λ r. absurd (r e))
