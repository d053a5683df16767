-- "The sum of client closing and holding profit together equals the account's day profit". By the law of Article 32 each day's profit is
-- what its legs sold for less what they cost, with the net lots at the settlement price and at the reference; legs and starting lots of
-- the clients are together those of the account. Assumes nothing.
use lib.IntN.{ℤ, pos, ◌+ℤ◌, ◌-ℤ◌, ◌*ℤ◌}
use Rattle.laws.specs.Logic.{Bool, true, false, not, ◌&&◌, ◌||◌, false≢true, List, [], ◌∷◌, ◌++◌, map, ◌≡◌, refl, sym, ap, ap₂, ◌∙◌}
use Rattle.laws.specs.Numbers.{ℕ, zero, suc, ◌<◌, ◌≤◌, arith, eqb-true, ne_eqb, eqb, length}
use Rattle.laws.specs.Choice.{pick, both_true, all_at, all_of}
use Rattle.laws.specs.Ring.{d_eq, ring, *ℤ-add}
use Rattle.laws.specs.Sums.{sum_to, sum_to_add, sum_to_at, sum_to_ext, sum_to_mul, sum_to_zero}
use Rattle.rules.specs.Bounds.{max_contracts}
use Rattle.rules.specs.Exchange.{Exchange, Listing, holding_at, listing_at}
use Rattle.rules.specs.Settlement.{Leg, leg, only, legs, day_of, holding_gain, settlement_price, closing_profit, holding_profit}
use Rattle.rules.specs.WellFormed.{replays}
use Rattle.rules.specs.declared.{Holding.Holding, Trade.Trade}
use Rattle.accounting.specs.DayLegs.{flow, net}
use Rattle.accounting.proofs.DayProfit.{day_profit, flow_append, net_append}
use Rattle.accounting.proofs.Replay.{day_covered, replay_covered}
use Rattle.accounting.proofs.Trades.{bought_by, sold_by, sum_to_sub}
use Rattle.clients.specs.Clients.{Clients, is_posted, trade_posted, client_place, client_trade, client_exchange, starts_add_up, start_long, start_short, never_closes_more, total, max_clients, others}
use Rattle.clients.proofs.Posted.{posted_place, start_at, same_listing, same_price}

-- ---- what adds up over legs adds up over the clients' legs

sum_to_swap : (m n : ℕ) (f : ℕ → ℕ → ℤ) → sum_to m (λ i. sum_to n (λ j. f i j)) ≡ sum_to n (λ j. sum_to m (λ i. f i j))
unfolding sum_to
sum_to_swap zero n f = sym (sum_to_zero n)
sum_to_swap (suc m) n f = rw (sum_to_swap m n f) (sym (sum_to_add n (λ j. sum_to m (λ i. f i j)) (λ j. f m j)))

-- a number of naturals, added as integers
pub total_pos : (n : ℕ) (f : ℕ → ℕ) → sum_to n (λ i. pos (f i)) ≡ pos (total n f)
unfolding sum_to total
total_pos zero f = refl
total_pos (suc n) f = rw (total_pos n f) (simp ring (d_eq _ _ _ _ (omega arith)))

module _ (F : List Leg → ℤ) (nil : F [] ≡ pos 0) (add : (ls ms : List Leg) → F (ls ++ ms) ≡ F ls +ℤ F ms) (n : ℕ) (few : n ≤ max_clients) where
  at_one : (whose : Bool) (l : Leg) → F (only whose l) ≡ pick whose (F (l ∷ [])) (pos 0)
  unfolding only
  at_one true l = refl
  at_one false l = nil

  none : sum_to n (λ k. F []) ≡ F []
  none = sum_to_ext n (λ k. F []) (λ k. pos 0) (λ k l. nil) ∙ sum_to_zero n ∙ sym nil

  -- one leg, whose client stands at `place` where it is the account's
  one_leg : (here whose : Bool) (place close p q : ℕ) (sell : Bool) → (whose ≡ true → place < n)
      → sum_to n (λ k. F (only (here && eqb (pick whose place others) k) (leg sell (not (eqb (pick whose close 0) 0)) p q)))
      ≡ F (only (here && whose) (leg sell (not (eqb close 0)) p q))
  unfolding only
  one_leg false whose place close p q sell h = none
  one_leg true true place close p q sell h =
      sum_to_ext n _ (λ k. pick (eqb place k) (F (leg sell (not (eqb close 0)) p q ∷ [])) (pos 0)) (λ k l. at_one (eqb place k) _)
      ∙ sum_to_at n place _ (h refl)
  one_leg true false place close p q sell h =
      sum_to_ext n _ (λ k. F []) (λ k l. ap (λ (w : Bool). F (only w (leg sell false p q))) (ne_eqb others k (λ e. omega arith))) ∙ none

  module _ (a : ℕ) (b : Clients) (all : b.count ≡ n) (c : ℕ) where
    whose_place : (whose : Bool) (number : ℕ) → (not whose || is_posted b.count b.postings number) ≡ true → whose ≡ true → client_place b.count b.postings number < n
    whose_place true number e t = rw (← all) (posted_place b.count b.postings number e)
    whose_place false number e t = absurd (false≢true t)

    client_legs : (ts : List Trade) → all_of (trade_posted a b.count b.postings) ts ≡ true → sum_to n (λ k. F (legs k c (map (client_trade a b.count b.postings) ts))) ≡ F (legs a c ts)
    unfolding all_of trade_posted legs client_trade
    client_legs [] h = none
    client_legs (t ∷ ts) h =
        let p = both_true (trade_posted a b.count b.postings t) _ h in
        let q = both_true (not (eqb t.buyer a) || is_posted b.count b.postings t.buyorder) _ p.0 in
        sum_to_ext n _ (λ k. F (bought_by k c (client_trade a b.count b.postings t)) +ℤ (F (sold_by k c (client_trade a b.count b.postings t)) +ℤ F (legs k c (map (client_trade a b.count b.postings) ts))))
        (λ k l. add _ _ ∙ ap (λ (z : ℤ). F (bought_by k c (client_trade a b.count b.postings t)) +ℤ z) (add _ _)) ∙ sum_to_add n _ _
        ∙ ap₂ (λ (u v : ℤ). u +ℤ v)
        (one_leg (eqb t.contract c) (eqb t.buyer a) _ t.buyclose t.price t.lots false (whose_place _ _ q.0))
        (sum_to_add n _ _ ∙ ap₂ (λ (u v : ℤ). u +ℤ v)
        (one_leg (eqb t.contract c) (eqb t.seller a) _ t.sellclose t.price t.lots true (whose_place _ _ q.1))
        (client_legs ts p.1)) ∙ sym (add _ _ ∙ ap (λ (z : ℤ). F (bought_by a c t) +ℤ z) (add _ _))

-- ---- one contract

-- what has passed the refusals 25, 26 and 27
pub record Granted (x : Exchange) (a : ℕ) (b : Clients) : Type 0 where
  pub few : b.count ≤ max_clients
  pub adds : starts_add_up x a b ≡ true
  pub posted : all_of (trade_posted a b.count b.postings) x.trades ≡ true
  pub covered : never_closes_more (client_exchange x a b) ≡ true

abbrev day_money : ℕ → ℕ → ℤ → ℤ → ℤ → ℤ
day_money s ref f d n = f +ℤ pos s *ℤ (d +ℤ n) -ℤ pos ref *ℤ d

sum_money : (n s ref : ℕ) (f d k : ℕ → ℤ) → sum_to n (λ i. day_money s ref (f i) (d i) (k i)) ≡ day_money s ref (sum_to n f) (sum_to n d) (sum_to n k)
sum_money n s ref f d k =
    sum_to_sub n (λ i. f i +ℤ pos s *ℤ (d i +ℤ k i)) (λ i. pos ref *ℤ d i) ∙ ap₂ (λ (u v : ℤ). u -ℤ v)
    (sum_to_add n f (λ i. pos s *ℤ (d i +ℤ k i))
    ∙ ap (λ (z : ℤ). sum_to n f +ℤ z) (sum_to_mul n (pos s) (λ i. d i +ℤ k i) ∙ ap (λ (z : ℤ). pos s *ℤ z) (sum_to_add n d k)))
    (sum_to_mul n (pos ref) d)

module _ (x : Exchange) (r : replays x ≡ true) (contracts : length x.listings ≤ max_contracts) (a : ℕ) (b : Clients) (g : Granted x a b) where
  abbrev cx : Exchange
  cx = client_exchange x a b

  module _ (c : ℕ) (lc : c < length x.listings) where
    abbrev reference : ℕ
    reference = (listing_at x c).contract.reference

    abbrev price : ℕ
    price = settlement_price x c

    added : (total b.count (λ k. start_long b.starts k c) ≡ (holding_at x.accounts a c).startlong)
        × (total b.count (λ k. start_short b.starts k c) ≡ (holding_at x.accounts a c).startshort)
    unfolding starts_add_up
    added =
        let e = both_true _ _ (all_at _ c (length x.listings) g.adds lc) in
        (eqb-true _ _ e.0, eqb-true _ _ e.1)

    abbrev net_start : ℕ → ℤ
    net_start k = pos (start_long b.starts k c) -ℤ pos (start_short b.starts k c)

    net_starts : sum_to b.count net_start ≡ pos (holding_at x.accounts a c).startlong -ℤ pos (holding_at x.accounts a c).startshort
    net_starts =
        sum_to_sub b.count (λ k. pos (start_long b.starts k c)) (λ k. pos (start_short b.starts k c)) ∙ ap₂ (λ (u v : ℤ). u -ℤ v)
        (total_pos b.count (λ k. start_long b.starts k c) ∙ ap pos added.0)
        (total_pos b.count (λ k. start_short b.starts k c) ∙ ap pos added.1)

    client_money : (k : ℕ) → k < b.count → (day_of cx k c).closing +ℤ holding_gain price (day_of cx k c)
        ≡ day_money price reference (flow (legs k c cx.trades)) (net_start k) (net (legs k c cx.trades))
    unfolding day_of never_closes_more
    client_money k l =
        day_profit (listing_at cx c).contract.reference price _ _ (legs k c cx.trades) (replay_covered k c cx.accounts cx.trades _ g.covered)
        ∙ ap₂ (λ (y : Listing) (h : Holding). day_money price y.contract.reference (flow (legs k c cx.trades)) (pos h.startlong -ℤ pos h.startshort) (net (legs k c cx.trades)))
        (same_listing b x a c) (start_at b x a k c l g.few lc contracts)

    account_money : (day_of x a c).closing +ℤ holding_gain price (day_of x a c)
        ≡ day_money price reference (flow (legs a c x.trades)) (pos (holding_at x.accounts a c).startlong -ℤ pos (holding_at x.accounts a c).startshort) (net (legs a c x.trades))
    unfolding day_of
    account_money = day_profit reference price _ _ (legs a c x.trades) (day_covered x r a c)

    all_legs : (F : List Leg → ℤ) → F [] ≡ pos 0 → ((ls ms : List Leg) → F (ls ++ ms) ≡ F ls +ℤ F ms)
        → sum_to b.count (λ k. F (legs k c cx.trades)) ≡ F (legs a c x.trades)
    unfolding client_exchange
    all_legs F nil add = client_legs F nil add b.count g.few a b refl c x.trades g.posted

    flow_nil : flow [] ≡ pos 0
    unfolding flow
    flow_nil = refl

    net_nil : net [] ≡ pos 0
    unfolding net
    net_nil = refl

    contract_adds : sum_to b.count (λ k. (day_of cx k c).closing +ℤ holding_gain (settlement_price cx c) (day_of cx k c))
        ≡ (day_of x a c).closing +ℤ holding_gain price (day_of x a c)
    contract_adds =
        rw (same_price b x a c)
        (sum_to_ext b.count _ _ client_money
        ∙ sum_money b.count price reference (λ k. flow (legs k c cx.trades)) net_start (λ k. net (legs k c cx.trades))
        ∙ rw (all_legs flow flow_nil flow_append, net_starts, all_legs net net_nil net_append) (sym account_money))

  -- ---- all contracts

  abbrev worth : ℕ → ℕ → ℤ
  worth k c = (day_of cx k c).closing +ℤ holding_gain (settlement_price cx c) (day_of cx k c)

  abbrev times : ℕ → ℤ
  times c = pos (listing_at x c).contract.multiplier

  both_parts : (y : Exchange) (k : ℕ) → closing_profit y k +ℤ holding_profit y k
      ≡ sum_to (length y.listings) (λ c. pos (listing_at y c).contract.multiplier *ℤ ((day_of y k c).closing +ℤ holding_gain (settlement_price y c) (day_of y k c)))
  unfolding closing_profit holding_profit
  both_parts y k =
      sym (sum_to_add (length y.listings) _ _)
      ∙ sum_to_ext (length y.listings) _ _ (λ c l. sym (*ℤ-add (pos (listing_at y c).contract.multiplier) (day_of y k c).closing (holding_gain (settlement_price y c) (day_of y k c))))

  client_parts : (k : ℕ) → closing_profit cx k +ℤ holding_profit cx k ≡ sum_to (length x.listings) (λ c. times c *ℤ worth k c)
  unfolding client_exchange listing_at
  client_parts k = both_parts cx k

  -- THE SUM OF THE CLIENTS' PROFIT
  pub clients_add_up : sum_to b.count (λ k. closing_profit cx k +ℤ holding_profit cx k) ≡ closing_profit x a +ℤ holding_profit x a
  clients_add_up =
      sum_to_ext b.count _ _ (λ k l. client_parts k) ∙ sum_to_swap b.count (length x.listings) (λ k c. times c *ℤ worth k c)
      ∙ sum_to_ext (length x.listings) _ (λ c. times c *ℤ ((day_of x a c).closing +ℤ holding_gain (settlement_price x c) (day_of x a c)))
      (λ c l. sum_to_mul b.count (times c) (λ k. worth k c) ∙ ap (λ (z : ℤ). times c *ℤ z) (contract_adds c l)) ∙ sym (both_parts x a)
