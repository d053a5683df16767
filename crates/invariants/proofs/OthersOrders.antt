-- The orders of an account that a command does not name, over a whole state: one law for each way in which a command changes queues, from a
-- well-formed state. What each kind does stands in `EachKind`. Assumes nothing.
use lib.IntN.{ℤ}
use Rattle.laws.specs.Logic.{Bool, true, false, not, ◌&&◌, List, [], ◌++◌, append-nil, append_assoc, ◌≡◌, refl, sym, ap, ◌∙◌}
use Rattle.laws.specs.Numbers.{ℕ, ◌+◌, ◌<◌, ◌≤◌, arith, eqb-true, eqb-false, ne_eqb, eqb, length, length-set, get_or-set_same}
use Rattle.laws.specs.Choice.{pick, all_of, all_of_imp, for_either}
use Rattle.rules.specs.Answers.{cancel_refusals, first_of, listing_of, named_refusals, owner_refusals, removal_refused, resting_order, taker_of}
use Rattle.rules.specs.Auction.{match_of}
use Rattle.rules.specs.Bounds.{on_tick}
use Rattle.rules.specs.Change.{Asked, arriving, changed, change_refusals, gone, listing_lessened, place_kept, place_lost, reentered, unchanged}
use Rattle.rules.specs.Exchange.{Exchange, Listing, listing_at, listing_named, no_listing, opposite, own, place_of}
use Rattle.rules.specs.Kinds.{last_of}
use Rattle.rules.specs.Matching.{Entered, enter, rest_lots, rest_whole, sweep}
use Rattle.rules.specs.Quote.{Offered, buy_of, half, quoted, quote_refusals, sell_of, with_buy, with_sell, without_quote}
use Rattle.rules.specs.Step.{cancelled, entered_of, exchange_after, exchange_matched, has_number, is_of, limit_of, listing_after, listing_matched, listing_without, paid, removed, with_listing, without}
use Rattle.rules.specs.Touches.{orders_of}
use Rattle.rules.specs.WellFormed.{is_quote_of, order_in_range}
use Rattle.rules.specs.declared.{NewOrder.NewOrder, Order.Order, Taker.Taker, Trade.Trade}
use Rattle.theory.proofs.AuctionOutcome.{auction_either}
use Rattle.theory.proofs.AuctionSteps.{entered_either, match_either}
use Rattle.theory.proofs.Changes.{changed_either}
use Rattle.theory.proofs.InContract.{InContract, entered_in_lem, matched_in, relisted_in}
use Rattle.theory.proofs.Prices.{allowed_facts, method_rounds}
use Rattle.theory.proofs.Refusals.{Failed, both_zero, failed}
use Rattle.theory.proofs.Sweep.{of_contract}
use Rattle.theory.proofs.Terms.{contract_terms}
use Rattle.theory.proofs.Touches.{none_its, of_without, relisted}
use Rattle.invariants.proofs.ChangeKeeps.{gone_keeps, owned, there}
use Rattle.invariants.proofs.Clauses.{WellFormed, order_ok}
use Rattle.invariants.proofs.Fates.{BothFates, Fate, fate_more, fate_none, fate_same, match_fate, none_of, of_lessened, of_rest_lots, sweep_fate, swept_none, unmatched_fate}
use Rattle.invariants.proofs.OneOrder.{once_in, owned_in}
use Rattle.invariants.proofs.InsertQueues.{other_own}
use Rattle.invariants.proofs.QuoteKeeps.{quote_stages}
use Rattle.invariants.specs.RestingOrders.{is_of_account}

-- of an accepted cancel: there is such an order, and it is not another account's
pub cancel_owner : (x : Exchange) (account contract : ℕ) (operator : Bool) (number : ℕ) → first_of (cancel_refusals x account contract operator number) ≡ 0 →
    Failed (owner_refusals (place_of account) (resting_order (listing_named x contract) number))
unfolding cancel_refusals
cancel_owner x account contract operator number e =
    failed (owner_refusals (place_of account) (resting_order (listing_named x contract) number)) (omega arith)
    (both_zero (named_refusals x (λ c. removal_refused c operator) account contract) (owner_refusals (place_of account) (resting_order (listing_named x contract) number)) (omega arith) e).1

module _ (a : ℕ) where
  -- from one state to another: the trades recorded behind the day's earlier ones, and in every contract and on each side what became of the
  -- account's orders
  pub record Fated (x y : Exchange) : Type 0 where
    pub made : List Trade
    pub recorded : y.trades ≡ x.trades ++ made
    pub fate : (c : ℕ) (sell : Bool) → Fate c sell a made (own sell (listing_at x c)) (own sell (listing_at y c))

  pub same_fated : (x : Exchange) → Fated x x
  same_fated x = record { made = []; recorded = sym (append-nil x.trades); fate = λ c sell. fate_none c sell a (own sell (listing_at x c)) (own sell (listing_at x c)) refl }

  pub more_fated : (x y z : Exchange) → Fated x y → Fated y z → Fated x z
  more_fated x y z f g =
      record {
        made = f.made ++ g.made;
        recorded = g.recorded ∙ rw f.recorded (append_assoc x.trades f.made g.made);
        fate = λ c sell. fate_more c sell a f.made g.made (own sell (listing_at x c)) (own sell (listing_at y c)) (own sell (listing_at z c)) (f.fate c sell) (g.fate c sell);
      }

  -- work in one contract: only there can an order have changed
  pub fated_in : (d : ℕ) (ts : List Trade) (x y : Exchange) → InContract d ts x y → ((sell : Bool) → Fate d sell a ts (own sell (listing_at x d)) (own sell (listing_at y d))) → Fated x y
  fated_in d ts x y i f = record { made = ts; recorded = i.recorded; fate = λ c sell. by_contract c sell (eqb c d) refl }
    where
      elsewhere : (c : ℕ) (sell : Bool) → eqb c d ≡ false → none_of c sell a ts ≡ true
      elsewhere c sell n =
          all_of_imp (of_contract d) (λ t. not (is_of_account c sell a t)) ts (λ t h. rw (eqb-true t.contract d h, ne_eqb d c (λ e. eqb-false c d n (sym e))) refl) i.here

      by_contract : (c : ℕ) (sell : Bool) (b : Bool) → eqb c d ≡ b → Fate c sell a ts (own sell (listing_at x c)) (own sell (listing_at y c))
      by_contract c sell true e = rw (eqb-true c d e) (f sell)
      by_contract c sell false e =
          fate_same c sell a ts (own sell (listing_at x c)) (own sell (listing_at y c)) (ap (λ (l : Listing). orders_of a (own sell l)) (i.others c e)) (elsewhere c sell e)

  -- ---- orders taken out, none of them the account's

  abbrev pub Spared : (Order → Bool) → Listing → Type 0
  Spared test l = (sell : Bool) → all_of (λ o. not (test o && is_of a o)) (own sell l) ≡ true

  pub removed_fated : (x : Exchange) (d : ℕ) (test : Order → Bool) → d < length x.listings → Spared test (listing_at x d) →
      Fated x (with_listing x d (listing_without test (listing_at x d)))
  removed_fated x d test there h =
      fated_in d [] x _ (relisted_in d x (listing_without test (listing_at x d)))
      (λ sell. rw (relisted x d (listing_without test (listing_at x d)) there) (by_side sell))
    where
      by_side : (sell : Bool) → Fate d sell a [] (own sell (listing_at x d)) (own sell (listing_without test (listing_at x d)))
      by_side true = fate_none d true a (listing_at x d).sells (without test (listing_at x d).sells) (of_without a test (listing_at x d).sells (h true))
      by_side false = fate_none d false a (listing_at x d).buys (without test (listing_at x d).buys) (of_without a test (listing_at x d).buys (h false))

  -- a test that no order of the account passes
  pub spared : (test : Order → Bool) → ((o : Order) → (test o && is_of a o) ≡ false) → (l : Listing) → Spared test l
  spared test f l sell = none_its a test f (own sell l)

  -- the order that a cancel names is its own account's
  pub cancel_spares : (x : Exchange) → WellFormed x → (account contract : ℕ) (operator : Bool) (number : ℕ) → first_of (cancel_refusals x account contract operator number) ≡ 0 →
      eqb (place_of account) a ≡ false → Spared (has_number number) (listing_named x contract)
  cancel_spares x w account contract operator number e other =
      owned_in number a (place_of account) other (listing_named x contract) (once_in x w (place_of contract) number) (cancel_owner x account contract operator number e).1.0

  -- ---- a payment

  pub paid_fated : (x : Exchange) (b : ℕ) (balance : ℤ) → Fated x (paid x b balance)
  unfolding paid listing_at
  paid_fated x b balance =
      record { made = []; recorded = sym (append-nil x.trades); fate = λ c sell. fate_none c sell a (own sell (listing_at x c)) (own sell (listing_at x c)) refl }

  -- ---- an order of another account entered

  -- a queue and its opposite, as a listing has them after it
  both_sides : (d : ℕ) (ts : List Trade) (l : Listing) (mine theirs : List Order) (s : Bool) → Fate d s a ts (own s l) mine → Fate d (not s) a ts (opposite s l) theirs →
      (sell : Bool) → Fate d sell a ts (own sell l) (pick sell (pick s mine theirs) (pick s theirs mine))
  both_sides d ts l mine theirs true f g true = f
  both_sides d ts l mine theirs true f g false = g
  both_sides d ts l mine theirs false f g true = g
  both_sides d ts l mine theirs false f g false = f

  module _ (x : Exchange) (w : WellFormed x) (o : NewOrder) (number quote : ℕ) (there : place_of o.contract < length x.listings) (other : eqb (place_of o.account) a ≡ false) where
    abbrev place : ℕ
    place = place_of o.contract

    abbrev After : Entered → Type 0
    After e = (sell : Bool) → Fate place sell a e.trades (own sell (listing_of x o)) (own sell (listing_after (listing_of x o) o.sell e))

    abbrev taker : Taker
    taker = taker_of x number quote o

    abbrev against : List Order
    against = opposite o.sell (listing_of x o)

    on_tick_lem : all_of (λ r. on_tick (listing_of x o).contract.tick r.price) against ≡ true
    unfolding listing_of
    on_tick_lem = by_side o.sell
      where
        by_side : (s : Bool) → all_of (λ r. on_tick (listing_at x place).contract.tick r.price) (opposite s (listing_at x place)) ≡ true
        by_side s =
            all_of_imp (order_in_range (length x.accounts) x.next x.nextstamp (listing_at x place).contract) (λ r. on_tick (listing_at x place).contract.tick r.price) (opposite s (listing_at x place))
            (λ r h. (allowed_facts (listing_at x place).contract r.price (order_ok (length x.accounts) x.next x.nextstamp (listing_at x place).contract r h).price).tick)
            (rw (← other_own s (listing_at x place)) ((w.listing place there).orders (not s)))

    tick_low : 1 ≤ (listing_of x o).contract.tick
    unfolding listing_of
    tick_low = (contract_terms (listing_at x place).contract (w.listing place there).contract).tick_low

    rested_fate : (ts : List Trade) (lots : ℕ) → none_of place o.sell a ts ≡ true → Fate place o.sell a ts (own o.sell (listing_of x o)) (rest_lots taker (limit_of o.condition) lots (own o.sell (listing_of x o)))
    unfolding taker_of
    rested_fate ts lots z =
        fate_same place o.sell a ts (own o.sell (listing_of x o)) _ (of_rest_lots a taker (limit_of o.condition) lots (own o.sell (listing_of x o)) other) z

    after_fate : After (entered_of x number quote o)
    unfolding listing_after rest_whole enter taker_of
    after_fate =
        entered_either x number quote o After
        (λ u. both_sides place [] (listing_of x o) _ _ o.sell (rested_fate [] o.lots (unfold all_of in refl)) (fate_none place (not o.sell) a against against refl))
        (λ u.
        let ts = (sweep taker o.lots (listing_of x o).contract.last against).trades in
        both_sides place ts (listing_of x o) _ _ o.sell (rested_fate ts _ (swept_none taker a other o.lots (listing_of x o).contract.last against))
        (sweep_fate taker a (listing_of x o).contract.tick tick_low (method_rounds (listing_of x o).contract) o.lots (listing_of x o).contract.last against on_tick_lem))

    listing_now : (next : ℕ) → listing_at (exchange_after x o (entered_of x number quote o) next) place ≡ listing_after (listing_of x o) o.sell (entered_of x number quote o)
    unfolding exchange_after listing_at
    listing_now next = get_or-set_same x.listings place _ no_listing there

    pub entered_fated : (next : ℕ) → Fated x (exchange_after x o (entered_of x number quote o) next)
    unfolding listing_of
    entered_fated next = fated_in place (entered_of x number quote o).trades x _ (entered_in_lem x o number quote next) (λ sell. rw (listing_now next) (after_fate sell))

  -- ---- a change of state, with a match where there is one

  module _ (x : Exchange) (d : ℕ) (there : d < length x.listings) where
    met : BothFates d 0 a (listing_at x d).buys (listing_at x d).sells (match_of x d)
    met =
        match_either x d (BothFates d 0 a (listing_at x d).buys (listing_at x d).sells)
        (λ u. auction_either d (listing_at x d).contract.last (listing_at x d).buys (listing_at x d).sells (BothFates d 0 a (listing_at x d).buys (listing_at x d).sells)
        (λ z. unmatched_fate d 0 a (listing_at x d).buys (listing_at x d).sells)
        (λ z. match_fate d _ a (listing_at x d).buys (listing_at x d).sells))
        (λ u. unmatched_fate d 0 a (listing_at x d).buys (listing_at x d).sells)

    pub matched_fated : (phase : ℕ) → Fated x (exchange_matched x d phase (match_of x d))
    unfolding exchange_matched listing_matched listing_at
    matched_fated phase =
        fated_in d (match_of x d).trades x _ (matched_in x d phase) (λ sell. rw (get_or-set_same x.listings d _ no_listing there)
        (for_either (λ s. Fate d s a (match_of x d).trades (own s (listing_at x d)) (own s (listing_matched (listing_at x d) phase (match_of x d)))) met.0 met.1 sell))

  -- ---- a quote: the old one removed, the buy entered, the sell entered

  module _ (x : Exchange) (w : WellFormed x) (q : Offered) (e : first_of (quote_refusals x q) ≡ 0) (other : eqb (place_of q.account) a ≡ false) where
    not_its_quote : (o : Order) → (is_quote_of (place_of q.account) o && is_of a o) ≡ false
    not_its_quote o = by_account (eqb o.account (place_of q.account)) refl (eqb o.quote 1)
      where
        by_account : (b : Bool) → eqb o.account (place_of q.account) ≡ b → (m : Bool) → ((b && m) && is_of a o) ≡ false
        by_account true f true = rw (eqb-true o.account (place_of q.account) f) other
        by_account true f false = refl
        by_account false f m = refl

    pub quoted_fated : Fated x (last_of x (quoted x q).stages)
    unfolding quoted with_sell with_buy half
    quoted_fated =
        let k = quote_stages x w q e in
        more_fated x (with_buy x q) (with_sell x q)
        (more_fated x (without_quote x q) (with_buy x q)
        (unfold without_quote in removed_fated x (place_of q.contract) (is_quote_of (place_of q.account)) k.there (spared (is_quote_of (place_of q.account)) not_its_quote (listing_named x q.contract)))
        (entered_fated (without_quote x q) k.without (buy_of q) (without_quote x q).next 1 k.without_there other ((without_quote x q).next + 1)))
        (entered_fated (with_buy x q) k.bought (sell_of q) (with_buy x q).next 1 k.bought_there other ((with_buy x q).next + 1))

  -- ---- a change of a resting order of another account

  module _ (x : Exchange) (w : WellFormed x) (k : Asked) (e : first_of (change_refusals x k) ≡ 0) (other : eqb (place_of k.account) a ≡ false) where
    abbrev at : ℕ
    at = place_of k.contract

    spares : Spared (has_number k.number) (listing_named x k.contract)
    spares = owned_in k.number a (place_of k.account) other (listing_named x k.contract) (once_in x w at k.number) (owned x w k e)

    gone_there : at < length (gone x k).listings
    unfolding gone
    gone_there = rw (length-set x.listings at _) (there x w k e)

    lost_fated : Fated (gone x k) (exchange_after (gone x k) (arriving x k) (reentered x k) x.next)
    unfolding reentered arriving
    lost_fated = entered_fated (gone x k) (gone_keeps x w k e) (arriving x k) k.number 0 gone_there other x.next

    kept_fated : Fated x (last_of x (place_kept x k).stages)
    unfolding place_kept
    kept_fated =
        fated_in at [] x _ (relisted_in at x (listing_lessened k (listing_named x k.contract)))
        (λ sell. rw (relisted x at (listing_lessened k (listing_named x k.contract)) (there x w k e)) (by_side sell))
      where
        by_side : (sell : Bool) → Fate at sell a [] (own sell (listing_named x k.contract)) (own sell (listing_lessened k (listing_named x k.contract)))
        by_side true = fate_none at true a _ _ (of_lessened a k.number k.lots (listing_named x k.contract).sells (spares true))
        by_side false = fate_none at false a _ _ (of_lessened a k.number k.lots (listing_named x k.contract).buys (spares false))

    pub changed_fated : Fated x (last_of x (changed x k).stages)
    unfolding cancelled removed place_lost unchanged gone
    changed_fated =
        changed_either x k (λ ts f. Fated x (last_of x f.stages))
        (λ f. removed_fated x at (has_number k.number) (there x w k e) spares)
        (λ f. more_fated x (gone x k) _ (removed_fated x at (has_number k.number) (there x w k e) spares) lost_fated)
        (λ f g. same_fated x)
        (λ f g h. kept_fated)
