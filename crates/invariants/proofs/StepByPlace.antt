-- A STATE WRITTEN OVER A MEMORY, told place by place: new, zero, or as it was (specs/ByPlace). Of one write, of the stages of a
-- command, and so of every command. Assumes nothing.
use lib.ListN.{get_or-eq_default}
use Rattle.laws.specs.Logic.{Bool, true, false, ◌&&◌, ◌||◌, List, [], ◌∷◌, map, ◌≡◌, refl, sym, ap, ap₂, subst, ◌∙◌}
use Rattle.laws.specs.Numbers.{ℕ, zero, suc, ◌+◌, ◌-◌, ◌*◌, ◌<◌, ◌≤◌, le_refl, le_of_suc-le-suc, not-suc-le-zero, arith, ltb-true, ltb-false, le-ltb, ltb}
use Rattle.laws.specs.Numbers.{length, get_or, drop, length-map, List·getD-append, get_or-drop, get_or-append-add}
use Rattle.laws.specs.Choice.{pick}
use Rattle.rules.specs.Bounds.{max_resting}
use Rattle.rules.specs.Exchange.{Exchange, Listing, listing_at, account_at, holding_at, own, no_account, no_holding, no_listing, no_order, no_trade}
use Rattle.rules.specs.Kinds.{decide, kind_of, last_of, step}
use Rattle.rules.specs.Memory.{Memory, Declared, exchange_of, first_word, listing_in, order_stride, put, put_account, put_accounts, put_first, put_queues, put_state, queue_stride, respond, step_in, trade_stride, trade_words, well_formed_memory, word_of, written}
use Rattle.rules.specs.declared.{Account.Account, Command.Command, Order.Order}
use Rattle.theory.proofs.Codecs.{length_queue, length_trades}
use Rattle.theory.proofs.InUse.{contracts_in_use, listing_in_use}
use Rattle.theory.proofs.PutByPlace.{word_put_queues, word_put_queues_past, word_put_trades}
use Rattle.theory.proofs.Stages.{Each, decided, each_last}
use Rattle.accounting.specs.Shape.{Shaped}
use Rattle.accounting.proofs.Declared.{Counts, counted_shaped, put_declared, shaped_fits}
use Rattle.accounting.proofs.EachKind.{kind_shape}
use Rattle.accounting.proofs.StepShape.{SameShape, same_shape}
use Rattle.invariants.specs.ByPlace.{WrittenByPlace, account_in_use, area_of, by_place, contract_in_use, counts_of, in_one, order_in_use, trade_in_use}
use Rattle.invariants.proofs.Clauses.{Counted}
use Rattle.invariants.proofs.EachKind.{kind_counted}
use Rattle.invariants.proofs.MemoryKeeps.{Writable, both_each, counted, shaped_as, sound}
use Rattle.invariants.proofs.MemoryLaws.{exchange_put, length_buys, length_sells, length_trade_area, put_counts, put_first_at, put_room, put_same}
use Rattle.invariants.proofs.MemoryRoom.{CountsOk, RoomOk, memory_ok}

-- ---- tests

-- in use in one state
in_the_one : (test : Exchange → Bool) (x : Exchange) → in_one test (x ∷ []) ≡ test x
in_the_one test x = by_test (test x) refl
  where
    by_test : (b : Bool) → test x ≡ b → in_one test (x ∷ []) ≡ b
    by_test true e = rw e
    by_test false e = rw e

-- a place in use in neither of two states
neither : (s t : Bool) (word was : ℕ) → s ≡ false → t ≡ false → was ≡ by_place s t word was
neither s t word was p q = rw (p, q)

-- ---- values in the first places of an array

past_first : {A : Type 0} (values room : List A) (c : ℕ) (d : A) → length values ≤ c → get_or (put_first values room) c d ≡ get_or room c d
past_first values room c d h =
    let e : c ≡ length values + (c - length values) = omega arith in
    ap (λ (k : ℕ). get_or (put_first values room) k d) e ∙ get_or-append-add values (drop (length values) room) (c - length values) d
    ∙ get_or-drop (length values) room (c - length values) d ∙ ap (λ (k : ℕ). get_or room k d) (sym e)

first_by_place : {A : Type 0} (f : Listing → A) (ls : List Listing) (room : List A) (c : ℕ) →
    get_or (put_first (map f ls) room) c (f no_listing) ≡ pick (ltb c (length ls)) (f (get_or ls c no_listing)) (get_or room c (f no_listing))
first_by_place {A} f ls room c = by_place_lem (ltb c (length ls)) refl
  where
    by_place_lem : (t : Bool) → ltb c (length ls) ≡ t →
        get_or (put_first (map f ls) room) c (f no_listing) ≡ pick t (f (get_or ls c no_listing)) (get_or room c (f no_listing))
    by_place_lem true e = put_first_at f ls room c (ltb-true c (length ls) e)
    by_place_lem false e = past_first (map f ls) room c (f no_listing) (rw (length-map ls f) (ltb-false c (length ls) e))

-- an account in use, and one that is not
account_put : (as' rooms : List Account) (a : ℕ) → length as' ≤ length rooms → a < length as' →
    get_or (put_accounts as' rooms) a no_account ≡ put_account (get_or as' a no_account) (get_or rooms a no_account)
unfolding put_accounts
account_put [] rooms a h l = absurd (not-suc-le-zero l)
account_put (x ∷ as') [] a h l = absurd (not-suc-le-zero h)
account_put (x ∷ as') (room ∷ rooms) zero h l = refl
account_put (x ∷ as') (room ∷ rooms) (suc a) h l = account_put as' rooms a (le_of_suc-le-suc h) (le_of_suc-le-suc l)

account_kept : (as' rooms : List Account) (a : ℕ) → length as' ≤ length rooms → length as' ≤ a →
    get_or (put_accounts as' rooms) a no_account ≡ get_or rooms a no_account
unfolding put_accounts
account_kept [] rooms a h l = refl
account_kept (x ∷ as') [] a h l = absurd (not-suc-le-zero h)
account_kept (x ∷ as') (room ∷ rooms) zero h l = absurd (not-suc-le-zero l)
account_kept (x ∷ as') (room ∷ rooms) (suc a) h l = account_kept as' rooms a (le_of_suc-le-suc h) (le_of_suc-le-suc l)

-- ---- one write

module _ (m : Memory) (counts : CountsOk m.state) (room : RoomOk m) (arrays : Declared m.state) (x : Exchange) (shape : SameShape (exchange_of m) x) (few : Counted x) where
  contracts : length x.listings ≡ m.state.contractcount
  contracts = shape.listings ∙ contracts_in_use m

  few_contracts : Counts m.state
  few_contracts = record { contracts = counts.contracts_high; accounts = counts.accounts_high }

  -- a contract past the count has no orders
  not_listed : (y : Exchange) (c : ℕ) → length y.listings ≤ c → listing_at y c ≡ no_listing
  unfolding listing_at
  not_listed y c h = get_or-eq_default y.listings no_listing {n = c} h

  -- a side's area, its counts, and which of a listing's queues it holds
  side_by_place : (area cs : List ℕ) (side : Listing → List Order) → side no_listing ≡ [] → ((c : ℕ) → length (side (listing_in m c)) ≡ get_or cs c 0) →
      ((c : ℕ) → c < m.state.contractcount → get_or cs c 0 ≤ max_resting) →
      ((c : ℕ) → c < m.state.contractcount → length (side (listing_at x c)) ≤ max_resting) →
      queue_stride * m.state.contractcount ≤ length area →
      (c i word : ℕ) → i < max_resting → word < order_stride →
      get_or (put_queues area cs (λ c. side (listing_at x c)) m.state.contractcount) (first_word c i + word) 0
      ≡ by_place (ltb i (length (side (listing_at x c)))) (in_one (λ y. ltb i (length (side (listing_at y c)))) (exchange_of m ∷ []))
      (word_of word (get_or (side (listing_at x c)) i no_order)) (get_or area (first_word c i + word) 0)
  side_by_place area cs side none counted before after fits c i word place b = by_listed (ltb c m.state.contractcount) refl
    where
      in_place : Exchange → Bool
      in_place y = ltb i (length (side (listing_at y c)))

      word_at : Bool → ℕ → ℕ
      word_at t was = by_place (in_place x) t (word_of word (get_or (side (listing_at x c)) i no_order)) was

      empty : (y : Exchange) → length y.listings ≤ c → in_place y ≡ false
      empty y h = ap (λ (l : Listing). ltb i (length (side l))) (not_listed y c h) ∙ ap (λ (q : List Order). ltb i (length q)) none ∙ le-ltb i 0 (omega arith)

      by_listed : (t : Bool) → ltb c m.state.contractcount ≡ t →
          get_or (put_queues area cs (λ c. side (listing_at x c)) m.state.contractcount) (first_word c i + word) 0
          ≡ word_at (in_one in_place (exchange_of m ∷ [])) (get_or area (first_word c i + word) 0)
      by_listed true e =
          let h = ltb-true c m.state.contractcount e in
          word_put_queues area cs (λ c. side (listing_at x c)) m.state.contractcount before after fits i word place b m.state.contractcount c (le_refl _) h
          ∙ ap (λ (t : Bool). word_at t (get_or area (first_word c i + word) 0))
          (sym (in_the_one in_place (exchange_of m) ∙ ap (λ (n : ℕ). ltb i n) (ap (λ (l : Listing). length (side l)) (listing_in_use m c h) ∙ counted c)))
      by_listed false e =
          let h = ltb-false c m.state.contractcount e in
          word_put_queues_past area cs (λ c. side (listing_at x c)) m.state.contractcount before after fits i word place b m.state.contractcount c (le_refl _) h
          ∙ neither (in_place x) (in_one in_place (exchange_of m ∷ [])) (word_of word (get_or (side (listing_at x c)) i no_order))
          (get_or area (first_word c i + word) 0) (empty x (omega (arith, contracts)))
          (in_the_one in_place (exchange_of m) ∙ empty (exchange_of m) (omega (arith, contracts_in_use m)))

  orders_by_place : (sell : Bool) (c i word : ℕ) → i < max_resting → word < order_stride → get_or (area_of sell (put m x)) (first_word c i + word) 0
      ≡ by_place (order_in_use sell c i x) (in_one (order_in_use sell c i) (exchange_of m ∷ [])) (word_of word (get_or (own sell (listing_at x c)) i no_order))
      (get_or (area_of sell m) (first_word c i + word) 0)
  unfolding put listing_in
  orders_by_place true =
      side_by_place m.sells m.state.sellcounts (λ l. l.sells) refl (λ c. length_queue m.sells c (get_or m.state.sellcounts c 0)) counts.sells
      (λ c l. few.queues c true (rw contracts l)) room.sells
  orders_by_place false =
      side_by_place m.buys m.state.buycounts (λ l. l.buys) refl (λ c. length_queue m.buys c (get_or m.state.buycounts c 0)) counts.buys
      (λ c l. few.queues c false (rw contracts l)) room.buys

  trades_by_place : (i word : ℕ) → word < trade_stride → get_or (put m x).trades (trade_stride * i + word) 0
      ≡ by_place (trade_in_use i x) (in_one (trade_in_use i) (exchange_of m ∷ [])) (get_or (trade_words (get_or x.trades i no_trade)) word 0)
      (get_or m.trades (trade_stride * i + word) 0)
  unfolding put exchange_of
  trades_by_place i word b =
      word_put_trades m.trades m.state.tradecount x.trades i word b ∙ ap
      (λ (t : Bool). by_place (trade_in_use i x) t (get_or (trade_words (get_or x.trades i no_trade)) word 0) (get_or m.trades (trade_stride * i + word) 0))
      (sym (in_the_one (trade_in_use i) (exchange_of m) ∙ ap (λ (n : ℕ). ltb i n) (length_trades m.trades m.state.tradecount)))

  counts_by_place : (sell : Bool) (c : ℕ) →
      get_or (counts_of sell (put m x)) c 0 ≡ pick (contract_in_use c x) (length (own sell (listing_at x c))) (get_or (counts_of sell m) c 0)
  unfolding put put_state listing_at
  counts_by_place true = first_by_place (λ l. length l.sells) x.listings m.state.sellcounts
  counts_by_place false = first_by_place (λ l. length l.buys) x.listings m.state.buycounts

  -- the accounts have their places
  accounts_fit : length x.accounts ≤ length m.state.accounts
  accounts_fit = omega (arith, (shaped_fits m arrays few_contracts x shape).accounts, arrays.accounts)

  account_written : (a : ℕ) → account_in_use a x ≡ true →
      account_at (put m x).state.accounts a ≡ put_account (account_at x.accounts a) (account_at m.state.accounts a)
  unfolding put put_state account_at
  account_written a e = account_put x.accounts m.state.accounts a accounts_fit (ltb-true a (length x.accounts) e)

  account_unaltered : (a : ℕ) → account_in_use a x ≡ false → account_at (put m x).state.accounts a ≡ account_at m.state.accounts a
  unfolding put put_state account_at
  account_unaltered a e = account_kept x.accounts m.state.accounts a accounts_fit (ltb-false a (length x.accounts) e)

  -- what is not a holding
  field_by_place : {A : Type 0} (f : Account → A) → ((v room : Account) → f (put_account v room) ≡ f v) → (a : ℕ) →
      f (account_at (put m x).state.accounts a) ≡ pick (account_in_use a x) (f (account_at x.accounts a)) (f (account_at m.state.accounts a))
  field_by_place {A} f own' a = by_known (account_in_use a x) refl
    where
      by_known : (t : Bool) → account_in_use a x ≡ t →
          f (account_at (put m x).state.accounts a) ≡ pick t (f (account_at x.accounts a)) (f (account_at m.state.accounts a))
      by_known true e = ap f (account_written a e) ∙ own' (account_at x.accounts a) (account_at m.state.accounts a)
      by_known false e = ap f (account_unaltered a e)

  -- an account in use holds in each contract in use
  wide : (a : ℕ) → account_in_use a x ≡ true → length (account_at x.accounts a).holdings ≡ length x.listings
  unfolding Shaped
  wide a e =
      let l : a < length (exchange_of m).accounts = rw shape.accounts at (ltb-true a (length x.accounts) e) in
      shape.wide a l ∙ counted_shaped m arrays few_contracts a l ∙ sym shape.listings

  holdings_by_place : (a c : ℕ) → holding_at (put m x).state.accounts a c
      ≡ pick (account_in_use a x && contract_in_use c x) (holding_at x.accounts a c) (holding_at m.state.accounts a c)
  unfolding holding_at
  holdings_by_place a c = by_known_and_listed (account_in_use a x) (contract_in_use c x) refl refl
    where
      in_account : account_in_use a x ≡ true → holding_at (put m x).state.accounts a c
          ≡ get_or (put_first (account_at x.accounts a).holdings (account_at m.state.accounts a).holdings) c no_holding
      in_account e = ap (λ (v : Account). get_or v.holdings c no_holding) (account_written a e)

      by_known_and_listed : (s t : Bool) → account_in_use a x ≡ s → contract_in_use c x ≡ t →
          holding_at (put m x).state.accounts a c ≡ pick (s && t) (holding_at x.accounts a c) (holding_at m.state.accounts a c)
      by_known_and_listed true true p q =
          in_account p
          ∙ List·getD-append (account_at x.accounts a).holdings (drop (length (account_at x.accounts a).holdings) (account_at m.state.accounts a).holdings) no_holding c
          (rw (wide a p) (ltb-true c (length x.listings) q))
      by_known_and_listed true false p q =
          in_account p ∙ past_first (account_at x.accounts a).holdings (account_at m.state.accounts a).holdings c no_holding
          (rw (wide a p) (ltb-false c (length x.listings) q))
      by_known_and_listed false t p q = ap (λ (v : Account). get_or v.holdings c no_holding) (account_unaltered a p)

  lengths_by_place : (sell : Bool) → length (area_of sell (put m x)) ≡ length (area_of sell m)
  lengths_by_place true = length_sells m counts room x shape few
  lengths_by_place false = length_buys m counts room x shape few

  -- A STATE WRITTEN OVER A MEMORY
  pub written_by_place : WrittenByPlace m (exchange_of m ∷ []) x (put m x)
  unfolding put put_state listing_at
  written_by_place =
      record {
        orders = orders_by_place;
        trades = trades_by_place;
        contracts = first_by_place (λ l. l.contract) x.listings m.state.contracts;
        counts = counts_by_place;
        balances = field_by_place (λ v. v.balance) (λ v r. refl);
        makers = field_by_place (λ v. v.maker) (λ v r. refl);
        holdings = holdings_by_place;
        contractcount = refl;
        accountcount = refl;
        tradecount = refl;
        next = refl;
        nextstamp = refl;
        settlements = refl;
        room = lengths_by_place;
        traderoom = length_trade_area m counts room x shape few;
        declared = put_declared m arrays x (shaped_fits m arrays few_contracts x shape);
      }

-- WHAT `put` LEAVES AT EACH PLACE: new, zero, or as it was
pub put_by_place : (m : Memory) → well_formed_memory m ≡ true → Declared m.state → (x : Exchange) → SameShape (exchange_of m) x → Counted x →
    WrittenByPlace m (exchange_of m ∷ []) x (put m x)
put_by_place m w arrays x shape few = let k = memory_ok m w in written_by_place m k.counts k.room arrays x shape few

-- ---- one write after another

-- a word written twice: z over y, which was over x
word_again : (z y x others : Bool) (word between was : ℕ) →
    by_place z (y || others) word (by_place y (x || false) between was) ≡ by_place z (x || (y || others)) word was
word_again true y x others word between was = refl
word_again false true true others word between was = refl
word_again false true false others word between was = refl
word_again false false true true word between was = refl
word_again false false true false word between was = refl
word_again false false false true word between was = refl
word_again false false false false word between was = refl

-- a value written twice into a place of an array
value_again : {A : Type 0} (z y : Bool) (value between was : A) → z ≡ y → pick z value (pick y between was) ≡ pick z value was
value_again true y value between was e = refl
value_again false y value between was e = rw (← e) refl

module _ (m : Memory) (x y z : Exchange) (others : List Exchange) (m' m'' : Memory) (shape : SameShape y z) (first : WrittenByPlace m (x ∷ []) y m') (second : WrittenByPlace m' (y ∷ others) z m'') where
  same_listed : (c : ℕ) → contract_in_use c z ≡ contract_in_use c y
  same_listed c = ap (λ (n : ℕ). ltb c n) shape.listings

  same_known : (a : ℕ) → account_in_use a z ≡ account_in_use a y
  same_known a = ap (λ (n : ℕ). ltb a n) shape.accounts

  by_place_again : WrittenByPlace m (x ∷ y ∷ others) z m''
  by_place_again =
      record {
        orders = λ sell c i word place b.
            second.orders sell c i word place b
            ∙ ap (by_place (order_in_use sell c i z) (in_one (order_in_use sell c i) (y ∷ others)) (word_of word (get_or (own sell (listing_at z c)) i no_order)))
            (first.orders sell c i word place b)
            ∙ word_again (order_in_use sell c i z) (order_in_use sell c i y) (order_in_use sell c i x) (in_one (order_in_use sell c i) others) _ _ _;
        trades = λ i word b.
            second.trades i word b
            ∙ ap (by_place (trade_in_use i z) (in_one (trade_in_use i) (y ∷ others)) (get_or (trade_words (get_or z.trades i no_trade)) word 0)) (first.trades i word b)
            ∙ word_again (trade_in_use i z) (trade_in_use i y) (trade_in_use i x) (in_one (trade_in_use i) others) _ _ _;
        contracts = λ c.
            second.contracts c ∙ ap (λ v. pick (contract_in_use c z) (listing_at z c).contract v) (first.contracts c)
            ∙ value_again (contract_in_use c z) (contract_in_use c y) _ _ _ (same_listed c);
        counts = λ sell c.
            second.counts sell c ∙ ap (λ v. pick (contract_in_use c z) (length (own sell (listing_at z c))) v) (first.counts sell c)
            ∙ value_again (contract_in_use c z) (contract_in_use c y) _ _ _ (same_listed c);
        balances = λ a.
            second.balances a ∙ ap (λ v. pick (account_in_use a z) (account_at z.accounts a).balance v) (first.balances a)
            ∙ value_again (account_in_use a z) (account_in_use a y) _ _ _ (same_known a);
        makers = λ a.
            second.makers a ∙ ap (λ v. pick (account_in_use a z) (account_at z.accounts a).maker v) (first.makers a)
            ∙ value_again (account_in_use a z) (account_in_use a y) _ _ _ (same_known a);
        holdings = λ a c.
            second.holdings a c ∙ ap (λ v. pick (account_in_use a z && contract_in_use c z) (holding_at z.accounts a c) v) (first.holdings a c)
            ∙ value_again (account_in_use a z && contract_in_use c z) (account_in_use a y && contract_in_use c y) _ _ _ (ap₂ (λ (s t : Bool). s && t) (same_known a) (same_listed c));
        contractcount = second.contractcount ∙ first.contractcount;
        accountcount = second.accountcount ∙ first.accountcount;
        tradecount = second.tradecount;
        next = second.next;
        nextstamp = second.nextstamp;
        settlements = second.settlements;
        room = λ sell. second.room sell ∙ first.room sell;
        traderoom = second.traderoom ∙ first.traderoom;
        declared = second.declared;
      }

-- the stages of a command, each written over the last: with none, what is read is told of the memory as it is
stages_by_place : (m : Memory) → CountsOk m.state → RoomOk m → Declared m.state → (ys : List Exchange) → Each (Writable (exchange_of m)) ys →
    WrittenByPlace m (exchange_of m ∷ ys) (last_of (exchange_of m) ys) (written m ys)
stages_by_place m k r d [] h =
    subst (λ (m' : Memory). WrittenByPlace m (exchange_of m ∷ []) (exchange_of m) m') (put_same m k r d)
    (written_by_place m k r d (exchange_of m) (same_shape (exchange_of m)) (counted m k))
stages_by_place m k r d (y ∷ ys) h =
    let s : SameShape (exchange_of m) y = h.0.0 in
    let n : Counted y = h.0.1 in
    let read : exchange_of (put m y) ≡ y = exchange_put m k r y s n in
    let first = written_by_place m k r d y s n in
    let later : Each (Writable y) ys = shaped_as (exchange_of m) y s ys h.1 in
    let rest = stages_by_place (put m y) (put_counts m k r y s n) (put_room m k r y s n) first.declared ys (rw read later) in
    by_place_again m (exchange_of m) y (last_of y ys) ys (put m y) (written (put m y) ys) (each_last (SameShape y) y ys (same_shape y) (shapes y ys later)) first
    (rw read at rest)
  where
    shapes : (y : Exchange) (zs : List Exchange) → Each (Writable y) zs → Each (SameShape y) zs
    shapes y [] h = tt
    shapes y (z ∷ zs) h = (h.0.0, shapes y zs h.1)

-- EVERY COMMAND, on any well-formed state: the places in use after it are the rules', places that were in use before it or between its
-- steps are zero, and every other is as it was
pub step_by_place : (m : Memory) → well_formed_memory m ≡ true → Declared m.state → (c : Command) →
    WrittenByPlace m (exchange_of m ∷ (decide (exchange_of m) c).stages) (step (exchange_of m) c) (respond m c).memory
unfolding respond step_in step
step_by_place m w d c =
    let k = memory_ok m w in
    rw w
    (decided (λ e. WrittenByPlace m (exchange_of m ∷ e.stages) (last_of (exchange_of m) e.stages) (written m e.stages)) (exchange_of m) c
    (λ e. stages_by_place m k.counts k.room d (kind_of (exchange_of m) c).effect.stages
    (both_each (exchange_of m) (kind_of (exchange_of m) c).effect.stages (kind_shape (exchange_of m) c) (kind_counted (exchange_of m) c (sound m w) e)))
    (λ e. stages_by_place m k.counts k.room d [] tt))
