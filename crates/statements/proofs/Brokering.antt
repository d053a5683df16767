-- A well-formed state whose trades are posted has all that the clients' day is worked out from, and that day is the clients' exchange.
-- Assumes nothing.
use Rattle.laws.specs.Logic.{Bool, true, false, not, List, [], ◌∷◌, map, ◌≡◌, refl, sym, ap, subst, ◌∙◌}
use Rattle.laws.specs.Numbers.{ℕ, ◌*◌, ◌<◌, ◌≤◌, arith, eqb-true, ltb-true, ltb-false, le-ltb, eqb, ltb, length, get_or, length-map}
use Rattle.laws.specs.Choice.{pick, all_at, all_of, all_of_at, both_true}
use Rattle.laws.specs.Lists.{get_d_map_lt}
use Rattle.laws.specs.Tabulate.{tabulate, get_d_tabulate}
use Rattle.areas.specs.Records.{store}
use Rattle.areas.proofs.Records.{length_store, records_store}
use Rattle.rules.specs.Bounds.{max_trades, max_contracts, max_limit}
use Rattle.rules.specs.Exchange.{Exchange, account_at, contract_at, holding_at, listing_at, no_account, no_holding, no_trade}
use Rattle.rules.specs.Memory.{Memory, exchange_of, listing_in, recorded_trades, trade_words, used, well_formed_memory, memory, trade_stride, trades_words}
use Rattle.rules.specs.WellFormed.{trade_in_range}
use Rattle.rules.specs.declared.{State.State, Trade.Trade}
use Rattle.theory.proofs.Codecs.{length_trades, trade_codec}
use Rattle.theory.proofs.InUse.{accounts_in_use, contracts_in_use}
use Rattle.accounting.proofs.Facts.{TradeFacts, facts, trade_facts}
use Rattle.invariants.proofs.MemoryRoom.{memory_ok}
use Rattle.dayprofit.specs.Day.{AllSized, SizedTrades}
use Rattle.settlement.proofs.Formed.{accounts_declared, contract_at_lem, contracts_four, price_high, priceable, sized_trades}
use Rattle.replaying.specs.Parts.{Booked}
use Rattle.clients.specs.Parts.{client_trades, clients_with}
use Rattle.statements.specs.Parts.{Brokered, Postable, PostedIs, ToldIs, broker, clients_day}
use Rattle.clients.specs.Clients.{Clients, client_account, client_exchange, client_place, client_trade, is_posted, leg_count, client_holding, start_long, start_short, starts_add_up, total, trade_posted, client_places, max_clients, others}
use Rattle.rules.specs.declared.codes.Code.{Code}
use Rattle.rules.specs.declared.codes.Code.TheVariants.{OrderUnposted}
use Rattle.std.specs.Prelude.{Result, Err}
use Rattle.statements.proofs.Answering.{code_here, code_later, refused_is, same_code}
use Rattle.clients.proofs.Posted.{client_holding_lem, posted_place, same_price}
use Rattle.clients.proofs.Totals.{total_at}

-- ---- a trade with clients in the account's place

place_bound : (clients : ℕ) (postings : List ℕ) (number : ℕ) → clients ≤ max_clients → client_place clients postings number < client_places
unfolding client_place
place_bound clients postings number few = by_posted (is_posted clients postings number) refl
  where
    by_posted : (p : Bool) → is_posted clients postings number ≡ p → client_place clients postings number < client_places
    by_posted true e = omega (arith, posted_place clients postings number e)
    by_posted false e = rw e (omega arith)

leg_bound : (whose : Bool) (place : ℕ) → place < client_places → pick whose place others < client_places
leg_bound true place h = h
leg_bound false place h = omega arith

booked : (a clients : ℕ) (postings : List ℕ) (x : Exchange) (t : Trade) → clients ≤ max_clients → TradeFacts x t → Booked (length x.listings) client_places (client_trade a clients postings t)
unfolding client_trade
booked a clients postings x t few f =
    record {
      contract = f.contract;
      buyer = leg_bound (eqb t.buyer a) _ (place_bound clients postings t.buyorder few);
      seller = leg_bound (eqb t.seller a) _ (place_bound clients postings t.sellorder few);
      lots = f.lots_high;
    }

all_sized : (a clients : ℕ) (postings : List ℕ) (ts : List Trade) → AllSized ts → AllSized (map (client_trade a clients postings) ts)
unfolding AllSized client_trade
all_sized a clients postings [] h = tt
all_sized a clients postings (t ∷ ts) h =
    (record { price = h.0.price; some = h.0.some; lots = h.0.lots }, all_sized a clients postings ts h.1)

-- ---- a client's starting lots

module _ (clients : ℕ) (starts : List ℕ) (few : clients ≤ max_clients) where
  -- past the clients there are none
  no_lots : (k c : ℕ) → clients ≤ k → k < client_places → c < max_contracts → holding_at (tabulate client_places (client_account (clients_with clients starts))) k c ≡ client_holding [] k c
  unfolding holding_at account_at client_account
  no_lots k c l lk lc =
      rw (get_d_tabulate client_places k (client_account (clients_with clients starts)) no_account lk, le-ltb k clients l)
      (get_d_tabulate max_contracts c (client_holding [] k) no_holding lc)

  module _ (c long short : ℕ) (lc : c < max_contracts) (el : total clients (λ k. start_long starts k c) ≡ long) (es : total clients (λ k. start_short starts k c) ≡ short)
      (hl : long ≤ max_limit) (hs : short ≤ max_limit) where
    lots_bound : (k : ℕ) → k < client_places
        → ((holding_at (tabulate client_places (client_account (clients_with clients starts))) k c).startlong ≤ max_limit)
        × ((holding_at (tabulate client_places (client_account (clients_with clients starts))) k c).startshort ≤ max_limit)
    lots_bound k lk = by_client (ltb k clients) refl
      where
        by_client : (b : Bool) → ltb k clients ≡ b
            → ((holding_at (tabulate client_places (client_account (clients_with clients starts))) k c).startlong ≤ max_limit)
            × ((holding_at (tabulate client_places (client_account (clients_with clients starts))) k c).startshort ≤ max_limit)
        by_client true e =
            let l = ltb-true k clients e in
            rw (client_holding_lem (clients_with clients starts) k c l lk lc)
            (omega (arith, total_at (λ k. start_long starts k c) k clients l), omega (arith, total_at (λ k. start_short starts k c) k clients l))
        by_client false e = rw (no_lots k c (ltb-false k clients e) lk lc) (omega arith, omega arith)

-- ---- the state

module _ (s : State) (buys sells trades : List ℕ) (a clients : ℕ) (starts : List ℕ) (p : Postable s buys sells trades a clients starts) (postings : List ℕ) where
  abbrev m : Memory
  m = memory s buys sells trades

  abbrev x : Exchange
  x = exchange_of m

  abbrev n : ℕ
  n = s.contractcount

  abbrev count : ℕ
  count = s.tradecount

  abbrev b : Clients
  b = broker clients starts postings

  formed : well_formed_memory m ≡ true
  formed = p.formed.formed

  room : s.accountcount ≤ length s.accounts
  room = accounts_declared m p.formed.declared formed

  pub few_contracts : n ≤ max_contracts
  few_contracts = contracts_four m room formed

  pub few_trades : count ≤ max_trades
  few_trades = (memory_ok m formed).counts.trades

  pub trade_room : trade_stride * count ≤ length trades
  trade_room = omega (arith, few_trades, (memory_ok m formed).room.trades)

  contracts_are : length x.listings ≡ n
  contracts_are = contracts_in_use m

  account_known : a < length x.accounts
  account_known = rw (accounts_in_use m room) p.account

  adds : (c : ℕ) → c < n
      → (total clients (λ k. start_long starts k c) ≡ (holding_at x.accounts a c).startlong) × (total clients (λ k. start_short starts k c) ≡ (holding_at x.accounts a c).startshort)
  unfolding starts_add_up
  adds c lc =
      let e = both_true _ _ (all_at _ c (length x.listings) p.adds (rw contracts_are lc)) in
      (eqb-true _ _ e.0, eqb-true _ _ e.1)

  lots : (k c : ℕ) → k < client_places → c < n
      → ((holding_at (tabulate client_places (client_account (clients_with clients starts))) k c).startlong ≤ max_limit)
      × ((holding_at (tabulate client_places (client_account (clients_with clients starts))) k c).startshort ≤ max_limit)
  lots k c lk lc =
      let f = facts x (memory_ok m formed).contents in
      let q = adds c lc in
      lots_bound clients starts p.few c _ _ (omega (arith, few_contracts)) q.0 q.1
      (f.startlong a c account_known (rw contracts_are lc)) (f.startshort a c account_known (rw contracts_are lc)) k lk

  -- ---- the area of the clients' trades

  module _ (area₀ area : List ℕ) (long : length area₀ ≡ trades_words) (content : area ≡ store trade_words area₀ 0 (client_trades a clients postings trades count)) where
    so_many : length (client_trades a clients postings trades count) ≡ count
    so_many = length-map (recorded_trades trades count) (client_trade a clients postings) ∙ length_trades trades count

    trades_are : recorded_trades area count ≡ client_trades a clients postings trades count
    unfolding recorded_trades
    trades_are = ap (λ (l : List ℕ). recorded_trades l count) content ∙ records_store trade_codec area₀ 0 count (client_trades a clients postings trades count) (omega arith) so_many

    area_room : trade_stride * count ≤ length area
    area_room =
        omega (arith, few_trades, so_many, ap length content, length_store trade_codec area₀ 0 (client_trades a clients postings trades count) (omega (arith, few_trades, so_many)))

    -- the clients' exchange
    pub day_is : clients_day s buys sells area starts clients ≡ client_exchange x a b
    unfolding clients_day client_exchange exchange_of listing_in client_account
    day_is =
        let t : recorded_trades area count ≡ map (client_trade a clients postings) (recorded_trades trades count) = trades_are in
        let e : used n client_places (tabulate client_places (client_account (clients_with clients starts))) ≡ used (length x.listings) client_places (tabulate client_places (client_account b)) =
        ap (λ (k : ℕ). used k client_places (tabulate client_places (client_account b))) (sym contracts_are) in
        λ i. record { listings = x.listings; accounts = e i; trades = t i; next = s.next; nextstamp = s.nextstamp; settlements = s.settlements }

    -- its contracts are the day's
    same_terms : (c : ℕ) → contract_at (clients_day s buys sells area starts clients) c ≡ contract_at x c
    unfolding clients_day exchange_of listing_at listing_in
    same_terms c = refl

    each_booked : (i : ℕ) → i < count → Booked n client_places (get_or (recorded_trades area count) i no_trade)
    unfolding exchange_of
    each_booked i l =
        let k : i < length (recorded_trades trades count) = rw (length_trades trades count) l in
        let e : get_or (recorded_trades area count) i no_trade ≡ client_trade a clients postings (get_or (recorded_trades trades count) i no_trade) =
        ap (λ (ts : List Trade). get_or ts i no_trade) trades_are ∙ get_d_map_lt (client_trade a clients postings) (recorded_trades trades count) i no_trade no_trade k in
        rw (e, ← contracts_are)
        (booked a clients postings x (get_or (recorded_trades trades count) i no_trade) p.few
        (trade_facts x _ (all_of_at (trade_in_range x) (recorded_trades trades count) i no_trade (facts x (memory_ok m formed).contents).trades k)))

    sized : SizedTrades area count
    sized =
        record { few = few_trades; room = area_room; sized = rw trades_are (all_sized a clients postings (recorded_trades trades count) (sized_trades m room formed).sized) }

    pub brokered : (legs : ℕ) → legs ≡ leg_count (client_trades a clients postings trades count) → Brokered s buys sells area starts clients legs
    brokered legs e =
        record {
          declared = p.formed.declared;
          contracts = few_contracts;
          few = p.few;
          trades = few_trades;
          room = area_room;
          sized = sized;
          each = each_booked;
          lots = lots;
          legs_are = e ∙ ap leg_count (sym trades_are);
          terms = λ c lc. let t = contract_at_lem m room formed c lc in rw (same_terms c) (t.multiplier_high, t.reference.high);
          priceable = λ c lc. let q = priceable m room formed c lc in record { tick = q.tick; place = q.place; trades = sized; quotes = q.quotes };
          prices = λ c lc. rw (day_is, same_price b x a c) (price_high m room formed c lc);
        }

    -- what is told of the day is told of the clients' exchange
    pub posted_told : all_of (trade_posted a clients postings) (recorded_trades trades count) ≡ true → (out : List ℕ) (r : Result ℕ Code) (out' : List ℕ)
        → ToldIs (clients_day s buys sells area starts clients) clients out r out' → PostedIs m a clients starts postings out r out'
    unfolding exchange_of
    posted_told t out r out' w =
        let v : ToldIs (client_exchange x a b) clients out r out' = subst (λ (y : Exchange). ToldIs y clients out r out') day_is w in
        same_code (client_exchange x a b) clients out _ _ (sym (code_later 26 _ _ (ap not t))) r out' v

  pub posted_26 : all_of (trade_posted a clients postings) (recorded_trades trades count) ≡ false → (out : List ℕ) → PostedIs m a clients starts postings out (Err OrderUnposted) out
  unfolding exchange_of
  posted_26 t out = refused_is (client_exchange x a b) clients out _ OrderUnposted (code_here 26 _ _ (ap not t)) refl
