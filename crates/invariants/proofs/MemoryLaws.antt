-- A state written into memory is read back as it was written; what is read and written back changes nothing; so every step of
-- the rules is a step on memory, and keeps it well formed. Assumes nothing.
use Rattle.laws.specs.Logic.{Bool, true, false, List, [], ◌∷◌, ◌++◌, map, append-nil, ◌≡◌, refl, sym, ap, ap₂, ◌∙◌}
use Rattle.laws.specs.Numbers.{ℕ, zero, suc, ◌<◌, ◌≤◌, min, le_refl, le_of_suc-le-suc, not-suc-le-zero, arith, leb-true, leb-false, leb, length, get_or, take}
use Rattle.laws.specs.Numbers.{drop, length-map, length-take, drop_of_length-le, List·getD-map, List·getD-append, take_all, take_at}
use Rattle.laws.specs.Tabulate.{tabulate, length_tabulate, tabulate_eq}
use Rattle.rules.specs.Bounds.{max_resting}
use Rattle.rules.specs.Exchange.{Exchange, Listing, listing_at, account_at, own, no_listing, no_account, no_contract}
use Rattle.rules.specs.Memory.{Memory, Declared, queue_in, recorded_trades, listing_in, in_use, exchange_of, put_queues, put_trades, put_first, put_accounts, put_state, put}
use Rattle.rules.specs.declared.{Account.Account, Holding.Holding}
use Rattle.theory.proofs.Codecs.{length_queue, put_queues_same, length_put_queues, queue_put_queues, length_trades, put_trades_lem, trades_put, length_put_trades}
use Rattle.theory.proofs.InUse.{listing_in_use}
use Rattle.accounting.proofs.StepShape.{SameShape}
use Rattle.invariants.proofs.Clauses.{Counted}
use Rattle.invariants.proofs.MemoryRoom.{CountsOk, RoomOk}

-- ---- values put in the first places of an array

pub put_first_at : {A : Type 0} (f : Listing → A) (ls : List Listing) (room : List A) (c : ℕ) → c < length ls →
    get_or (put_first (map f ls) room) c (f no_listing) ≡ f (get_or ls c no_listing)
put_first_at f ls room c l =
    List·getD-append (map f ls) (drop (length (map f ls)) room) (f no_listing) c (rw (length-map ls f) l) ∙ List·getD-map f ls c no_listing

-- ---- accounts

-- as many values as are read are read back
front_read : {A : Type 0} (n : ℕ) (vs room : List A) → length vs ≡ length (take n room) → take n (put_first vs room) ≡ vs
front_read n vs room e = by_room (leb n (length room)) refl
  where
    e' : length vs ≡ min n (length room)
    e' = e ∙ length-take n room

    by_room : (b : Bool) → leb n (length room) ≡ b → take n (vs ++ drop (length vs) room) ≡ vs
    by_room true h = take_at vs (drop (length vs) room) n (omega (arith, e', leb-true n (length room) h))
    by_room false h =
        let l = leb-false n (length room) h in
        rw (drop_of_length-le room {i = length vs} (omega (arith, e')), append-nil vs) (take_all n vs (omega (arith, e')))

accounts_read : (n k : ℕ) (as' rooms : List Account) → length as' ≡ length (map (in_use n) (take k rooms)) →
    ((a : ℕ) → a < length as' → length (get_or as' a no_account).holdings ≡ length (get_or (map (in_use n) (take k rooms)) a no_account).holdings) →
    map (in_use n) (take k (put_accounts as' rooms)) ≡ as'
unfolding put_accounts
accounts_read n zero [] rooms e w = refl
accounts_read n (suc k) [] [] e w = refl
accounts_read n (suc k) [] (r ∷ rooms) e w = absurd (omega arith)
accounts_read n zero (a ∷ as') [] e w = absurd (omega arith)
accounts_read n zero (a ∷ as') (r ∷ rooms) e w = absurd (omega arith)
accounts_read n (suc k) (a ∷ as') [] e w = absurd (omega arith)
accounts_read n (suc k) (a ∷ as') (r ∷ rooms) e w =
    ap₂ (λ (hs : List Holding) (bs : List Account). record { balance = a.balance; maker = a.maker; holdings = hs } ∷ bs)
    (front_read n a.holdings r.holdings (w 0 (omega arith)))
    (accounts_read n k as' rooms (omega arith) (λ b l. w (suc b) (omega arith)))

-- the first places of a list, put back
taken_same : {A : Type 0} (n : ℕ) (room : List A) → put_first (take n room) room ≡ room
taken_same zero room = refl
taken_same (suc n) [] = refl
taken_same (suc n) (r ∷ room) = ap (λ l. r ∷ l) (taken_same n room)

-- ---- a state written and read back

module _ (m : Memory) (counts : CountsOk m.state) (room : RoomOk m) (x : Exchange) (shape : SameShape (exchange_of m) x) (few : Counted x) where
  contracts_same : length x.listings ≡ m.state.contractcount
  unfolding exchange_of
  contracts_same = shape.listings ∙ length_tabulate m.state.contractcount (listing_in m)

  short : (sell : Bool) (c : ℕ) → c < m.state.contractcount → length (own sell (listing_at x c)) ≤ max_resting
  short sell c l = few.queues c sell (rw contracts_same l)

  buys_read : (c : ℕ) → c < m.state.contractcount → queue_in (put m x).buys c (length (listing_at x c).buys) ≡ (listing_at x c).buys
  unfolding put
  buys_read c l =
      queue_put_queues m.buys m.state.buycounts (λ c. (listing_at x c).buys) m.state.contractcount counts.buys (short false) room.buys
      m.state.contractcount c (le_refl _) l

  sells_read : (c : ℕ) → c < m.state.contractcount → queue_in (put m x).sells c (length (listing_at x c).sells) ≡ (listing_at x c).sells
  unfolding put
  sells_read c l =
      queue_put_queues m.sells m.state.sellcounts (λ c. (listing_at x c).sells) m.state.contractcount counts.sells (short true)
      room.sells m.state.contractcount c (le_refl _) l

  -- the contracts and the counts of the queues
  contract_read : (c : ℕ) → c < m.state.contractcount → get_or (put m x).state.contracts c no_contract ≡ (listing_at x c).contract
  unfolding put put_state listing_at
  contract_read c l = put_first_at (λ n. n.contract) x.listings m.state.contracts c (rw contracts_same l)

  buy_count : (c : ℕ) → c < m.state.contractcount → get_or (put m x).state.buycounts c 0 ≡ length (listing_at x c).buys
  unfolding put put_state listing_at
  buy_count c l = put_first_at (λ n. length n.buys) x.listings m.state.buycounts c (rw contracts_same l)

  sell_count : (c : ℕ) → c < m.state.contractcount → get_or (put m x).state.sellcounts c 0 ≡ length (listing_at x c).sells
  unfolding put put_state listing_at
  sell_count c l = put_first_at (λ n. length n.sells) x.listings m.state.sellcounts c (rw contracts_same l)

  listing_read : (c : ℕ) → c < m.state.contractcount → listing_in (put m x) c ≡ listing_at x c
  unfolding listing_in
  listing_read c l =
      let b : queue_in (put m x).buys c (get_or (put m x).state.buycounts c 0) ≡ (listing_at x c).buys =
      ap (λ (n : ℕ). queue_in (put m x).buys c n) (buy_count c l) ∙ buys_read c l in
      let s : queue_in (put m x).sells c (get_or (put m x).state.sellcounts c 0) ≡ (listing_at x c).sells =
      ap (λ (n : ℕ). queue_in (put m x).sells c n) (sell_count c l) ∙ sells_read c l in
      let k = contract_read c l in
      λ i. record { contract = k i; buys = b i; sells = s i }

  listings_read : tabulate m.state.contractcount (listing_in (put m x)) ≡ x.listings
  unfolding listing_at
  listings_read =
      sym (tabulate_eq m.state.contractcount (listing_in (put m x)) x.listings no_listing contracts_same (λ c l. sym (listing_read c l)))

  accounts_put : map (in_use m.state.contractcount) (take m.state.accountcount (put m x).state.accounts) ≡ x.accounts
  unfolding put put_state exchange_of account_at
  accounts_put =
      accounts_read m.state.contractcount m.state.accountcount x.accounts m.state.accounts shape.accounts
      (λ a l. shape.wide a (rw shape.accounts at l))

  trades_read : recorded_trades (put m x).trades (put m x).state.tradecount ≡ x.trades
  unfolding put put_state
  trades_read = trades_put m.trades m.state.tradecount x.trades

  -- WHAT IS WRITTEN IS WHAT THE RULES SAY
  pub exchange_put : exchange_of (put m x) ≡ x
  unfolding exchange_of put put_state
  exchange_put =
      λ i. record { listings = listings_read i; accounts = accounts_put i; trades = trades_read i; next = x.next; nextstamp = x.nextstamp; settlements = x.settlements }

  -- the areas keep their lengths
  pub length_buys : length (put m x).buys ≡ length m.buys
  unfolding put
  length_buys =
      length_put_queues m.buys m.state.buycounts (λ c. (listing_at x c).buys) m.state.contractcount counts.buys (short false) room.buys
      m.state.contractcount (le_refl _)

  pub length_sells : length (put m x).sells ≡ length m.sells
  unfolding put
  length_sells =
      length_put_queues m.sells m.state.sellcounts (λ c. (listing_at x c).sells) m.state.contractcount counts.sells (short true)
      room.sells m.state.contractcount (le_refl _)

  pub length_trade_area : length (put m x).trades ≡ length m.trades
  unfolding put
  length_trade_area = length_put_trades m.trades m.state.tradecount x.trades counts.trades few.trades room.trades

  pub put_room : RoomOk (put m x)
  unfolding put put_state
  put_room = record { buys = rw length_buys room.buys; sells = rw length_sells room.sells; trades = rw length_trade_area room.trades }

  pub put_counts : CountsOk (put m x).state
  unfolding put put_state
  put_counts =
      record {
        contracts_low = counts.contracts_low;
        contracts_high = counts.contracts_high;
        accounts_low = counts.accounts_low;
        accounts_high = counts.accounts_high;
        trades = few.trades;
        buys = λ c l. rw (buy_count c l) (short false c l);
        sells = λ c l. rw (sell_count c l) (short true c l);
      }

-- ---- a state read and written back

-- the first places of an array, with what stands there
first_same : {A : Type 0} (f : Listing → A) (g : ℕ → Listing) (room : List A) (n : ℕ) → n ≤ length room →
    ((c : ℕ) → c < n → f (g c) ≡ get_or room c (f no_listing)) → put_first (map f (tabulate n g)) room ≡ room
unfolding tabulate
first_same f g room zero h same = refl
first_same f g [] (suc n) h same = absurd (not-suc-le-zero h)
first_same f g (r ∷ room) (suc n) h same =
    ap₂ (λ v l. v ∷ l) (same 0 (omega arith)) (first_same f (λ c. g (suc c)) room n (le_of_suc-le-suc h) (λ c l. same (suc c) (omega arith)))

accounts_same : (n k : ℕ) (rooms : List Account) → put_accounts (map (in_use n) (take k rooms)) rooms ≡ rooms
unfolding put_accounts
accounts_same n zero rooms = refl
accounts_same n (suc k) [] = refl
accounts_same n (suc k) (r ∷ rooms) =
    ap₂ (λ (hs : List Holding) (bs : List Account). record { balance = r.balance; maker = r.maker; holdings = hs } ∷ bs) (taken_same n r.holdings)
    (accounts_same n k rooms)

module _ (m : Memory) (counts : CountsOk m.state) (room : RoomOk m) (arrays : Declared m.state) where
  contracts_put : put_first (map (λ l. l.contract) (exchange_of m).listings) m.state.contracts ≡ m.state.contracts
  unfolding exchange_of listing_in
  contracts_put =
      first_same (λ l. l.contract) (listing_in m) m.state.contracts m.state.contractcount
      (omega (arith, counts.contracts_high, arrays.contracts)) (λ c l. refl)

  buys_put : put_first (map (λ l. length l.buys) (exchange_of m).listings) m.state.buycounts ≡ m.state.buycounts
  unfolding exchange_of listing_in
  buys_put =
      first_same (λ l. length l.buys) (listing_in m) m.state.buycounts m.state.contractcount
      (omega (arith, counts.contracts_high, arrays.buycounts)) (λ c l. length_queue m.buys c (get_or m.state.buycounts c 0))

  sells_put : put_first (map (λ l. length l.sells) (exchange_of m).listings) m.state.sellcounts ≡ m.state.sellcounts
  unfolding exchange_of listing_in
  sells_put =
      first_same (λ l. length l.sells) (listing_in m) m.state.sellcounts m.state.contractcount
      (omega (arith, counts.contracts_high, arrays.sellcounts)) (λ c l. length_queue m.sells c (get_or m.state.sellcounts c 0))

  state_put : put_state m.state (exchange_of m) ≡ m.state
  unfolding put_state exchange_of
  state_put =
      let a = accounts_same m.state.contractcount m.state.accountcount m.state.accounts in
      let t = length_trades m.trades m.state.tradecount in
      λ i. record {
        contracts = contracts_put i;
        accounts = a i;
        buycounts = buys_put i;
        sellcounts = sells_put i;
        contractcount = m.state.contractcount;
        accountcount = m.state.accountcount;
        tradecount = t i;
        next = m.state.next;
        nextstamp = m.state.nextstamp;
        settlements = m.state.settlements;
      }

  buy_area : put_queues m.buys m.state.buycounts (λ c. (listing_at (exchange_of m) c).buys) m.state.contractcount ≡ m.buys
  unfolding listing_in
  buy_area =
      put_queues_same m.buys m.state.buycounts (λ c. (listing_at (exchange_of m) c).buys) m.state.contractcount
      (λ c l. ap (λ (n : Listing). n.buys) (listing_in_use m c l)) counts.buys room.buys

  sell_area : put_queues m.sells m.state.sellcounts (λ c. (listing_at (exchange_of m) c).sells) m.state.contractcount ≡ m.sells
  unfolding listing_in
  sell_area =
      put_queues_same m.sells m.state.sellcounts (λ c. (listing_at (exchange_of m) c).sells) m.state.contractcount
      (λ c l. ap (λ (n : Listing). n.sells) (listing_in_use m c l)) counts.sells room.sells

  trade_area : put_trades m.trades m.state.tradecount (exchange_of m).trades ≡ m.trades
  unfolding exchange_of
  trade_area = put_trades_lem m.trades m.state.tradecount (omega (arith, counts.trades, room.trades))

  -- WHAT IS READ AND WRITTEN BACK ALTERS NO WORD
  pub put_same : put m (exchange_of m) ≡ m
  unfolding put
  put_same = λ i. record { state = state_put i; buys = buy_area i; sells = sell_area i; trades = trade_area i }
