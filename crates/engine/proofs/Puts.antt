-- A state written into the memory it was read from: what is as it was stays as it lay, and one changed listing or account
-- changes its own place alone. Assumes nothing.
use mathlib.Core.List.{List, map}
use mathlib.Core.Path.{◌≡◌, refl, sym, ap, ◌∙◌}
use Prim.Native.Nat.{ℕ, ◌*◌, ◌<◌, ◌≤◌}
use native.Mathlib.Omega.{arith}
use lib.ListN.{length, get_or, set, take, length-set}
use lib.Seq.{get_or-set_same, get_or-set_other, set-get_or, take-set-lt, drop-set-lt}
use Rattle.laws.specs.Lists.{map_set}
use Rattle.laws.specs.Tabulate.{tabulate, length_tabulate, get_d_tabulate, map_tabulate, tabulate_ext, tabulate_take}
use Rattle.rules.specs.Bounds.{max_resting}
use Rattle.rules.specs.Exchange.{Exchange, Listing, listing_at, no_contract, no_listing}
use Rattle.rules.specs.Memory.{Memory, memory, exchange_of, listing_in, put, put_accounts, put_first, put_queue, put_queues, put_state, put_trades, queue_in, queue_stride}
use Rattle.rules.specs.Step.{with_contract, with_listing}
use Rattle.theory.proofs.Codecs.{length_queue, put_queue_lem, length_trades, put_trades_lem, put_queues_same, put_queues_one}
use Rattle.rules.specs.declared.Account.{Account}
use Rattle.rules.specs.declared.Contract.{Contract}
use Rattle.rules.specs.declared.Order.{Order}
use Rattle.rules.specs.declared.State.{State}
use Rattle.rules.specs.declared.Trade.{Trade}
use Rattle.engine.proofs.Accounts.{first_room}
use Rattle.engine.specs.Outcome.{with_accounts_in, with_contracts_in, with_counts_in}
use Rattle.engine.proofs.Formed.{Formed, accounts_put, listing_at_lem}

module _ (m : Memory) (f : Formed m) where
  -- ---- a value of each listing, written where it was read

  module _ {A : Type 0} (value : Listing → A) (l : List A) (d : A) (fits : m.state.contractcount ≤ length l) (read : (c : ℕ) → value (listing_in m c) ≡ get_or l c d) where
    front : map value (exchange_of m).listings ≡ take m.state.contractcount l
    unfolding exchange_of
    front =
        map_tabulate value m.state.contractcount (listing_in m)
        ∙ tabulate_ext m.state.contractcount (λ c. value (listing_in m c)) (λ c. get_or l c d) read
        ∙ tabulate_take m.state.contractcount l d fits

    value_same : put_first (map value (exchange_of m).listings) l ≡ l
    value_same = rw front (first_room m.state.contractcount l l refl fits)

    value_set : (c : ℕ) (v : Listing) → c < m.state.contractcount → put_first (map value (set (exchange_of m).listings c v)) l ≡ set l c (value v)
    value_set c v h =
        let n : ℕ = m.state.contractcount in
        let longer : n ≤ length (set l c (value v)) = rw length-set fits in
        rw (map_set value (exchange_of m).listings c v, front, ← take-set-lt n l c (value v) h) (first_room n (set l c (value v)) l (drop-set-lt n l c (value v) h) longer)

  read_contract : (c : ℕ) → (listing_in m c).contract ≡ get_or m.state.contracts c no_contract
  unfolding listing_in
  read_contract c = refl

  read_buys : (c : ℕ) → length (listing_in m c).buys ≡ get_or m.state.buycounts c 0
  unfolding listing_in
  read_buys c = length_queue m.buys c (get_or m.state.buycounts c 0)

  read_sells : (c : ℕ) → length (listing_in m c).sells ≡ get_or m.state.sellcounts c 0
  unfolding listing_in
  read_sells c = length_queue m.sells c (get_or m.state.sellcounts c 0)

  fit_contracts : m.state.contractcount ≤ length m.state.contracts
  fit_contracts = omega (arith, f.declared.contracts, f.contracts_high)

  fit_buys : m.state.contractcount ≤ length m.state.buycounts
  fit_buys = omega (arith, f.declared.buycounts, f.contracts_high)

  fit_sells : m.state.contractcount ≤ length m.state.sellcounts
  fit_sells = omega (arith, f.declared.sellcounts, f.contracts_high)

  -- ---- the rest of the state new: accounts, trades, counters

  module _ (accounts : List Account) (trades : List Trade) (next nextstamp settlements : ℕ) where
    -- the listings as they are
    abbrev pub same_listings : Exchange
    same_listings = record { listings = (exchange_of m).listings; accounts = accounts; trades = trades; next = next; nextstamp = nextstamp; settlements = settlements }

    abbrev pub state_of : List Contract → List ℕ → List ℕ → State
    state_of contracts buycounts sellcounts =
        record {
          contracts = contracts;
          accounts = put_accounts accounts m.state.accounts;
          buycounts = buycounts;
          sellcounts = sellcounts;
          contractcount = m.state.contractcount;
          accountcount = m.state.accountcount;
          tradecount = length trades;
          next = next;
          nextstamp = nextstamp;
          settlements = settlements;
        }

    queue_kept : (queue : Listing → List Order) (area counts : List ℕ) → ((c : ℕ) → c < m.state.contractcount → get_or counts c 0 ≤ max_resting)
        → queue_stride * m.state.contractcount ≤ length area → ((c : ℕ) → queue (listing_in m c) ≡ queue_in area c (get_or counts c 0))
        → put_queues area counts (λ c. queue (listing_at same_listings c)) m.state.contractcount ≡ area
    unfolding listing_at
    queue_kept queue area counts few room read =
        put_queues_same area counts (λ c. queue (listing_at same_listings c)) m.state.contractcount (λ c h. ap queue (listing_at_lem m f c h) ∙ read c) few room

    pub put_same_listings : put m same_listings ≡ memory (state_of m.state.contracts m.state.buycounts m.state.sellcounts) m.buys m.sells (put_trades m.trades m.state.tradecount trades)
    unfolding put put_state listing_in
    put_same_listings =
        rw (
          value_same (λ l. l.contract) m.state.contracts no_contract fit_contracts read_contract,
          value_same (λ l. length l.buys) m.state.buycounts 0 fit_buys read_buys,
          value_same (λ l. length l.sells) m.state.sellcounts 0 fit_sells read_sells,
          queue_kept (λ l. l.buys) m.buys m.state.buycounts f.buys_high f.buys_room (λ c. refl),
          queue_kept (λ l. l.sells) m.sells m.state.sellcounts f.sells_high f.sells_room (λ c. refl),
        )

    -- contract c's listing new too
    module _ (c : ℕ) (l : Listing) (h : c < m.state.contractcount) (short-buys : length l.buys ≤ max_resting) (short-sells : length l.sells ≤ max_resting) where
      abbrev pub one_listing : Exchange
      one_listing = record { listings = set (exchange_of m).listings c l; accounts = accounts; trades = trades; next = next; nextstamp = nextstamp; settlements = settlements }

      here : listing_at one_listing c ≡ l
      unfolding listing_at exchange_of
      here = get_or-set_same (tabulate m.state.contractcount (listing_in m)) c l no_listing (rw length_tabulate h)

      elsewhere : (d : ℕ) → d < m.state.contractcount → (c ≡ d → ⊥) → listing_at one_listing d ≡ listing_in m d
      unfolding listing_at exchange_of
      elsewhere d i apart = get_or-set_other (tabulate m.state.contractcount (listing_in m)) c d l no_listing (λ e. apart (sym e)) ∙ get_d_tabulate m.state.contractcount d (listing_in m) no_listing i

      queue_new : (queue : Listing → List Order) (area counts : List ℕ) → ((d : ℕ) → d < m.state.contractcount → get_or counts d 0 ≤ max_resting)
          → queue_stride * m.state.contractcount ≤ length area → length (queue l) ≤ max_resting → ((d : ℕ) → queue (listing_in m d) ≡ queue_in area d (get_or counts d 0))
          → put_queues area counts (λ d. queue (listing_at one_listing d)) m.state.contractcount ≡ put_queue area c (get_or counts c 0) (queue l)
      queue_new queue area counts few room short read =
          put_queues_one area counts (λ d. queue (listing_at one_listing d)) m.state.contractcount c h (λ d i apart. ap queue (elsewhere d i apart) ∙ read d) few (rw here short) room
          ∙ ap (λ (v : Listing). put_queue area c (get_or counts c 0) (queue v)) here

      pub put_one_listing :
          put m one_listing
          ≡ memory
          (state_of (set m.state.contracts c l.contract) (set m.state.buycounts c (length l.buys)) (set m.state.sellcounts c (length l.sells)))
          (put_queue m.buys c (get_or m.state.buycounts c 0) l.buys)
          (put_queue m.sells c (get_or m.state.sellcounts c 0) l.sells)
          (put_trades m.trades m.state.tradecount trades)
      unfolding put put_state listing_in
      put_one_listing =
          rw (
            value_set (λ v. v.contract) m.state.contracts no_contract fit_contracts read_contract c l h,
            value_set (λ v. length v.buys) m.state.buycounts 0 fit_buys read_buys c l h,
            value_set (λ v. length v.sells) m.state.sellcounts 0 fit_sells read_sells c l h,
            queue_new (λ v. v.buys) m.buys m.state.buycounts f.buys_high f.buys_room short-buys (λ d. refl),
            queue_new (λ v. v.sells) m.sells m.state.sellcounts f.sells_high f.sells_room short-sells (λ d. refl),
          )

  -- ---- the trades as they are

  pub trades_count : length (exchange_of m).trades ≡ m.state.tradecount
  unfolding exchange_of
  trades_count = length_trades m.trades m.state.tradecount

  pub trades_same : put_trades m.trades m.state.tradecount (exchange_of m).trades ≡ m.trades
  unfolding exchange_of
  trades_same = put_trades_lem m.trades m.state.tradecount (omega (arith, f.trades_room, f.trades_high))

  -- ---- one part new, all else as it is

  pub put_accounts_lem : (accounts placed : List Account) → put_accounts accounts m.state.accounts ≡ placed
      → put m (record { listings = (exchange_of m).listings; accounts = accounts; trades = (exchange_of m).trades; next = (exchange_of m).next; nextstamp = (exchange_of m).nextstamp; settlements = (exchange_of m).settlements })
      ≡ memory (with_accounts_in m.state placed) m.buys m.sells m.trades
  unfolding exchange_of
  put_accounts_lem accounts placed e =
      put_same_listings accounts (exchange_of m).trades (exchange_of m).next (exchange_of m).nextstamp (exchange_of m).settlements ∙ rw (e, trades_count, trades_same)

  put_listing : (c : ℕ) (l : Listing) → c < m.state.contractcount → length l.buys ≤ max_resting → length l.sells ≤ max_resting
      → put m (with_listing (exchange_of m) c l)
      ≡ memory
      (with_counts_in (with_contracts_in m.state (set m.state.contracts c l.contract)) (set m.state.buycounts c (length l.buys)) (set m.state.sellcounts c (length l.sells)))
      (put_queue m.buys c (get_or m.state.buycounts c 0) l.buys)
      (put_queue m.sells c (get_or m.state.sellcounts c 0) l.sells)
      m.trades
  unfolding exchange_of
  put_listing c l h short-buys short-sells =
      put_one_listing (exchange_of m).accounts (exchange_of m).trades (exchange_of m).next (exchange_of m).nextstamp (exchange_of m).settlements c l h short-buys short-sells
      ∙ rw (accounts_put m f, trades_count, trades_same)

  -- writing a queue as it is changes nothing
  queue_same : (area counts : List ℕ) → ((d : ℕ) → d < m.state.contractcount → get_or counts d 0 ≤ max_resting) → queue_stride * m.state.contractcount ≤ length area
      → (c : ℕ) → c < m.state.contractcount → put_queue area c (get_or counts c 0) (queue_in area c (get_or counts c 0)) ≡ area
  queue_same area counts few room c h = put_queue_lem area c (get_or counts c 0) (omega (arith, few c h))

  -- a contract of which the terms, or the two queues, are new
  module _ (c : ℕ) (h : c < m.state.contractcount) where
    pub put_contract : (contract : Contract)
        → put m (with_listing (exchange_of m) c (with_contract (listing_at (exchange_of m) c) contract))
        ≡ memory (with_contracts_in m.state (set m.state.contracts c contract)) m.buys m.sells m.trades
    unfolding listing_in
    put_contract contract =
        let b : ℕ = get_or m.state.buycounts c 0 in
        let s : ℕ = get_or m.state.sellcounts c 0 in
        let lb : length (queue_in m.buys c b) ≡ b = length_queue m.buys c b in
        let ls : length (queue_in m.sells c s) ≡ s = length_queue m.sells c s in
        rw (listing_at_lem m f c h)
        (put_listing c (with_contract (listing_in m c) contract) h (rw lb (f.buys_high c h)) (rw ls (f.sells_high c h))
        ∙ rw (lb, ls, set-get_or m.state.buycounts c 0, set-get_or m.state.sellcounts c 0, queue_same m.buys m.state.buycounts f.buys_high f.buys_room c h, queue_same m.sells m.state.sellcounts f.sells_high f.sells_room c h))

    pub put_queues_lem : (buys sells : List Order) → length buys ≤ max_resting → length sells ≤ max_resting
        → put m (with_listing (exchange_of m) c (record { contract = get_or m.state.contracts c no_contract; buys = buys; sells = sells }))
        ≡ memory
        (with_counts_in m.state (set m.state.buycounts c (length buys)) (set m.state.sellcounts c (length sells)))
        (put_queue m.buys c (get_or m.state.buycounts c 0) buys)
        (put_queue m.sells c (get_or m.state.sellcounts c 0) sells)
        m.trades
    put_queues_lem buys sells short-buys short-sells =
        put_listing c (record { contract = get_or m.state.contracts c no_contract; buys = buys; sells = sells }) h short-buys short-sells
        ∙ rw (set-get_or m.state.contracts c no_contract)
