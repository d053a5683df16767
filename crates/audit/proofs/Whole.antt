-- The clauses on a state's contents, each as the test that code makes of the state as it lies; and what a passed test gives the
-- tests behind it. Assumes nothing.
use Rattle.laws.specs.Logic.{Bool, true, ◌&&◌, List, [], ◌∷◌, map, ◌≡◌, refl, ap₂, ◌∙◌}
use Rattle.laws.specs.Numbers.{ℕ, zero, suc, ◌*◌, ◌<◌, ◌≤◌, arith, leb-true, leb, length, get_or, take, length-map, length-replicate}
use Rattle.laws.specs.Choice.{all, all_of, all_at, all_ext, all_of_at, all_of_ext, all_of_map, both_true}
use Rattle.laws.specs.Tabulate.{tabulate, all_of_table, length_tabulate, get_d_tabulate}
use Rattle.rules.specs.Bounds.{within, terms_in_range}
use Rattle.rules.specs.Exchange.{Exchange, Listing, listing_at, account_at, holding_at, no_contract, no_listing, no_trade}
use Rattle.rules.specs.Memory.{Memory, exchange_of, in_use, listing_in, recorded_trades, counts_in_range, has_room, used, memory, trade_stride}
use Rattle.rules.specs.WellFormed.{counters_in_range, all_numbers, all_stamps, used_once, quotes, mark_allowed, queue_quoted, listing_quoted, mark_in_range, trade_in_range, replays, holding_in_range, holdings_in_range, balance_in_range, well_formed_contents}
use Rattle.rules.specs.declared.{Account.Account, Order.Order, State.State, Trade.Trade}
use Rattle.theory.proofs.Codecs.{length_trades}
use Rattle.theory.proofs.InUse.{length_used, used_holding}
use Rattle.theory.proofs.Terms.{terms, terms_passed}
use Rattle.invariants.proofs.Clauses.{holding_ok, trade_ok}
use Rattle.invariants.proofs.MemoryRoom.{counts_ok, room_ok}
use Rattle.replaying.specs.Parts.{Booked}
use Rattle.audit.specs.Parts.{QueuesReady, listing, listing_in_range, replayed, tested}
use Rattle.audit.proofs.Clauses.{listing_tested}
use Rattle.audit.proofs.Walked.{walked}

-- two tables of listings with the same contracts
same_contracts : (n : ℕ) (f g : ℕ → Listing) (c : ℕ) → ((i : ℕ) → (f i).contract ≡ (g i).contract) → (get_or (tabulate n f) c no_listing).contract ≡ (get_or (tabulate n g) c no_listing).contract
unfolding tabulate
same_contracts zero f g c e = refl
same_contracts (suc n) f g zero e = e 0
same_contracts (suc n) f g (suc c) e = same_contracts n (λ i. f (suc i)) (λ i. g (suc i)) c (λ i. e (suc i))

-- a mark asks for nothing of an account but whether it is a maker
maker_in_use : (contracts : ℕ) (l : List Account) (a : ℕ) → (account_at (map (in_use contracts) l) a).maker ≡ (account_at l a).maker
unfolding account_at
maker_in_use contracts [] a = refl
maker_in_use contracts (x ∷ l) zero = refl
maker_in_use contracts (x ∷ l) (suc a) = maker_in_use contracts l a

queue_in_use : (contracts : ℕ) (l : List Account) (queue : List Order) → queue_quoted (map (in_use contracts) l) queue ≡ queue_quoted l queue
unfolding queue_quoted mark_allowed
queue_in_use contracts l queue =
    ap₂ (λ x n. x && all (λ a. leb (quotes a queue) 1) n)
    (all_of_ext (mark_allowed (map (in_use contracts) l)) (mark_allowed l) queue (λ o. rw (maker_in_use contracts l o.account) refl)) (length-map l (in_use contracts))

quoted_in_use : (contracts : ℕ) (l : List Account) (m : Listing) → listing_quoted (map (in_use contracts) l) m ≡ listing_quoted l m
unfolding listing_quoted
quoted_in_use contracts l m = ap₂ (λ x y. x && y) (queue_in_use contracts l m.buys) (queue_in_use contracts l m.sells)

-- ---- the tests

module _ (s : State) (buys sells trades : List ℕ) where
  abbrev pub m : Memory
  m = memory s buys sells trades

  abbrev pub counters_test : Bool
  counters_test = within 1 1_000_000 s.next && within 1 1_000_000 s.nextstamp && leb s.settlements 250

  abbrev pub listings_test : Bool
  listings_test = all (λ c. listing_in_range s.accountcount s.next s.nextstamp (listing s buys sells c)) s.contractcount

  abbrev numbers_test : Bool
  numbers_test = used_once (all_numbers (tabulate s.contractcount (listing s buys sells)))

  abbrev stamps_test : Bool
  stamps_test = used_once (all_stamps (tabulate s.contractcount (listing s buys sells)))

  abbrev quotes_test : Bool
  quotes_test = all (λ c. listing_quoted (take s.accountcount s.accounts) (listing s buys sells c)) s.contractcount

  abbrev makers_test : Bool
  makers_test = all_of mark_in_range (take s.accountcount s.accounts)

  abbrev asked : Exchange
  asked = tested s.contracts s.contractcount s.accountcount s.next

  abbrev pub trades_test : Bool
  trades_test = all_of (trade_in_range asked) (recorded_trades trades s.tradecount)

  abbrev replay_test : Bool
  replay_test = replays (replayed (used s.contractcount s.accountcount s.accounts) (recorded_trades trades s.tradecount))

  abbrev pub holdings_test : Bool
  holdings_test = all (λ a. all (λ c. holding_in_range (listing s buys sells c) a (holding_at s.accounts a c)) s.contractcount) s.accountcount

  abbrev balances_test : Bool
  balances_test = all_of (balance_in_range s.settlements) (take s.accountcount s.accounts)

  -- each is the clause of the rules, where the accounts in use are among those that lie there
  module _ (fit : s.accountcount ≤ length s.accounts) where
    accounts_count : length (exchange_of m).accounts ≡ s.accountcount
    unfolding exchange_of
    accounts_count = length_used s.contractcount s.accountcount s.accounts fit

    counters_same : counters_in_range (exchange_of m) ≡ counters_test
    unfolding counters_in_range exchange_of
    counters_same = refl

    in_table : all_of (listing_in_range s.accountcount (exchange_of m).next (exchange_of m).nextstamp) (exchange_of m).listings ≡ listings_test
    unfolding exchange_of listing_in
    in_table = all_of_table (listing_in_range s.accountcount s.next s.nextstamp) s.contractcount (listing_in m)

    listings_same : all_of (listing_in_range (length (exchange_of m).accounts) (exchange_of m).next (exchange_of m).nextstamp) (exchange_of m).listings ≡ listings_test
    listings_same = rw accounts_count in_table

    numbers_same : used_once (all_numbers (exchange_of m).listings) ≡ numbers_test
    unfolding exchange_of listing_in
    numbers_same = refl

    stamps_same : used_once (all_stamps (exchange_of m).listings) ≡ stamps_test
    unfolding exchange_of listing_in
    stamps_same = refl

    quotes_same : all_of (listing_quoted (exchange_of m).accounts) (exchange_of m).listings ≡ quotes_test
    unfolding exchange_of listing_in
    quotes_same =
        all_of_ext (listing_quoted (used s.contractcount s.accountcount s.accounts)) (listing_quoted (take s.accountcount s.accounts)) (tabulate s.contractcount (listing_in m))
        (quoted_in_use s.contractcount (take s.accountcount s.accounts))
        ∙ all_of_table (listing_quoted (take s.accountcount s.accounts)) s.contractcount (listing_in m)

    makers_same : all_of mark_in_range (exchange_of m).accounts ≡ makers_test
    unfolding exchange_of mark_in_range
    makers_same = all_of_map mark_in_range (in_use s.contractcount) (take s.accountcount s.accounts)

    trade_same : (t : Trade) → trade_in_range (exchange_of m) t ≡ trade_in_range asked t
    unfolding trade_in_range tested exchange_of listing_at listing_in
    trade_same t =
        rw (
          length_used s.contractcount s.accountcount s.accounts fit,
          length-replicate,
          length_tabulate,
          length_tabulate,
          same_contracts s.contractcount (listing_in m) (λ c. record { contract = get_or s.contracts c no_contract; buys = []; sells = [] }) t.contract (λ c. refl),
        )

    trades_same : all_of (trade_in_range (exchange_of m)) (exchange_of m).trades ≡ trades_test
    unfolding exchange_of
    trades_same = all_of_ext (trade_in_range (exchange_of m)) (trade_in_range asked) (recorded_trades trades s.tradecount) trade_same

    replay_same : replays (exchange_of m) ≡ replay_test
    unfolding replays exchange_of
    replay_same = refl

    holding_same : (a : ℕ) → a < s.accountcount → holdings_in_range (exchange_of m) a ≡ all (λ c. holding_in_range (listing s buys sells c) a (holding_at s.accounts a c)) s.contractcount
    unfolding holdings_in_range exchange_of listing_at listing_in
    holding_same a h =
        rw length_tabulate
        (all_ext _ (λ c. holding_in_range (listing s buys sells c) a (holding_at s.accounts a c)) s.contractcount
        (λ c hc. ap₂ (λ l g. holding_in_range l a g) (get_d_tabulate s.contractcount c (listing_in m) no_listing hc) (used_holding s.contractcount s.accountcount s.accounts a c h hc)))

    holdings_same : all (holdings_in_range (exchange_of m)) (length (exchange_of m).accounts) ≡ holdings_test
    holdings_same = rw accounts_count (all_ext (holdings_in_range (exchange_of m)) _ s.accountcount holding_same)

    balances_same : all_of (balance_in_range (exchange_of m).settlements) (exchange_of m).accounts ≡ balances_test
    unfolding exchange_of balance_in_range
    balances_same = all_of_map (balance_in_range s.settlements) (in_use s.contractcount) (take s.accountcount s.accounts)

    pub contents_tests : well_formed_contents (exchange_of m)
        ≡ (counters_test && listings_test && numbers_test && stamps_test && quotes_test && makers_test && trades_test && replay_test && holdings_test && balances_test)
    contents_tests = walked (exchange_of m) ∙ rw (counters_same, listings_same, numbers_same, stamps_same, quotes_same, makers_same, trades_same, replay_same, holdings_same, balances_same) refl

-- ---- what a passed test gives the tests behind it

module _ (s : State) (buys sells trades : List ℕ) (counts : counts_in_range s ≡ true) (room : has_room (memory s buys sells trades) ≡ true) where
  pub ready : QueuesReady s buys sells
  ready =
      let r = room_ok (memory s buys sells trades) room in
      record { counts = counts; buy_room = r.buys; sell_room = r.sells }

  pub trades_words_lem : trade_stride * s.tradecount ≤ length trades
  trades_words_lem = omega (arith, (room_ok (memory s buys sells trades) room).trades, (counts_ok s counts).trades)

  pub few_settlements : counters_test s buys sells trades ≡ true → s.settlements ≤ 250
  few_settlements h = leb-true s.settlements 250 (both_true (within 1 1_000_000 s.next && within 1 1_000_000 s.nextstamp) (leb s.settlements 250) h).1

  module _ (listings : listings_test s buys sells trades ≡ true) where
    pub terms_tested : (c : ℕ) → c < s.contractcount → terms_in_range (get_or s.contracts c no_contract) ≡ true
    unfolding listing_in
    terms_tested c h =
        terms_passed _ (listing_tested s.accountcount s.next s.nextstamp (listing s buys sells c) (all_at (λ c. listing_in_range s.accountcount s.next s.nextstamp (listing s buys sells c)) c s.contractcount listings h)).contract

    pub starts_tested : holdings_test s buys sells trades ≡ true
        → (a c : ℕ) → a < s.accountcount → c < s.contractcount → ((holding_at s.accounts a c).startlong ≤ 100_000) × ((holding_at s.accounts a c).startshort ≤ 100_000)
    unfolding listing_in
    starts_tested held a c ha hc =
        let h = holding_ok (listing s buys sells c) a (holding_at s.accounts a c)
        (all_at (λ c. holding_in_range (listing s buys sells c) a (holding_at s.accounts a c)) c s.contractcount
        (all_at (λ a. all (λ c. holding_in_range (listing s buys sells c) a (holding_at s.accounts a c)) s.contractcount) a s.accountcount held ha) hc) in
        let t = terms (get_or s.contracts c no_contract) (terms_tested c hc) in
        (omega (arith, h.startlong, t.limit_high), omega (arith, h.startshort, t.limit_high))

  pub trades_tested : trades_test s buys sells trades ≡ true
      → (i : ℕ) → i < s.tradecount → Booked s.contractcount s.accountcount (get_or (recorded_trades trades s.tradecount) i no_trade)
  unfolding tested
  trades_tested h i l =
      let day = recorded_trades trades s.tradecount in
      let t = trade_ok (asked s buys sells trades) (get_or day i no_trade) (all_of_at (trade_in_range (asked s buys sells trades)) day i no_trade h (rw (length_trades trades s.tradecount) l)) in
      record {
        contract = rw length_tabulate at t.contract;
        buyer = rw length-replicate at t.buyer;
        seller = rw length-replicate at t.seller;
        lots = t.lots_high;
      }
