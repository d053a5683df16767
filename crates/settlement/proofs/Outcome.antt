-- The whole settlement: from a well-formed state to what each part asks for, and from the parts to the state, the areas and the
-- report that the rules give. Assumes nothing.
use lib.IntN.{ℤ}
use Rattle.laws.specs.Logic.{true, List, [], map, ◌≡◌, refl, sym, ap, ap₂, ◌∙◌}
use Rattle.laws.specs.Numbers.{ℕ, zero, suc, ◌+◌, ◌<◌, ◌≤◌, le_trans, le_of_eq, arith, leb-false, length, get_or}
use Rattle.laws.specs.Tabulate.{tabulate, length_tabulate, get_d_tabulate, tabulate_below, map_tabulate}
use Rattle.laws.specs.Written.{length_overwritten}
use Rattle.areas.specs.Lists.{padded}
use Rattle.areas.proofs.Lists.{get_d_padded}
use Rattle.rules.specs.Kinds.{code_of, kind_of}
use Rattle.rules.specs.Answers.{settle_refusals}
use Rattle.rules.specs.Bounds.{max_settlements}
use Rattle.rules.specs.Exchange.{Exchange, Listing, no_contract, no_listing, listing_at}
use Rattle.rules.specs.Margin as margin
use Rattle.rules.specs.Memory.{Memory, exchange_of, listing_in, put, put_state, put_first, put_accounts, put_queues, put_trades, well_formed_memory, memory, written}
use Rattle.rules.specs.Settlement.{settlement_price, settled_account, settled_contract, settled_listing, settled}
use Rattle.rules.specs.Step.{settled_all}
use Rattle.rules.specs.declared.{Account.Account, Contract.Contract, Order.Order, State.State}
use Rattle.rules.specs.declared.Command.TheVariants.{Settle}
use Rattle.theory.proofs.InUse.{contracts_in_use, listing_in_use, account_in_use_lem}
use Rattle.theory.proofs.Refusals.{failed}
use Rattle.invariants.proofs.MemoryKeeps.{accepted_read, accepted_keeps}
use Rattle.invariants.proofs.MemoryRoom.{memory_ok}
use Rattle.settlement.specs.Settling.{AllPriceable, prices_due, Settleable, SettledIs, HasDay, AllPayable, BooksOf, BooksIs, AllClearable, ClearedAre, AllChargeable, ChargesAre, next_day}
use Rattle.settlement.proofs.Formed.{accounts_declared, contracts_four, accounts_few, contract_at_lem, price_high, holding_starts, legs_covered, chargeable, sized_trades, placed_trades, balance_within, accounts_counted, priceable}
use Rattle.settlement.proofs.Places.{overwritten_accounts}

-- ---- the state of the next day, from its parts

-- ---- queues that agree are written alike

put_queues_ext : (area counts : List ℕ) (f g : ℕ → List Order) (n : ℕ) → ((c : ℕ) → c < n → f c ≡ g c) → put_queues area counts f n ≡ put_queues area counts g n
unfolding put_queues
put_queues_ext area counts f g zero h = refl
put_queues_ext area counts f g (suc n) h = rw (put_queues_ext area counts f g n (λ c l. h c (omega arith)), h n (omega arith))

module _ (s : State) (buys sells trades : List ℕ) (g : Settleable s buys sells trades) where
  abbrev m : Memory
  m = memory s buys sells trades

  abbrev x : Exchange
  x = exchange_of m

  room : s.accountcount ≤ length s.accounts
  room = accounts_declared m g.state.declared g.state.formed

  pub settlements_left : s.settlements < 250
  unfolding code_of kind_of settle_refusals exchange_of
  settlements_left = leb-false max_settlements x.settlements (failed (settle_refusals x) (omega arith) g.accepted).1.0

  pub few_contracts : s.contractcount ≤ 4
  few_contracts = contracts_four m room g.state.formed

  pub all_clearable : AllClearable s buys sells trades
  all_clearable =
      let k = memory_ok m g.state.formed in
      record {
        buys = record { few = few_contracts; counts = k.counts.buys; room = k.room.buys };
        sells = record { few = few_contracts; counts = k.counts.sells; room = k.room.sells };
        few = k.counts.trades;
        trades = omega (arith, k.counts.trades, k.room.trades);
      }

  -- ---- the prices

  pub all_priceable : AllPriceable s buys sells trades
  all_priceable = record { few = few_contracts; each = priceable m room g.state.formed }

  abbrev Prices : List ℕ → Type 0
  Prices prices = prices ≡ prices_due s buys sells trades

  price_at : (prices : List ℕ) → Prices prices → (c : ℕ) → c < s.contractcount → get_or prices c 0 ≡ settlement_price x c
  price_at prices e c lc =
      rw (e, get_d_padded 4 c 0 0 (tabulate s.contractcount (settlement_price x)) (rw (length_tabulate s.contractcount (settlement_price x)) lc))
      (get_d_tabulate s.contractcount c (settlement_price x) 0 lc)

  module _ (prices : List ℕ) (e : Prices prices) where
    -- the state as it lies has the exchange's day
    has_day : HasDay x s trades prices
    unfolding exchange_of listing_in
    has_day =
        record {
          count = contracts_in_use m;
          terms = λ c lc. ap (λ (l : Listing). l.contract) (listing_in_use m c lc);
          price = λ c lc. sym (price_at prices e c lc);
          holder = account_in_use_lem m;
          day = refl;
        }

    pub all_payable : AllPayable s trades prices
    all_payable =
        let formed = g.state.formed in
        record {
          declared = g.state.declared;
          accounts = accounts_few m room formed;
          contracts = few_contracts;
          placed = placed_trades m room formed;
          exchange = x;
          has = has_day;
          balance = balance_within m room formed;
          multiplier = λ c lc. (contract_at_lem m room formed c lc).multiplier_high;
          each = λ a c la lc. record {
            trades = sized_trades m room formed;
            reference = (contract_at_lem m room formed c lc).reference.high;
            long = (holding_starts m room formed c lc a la).0;
            short = (holding_starts m room formed c lc a la).1;
            price = price_high m room formed c lc;
            covered = legs_covered m room formed c lc a la;
          };
        }

    -- ---- the state

    accounts_is : put_accounts (tabulate s.accountcount (settled_account x)) s.accounts ≡ put_accounts (settled x).accounts s.accounts
    unfolding settled
    accounts_is = ap (λ (n : ℕ). put_accounts (tabulate n (settled_account x)) s.accounts) (sym (accounts_counted m room g.state.formed))

    -- a field of the settled listings, contract by contract
    listed : {A : Type 0} (f : ℕ → A) (h : Listing → A) → ((c : ℕ) → c < s.contractcount → f c ≡ h (settled_listing x c)) → tabulate s.contractcount f ≡ map h (settled x).listings
    unfolding settled
    listed f h k =
        tabulate_below s.contractcount f (λ c. h (settled_listing x c)) k
        ∙ ap (λ (n : ℕ). tabulate n (λ c. h (settled_listing x c))) (sym (contracts_in_use m))
        ∙ sym (map_tabulate h (length x.listings) (settled_listing x))

    contract_is : (c : ℕ) → c < s.contractcount → settled_contract (get_or s.contracts c no_contract) (get_or prices c 0) ≡ (settled_listing x c).contract
    unfolding settled_listing listing_in
    contract_is c lc = sym (ap₂ (λ l price. settled_contract l.contract price) (listing_in_use m c lc) (sym (price_at prices e c lc)))

    no_bids : (c : ℕ) → c < s.contractcount → 0 ≡ length (settled_listing x c).buys
    unfolding settled_listing
    no_bids c lc = refl

    no_offers : (c : ℕ) → c < s.contractcount → 0 ≡ length (settled_listing x c).sells
    unfolding settled_listing
    no_offers c lc = refl

    no_trade_lem : 0 ≡ length (settled x).trades
    unfolding settled
    no_trade_lem = refl

    no_trade_list : [] ≡ (settled x).trades
    unfolding settled
    no_trade_list = refl

    first_number : 1 ≡ (settled x).next
    unfolding settled
    first_number = refl

    first_stamp : 1 ≡ (settled x).nextstamp
    unfolding settled
    first_stamp = refl

    one_more : s.settlements + 1 ≡ (settled x).settlements
    unfolding settled exchange_of
    one_more = refl

    -- ---- the areas

    no_queue_lem : (c : ℕ) → c < s.contractcount → ((listing_at (settled x) c).buys ≡ []) × ((listing_at (settled x) c).sells ≡ [])
    unfolding listing_at settled settled_listing
    no_queue_lem c lc =
        let q = get_d_tabulate (length x.listings) c (settled_listing x) no_listing (rw (contracts_in_use m) lc) in
        (ap (λ (l : Listing). l.buys) q, ap (λ (l : Listing). l.sells) q)

    module _ (accounts : List Account) (closing holding : List ℤ) (b : BooksIs s trades prices (record { accounts = accounts; closing = closing; holding = holding })) where
      books : BooksOf x s (record { accounts = accounts; closing = closing; holding = holding })
      books = b.books x has_day

      state_is : next_day s accounts prices ≡ put_state s (settled x)
      unfolding put_state
      state_is =
          let cs : put_first (tabulate s.contractcount (λ c. settled_contract (get_or s.contracts c no_contract) (get_or prices c 0))) s.contracts ≡ put_first (map (λ l. l.contract) (settled x).listings) s.contracts =
          ap (λ (l : List Contract). put_first l s.contracts) (listed (λ c. settled_contract (get_or s.contracts c no_contract) (get_or prices c 0)) (λ l. l.contract) contract_is) in
          let bs : put_first (tabulate s.contractcount (λ c. 0)) s.buycounts ≡ put_first (map (λ l. length l.buys) (settled x).listings) s.buycounts =
          ap (λ (l : List ℕ). put_first l s.buycounts) (listed (λ c. 0) (λ l. length l.buys) no_bids) in
          let os : put_first (tabulate s.contractcount (λ c. 0)) s.sellcounts ≡ put_first (map (λ l. length l.sells) (settled x).listings) s.sellcounts =
          ap (λ (l : List ℕ). put_first l s.sellcounts) (listed (λ c. 0) (λ l. length l.sells) no_offers) in
          let as' : accounts ≡ put_accounts (settled x).accounts s.accounts = books.accounts ∙ accounts_is in
          λ i. record {
            contracts = cs i;
            accounts = as' i;
            buycounts = bs i;
            sellcounts = os i;
            contractcount = s.contractcount;
            accountcount = s.accountcount;
            tradecount = no_trade_lem i;
            next = first_number i;
            nextstamp = first_stamp i;
            settlements = one_more i;
          }

      module _ (buys' sells' trades' : List ℕ) (h : ClearedAre s buys sells trades buys' sells' trades') where
        memory_is : memory (next_day s accounts prices) buys' sells' trades' ≡ put m (settled x)
        unfolding put
        memory_is =
            let b : buys' ≡ put_queues buys s.buycounts (λ c. (listing_at (settled x) c).buys) s.contractcount =
            h.buys ∙ put_queues_ext buys s.buycounts (λ c. []) (λ c. (listing_at (settled x) c).buys) s.contractcount (λ c lc. sym (no_queue_lem c lc).0) in
            let o : sells' ≡ put_queues sells s.sellcounts (λ c. (listing_at (settled x) c).sells) s.contractcount =
            h.sells ∙ put_queues_ext sells s.sellcounts (λ c. []) (λ c. (listing_at (settled x) c).sells) s.contractcount (λ c lc. sym (no_queue_lem c lc).1) in
            let t : trades' ≡ put_trades trades s.tradecount (settled x).trades = h.trades ∙ cleared in
            let n = state_is in
            λ i. record { state = n i; buys = b i; sells = o i; trades = t i }
          where
            cleared : put_trades trades s.tradecount [] ≡ put_trades trades s.tradecount (settled x).trades
            cleared = ap (put_trades trades s.tradecount) no_trade_list

        -- ---- the margin afterwards: the state written is well formed, and read back as the rules say

        after_is : written m (kind_of x Settle).effect.stages ≡ put m (settled x)
        unfolding kind_of settled_all
        after_is = refl

        well_formed_after : well_formed_memory (memory (next_day s accounts prices) buys' sells' trades') ≡ true
        well_formed_after = rw (memory_is, ← after_is) (accepted_keeps m g.state.formed Settle g.accepted)

        read_after : exchange_of (memory (next_day s accounts prices) buys' sells' trades') ≡ settled x
        unfolding kind_of settled_all
        read_after = rw (memory_is) (accepted_read m g.state.formed Settle g.accepted)

        room_after : s.accountcount ≤ length accounts
        room_after =
            le_trans room
            (le_of_eq (sym (ap length books.accounts ∙ ap length (overwritten_accounts (settled_account x) s.accounts s.accountcount room) ∙ length_overwritten _ s.accounts s.accountcount room)))

        pub all_chargeable : (next : State) → next ≡ next_day s accounts prices → AllChargeable next buys' sells'
        all_chargeable next e =
            rw e
            (record {
              accounts = accounts_few m room g.state.formed;
              each = chargeable (memory (next_day s accounts prices) buys' sells' trades') room_after well_formed_after;
            })

        charged_is : (charged : List ℕ) → ChargesAre (next_day s accounts prices) buys' sells' charged
            → charged ≡ padded 32 0 (tabulate s.accountcount (margin.charged (settled x)))
        charged_is charged k = k.charged trades' ∙ ap (λ (y : Exchange). padded 32 0 (tabulate s.accountcount (margin.charged y))) read_after

        -- THE SETTLEMENT
        pub settled_is : (next : State) (charged : List ℕ) → next ≡ next_day s accounts prices → ChargesAre next buys' sells' charged
            → SettledIs m (record { state = next; prices = prices; closing = closing; holding = holding; charged = charged }) buys' sells' trades'
        settled_is next charged n k =
            record {
              memory = ap (λ (t : State). memory t buys' sells' trades') n ∙ memory_is;
              prices = e;
              closing = books.closing;
              holding = books.holding;
              charged = charged_is charged (rw n at k);
            }
