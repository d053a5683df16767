-- The clients' day as the code works it out: the clients as accounts, their replay, their profit, and the statement's bytes. Assumes
-- nothing.
use native.Mathlib.Nat.{mul_assoc, mul_comm}
use lib.IntN.{ℤ, pos}
use Rattle.laws.specs.Logic.{true, List, ◌≡◌, refl, sym, ap, ap₂, ◌∙◌}
use Rattle.laws.specs.Numbers.{ℕ, ◌+◌, ◌*◌, ◌<◌, ◌≤◌, arith, length, get_or, length-append}
use Rattle.laws.specs.Bound.{within_pos}
use Rattle.laws.specs.Tabulate.{tabulate, length_tabulate, get_d_tabulate}
use Rattle.areas.specs.Lists.{over, padded}
use Rattle.areas.proofs.Lists.{get_d_padded}
use Rattle.rules.specs.Bounds.{max_accounts, max_contracts, max_limit}
use Rattle.rules.specs.DayFile.{count_width}
use Rattle.rules.specs.Exchange.{Exchange, Listing, account_at, contract_at, held_at, holder_at, holding_at, listing_at, no_account, no_contract, no_trade}
use Rattle.rules.specs.Holdings.{book_trades, never_below_zero, start_of_day}
use Rattle.rules.specs.Memory.{Declared, exchange_of, in_use, listing_in, recorded_trades, used, memory}
use Rattle.rules.specs.Settlement.{closing_profit, day_start, legs, holding_profit, settlement_price}
use Rattle.rules.specs.declared.{Account.Account, State.State, Trade.Trade}
use Rattle.theory.proofs.Codecs.{length_trades}
use Rattle.theory.proofs.InUse.{contracts_in_use, listing_in_use, used_at, used_holding}
use Rattle.accounting.specs.DayLegs.{AllCovered}
use Rattle.accounting.proofs.Replay.{replay_covered}
use Rattle.settlement.specs.Settling.{AllPayable, BooksIs, HasDay, account_in, prices_due}
use Rattle.settlement.specs.declared.balances.Books.{Books}
use Rattle.endian.proofs.Writes.{length_four}
use Rattle.sections.specs.Sections.{holding_bytes, holding_width, holdings_bytes, in_row}
use Rattle.sections.proofs.Held.{length_holding}
use Rattle.sections.proofs.Rows.{length_row, row_ext}
use Rattle.clients.specs.Parts.{clients_with}
use Rattle.replaying.specs.Parts.{Replayable, ReplayIs}
use Rattle.replaying.proofs.Started.{start_at, used_day}
use Rattle.statements.specs.Parts.{Brokered, ProfitsReady, Tellable, ToldIs, book_bytes, clients_day, told}
use Rattle.clients.specs.Clients.{client_account, holdings_now, leg_count, legs_in, never_closes_more, client_places}
use Rattle.statements.specs.Statement.{profit_bytes, profits_bytes, statement_of, trade_bytes, trades_bytes, leg_width, profit_width}
use Rattle.clients.proofs.Totals.{length_row_total, total_bound}
use Rattle.rules.specs.declared.codes.Code.TheVariants.{AreaTooShort, ClientClosesTooMuch}
use Rattle.std.specs.Prelude.{Ok, Err, Option, Some, None, is_some}
use Rattle.statements.proofs.Answering.{told_0, told_27, told_29}
use Rattle.statements.proofs.Sections.{few_entries, length_profit, length_trade, two_legs}

-- ---- the clients as accounts

pub same_starts : (clients : ℕ) (starts : List ℕ) → tabulate max_accounts (client_account (clients_with clients starts)) ≡ start_of_day (tabulate max_accounts (client_account (clients_with clients starts)))
unfolding start_of_day tabulate client_account
same_starts clients starts = refl

first_used : (n : ℕ) (f : ℕ → Account) → used n client_places (tabulate max_accounts f) ≡ used n client_places (tabulate client_places f)
unfolding tabulate
first_used n f = refl

-- a state with clients in place of its accounts
abbrev pub client_state : State → List Account → ℕ → State
client_state s accounts clients =
    record {
      contracts = s.contracts;
      accounts = accounts;
      buycounts = s.buycounts;
      sellcounts = s.sellcounts;
      contractcount = s.contractcount;
      accountcount = clients;
      tradecount = s.tradecount;
      next = s.next;
      nextstamp = s.nextstamp;
      settlements = s.settlements;
    }

-- ---- the day

module _ {s : State} {buys sells area starts : List ℕ} {clients legs' : ℕ} (g : Brokered s buys sells area starts clients legs') {accounts : List Account}
    (e : accounts ≡ tabulate max_accounts (client_account (clients_with clients starts))) where
  abbrev y : Exchange
  y = clients_day s buys sells area starts clients

  abbrev n : ℕ
  n = s.contractcount

  abbrev ts : List Trade
  ts = recorded_trades area s.tradecount

  used_clients : used n client_places accounts ≡ used n client_places (tabulate client_places (client_account (clients_with clients starts)))
  used_clients = ap (used n client_places) e ∙ first_used n (client_account (clients_with clients starts))

  client_at : (k c : ℕ) → k < client_places → c < n → holding_at accounts k c ≡ holding_at (tabulate client_places (client_account (clients_with clients starts))) k c
  client_at k c lk lc =
      sym (used_holding n client_places accounts k c lk lc) ∙ ap (λ (l : List Account). holding_at l k c) used_clients
      ∙ used_holding n client_places (tabulate client_places (client_account (clients_with clients starts))) k c lk lc

  start : accounts ≡ start_of_day accounts
  start = e ∙ same_starts clients starts ∙ ap start_of_day (sym e)

  used_start : used n client_places accounts ≡ start_of_day (used n client_places accounts)
  used_start = ap (used n client_places) start ∙ used_day n client_places accounts

  pub replayable : Replayable accounts n client_places area s.tradecount
  replayable =
      record {
        few = g.contracts;
        fit = omega arith;
        trades = g.trades;
        room = g.room;
        each = g.each;
        held = λ k c lk lc. rw (ap (λ (l : List Account). holding_at l k c) start ∙ start_at accounts k c) (rw (client_at k c lk lc) (g.lots k c lk lc));
      }

  accounts_of_lem : used n client_places accounts ≡ y.accounts
  unfolding clients_day
  accounts_of_lem = used_clients

  pub covered_is : {r : Option (List Account)} → ReplayIs accounts n client_places area s.tradecount r → is_some r ≡ never_closes_more y
  unfolding never_closes_more clients_day
  covered_is q = q.covered ∙ ap (λ (l : List Account). never_below_zero l ts) (used_start ∙ ap start_of_day used_clients)

  holdings_are : {now : List Account} → ReplayIs accounts n client_places area s.tradecount (Some now) → used n client_places now ≡ holdings_now y
  unfolding holdings_now clients_day
  holdings_are q = q.held ∙ ap (λ (l : List Account). book_trades l ts) (used_start ∙ ap start_of_day used_clients)

  -- ---- contracts and prices

  contracts_are : length y.listings ≡ n
  unfolding clients_day
  contracts_are = contracts_in_use (memory s buys sells area)

  contract_is : (c : ℕ) → c < n → contract_at y c ≡ get_or s.contracts c no_contract
  unfolding clients_day listing_at exchange_of listing_in
  contract_is c lc = ap (λ (l : Listing). l.contract) (listing_in_use (memory s buys sells area) c lc)

  abbrev cs : State
  cs = client_state s accounts clients

  same_price : (c : ℕ) → settlement_price (exchange_of (memory cs buys sells area)) c ≡ settlement_price y c
  unfolding clients_day listing_at exchange_of listing_in settlement_price
  same_price c = refl

  price_is : (c : ℕ) → c < n → get_or (prices_due cs buys sells area) c 0 ≡ settlement_price y c
  price_is c lc =
      let f : ℕ → ℕ = settlement_price (exchange_of (memory cs buys sells area)) in
      get_d_padded max_contracts c 0 0 (tabulate n f) (rw (length_tabulate n f) lc) ∙ get_d_tabulate n c f 0 lc ∙ same_price c

  -- ---- a client's day

  client_is : (k : ℕ) → k < client_places → holder_at y k ≡ in_use n (account_in cs k)
  unfolding account_at
  client_is k lk = ap (λ (l : List Account). account_at l k) (sym accounts_of_lem) ∙ used_at n client_places accounts k lk

  -- the clients' state has their exchange's day
  has_day : HasDay y cs area (prices_due cs buys sells area)
  unfolding clients_day
  has_day =
      record {
        count = contracts_are;
        terms = contract_is;
        price = λ c lc. sym (price_is c lc);
        holder = λ k lk. client_is k (omega (arith, g.few));
        day = refl;
      }

  -- ---- what paying the clients asks for

  module _ (covered : never_closes_more y ≡ true) where
    day_covered : (k c : ℕ) → AllCovered (day_start (contract_at y c).reference (held_at y k c).startlong (held_at y k c).startshort) (legs k c ts)
    unfolding never_closes_more clients_day
    day_covered k c = replay_covered k c y.accounts y.trades _ covered

    lots_small : (k c : ℕ) → k < client_places → c < n → ((held_at y k c).startlong ≤ max_limit) × ((held_at y k c).startshort ≤ max_limit)
    unfolding clients_day
    lots_small k c lk lc = rw (used_holding n client_places (tabulate client_places (client_account (clients_with clients starts))) k c lk lc) (g.lots k c lk lc)

    account_is : (k : ℕ) → k < max_accounts → account_in cs k ≡ client_account (clients_with clients starts) k
    account_is k lk = ap (λ (l : List Account). get_or l k no_account) e ∙ get_d_tabulate max_accounts k (client_account (clients_with clients starts)) no_account lk

    no_balance : (k : ℕ) → k < client_places → (holder_at y k).balance ≡ pos 0
    unfolding client_account
    no_balance k lk = ap (λ (a : Account). a.balance) (client_is k lk ∙ ap (in_use n) (account_is k (omega arith)))

    four_holdings : (k : ℕ) → k < max_accounts → length (account_at accounts k).holdings ≡ max_contracts
    unfolding client_account account_at tabulate
    four_holdings k lk = ap (λ (a : Account). length a.holdings) (account_is k lk)

    declared : Declared cs
    declared =
        let d = g.declared in
        record {
          contracts = d.contracts;
          accounts = ap length e ∙ length_tabulate max_accounts (client_account (clients_with clients starts));
          buycounts = d.buycounts;
          sellcounts = d.sellcounts;
          holdings = four_holdings;
        }

    payable : AllPayable cs area (prices_due cs buys sells area)
    payable =
        record {
          declared = declared;
          accounts = omega (arith, g.few);
          contracts = g.contracts;
          placed = record {
            trades = g.sized;
            placed = λ i li. let b = g.each i li in record { contract = omega (arith, b.contract, g.contracts); buyer = omega (arith, b.buyer); seller = omega (arith, b.seller) };
          };
          exchange = y;
          has = has_day;
          balance = λ k lk. rw (no_balance k (omega (arith, g.few))) (within_pos (omega arith));
          multiplier = λ c lc. (g.terms c lc).0;
          each = λ k c lk lc. record {
            trades = g.sized;
            reference = (g.terms c lc).1;
            long = (lots_small k c (omega (arith, g.few)) lc).0;
            short = (lots_small k c (omega (arith, g.few)) lc).1;
            price = g.prices c lc;
            covered = day_covered k c;
          };
        }

    pub profitable : ProfitsReady cs buys sells area
    profitable = record { priceable = record { few = g.contracts; each = g.priceable }; payable = payable }

  -- ---- the statement's length

  abbrev size : ℕ
  size = 3 * count_width + leg_width * legs' + holding_width * (clients * n) + profit_width * clients

  -- each trade has two legs at most
  few_legs : legs' ≤ 2_048
  unfolding leg_count
  few_legs =
      omega (arith, g.legs_are, g.trades, length_trades area s.tradecount, total_bound (λ i. legs_in (get_or ts i no_trade)) 2 (length ts) (λ i. two_legs (get_or ts i no_trade)))

  pub size_most : size ≤ 40_000
  size_most = omega (arith, few_legs, few_entries g.few g.contracts, g.few)

  statement_length : length (statement_of y clients) ≡ size
  unfolding statement_of trades_bytes holdings_bytes profits_bytes leg_count clients_day
  statement_length =
      let t : length (in_row (length ts) (λ i. trade_bytes (get_or ts i no_trade))) ≡ leg_width * leg_count ts =
      length_row_total (λ i. trade_bytes (get_or ts i no_trade)) (λ i. legs_in (get_or ts i no_trade)) leg_width (length ts) (λ i. length_trade (get_or ts i no_trade)) in
      let h : length (in_row clients (λ k. in_row (length y.listings) (λ c. holding_bytes (holding_at (holdings_now y) k c)))) ≡ 8 * length y.listings * clients =
      length_row (λ k. in_row (length y.listings) (λ c. holding_bytes (holding_at (holdings_now y) k c))) (8 * length y.listings) clients
      (λ k lk. length_row (λ c. holding_bytes (holding_at (holdings_now y) k c)) 8 (length y.listings) (λ c lc. length_holding (holding_at (holdings_now y) k c))) in
      let p : length (in_row clients (λ k. profit_bytes (closing_profit y k) (holding_profit y k))) ≡ profit_width * clients =
      length_row (λ k. profit_bytes (closing_profit y k) (holding_profit y k)) profit_width clients (λ k lk. length_profit (closing_profit y k) (holding_profit y k)) in
      let m : 8 * length y.listings * clients ≡ 8 * (clients * n) =
      ap (λ (i : ℕ). 8 * i * clients) contracts_are ∙ mul_assoc 8 n clients ∙ ap (λ (i : ℕ). 8 * i) (mul_comm n clients) in
      let l = g.legs_are in
      simp (length-append, length_four) (omega arith)

  -- ---- the bytes that the code writes are the statement's

  module _ {now : List Account} (q : ReplayIs accounts n client_places area s.tradecount (Some now)) {r : Books} (w : BooksIs cs area (prices_due cs buys sells area) r) where
    now_at : (k c : ℕ) → k < client_places → c < n → holding_at now k c ≡ holding_at (holdings_now y) k c
    now_at k c lk lc = sym (used_holding n client_places now k c lk lc) ∙ ap (λ (l : List Account). holding_at l k c) (holdings_are q)

    holdings_told : holdings_bytes now clients n ≡ holdings_bytes (holdings_now y) clients n
    unfolding holdings_bytes
    holdings_told =
        row_ext _ (λ k. in_row n (λ c. holding_bytes (holding_at (holdings_now y) k c))) clients
        (λ k lk. row_ext _ (λ c. holding_bytes (holding_at (holdings_now y) k c)) n (λ c lc. ap holding_bytes (now_at k c (omega (arith, g.few)) lc)))

    paid_at : (f : ℕ → ℤ) (k : ℕ) → k < clients → get_or (padded max_accounts (pos 0) (tabulate clients f)) k (pos 0) ≡ f k
    paid_at f k lk = get_d_padded max_accounts k (pos 0) (pos 0) (tabulate clients f) (rw (length_tabulate clients f) lk) ∙ get_d_tabulate clients k f (pos 0) lk

    profits_told : book_bytes r.closing r.holding clients ≡ profits_bytes y clients
    unfolding profits_bytes
    profits_told =
        row_ext _ (λ k. profit_bytes (closing_profit y k) (holding_profit y k)) clients
        (λ k lk. ap₂ profit_bytes
        (ap (λ (l : List ℤ). get_or l k (pos 0)) (w.books y has_day).closing ∙ paid_at (closing_profit y) k lk)
        (ap (λ (l : List ℤ). get_or l k (pos 0)) (w.books y has_day).holding ∙ paid_at (holding_profit y) k lk))

    told_is : told ts legs' now r.closing r.holding clients n ≡ statement_of y clients
    unfolding statement_of clients_day
    told_is = rw (g.legs_are, holdings_told, profits_told, contracts_are)

    pub tellable : (out : List ℕ) → size ≤ length out → Tellable area s.tradecount legs' now r.closing r.holding clients n out
    tellable out room =
        record {
          few_clients = g.few;
          few_contracts = g.contracts;
          area_room = g.room;
          few_legs = few_legs;
          each = λ i l. omega (arith, (g.each i l).contract, g.contracts);
          room = rw told_is (omega (arith, statement_length));
        }

    pub told_whole : {out out' : List ℕ} → size ≤ length out → out' ≡ over out 0 (told ts legs' now r.closing r.holding clients n)
        → ToldIs y clients out (Ok size) out'
    told_whole {out} room put =
        told_0 y clients out (sym (covered_is q)) size (sym statement_length) room _ (put ∙ ap (λ (bytes : List ℕ). over out 0 bytes) told_is)

  -- ---- nothing is told: a client closes more than it has, or the area is too short

  module _ {out : List ℕ} where
    pub told_uncovered : ReplayIs accounts n client_places area s.tradecount None → ToldIs y clients out (Err ClientClosesTooMuch) out
    told_uncovered q = told_27 y clients out (sym (covered_is q))

    pub told_short : {now : List Account} → ReplayIs accounts n client_places area s.tradecount (Some now) → length out < size → ToldIs y clients out (Err AreaTooShort) out
    told_short q short = told_29 y clients out (sym (covered_is q)) size (sym statement_length) short
