-- A state at the start of a day, with no orders and no trades: after a settlement, or as a day file opens it. It is well formed
-- if its contracts, makers' marks, holdings and balances are in range. Assumes nothing.
use lib.IntN.{nat_abs}
use Rattle.laws.specs.Logic.{true, false, [], ◌≡◌, refl, sym, ap, ◌∙◌}
use Rattle.laws.specs.Numbers.{ℕ, zero, suc, ◌+◌, ◌*◌, ◌<◌, ◌≤◌, arith, get_or, List·getD-map, length}
use Rattle.laws.specs.Choice.{all_of, for_either}
use Rattle.laws.specs.Sums.{sum_of}
use Rattle.laws.specs.Tabulate.{tabulate, length_tabulate, get_d_tabulate}
use Rattle.rules.specs.Bounds.{max_contracts, max_settlements, max_balance, max_day_profit, max_resting}
use Rattle.rules.specs.Exchange.{Exchange, Listing, listing_at, account_at, holding_at, no_listing, no_account, no_holding, lots_where, resting, own}
use Rattle.rules.specs.Holdings.{book_trades, never_below_zero, start_holding, start_account, start_of_day}
use Rattle.rules.specs.WellFormed.{contract_in_range, sorted, uncrossed, number_of, stamp_of, used_once, listed, all_listed}
use Rattle.rules.specs.declared.{Account.Account, Contract.Contract, Holding.Holding, Order.Order}
use Rattle.theory.proofs.Holdings.{same_refl}
use Rattle.invariants.proofs.Clauses.{ListingOk, HoldingOk, WellFormed, Counted, MarksOk}
use Rattle.invariants.proofs.Marks.{no_marks}

abbrev pub quiet : Contract → Listing
quiet c = record { contract = c; buys = []; sells = [] }

abbrev pub fresh_day : ℕ → (ℕ → Contract) → ℕ → (ℕ → Account) → ℕ → Exchange
fresh_day contracts contract accounts account settlements =
    record {
      listings = tabulate contracts (λ c. quiet (contract c));
      accounts = tabulate accounts account;
      trades = [];
      next = 1;
      nextstamp = 1;
      settlements = settlements;
    }

-- ---- a contract without orders

listing_quiet : (accounts next nextstamp : ℕ) (c : Contract) → contract_in_range c ≡ true → ListingOk accounts next nextstamp (quiet c)
unfolding sorted uncrossed all_of
listing_quiet accounts next nextstamp c h =
    record {
      contract = h;
      order = for_either _ refl refl;
      apart = λ e. refl;
      orders = for_either _ refl refl;
    }

holding_quiet : (c : Contract) (a : ℕ) (h : Holding) → start_holding h ≡ h → h.long ≤ c.limit → h.short ≤ c.limit → HoldingOk (quiet c) a h
unfolding resting lots_where sum_of
holding_quiet c a h e l s =
    record {
      startlong = omega (arith, ap (λ (k : Holding). k.long) e);
      startshort = omega (arith, ap (λ (k : Holding). k.short) e);
      opens = for_either _ (omega arith) (omega arith);
      closes = for_either _ (omega arith) (omega arith);
    }

no_orders : (field : Order → ℕ) (n : ℕ) (contract : ℕ → Contract) → all_listed field (tabulate n (λ c. quiet (contract c))) ≡ []
unfolding tabulate all_listed listed
no_orders field zero contract = refl
no_orders field (suc n) contract = no_orders field n (λ c. contract (suc c))

same_start : (n : ℕ) (account : ℕ → Account) → ((a : ℕ) → start_account (account a) ≡ account a) → start_of_day (tabulate n account) ≡ tabulate n account
unfolding tabulate start_of_day
same_start zero account h = refl
same_start (suc n) account h = rw (h 0, same_start n (λ a. account (suc a)) (λ a. h (suc a)))

-- ---- the state

module _ (contracts : ℕ) (contract : ℕ → Contract) (accounts : ℕ) (account : ℕ → Account) (settlements : ℕ)
    (in_range_lem : (c : ℕ) → c < contracts → contract_in_range (contract c) ≡ true)
    (start : (a : ℕ) → start_account (account a) ≡ account a) where
  abbrev day : Exchange
  day = fresh_day contracts contract accounts account settlements

  listing_at_lem : (c : ℕ) → c < contracts → listing_at day c ≡ quiet (contract c)
  unfolding listing_at
  listing_at_lem c l = get_d_tabulate contracts c (λ c. quiet (contract c)) no_listing l

  account_at_lem : (a : ℕ) → a < accounts → account_at day.accounts a ≡ account a
  unfolding account_at
  account_at_lem a l = get_d_tabulate accounts a account no_account l

  holding_at_lem : (a c : ℕ) → a < accounts → holding_at day.accounts a c ≡ get_or (account a).holdings c no_holding
  unfolding holding_at
  holding_at_lem a c l = rw (account_at_lem a l)

  start_at : (a c : ℕ) → start_holding (get_or (account a).holdings c no_holding) ≡ get_or (account a).holdings c no_holding
  start_at a c = sym (List·getD-map start_holding (account a).holdings c no_holding) ∙ ap (λ (k : Account). get_or k.holdings c no_holding) (start a)

  pub fresh_counted : contracts ≤ max_contracts → Counted day
  fresh_counted h =
      let n = length_tabulate contracts (λ c. quiet (contract c)) in
      record {
        contracts = rw n h;
        trades = omega arith;
        queues = λ c sell l. rw (listing_at_lem c (rw n at l))
            (for_either (λ s. length (own s (quiet (contract c))) ≤ max_resting) (omega arith) (omega arith) sell);
      }

  pub fresh_day_lem : settlements ≤ max_settlements → ((a : ℕ) → a < accounts → (account a).maker ≤ 1) →
      ((a c : ℕ) → a < accounts → c < contracts → (get_or (account a).holdings c no_holding).long ≤ (contract c).limit) →
      ((a c : ℕ) → a < accounts → c < contracts → (get_or (account a).holdings c no_holding).short ≤ (contract c).limit) →
      ((a : ℕ) → a < accounts → nat_abs (account a).balance ≤ max_balance + settlements * max_day_profit) →
      WellFormed day
  unfolding book_trades never_below_zero all_of used_once
  fresh_day_lem few makers longs shorts balances =
      let nc = length_tabulate contracts (λ c. quiet (contract c)) in
      let na = length_tabulate accounts account in
      record {
        next_low = omega arith;
        next_high = omega arith;
        nextstamp_low = omega arith;
        nextstamp_high = omega arith;
        settlements = few;
        listing = λ c l. let h : c < contracts = rw nc at l in rw (listing_at_lem c h) (listing_quiet _ 1 1 (contract c) (in_range_lem c h));
        once = rw (no_orders number_of contracts contract) refl;
        stamps_once = rw (no_orders stamp_of contracts contract) refl;
        marks = λ c l sell. rw (listing_at_lem c (rw nc at l)) (for_either (λ s. MarksOk day.accounts (own s (quiet (contract c)))) (no_marks day.accounts) (no_marks day.accounts) sell);
        makers = λ a l. let h : a < accounts = rw na at l in rw (account_at_lem a h) (makers a h);
        trades = refl;
        covered = refl;
        replay = rw (same_start accounts account start) (same_refl day.accounts);
        holding = λ a c la lc.
            let p : a < accounts = rw na at la in
            let q : c < contracts = rw nc at lc in
            rw (listing_at_lem c q, holding_at_lem a c p) (holding_quiet (contract c) a _ (start_at a c) (longs a c p q) (shorts a c p q));
        balance = λ a l. let h : a < accounts = rw na at l in rw (account_at_lem a h) (balances a h);
      }
