-- What commands do makes the moves of money that the rules give them: the books after it are the books before it after the
-- move. Assumes nothing.
use lib.IntN.{ℤ, pos, neg_ℤ, ◌+ℤ◌, ◌-ℤ◌, ◌*ℤ◌, +ℤ_idr}
use Rattle.laws.specs.Logic.{Bool, true, false, List, append-nil, ◌≡◌, refl, sym, ap, subst, ◌∙◌}
use Rattle.laws.specs.Numbers.{ℕ, ◌+◌, ◌<◌, eqb-true, eqb-false, eqb, length, get_or, set, List·getD-map, get_or-set_same, get_or-set_other}
use Rattle.laws.specs.Choice.{pick}
use Rattle.laws.specs.Ring.{*ℤ-add}
use Rattle.laws.specs.Sums.{sum_to, sum_to_ext, sum_to_add}
use Rattle.laws.specs.Tabulate.{get_d_tabulate}
use Rattle.laws.specs.Lists.{kept_at}
use Rattle.rules.specs.Answers.{listing_of}
use Rattle.rules.specs.Auction.{match_of}
use Rattle.rules.specs.Exchange.{Exchange, Listing, no_account, no_holding, no_listing, listing_at, account_at, holding_at, place_of}
use Rattle.rules.specs.Kinds.{Move, pays_in, pays_out, makes, settles, nothing}
use Rattle.rules.specs.Matching.{Entered}
use Rattle.rules.specs.Settlement.{day_of, holding_gain, settlement_price, closing_profit, holding_profit, carried_holding, settled_account, settled_contract, settled_listing, settled}
use Rattle.rules.specs.Step.{with_listing, with_trades, with_balance, paid, listing_after, exchange_after, listing_matched, exchange_matched}
use Rattle.rules.specs.WellFormed.{replays}
use Rattle.rules.specs.declared.{Account.Account, Holding.Holding, NewOrder.NewOrder, Trade.Trade}
use Rattle.accounting.specs.Books.{books_of, marked, paid_to, after, Same, Level}
use Rattle.accounting.specs.Money.{net_at_start, net_now, AllKnown}
use Rattle.accounting.specs.Shape.{Shaped}
use Rattle.accounting.proofs.Booking.{all_booked_balance, all_booked_start}
use Rattle.accounting.proofs.BooksLaws.{marked_nothing}
use Rattle.accounting.proofs.Identity.{day_money_lem, net_moves, placed}

-- x' has the books of x after a move
abbrev pub Makes : Exchange → Move → Exchange → Type 0
Makes x m x' = Same (length x.accounts) (length x.listings) (after (length x.listings) (books_of x) m) (books_of x')

-- ---- nothing moves

-- a listing replaced by one with the same reference and multiplier
pub same_listing : (x : Exchange) (c : ℕ) (l : Listing) →
    l.contract.reference ≡ (listing_at x c).contract.reference → l.contract.multiplier ≡ (listing_at x c).contract.multiplier →
    Makes x nothing (with_listing x c l)
unfolding after books_of listing_at net_at_start
same_listing x c l r m = record {
  balance = λ a k. refl;
  start = λ a e k j. refl;
  reference = λ e k. sym (kept_at (λ (n : Listing). n.contract.reference) x.listings c l no_listing r e);
  multiplier = λ e k. sym (kept_at (λ (n : Listing). n.contract.multiplier) x.listings c l no_listing m e);
  trades = append-nil x.trades;
}

pub nothing_moves : (x : Exchange) → Makes x nothing x
unfolding after books_of
nothing_moves x = record {
  balance = λ a k. refl;
  start = λ a e k j. refl;
  reference = λ e k. refl;
  multiplier = λ e k. refl;
  trades = append-nil x.trades;
}

-- ---- money is paid

paid_balance : (accounts : List Account) (u a : ℕ) (z : ℤ) → a < length accounts → (account_at accounts a).balance +ℤ pick (eqb u a) z (pos 0)
    ≡ (account_at (set accounts u (with_balance (account_at accounts u) ((account_at accounts u).balance +ℤ z))) a).balance
unfolding account_at
paid_balance accounts u a z l = by_account (eqb u a) refl
  where
    after_payment : List Account
    after_payment = set accounts u (with_balance (get_or accounts u no_account) ((get_or accounts u no_account).balance +ℤ z))

    by_account : (whose : Bool) → eqb u a ≡ whose → (get_or accounts a no_account).balance +ℤ pick whose z (pos 0) ≡ (get_or after_payment a no_account).balance
    by_account true e =
        subst (λ (k : ℕ). (get_or accounts k no_account).balance +ℤ z ≡ (get_or after_payment k no_account).balance) (eqb-true u a e)
        (sym (ap (λ (x : Account). x.balance) (get_or-set_same accounts u _ no_account (rw (eqb-true u a e) l))))
    by_account false e =
        +ℤ_idr (get_or accounts a no_account).balance
        ∙ sym (ap (λ (x : Account). x.balance) (get_or-set_other accounts u a _ no_account (λ q. eqb-false u a e (sym q))))

paid_start : (x : Exchange) (u : ℕ) (b : ℤ) (a c : ℕ) → net_at_start x a c ≡ net_at_start (paid x u b) a c
unfolding paid net_at_start holding_at account_at
paid_start x u b a c =
    sym (kept_at (λ (k : Account). pos (get_or k.holdings c no_holding).startlong -ℤ pos (get_or k.holdings c no_holding).startshort)
    x.accounts u _ no_account refl a)

paid_books : (x : Exchange) (u : ℕ) (z : ℤ) →
    Same (length x.accounts) (length x.listings) (paid_to (books_of x) u z) (books_of (paid x u ((account_at x.accounts u).balance +ℤ z)))
unfolding books_of paid listing_at
paid_books x u z = record {
  balance = λ a l. paid_balance x.accounts u a z l;
  start = λ a c l k. paid_start x u _ a c;
  reference = λ c k. refl;
  multiplier = λ c k. refl;
  trades = refl;
}

pub paid_in_moves : (x : Exchange) (u n : ℕ) → Makes x (pays_in u n) (paid x u ((account_at x.accounts u).balance +ℤ pos n))
unfolding after
paid_in_moves x u n = paid_books x u (pos n)

pub paid_out_moves : (x : Exchange) (u n : ℕ) → Makes x (pays_out u n) (paid x u ((account_at x.accounts u).balance -ℤ pos n))
unfolding after
paid_out_moves x u n = paid_books x u (neg_ℤ (pos n))

-- ---- trades are made

-- by an order that is entered, and by the match of an auction
pub traded_moves : (x : Exchange) (c : ℕ) (l : Listing) (ts : List Trade) (next nextstamp : ℕ) →
    l.contract.reference ≡ (listing_at x c).contract.reference → l.contract.multiplier ≡ (listing_at x c).contract.multiplier →
    Makes x (makes ts) (with_trades x c l ts next nextstamp)
unfolding after books_of net_at_start listing_at
traded_moves x c l ts next nextstamp r m = record {
  balance = λ a k. sym (all_booked_balance x.accounts ts a);
  start = λ a e k j. sym (all_booked_start x.accounts ts (λ i j. pos i -ℤ pos j) a e);
  reference = λ e k. sym (kept_at (λ (n : Listing). n.contract.reference) x.listings c l no_listing r e);
  multiplier = λ e k. sym (kept_at (λ (n : Listing). n.contract.multiplier) x.listings c l no_listing m e);
  trades = refl;
}

pub entered_moves : (x : Exchange) (o : NewOrder) (e : Entered) (next : ℕ) → Makes x (makes e.trades) (exchange_after x o e next)
unfolding exchange_after listing_after listing_of
entered_moves x o e next = traded_moves x (place_of o.contract) _ e.trades next (x.nextstamp + 1) refl refl

pub matched_moves : (x : Exchange) (c phase : ℕ) → Makes x (makes (match_of x c).trades) (exchange_matched x c phase (match_of x c))
unfolding exchange_matched listing_matched
matched_moves x c phase = traded_moves x c _ (match_of x c).trades x.next x.nextstamp refl refl

-- ---- all is settled

module _ (x : Exchange) (r : replays x ≡ true) (shaped : Shaped x) where
  settled_listing_lem : (c : ℕ) → c < length x.listings → listing_at (settled x) c ≡ settled_listing x c
  unfolding settled listing_at
  settled_listing_lem c l = get_d_tabulate (length x.listings) c (settled_listing x) no_listing l

  settled_account_lem : (a : ℕ) → a < length x.accounts → account_at (settled x).accounts a ≡ settled_account x a
  unfolding settled account_at
  settled_account_lem a l = get_d_tabulate (length x.accounts) a (settled_account x) no_account l

  -- the two profits together are what the contracts are marked
  profit_marked : (a : ℕ) → closing_profit x a +ℤ holding_profit x a
      ≡ sum_to (length x.listings) (λ c. pos (listing_at x c).contract.multiplier *ℤ marked (books_of x) (settlement_price x c) a c)
  unfolding closing_profit holding_profit marked books_of
  profit_marked a =
      sym (sum_to_add (length x.listings) (λ c. pos (listing_at x c).contract.multiplier *ℤ (day_of x a c).closing)
      (λ c. pos (listing_at x c).contract.multiplier *ℤ holding_gain (settlement_price x c) (day_of x a c))) ∙ sum_to_ext (length x.listings) _ _
      (λ c l. sym (*ℤ-add (pos (listing_at x c).contract.multiplier) (day_of x a c).closing (holding_gain (settlement_price x c) (day_of x a c)))
      ∙ ap (λ (z : ℤ). pos (listing_at x c).contract.multiplier *ℤ z) (day_money_lem x r a c (settlement_price x c)))

  -- A SETTLEMENT MAKES AND LOSES NOTHING: what it pays all accounts together is zero, where as many lots are long as short
  pub settlement_nothing : AllKnown (length x.accounts) x.trades → Level (length x.accounts) (length x.listings) (books_of x) →
      sum_to (length x.accounts) (λ a. closing_profit x a +ℤ holding_profit x a) ≡ pos 0
  unfolding books_of
  settlement_nothing known level =
      sum_to_ext (length x.accounts) (λ a. closing_profit x a +ℤ holding_profit x a) _ (λ a l. profit_marked a)
      ∙ marked_nothing (length x.accounts) (length x.listings) (books_of x) known level (settlement_price x)

  settled_balance : (a : ℕ) → a < length x.accounts → (account_at x.accounts a).balance
      +ℤ sum_to (length x.listings) (λ c. pos (listing_at x c).contract.multiplier *ℤ marked (books_of x) (settlement_price x c) a c)
      ≡ (account_at (settled x).accounts a).balance
  unfolding settled_account
  settled_balance a l =
      ap (λ (z : ℤ). (account_at x.accounts a).balance +ℤ z) (sym (profit_marked a)) ∙ ap (λ (k : Account). k.balance) (sym (settled_account_lem a l))

  -- "holdings become start-of-day"
  settled_start : (a c : ℕ) → a < length x.accounts → net_now x a c ≡ net_at_start (settled x) a c
  unfolding net_now net_at_start holding_at settled_account
  settled_start a c l =
      ap (λ (h : Holding). pos h.startlong -ℤ pos h.startshort) (sym (List·getD-map carried_holding (account_at x.accounts a).holdings c no_holding))
      ∙ ap (λ (k : Account). pos (get_or k.holdings c no_holding).startlong -ℤ pos (get_or k.holdings c no_holding).startshort) (sym (settled_account_lem a l))

  settled_reference : (c : ℕ) → c < length x.listings → settlement_price x c ≡ (listing_at (settled x) c).contract.reference
  unfolding settled_listing settled_contract
  settled_reference c l = ap (λ (n : Listing). n.contract.reference) (sym (settled_listing_lem c l))

  settled_multiplier : (c : ℕ) → c < length x.listings → (listing_at x c).contract.multiplier ≡ (listing_at (settled x) c).contract.multiplier
  unfolding settled_listing settled_contract
  settled_multiplier c l = ap (λ (n : Listing). n.contract.multiplier) (sym (settled_listing_lem c l))

  pub settled_moves : Makes x (settles (settlement_price x)) (settled x)
  unfolding after books_of settled
  settled_moves = record {
    balance = settled_balance;
    start = λ a c l k. sym (net_moves x r a c (placed x shaped a c l k)) ∙ settled_start a c l;
    reference = settled_reference;
    multiplier = settled_multiplier;
    trades = refl;
  }
