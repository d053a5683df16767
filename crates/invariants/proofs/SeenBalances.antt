-- WHAT A COMMAND ANSWERS AND DOES WHERE BALANCES ARE BLOTTED OUT that are not its own account's: the same, those balances aside. The rules
-- read of another account what it holds and its maker mark; only the money tests read a balance, and that of the command's account. Assumes
-- nothing.
use lib.IntN.{ℤ, pos, ◌+ℤ◌, ◌-ℤ◌, ◌*ℤ◌}
use lib.Signed.{lt_z}
use Rattle.laws.specs.Logic.{Bool, true, false, not, ◌&&◌, ◌||◌, List, [], ◌∷◌, ◌++◌, map, ◌≡◌, refl, sym, ap, ap₂, ◌∙◌}
use Rattle.laws.specs.Numbers.{ℕ, zero, suc, ◌+◌, ◌*◌, eqb, ltb, length, get_or, set}
use Rattle.laws.specs.Choice.{pick, pick_same}
use Rattle.laws.specs.Sums.{sum_to_ext}
use Rattle.laws.specs.Tabulate.{tabulate}
use Rattle.rules.specs.Answers.{Refusal, ◌when◌, amount_refused, not_continuous, removal_refused, stamps_used_up, takes_orders, book_refusals, cancel_refusals, conditions_refused, deposit_refusals, fields_refusals, fillable_lots, holding_refused, insert_refusals, leaves_too_little, lifts_too_high, listing_of, lots_refused, mark, money_refused, named_refusals, order_refusals, own_queue, owner_refusals, resting_order, phase_refusals, pull_refusals, settle_refusals, taker_of, trades_needed, trades_refused, withdraw_refusals}
use Rattle.rules.specs.Auction.{match_of}
use Rattle.rules.specs.Bounds.{max_balance}
use Rattle.rules.specs.Change.{Asked, arriving, change_refusals, changed, gone, is_sell, loses_place, new_fields_refusals, old_order, place_kept, place_lost, reentered, reentry_refusals, unchanged}
use Rattle.rules.specs.Exchange.{Exchange, Listing, absent, account_at, contract_at, holder_at, holding_at, is_absent, listing_at, listing_named, no_account, no_holding, place_of, resting}
use Rattle.rules.specs.Holdings.{after_leg, book_buyer, book_leg, book_trade, book_trades, with_holding}
use Rattle.rules.specs.Kinds.{done, kind_of, last_of}
use Rattle.rules.specs.Margin.{charge, charged, charged_lots, charged_to, charged_with, with_open}
use Rattle.rules.specs.Matching.{Entered, traded_lots}
use Rattle.rules.specs.Quote.{Offered, after_marked, buy_of, entered_marked, half, quote_refusals, quoted, sell_of, with_buy, with_sell, without_quote}
use Rattle.rules.specs.Settlement.{Day, after_legs, carried_holding, closing_profit, day_of, day_start, holding_gain, holding_profit, legs, settled, settled_account, settled_listing, settlement_price}
use Rattle.rules.specs.Step.{Effect, answer_of, cancelled, deposited, entered_of, exchange_after, exchange_matched, has_number, inserted, is_of, listing_after, paid, phase_changed, pulled, removed, settled_all, with_balance, with_trades, withdrawn}
use Rattle.rules.specs.declared.{Account.Account, Command.Command, Contract.Contract, Holding.Holding, NewOrder.NewOrder, Order.Order, Trade.Trade}
use Rattle.rules.specs.declared.Command.TheVariants.{Deposit, Withdraw, Insert, Cancel, Pull, Phase, Settle}
use Rattle.invariants.specs.Accounts.{accounts_seen, state_seen}

-- ---- accounts

-- an account as it is seen
abbrev blotted : Bool → Account → Account
blotted shown a = pick shown a (with_balance a (pos 0))

seen_at : (seen : ℕ → Bool) (l : List Account) (i : ℕ) → account_at (accounts_seen seen l) i ≡ blotted (seen i) (account_at l i)
unfolding account_at accounts_seen
seen_at seen [] i = sym (pick_same (seen i) no_account)
seen_at seen (a ∷ l) zero = refl
seen_at seen (a ∷ l) (suc i) = seen_at (λ j. seen (suc j)) l i

seen_length : (seen : ℕ → Bool) (l : List Account) → length (accounts_seen seen l) ≡ length l
unfolding accounts_seen
seen_length seen [] = refl
seen_length seen (a ∷ l) = ap suc (seen_length (λ j. seen (suc j)) l)

seen_twice : (seen : ℕ → Bool) (l : List Account) → accounts_seen seen (accounts_seen seen l) ≡ accounts_seen seen l
unfolding accounts_seen
seen_twice seen [] = refl
seen_twice seen (a ∷ l) = ap₂ (λ (b : Account) (k : List Account). b ∷ k) (again (seen 0)) (seen_twice (λ j. seen (suc j)) l)
  where
    again : (shown : Bool) → blotted shown (blotted shown a) ≡ blotted shown a
    again true = refl
    again false = refl

seen_set : (seen : ℕ → Bool) (l : List Account) (i : ℕ) (v : Account) → accounts_seen seen (set l i v) ≡ set (accounts_seen seen l) i (blotted (seen i) v)
unfolding accounts_seen
seen_set seen [] i v = refl
seen_set seen (a ∷ l) zero v = refl
seen_set seen (a ∷ l) (suc i) v = ap (λ (k : List Account). blotted (seen 0) a ∷ k) (seen_set (λ j. seen (suc j)) l i v)

module _ (seen : ℕ → Bool) (l : List Account) where
  -- what reads no balance reads the same
  seen_kept : {A : Type 0} (f : ℕ → List Holding → A) (a : ℕ) →
      f (account_at (accounts_seen seen l) a).maker (account_at (accounts_seen seen l) a).holdings ≡ f (account_at l a).maker (account_at l a).holdings
  seen_kept f a = ap (λ (k : Account). f k.maker k.holdings) (seen_at seen l a) ∙ by_seen (seen a)
    where
      by_seen : (shown : Bool) → f (blotted shown (account_at l a)).maker (blotted shown (account_at l a)).holdings ≡ f (account_at l a).maker (account_at l a).holdings
      by_seen true = refl
      by_seen false = refl

  seen_holding : (a c : ℕ) → holding_at (accounts_seen seen l) a c ≡ holding_at l a c
  unfolding holding_at
  seen_holding a c = seen_kept (λ maker holdings. get_or holdings c no_holding) a

  -- an account that is seen is seen whole
  seen_own : (a : ℕ) → seen a ≡ true → account_at (accounts_seen seen l) a ≡ account_at l a
  seen_own a e = seen_at seen l a ∙ ap (λ (shown : Bool). blotted shown (account_at l a)) e

  -- ---- trades booked

  seen_leg : (a c : ℕ) (sell : Bool) (close lots : ℕ) → accounts_seen seen (book_leg l a c sell close lots) ≡ book_leg (accounts_seen seen l) a c sell close lots
  unfolding book_leg
  seen_leg a c sell close lots =
      seen_set seen l a _ ∙ ap (set (accounts_seen seen l) a)
      (by_seen (seen a)
      ∙ ap₂ (λ (k : Account) (h : Holding). with_holding k c (after_leg h sell close lots)) (sym (seen_at seen l a)) (sym (seen_holding a c)))
    where
      by_seen : (shown : Bool) → blotted shown (with_holding (account_at l a) c (after_leg (holding_at l a c) sell close lots))
          ≡ with_holding (blotted shown (account_at l a)) c (after_leg (holding_at l a c) sell close lots)
      by_seen true = refl
      by_seen false = refl

seen_trade : (seen : ℕ → Bool) (l : List Account) (t : Trade) → accounts_seen seen (book_trade l t) ≡ book_trade (accounts_seen seen l) t
unfolding book_trade
seen_trade seen l t =
    seen_leg seen (book_buyer l t) t.seller t.contract true t.sellclose t.lots
    ∙ ap (λ (k : List Account). book_leg k t.seller t.contract true t.sellclose t.lots) (seen_leg seen l t.buyer t.contract false t.buyclose t.lots)

seen_trades : (seen : ℕ → Bool) (l : List Account) (ts : List Trade) → accounts_seen seen (book_trades l ts) ≡ book_trades (accounts_seen seen l) ts
unfolding book_trades
seen_trades seen l [] = refl
seen_trades seen l (t ∷ ts) = seen_trades seen (book_trade l t) ts ∙ ap (λ (k : List Account). book_trades k ts) (seen_trade seen l t)

-- ---- states

abbrev with_accounts : Exchange → List Account → Exchange
with_accounts x l = record { listings = x.listings; accounts = l; trades = x.trades; next = x.next; nextstamp = x.nextstamp; settlements = x.settlements }

module _ (seen : ℕ → Bool) where
  pub state_twice : (x : Exchange) → state_seen seen (state_seen seen x) ≡ state_seen seen x
  unfolding state_seen
  state_twice x = rw (seen_twice seen x.accounts) refl

  seen_traded : (x : Exchange) (c : ℕ) (l : Listing) (ts : List Trade) (next nextstamp : ℕ) →
      with_trades (state_seen seen x) c l ts next nextstamp ≡ state_seen seen (with_trades x c l ts next nextstamp)
  unfolding state_seen
  seen_traded x c l ts next nextstamp = rw (seen_trades seen x.accounts ts) refl

  seen_after : (x : Exchange) (o : NewOrder) (e : Entered) (next : ℕ) → exchange_after (state_seen seen x) o e next ≡ state_seen seen (exchange_after x o e next)
  unfolding exchange_after listing_of listing_at state_seen
  seen_after x o e next = seen_traded x (place_of o.contract) (listing_after (listing_of x o) o.sell e) e.trades next (x.nextstamp + 1)

  seen_entered : (x : Exchange) (number quote : ℕ) (o : NewOrder) → entered_of (state_seen seen x) number quote o ≡ entered_of x number quote o
  unfolding entered_of taker_of listing_of listing_at state_seen
  seen_entered x number quote o = refl

  seen_paid : (x : Exchange) (a : ℕ) (balance : ℤ) → seen a ≡ true → paid (state_seen seen x) a balance ≡ state_seen seen (paid x a balance)
  unfolding paid state_seen
  seen_paid x a balance e = rw (seen_set seen x.accounts a (with_balance (account_at x.accounts a) balance), e, seen_own seen x.accounts a e) refl

  -- ---- what is charged

  seen_charged : (x : Exchange) (a n : ℕ) → charged_to (state_seen seen x) a n ≡ charged_to x a n
  unfolding charged_to state_seen listing_at
  seen_charged x a zero = refl
  seen_charged x a (suc c) =
      ap₂ (λ (s k : ℕ). s + charge (listing_at x c).contract * k) (seen_charged x a c) (ap (charged_lots (listing_at x c) a) (seen_holding seen x.accounts a c))

  seen_charged_with : (x : Exchange) (a c : ℕ) (sell : Bool) (lots : ℕ) → charged_with (state_seen seen x) a c sell lots ≡ charged_with x a c sell lots
  unfolding state_seen
  seen_charged_with x a c sell lots =
      ap (λ (l : List Account). charged (with_accounts x l) a) (sym (seen_leg seen x.accounts a c sell 0 lots))
      ∙ seen_charged (with_open x a c sell lots) a (length x.listings)

  -- ---- an order's refusals

  module _ (x : Exchange) (o : NewOrder) where
    seen_held : holding_refused (state_seen seen x) o ≡ holding_refused x o
    unfolding holding_refused state_seen listing_of listing_at
    seen_held =
        ap (λ (h : Holding). lots_refused (listing_of x o).contract h (resting (mark o.close) (place_of o.account) (own_queue x o)) o)
        (seen_holding seen x.accounts (place_of o.account) (place_of o.contract))

    module _ (e : seen (place_of o.account) ≡ true) where
      seen_money : money_refused (state_seen seen x) o ≡ money_refused x o
      unfolding money_refused
      seen_money =
          ap₂ (λ (b : ℤ) (n : ℕ). not o.close && lt_z b (pos n)) balance
          (seen_charged_with x (place_of o.account) (place_of o.contract) o.sell o.lots)
        where
          balance : (holder_at (state_seen seen x) (place_of o.account)).balance ≡ (holder_at x (place_of o.account)).balance
          balance = unfold state_seen in ap (λ (k : Account). k.balance) (seen_own seen x.accounts (place_of o.account) e)

      seen_order : order_refusals (state_seen seen x) o ≡ order_refusals x o
      unfolding order_refusals state_seen fillable_lots trades_refused trades_needed taker_of listing_of listing_at
      seen_order =
          ap₂ (λ (h m : Bool).
          fields_refusals (conditions_refused (listing_of x o).contract o) (listing_of x o).contract o ++ ((8 when h) ∷ (9 when m) ∷ []) ++ book_refusals x o)
          seen_held seen_money

  -- ---- settlement

  module _ (x : Exchange) (a : ℕ) where
    seen_day : (c : ℕ) → day_of (state_seen seen x) a c ≡ day_of x a c
    unfolding day_of state_seen listing_at
    seen_day c =
        ap (λ (h : Holding). after_legs (day_start (contract_at x c).reference h.startlong h.startshort) (legs a c x.trades)) (seen_holding seen x.accounts a c)

    seen_closing : closing_profit (state_seen seen x) a ≡ closing_profit x a
    unfolding closing_profit state_seen listing_at
    seen_closing = sum_to_ext (length x.listings) _ _ (λ c l. ap (λ (d : Day). pos (contract_at x c).multiplier *ℤ d.closing) (seen_day c))

    seen_holding_profit : holding_profit (state_seen seen x) a ≡ holding_profit x a
    unfolding holding_profit state_seen listing_at settlement_price
    seen_holding_profit =
        sum_to_ext (length x.listings) _ _ (λ c l. ap (λ (d : Day). pos (contract_at x c).multiplier *ℤ holding_gain (settlement_price x c) d) (seen_day c))

    seen_settled_account : blotted (seen a) (settled_account (state_seen seen x) a) ≡ blotted (seen a) (settled_account x a)
    unfolding settled_account
    seen_settled_account = rw (seen_closing, seen_holding_profit) (by_seen (seen a) refl)
      where
        profit : ℤ
        profit = closing_profit x a +ℤ holding_profit x a

        settled_as : Account → Account
        settled_as k = record { balance = k.balance +ℤ profit; maker = k.maker; holdings = map carried_holding k.holdings }

        again : (shown : Bool) → blotted shown (settled_as (blotted shown (holder_at x a))) ≡ blotted shown (settled_as (holder_at x a))
        again true = refl
        again false = refl

        as_seen : (shown : Bool) → seen a ≡ shown → holder_at (state_seen seen x) a ≡ blotted shown (holder_at x a)
        as_seen shown e = unfold state_seen in (seen_at seen x.accounts a ∙ ap (λ (b : Bool). blotted b (holder_at x a)) e)

        by_seen : (shown : Bool) → seen a ≡ shown → blotted shown (settled_as (holder_at (state_seen seen x) a)) ≡ blotted shown (settled_as (holder_at x a))
        by_seen shown e = ap (λ (k : Account). blotted shown (settled_as k)) (as_seen shown e) ∙ again shown

tabulated : (seen : ℕ → Bool) (n : ℕ) (f g : ℕ → Account) → ((i : ℕ) → blotted (seen i) (f i) ≡ blotted (seen i) (g i)) → accounts_seen seen (tabulate n f) ≡ accounts_seen seen (tabulate n g)
unfolding accounts_seen tabulate
tabulated seen zero f g e = refl
tabulated seen (suc n) f g e = ap₂ (λ (a : Account) (l : List Account). a ∷ l) (e 0) (tabulated (λ j. seen (suc j)) n (λ i. f (suc i)) (λ i. g (suc i)) (λ i. e (suc i)))

-- ---- what each kind answers and leaves

-- a kind's refusals and answer are the same, and so is the state that it leaves, balances not seen aside
pub record SameSeen (seen : ℕ → Bool) (x : Exchange) (command : Command) : Type 0 where
  pub refusals : (kind_of (state_seen seen x) command).refusals ≡ (kind_of x command).refusals
  pub answer : (done (kind_of (state_seen seen x) command).effect).answer ≡ (done (kind_of x command).effect).answer
  pub left : state_seen seen (last_of (state_seen seen x) (kind_of (state_seen seen x) command).effect.stages) ≡ state_seen seen (last_of x (kind_of x command).effect.stages)

module _ (seen : ℕ → Bool) where
  -- a state that is the other as it is seen
  as_left : (x y : Exchange) → y ≡ state_seen seen x → state_seen seen y ≡ state_seen seen x
  as_left x y e = ap (state_seen seen) e ∙ state_twice seen x

  module _ (x : Exchange) where
    seen_absent : (account : ℕ) → absent account (state_seen seen x).accounts ≡ absent account x.accounts
    unfolding absent state_seen
    seen_absent account = ap (is_absent account) (seen_length seen x.accounts)

    seen_named : (forbids : Contract → Bool) (account contract : ℕ) → named_refusals (state_seen seen x) forbids account contract ≡ named_refusals x forbids account contract
    unfolding state_seen listing_at
    seen_named forbids account contract =
        ap (λ (t : Bool). (2 when t) ∷ (3 when absent contract x.listings) ∷ (4 when forbids (listing_named x contract).contract) ∷ []) (seen_absent account)

    seen_balance : (account : ℕ) → seen (place_of account) ≡ true → (holder_at (state_seen seen x) (place_of account)).balance ≡ (holder_at x (place_of account)).balance
    unfolding state_seen
    seen_balance account e = ap (λ (k : Account). k.balance) (seen_own seen x.accounts (place_of account) e)

    pub same_deposit : (account amount : ℕ) → seen (place_of account) ≡ true → SameSeen seen x (Deposit account amount)
    unfolding kind_of deposited deposit_refusals lifts_too_high
    same_deposit account amount e = record {
      refusals =
          ap₂ (λ (t : Bool) (b : ℤ). (2 when t) ∷ (16 when (amount_refused amount || lt_z (pos max_balance) (b +ℤ pos amount))) ∷ []) (seen_absent account) (seen_balance account e);
      answer = refl;
      left =
          as_left (paid x (place_of account) ((holder_at x (place_of account)).balance +ℤ pos amount)) _
          (ap (λ (b : ℤ). paid (state_seen seen x) (place_of account) (b +ℤ pos amount)) (seen_balance account e) ∙ seen_paid seen x (place_of account) _ e);
    }

    pub same_withdraw : (account amount : ℕ) → seen (place_of account) ≡ true → SameSeen seen x (Withdraw account amount)
    unfolding kind_of withdrawn withdraw_refusals leaves_too_little
    same_withdraw account amount e = record {
      refusals =
          ap₂ (λ (t u : Bool). (2 when t) ∷ (16 when amount_refused amount) ∷ (9 when u) ∷ []) (seen_absent account)
          (ap₂ (λ (b : ℤ) (n : ℕ). lt_z (b -ℤ pos amount) (pos n)) (seen_balance account e) (all_charged (place_of account)));
      answer = refl;
      left =
          as_left (paid x (place_of account) ((holder_at x (place_of account)).balance -ℤ pos amount)) _
          (ap (λ (b : ℤ). paid (state_seen seen x) (place_of account) (b -ℤ pos amount)) (seen_balance account e) ∙ seen_paid seen x (place_of account) _ e);
    }
      where
        all_charged : (a : ℕ) → charged (state_seen seen x) a ≡ charged x a
        all_charged a = unfold state_seen in seen_charged seen x a (length x.listings)

    pub same_insert : (o : NewOrder) → seen (place_of o.account) ≡ true → SameSeen seen x (Insert o)
    unfolding kind_of inserted insert_refusals state_seen entered_of taker_of listing_of listing_at
    same_insert o e = record {
      refusals = ap₂ (λ (rs ss : List Refusal). rs ++ ss) (seen_named (λ c. not (takes_orders c)) o.account o.contract) (seen_order seen x o e);
      answer = refl;
      left = as_left (exchange_after x o (entered_of x x.next 0 o) (x.next + 1)) _ (seen_after seen x o (entered_of x x.next 0 o) (x.next + 1));
    }

    same_removal : (c : ℕ) (test : Order → Bool) (number : ℕ) →
        ((done (removed (state_seen seen x) c test number)).answer ≡ (done (removed x c test number)).answer)
        × (state_seen seen (last_of (state_seen seen x) (removed (state_seen seen x) c test number).stages) ≡ state_seen seen (last_of x (removed x c test number).stages))
    unfolding removed state_seen listing_at
    same_removal c test number = (refl, state_twice seen (last_of x (removed x c test number).stages))

    pub same_cancel : (account contract : ℕ) (operator : Bool) (number : ℕ) → SameSeen seen x (Cancel account contract operator number)
    unfolding kind_of cancelled cancel_refusals state_seen listing_at
    same_cancel account contract operator number = record {
      refusals =
          ap (λ (rs : List Refusal). rs ++ owner_refusals (place_of account) (resting_order (listing_named x contract) number)) (seen_named (λ c. removal_refused c operator) account contract);
      answer = (same_removal (place_of contract) (has_number number) number).0;
      left = (same_removal (place_of contract) (has_number number) number).1;
    }

    pub same_pull : (account contract : ℕ) (operator : Bool) → SameSeen seen x (Pull account contract operator)
    unfolding kind_of pulled pull_refusals
    same_pull account contract operator = record {
      refusals = seen_named (λ c. removal_refused c operator) account contract;
      answer = (same_removal (place_of contract) (is_of (place_of account)) 0).0;
      left = (same_removal (place_of contract) (is_of (place_of account)) 0).1;
    }

    pub same_phase : (contract phase : ℕ) → SameSeen seen x (Phase contract phase)
    unfolding kind_of phase_changed phase_refusals exchange_matched match_of state_seen listing_at
    same_phase contract phase = record {
      refusals = refl;
      answer = refl;
      left = as_left (exchange_matched x (place_of contract) phase (match_of x (place_of contract))) _ (seen_traded seen x (place_of contract) _ _ x.next x.nextstamp);
    }

    pub same_settle : SameSeen seen x Settle
    unfolding kind_of settled_all settle_refusals settled state_seen settled_listing settlement_price listing_at
    same_settle = record {
      refusals = refl;
      answer = refl;
      left =
          ap (with_accounts (settled x))
          (ap (λ (n : ℕ). accounts_seen seen (tabulate n (settled_account (state_seen seen x)))) (seen_length seen x.accounts)
          ∙ tabulated seen (length x.accounts) (settled_account (state_seen seen x)) (settled_account x) (seen_settled_account seen x));
    }

  -- ---- a quote

  marked_after : (x : Exchange) (o : NewOrder) → after_marked (state_seen seen x) o ≡ state_seen seen (after_marked x o)
  unfolding state_seen entered_of taker_of listing_of listing_at
  marked_after x o = seen_after seen x o (entered_marked x o) (x.next + 1)

  module _ (x : Exchange) (q : Offered) (e : seen (place_of q.account) ≡ true) where
    empty_seen : without_quote (state_seen seen x) q ≡ state_seen seen (without_quote x q)
    unfolding without_quote state_seen listing_at
    empty_seen = refl

    buy_seen : with_buy (state_seen seen x) q ≡ state_seen seen (with_buy x q)
    unfolding with_buy
    buy_seen = ap (λ (y : Exchange). after_marked y (buy_of q)) empty_seen ∙ marked_after (without_quote x q) (buy_of q)

    sell_seen : with_sell (state_seen seen x) q ≡ state_seen seen (with_sell x q)
    unfolding with_sell
    sell_seen = ap (λ (y : Exchange). after_marked y (sell_of q)) buy_seen ∙ marked_after (with_buy x q) (sell_of q)

    -- each of its orders, on a state that is the other as it is seen
    order_as : (y z : Exchange) → y ≡ state_seen seen z → (sell : Bool) → order_refusals y (half q sell) ≡ order_refusals z (half q sell)
    unfolding half
    order_as y z same sell = ap (λ (u : Exchange). order_refusals u (half q sell)) same ∙ seen_order seen z (half q sell) e

    entered_as_lem : (y z : Exchange) → y ≡ state_seen seen z → (o : NewOrder) → entered_marked y o ≡ entered_marked z o
    unfolding state_seen entered_of taker_of listing_of listing_at
    entered_as_lem y z same o = ap (λ (u : Exchange). entered_marked u o) same

    pub quote_refusals_lem : quote_refusals (state_seen seen x) q ≡ quote_refusals x q
    unfolding quote_refusals
    quote_refusals_lem =
        ap₂ (λ (rs : List Refusal) (m : ℕ). parts rs m (order_refusals (without_quote (state_seen seen x) q) (buy_of q)) (order_refusals (with_buy (state_seen seen x) q) (sell_of q)))
        (seen_named x not_continuous q.account q.contract) maker
        ∙ ap₂ (parts (named_refusals x not_continuous q.account q.contract) (holder_at x (place_of q.account)).maker)
        (order_as (without_quote (state_seen seen x) q) (without_quote x q) empty_seen false) (order_as (with_buy (state_seen seen x) q) (with_buy x q) buy_seen true)
      where
        parts : List Refusal → ℕ → List Refusal → List Refusal → List Refusal
        parts rs m ss ts = rs ++ ((23 when not (eqb m 1)) ∷ (24 when not (ltb q.buy q.sell)) ∷ []) ++ ss ++ ts

        maker : (holder_at (state_seen seen x) (place_of q.account)).maker ≡ (holder_at x (place_of q.account)).maker
        maker = unfold state_seen in seen_kept seen x.accounts (λ m hs. m) (place_of q.account)

    pub quote_answer : (done (quoted (state_seen seen x) q)).answer ≡ (done (quoted x q)).answer
    unfolding quoted state_seen
    quote_answer =
        ap₂ (λ (b s : Entered). answer_of 0 x.next (traded_lots b.trades + traded_lots s.trades) (b.rested + s.rested))
        (entered_as_lem (without_quote (state_seen seen x) q) (without_quote x q) empty_seen (buy_of q)) (entered_as_lem (with_buy (state_seen seen x) q) (with_buy x q) buy_seen (sell_of q))

    pub quote_left_lem : state_seen seen (last_of (state_seen seen x) (quoted (state_seen seen x) q).stages) ≡ state_seen seen (last_of x (quoted x q).stages)
    unfolding quoted
    quote_left_lem = as_left (with_sell x q) (with_sell (state_seen seen x) q) sell_seen

  -- ---- a change

  module _ (x : Exchange) (k : Asked) (e : seen (place_of k.account) ≡ true) where
    abbrev pub shown : Exchange
    shown = state_seen seen x

    gone_seen : gone shown k ≡ state_seen seen (gone x k)
    unfolding gone state_seen listing_at
    gone_seen = refl

    arriving_seen : arriving shown k ≡ arriving x k
    unfolding arriving is_sell old_order state_seen listing_at
    arriving_seen = refl

    loses_seen : loses_place shown k ≡ loses_place x k
    unfolding loses_place old_order state_seen listing_at
    loses_seen = refl

    old_seen : old_order shown k ≡ old_order x k
    unfolding old_order state_seen listing_at
    old_seen = refl

    reentry_seen : (y : Exchange) (o : NewOrder) → seen (place_of o.account) ≡ true → reentry_refusals (state_seen seen y) k.number o ≡ reentry_refusals y k.number o
    unfolding trades_refused trades_needed taker_of listing_of listing_at state_seen
    reentry_seen y o own =
        ap₂ (λ (h m : Bool). ((8 when h) ∷ (9 when m) ∷ []) ++ ((10 when stamps_used_up y) ∷ (12 when trades_refused y k.number o) ∷ [])) (seen_held seen y o) (seen_money seen y o own)

    pub change_refusals_lem : change_refusals shown k ≡ change_refusals x k
    unfolding change_refusals loses_place old_order gone arriving is_sell state_seen listing_at
    change_refusals_lem =
        ap₂ (λ (rs ss : List Refusal).
        rs ++ owner_refusals (place_of k.account) (resting_order (listing_named x k.contract) k.number) ++ new_fields_refusals (listing_named x k.contract).contract k.lots k.price ++ pick (loses_place x k) ss [])
        (seen_named x not_continuous k.account k.contract) (reentry_seen (gone x k) (arriving x k) e)

    -- the four that it may be
    abbrev either : Exchange → Bool → Bool → Bool → Effect
    either y zeroed lost equal =
        pick zeroed (cancelled y (place_of k.contract) k.number) (pick lost (place_lost y k) (pick equal (unchanged y k) (place_kept y k)))

    abbrev pub SameEffect : Effect → Effect → Type 0
    SameEffect f g = ((done f).answer ≡ (done g).answer) × (state_seen seen (last_of shown f.stages) ≡ state_seen seen (last_of x g.stages))

    lost_same : SameEffect (place_lost shown k) (place_lost x k)
    unfolding place_lost reentered entered_of taker_of listing_of listing_at gone arriving is_sell old_order state_seen
    lost_same = (
      refl,
      as_left (exchange_after (gone x k) (arriving x k) (reentered x k) x.next) _ (seen_after seen (gone x k) (arriving x k) (reentered x k) x.next),
    )

    either_same : (zeroed lost equal : Bool) → SameEffect (either shown zeroed lost equal) (either x zeroed lost equal)
    unfolding cancelled unchanged place_kept state_seen listing_at
    either_same true lost equal = same_removal x (place_of k.contract) (has_number k.number) k.number
    either_same false true equal = lost_same
    either_same false false true = (refl, state_twice seen x)
    either_same false false false = (refl, state_twice seen (last_of x (place_kept x k).stages))

    pub change_same : SameEffect (changed shown k) (changed x k)
    unfolding changed loses_place old_order state_seen listing_at
    change_same = either_same (eqb k.lots 0) (loses_place x k) (eqb k.lots (old_order x k).lots)
