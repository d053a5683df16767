-- WHAT A COMMAND MAY TOUCH: the theorems in the words of specs/Touches.antt, one clause a kind. Assumes nothing.
use lib.IntN.{ℤ}
use Rattle.laws.specs.Logic.{Bool, true, false, not, ◌&&◌, true≢false, false≢true, List, [], ◌∷◌, append-nil, ◌≢◌, ◌≡◌, refl, sym, ap, ◌∙◌}
use Rattle.laws.specs.Numbers.{ℕ, ◌+◌, ◌<◌, arith, eqb-true, eqb-false, ne_eqb, eqb, ltb, length, get_or, get_or-set_same, get_or-set_other, map-set_same}
use Rattle.laws.specs.Choice.{all_of, all_of_true, both_true, either_false, pick}
use Rattle.laws.specs.Lists.{at_set, kept_at}
use Rattle.rules.specs.Command.{Field, unused, holds, account_field, contract_field, is_payment, is_settle}
use Rattle.rules.specs.Exchange.{Exchange, Listing, absent, account_at, held_at, holder_at, holding_at, listing_at, listing_named, no_account, no_holding, no_listing, no_order, own, place_of}
use Rattle.rules.specs.Holdings.{book_trades}
use Rattle.rules.specs.Kinds.{code_of, decide, kind_of, last_of, step}
use Rattle.rules.specs.Step.{is_of, listing_without, paid, pulled, removed, with_listing, without}
use Rattle.rules.specs.Touches.{BalanceStays, BlankIsRefused, ContractStays, HeldByTrades, MoneyStays, OrdersUntouched, PullTakesOwn, QueuesAlone, RefusedAndUnchanged, RefusedChangesNothing, holdings_of, is_blank, names, orders_of, orders_where}
use Rattle.rules.specs.declared.{Account.Account, Command.Command, Order.Order, Trade.Trade}
use Rattle.rules.specs.declared.Command.TheVariants.{Pull}
use Rattle.theory.proofs.EachKind.{Pays, Works, accepted_named, kind_pays, kind_works}
use Rattle.theory.proofs.InContract.{InContract}
use Rattle.theory.proofs.Holdings.{booked_balance, other_holding}
use Rattle.theory.proofs.Refusals.{present}
use Rattle.theory.proofs.Stages.{decided}

-- ---- 1. refused

refused_step : (x : Exchange) (command : Command) → (code_of x command ≡ 0 → ⊥) → step x command ≡ x
unfolding step
refused_step x command r = decided (λ d. last_of x d.stages ≡ x) x command (λ e. absurd (r e)) (λ e. refl)

pub refused_changes_nothing : (x : Exchange) (command : Command) → RefusedChangesNothing x command
refused_changes_nothing x command =
    record { unchanged = refused_step x command; again = λ r. ap (λ (y : Exchange). decide y command) (refused_step x command r) }

-- ---- 2. blank

pub blank_is_refused : (x : Exchange) (command : Command) → BlankIsRefused x command
blank_is_refused x command =
    record {
      contract = λ b. refuses (λ e. true≢false (sym b ∙ (accepted_named x command e).1));
      account = λ b. refuses (λ e. true≢false (sym b ∙ (accepted_named x command e).0));
    }
  where
    refuses : (code_of x command ≡ 0 → ⊥) → RefusedAndUnchanged x command
    refuses r = record { refused = r; unchanged = refused_step x command r }

-- ---- what an accepted command names has a number

-- the same by places, where a blank would be the first place's
abbrev pub is_at : Field → ℕ → Bool
is_at unused place = false
is_at (holds number) place = eqb place (place_of number)

at_place : {A : Type 0} (f : Field) (places : List A) (i : ℕ) → is_blank f places ≡ false → names f i ≡ false → is_at f i ≡ false
unfolding absent
at_place unused places i there n = refl
at_place (holds number) places i there n =
    let z : number ≢ 0 = eqb-false number 0 (either_false (eqb number 0) (ltb (length places) number) there).0 in
    let d : number ≢ i + 1 = eqb-false number (i + 1) n in
    ne_eqb i (place_of number) (λ (e : i ≡ place_of number). omega arith)

contract_at_lem : (x : Exchange) (command : Command) (c : ℕ) → names (contract_field command) c ≡ false → code_of x command ≡ 0 → is_at (contract_field command) c ≡ false
contract_at_lem x command c n e = at_place (contract_field command) x.listings c (accepted_named x command e).1 n

pub account_at_lem : (x : Exchange) (command : Command) (a : ℕ) → names (account_field command) a ≡ false → code_of x command ≡ 0 → is_at (account_field command) a ≡ false
account_at_lem x command a n e = at_place (account_field command) x.accounts a (accepted_named x command e).0 n

pub contract_there : (x : Exchange) (command : Command) (number : ℕ) → contract_field command ≡ holds number → code_of x command ≡ 0 → place_of number < length x.listings
contract_there x command number f e =
    present number x.listings (ap (λ (k : Field). is_blank k x.listings) (sym f) ∙ (accepted_named x command e).1)

-- ---- 3. other contracts

-- a payment leaves listings, trades and holdings as they are
paid_holds : (x : Exchange) (b : ℕ) (balance : ℤ) (a c : ℕ) → held_at (paid x b balance) a c ≡ held_at x a c
unfolding paid account_at holding_at
paid_holds x b balance a c = ap (λ hs. get_or hs c no_holding) (kept_at (λ (k : Account). k.holdings) x.accounts b _ no_account refl a)

paid_stays : (x : Exchange) (b : ℕ) (balance : ℤ) (c : ℕ) → ContractStays c x (paid x b balance)
paid_stays x b balance c = record { listing = unfold paid listing_at in refl; held = λ a. paid_holds x b balance a c }

stays_in : (d : ℕ) (ts : List Trade) (x y : Exchange) → InContract d ts x y → (c : ℕ) → eqb c d ≡ false → ContractStays c x y
stays_in d ts x y i c n =
    record {
      listing = i.others c n;
      held = λ a. ap (λ (as' : List Account). holding_at as' a c) i.booked ∙ other_holding d x.accounts ts a c i.here (eqb-false c d n);
    }

works_stay : (f : Field) (x y : Exchange) → Works f x y → (c : ℕ) → is_at f c ≡ false → ContractStays c x y
works_stay unused x y e c n = record { listing = ap (λ (z : Exchange). listing_at z c) e; held = λ a. ap (λ (z : Exchange). held_at z a c) e }
works_stay (holds number) x y (ts, i) c n = stays_in (place_of number) ts x y i c n

pays_stay : (f : Field) (x y : Exchange) → Pays f x y → (c : ℕ) → ContractStays c x y
pays_stay unused x y e c = record { listing = ap (λ (z : Exchange). listing_at z c) e; held = λ a. ap (λ (z : Exchange). held_at z a c) e }
pays_stay (holds number) x y p c = rw p.1 (paid_stays x (place_of number) p.0 c)

module _ (x : Exchange) (c : ℕ) where
  pub other_contract_stays : (command : Command) → is_settle command ≡ false → names (contract_field command) c ≡ false → ContractStays c x (step x command)
  unfolding step
  other_contract_stays command n f =
      decided (λ d. ContractStays c x (last_of x d.stages)) x command (λ e. by_payment e (is_payment command) refl) (λ e. record { listing = refl; held = λ a. refl })
    where
      by_payment : code_of x command ≡ 0 → (b : Bool) → is_payment command ≡ b → ContractStays c x (last_of x (kind_of x command).effect.stages)
      by_payment e true p = pays_stay (account_field command) x _ (kind_pays x command p) c
      by_payment e false p = works_stay (contract_field command) x _ (kind_works x command p n) c (contract_at_lem x command c f e)

-- ---- 4. a pull

pub relisted : (x : Exchange) (c : ℕ) (l : Listing) → c < length x.listings → listing_at (with_listing x c l) c ≡ l
unfolding listing_at
relisted x c l there = get_or-set_same x.listings c l no_listing there

-- orders taken out of a contract's queues: what is left there, and that nothing else has changed
pub queues_alone : (x : Exchange) (c : ℕ) (test : Order → Bool) → c < length x.listings → QueuesAlone x c (with_listing x c (listing_without test (listing_at x c)))
queues_alone x c test there =
    record {
      terms = ap (λ (l : Listing). l.contract) (relisted x c (listing_without test (listing_at x c)) there);
      others = λ d n. unfold listing_at in get_or-set_other x.listings c d (listing_without test (get_or x.listings c no_listing)) no_listing n;
      accounts = refl;
      trades = refl;
      next = refl;
      nextstamp = refl;
      settlements = refl;
    }

without_where : (test : Order → Bool) (q : List Order) → without test q ≡ orders_where (λ o. not (test o)) q
unfolding without orders_where
without_where test [] = refl
without_where test (o ∷ os) = by_test (test o) (without_where test os)
  where
    by_test : (t : Bool) → without test os ≡ orders_where (λ p. not (test p)) os → pick t (without test os) (o ∷ without test os) ≡ pick (not t) (o ∷ orders_where (λ p. not (test p)) os) (orders_where (λ p. not (test p)) os)
    by_test true ih = ih
    by_test false ih = ap (λ (l : List Order). o ∷ l) ih

pub own_without : (x : Exchange) (c : ℕ) (test : Order → Bool) → c < length x.listings → (sell : Bool) →
    own sell (listing_at (with_listing x c (listing_without test (listing_at x c))) c) ≡ without test (own sell (listing_at x c))
own_without x c test there sell = ap (own sell) (relisted x c (listing_without test (listing_at x c)) there)
    ∙ (elim sell as (λ s. own s (listing_without test (listing_at x c)) ≡ without test (own s (listing_at x c))) [ false ↦ refl | true ↦ refl ])

-- an account's orders where none of those taken out is its own
module _ (a : ℕ) where
  pub of_its : (o : Order) (os : List Order) → is_of a o ≡ true → orders_of a (o ∷ os) ≡ o ∷ orders_of a os
  unfolding orders_where
  of_its o os e = rw e refl

  pub of_other : (o : Order) (os : List Order) → is_of a o ≡ false → orders_of a (o ∷ os) ≡ orders_of a os
  unfolding orders_where
  of_other o os e = rw e refl

  pub of_without : (test : Order → Bool) (q : List Order) → all_of (λ o. not (test o && is_of a o)) q ≡ true → orders_of a (without test q) ≡ orders_of a q
  unfolding without all_of
  of_without test [] h = refl
  of_without test (o ∷ os) h = by_test (of_without test os p.1) (test o) (is_of a o) refl refl p.0
    where
      p : (not (test o && is_of a o) ≡ true) × (all_of (λ r. not (test r && is_of a r)) os ≡ true)
      p = both_true (not (test o && is_of a o)) (all_of (λ r. not (test r && is_of a r)) os) h

      by_test : orders_of a (without test os) ≡ orders_of a os → (t b : Bool) → test o ≡ t → is_of a o ≡ b → not (test o && is_of a o) ≡ true →
          orders_of a (pick (test o) (without test os) (o ∷ without test os)) ≡ orders_of a (o ∷ os)
      by_test ih true true e f k = absurd (false≢true (rw (e, f) at k))
      by_test ih true false e f k = rw (e, of_other o os f) ih
      by_test ih false true e f k = rw (e, of_its o os f, of_its o (without test os) f, ih) refl
      by_test ih false false e f k = rw (e, of_other o os f, of_other o (without test os) f) ih

  pub none_its : (test : Order → Bool) → ((o : Order) → (test o && is_of a o) ≡ false) → (q : List Order) → all_of (λ o. not (test o && is_of a o)) q ≡ true
  none_its test f q = all_of_true (λ o. not (test o && is_of a o)) q no_order (λ i b. rw (f (get_or q i no_order)) refl)

pub accepted_step : (x : Exchange) (command : Command) → code_of x command ≡ 0 → step x command ≡ last_of x (kind_of x command).effect.stages
unfolding step
accepted_step x command e = decided (λ d. last_of x d.stages ≡ last_of x (kind_of x command).effect.stages) x command (λ f. refl) (λ r. absurd (r e))

module _ (x : Exchange) (account contract : ℕ) (operator : Bool) where
  abbrev pulls : Command
  pulls = Pull account contract operator

  abbrev left : Exchange
  left = with_listing x (place_of contract) (listing_without (is_of (place_of account)) (listing_named x contract))

  pull_there : code_of x pulls ≡ 0 → place_of contract < length x.listings
  pull_there e = contract_there x pulls contract refl e

  pub pull_takes_own : code_of x pulls ≡ 0 → PullTakesOwn x account contract (step x pulls)
  unfolding kind_of pulled removed
  pull_takes_own e =
      rw (accepted_step x pulls e)
      record {
        queues = λ sell. own_without x (place_of contract) (is_of (place_of account)) (pull_there e) sell ∙ without_where (is_of (place_of account)) (own sell (listing_named x contract));
        otherwise = queues_alone x (place_of contract) (is_of (place_of account)) (pull_there e);
      }

  module _ (a : ℕ) where
    abbrev Spares : Exchange → Type 0
    Spares y = (c : ℕ) (sell : Bool) → orders_of a (own sell (listing_at y c)) ≡ orders_of a (own sell (listing_at x c))

    pub not_its : eqb a (place_of account) ≡ false → (o : Order) → (is_of (place_of account) o && is_of a o) ≡ false
    not_its other o = by_account (eqb o.account (place_of account)) refl
      where
        by_account : (b : Bool) → eqb o.account (place_of account) ≡ b → (b && is_of a o) ≡ false
        by_account true e = ne_eqb o.account a (λ f. eqb-false a (place_of account) other (sym f ∙ eqb-true o.account (place_of account) e))
        by_account false e = refl

    pull_spares : code_of x pulls ≡ 0 → eqb a (place_of account) ≡ false → Spares left
    unfolding listing_at
    pull_spares e other c sell =
        at_set (λ (j : ℕ) (l : Listing). orders_of a (own sell l) ≡ orders_of a (own sell (get_or x.listings j no_listing))) x.listings (place_of contract) _ no_listing
        (pull_there e) (by_side sell) c (λ n. refl)
      where
        l : Listing
        l = get_or x.listings (place_of contract) no_listing

        by_side : (sell : Bool) → orders_of a (own sell (listing_without (is_of (place_of account)) l)) ≡ orders_of a (own sell l)
        by_side true = of_without a (is_of (place_of account)) l.sells (none_its a (is_of (place_of account)) (not_its other) l.sells)
        by_side false = of_without a (is_of (place_of account)) l.buys (none_its a (is_of (place_of account)) (not_its other) l.buys)

    pub pull_spares_others : names (account_field pulls) a ≡ false → OrdersUntouched a x (step x pulls)
    unfolding step kind_of pulled removed
    pull_spares_others n =
        record { orders = decided (λ d. Spares (last_of x d.stages)) x pulls (λ e. pull_spares e (account_at_lem x pulls a n e)) (λ r c sell. refl) }

-- ---- 6. money

paid_owns : (x : Exchange) (a b : ℕ) (balance : ℤ) → eqb a b ≡ false → BalanceStays a x (paid x b balance)
unfolding paid account_at
paid_owns x a b balance n = ap (λ (k : Account). k.balance) (get_or-set_other x.accounts b a _ no_account (eqb-false a b n))

works_owns : (f : Field) (x y : Exchange) → Works f x y → (a : ℕ) → BalanceStays a x y
works_owns unused x y e a = ap (λ (z : Exchange). (holder_at z a).balance) e
works_owns (holds number) x y (ts, i) a = ap (λ (as' : List Account). (account_at as' a).balance) i.booked ∙ booked_balance x.accounts ts a

pub held_same : (x : Exchange) → HeldByTrades x x
unfolding book_trades
held_same x = record { made = []; recorded = sym (append-nil x.trades); held = refl }

works_held : (f : Field) (x y : Exchange) → Works f x y → HeldByTrades x y
works_held unused x y e = rw e (held_same x)
works_held (holds number) x y (ts, i) = record { made = ts; recorded = i.recorded; held = ap holdings_of i.booked }

paid_holdings : (x : Exchange) (b : ℕ) (balance : ℤ) → holdings_of (paid x b balance).accounts ≡ holdings_of x.accounts
unfolding paid account_at
paid_holdings x b balance = map-set_same (λ (a : Account). a.holdings) x.accounts b _ no_account refl

paid_held : (x : Exchange) (b : ℕ) (balance : ℤ) → HeldByTrades x (paid x b balance)
paid_held x b balance = record { made = []; recorded = unfold paid in sym (append-nil x.trades); held = unfold book_trades in paid_holdings x b balance }

pays_money : (x : Exchange) (command : Command) → is_payment command ≡ true → (f : Field) → ((a : ℕ) → names (account_field command) a ≡ false → is_at f a ≡ false) →
    (y : Exchange) → Pays f x y → MoneyStays x command y
pays_money x command p unused at y e = rw e record { others = λ a f. refl; orders = λ q a. refl; holdings = held_same x; payments = λ q. refl }
pays_money x command p (holds number) at y k =
    rw k.1
    record {
      others = λ a f. paid_owns x a (place_of number) k.0 (at a f);
      orders = λ q. absurd (true≢false (sym p ∙ q));
      holdings = paid_held x (place_of number) k.0;
      payments = λ q. paid_holdings x (place_of number) k.0;
    }

module _ (x : Exchange) (command : Command) (n : is_settle command ≡ false) where
  kind_money : code_of x command ≡ 0 → MoneyStays x command (last_of x (kind_of x command).effect.stages)
  kind_money e = by_payment (is_payment command) refl
    where
      by_payment : (b : Bool) → is_payment command ≡ b → MoneyStays x command (last_of x (kind_of x command).effect.stages)
      by_payment true p = pays_money x command p (account_field command) (λ a f. account_at_lem x command a f e) _ (kind_pays x command p)
      by_payment false p =
          let w = kind_works x command p n in
          record {
            others = λ a f. works_owns (contract_field command) x _ w a;
            orders = λ q a. works_owns (contract_field command) x _ w a;
            holdings = works_held (contract_field command) x _ w;
            payments = λ q. absurd (true≢false (sym q ∙ p));
          }

  pub money_stays : MoneyStays x command (step x command)
  unfolding step
  money_stays =
      decided (λ d. MoneyStays x command (last_of x d.stages)) x command kind_money
      (λ e. record { others = λ a f. refl; orders = λ p a. refl; holdings = held_same x; payments = λ p. refl })
