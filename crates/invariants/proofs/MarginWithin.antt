-- ALL CHARGED MARGIN IS WITHIN THE BALANCE after an accepted open and after an accepted withdrawal; and no command but a settlement brings
-- an account out of it. What is charged after an open is at most what it was tested with (Charged.antt); what others do raises nobody's
-- charge. Assumes nothing.
use lib.IntN.{ℤ, pos, negsuc, ◌+ℤ◌, ◌-ℤ◌}
use lib.Signed.{le_z}
use Rattle.laws.specs.Logic.{Bool, true, false, not, ◌&&◌, true≢false, false≢true, [], ◌∷◌, ◌≢◌, ◌≡◌, refl, sym, ap, ap₂, subst, ◌∙◌}
use Rattle.laws.specs.Numbers.{ℕ, zero, suc, ◌+◌, ◌*◌, ◌<◌, ◌≤◌, arith, eqb-true, eqb-false, leb-true, eq-eqb, le-leb, not-true, eqb, length, get_or}
use Rattle.laws.specs.Choice.{all_of, by_test}
use Rattle.laws.specs.Lists.{at_set, kept_at}
use Rattle.laws.specs.Ring.{le_z_lt_z}
use Rattle.rules.specs.Answers.{◌when◌, first_of, phase_refusals, deposit_refusals, insert_refusals, leaves_too_little, mark, money_refused, order_refusals, withdraw_refusals}
use Rattle.rules.specs.Auction.{match_of}
use Rattle.rules.specs.Bounds.{phase_known}
use Rattle.rules.specs.Change.{Asked, arriving, changed, change_refusals, gone, loses_place, old_order, place_kept, place_lost, reentered, unchanged}
use Rattle.rules.specs.Exchange.{Exchange, Listing, account_at, holder_at, holding_at, listing_at, no_account, no_holding, place_of}
use Rattle.rules.specs.Holdings.{book_trades}
use Rattle.rules.specs.Kinds.{last_of}
use Rattle.rules.specs.Margin.{charge, charged, charged_lots, charged_to, included_to}
use Rattle.rules.specs.Quote.{Offered, buy_of, half, quoted, quote_refusals, sell_of, with_buy, with_sell, without_quote}
use Rattle.rules.specs.Step.{cancelled, deposited, entered_of, exchange_after, exchange_matched, has_number, inserted, listing_matched, listing_without, paid, phase_changed, removed, with_listing, withdrawn}
use Rattle.rules.specs.declared.{Account.Account, NewOrder.NewOrder, Order.Order}
use Rattle.theory.proofs.Changes.{changed_either}
use Rattle.theory.proofs.Holdings.{booked_balance}
use Rattle.theory.proofs.LotsIncluded.{open_passes}
use Rattle.theory.proofs.Refusals.{Failed, failed, present}
use Rattle.accounting.specs.Shape.{Shaped}
use Rattle.accounting.proofs.StepShape.{SameShape, entered_shape, listing_replaced}
use Rattle.invariants.specs.Accounts.{WithinBalance}
use Rattle.invariants.proofs.ChangeKeeps as change
use Rattle.invariants.proofs.Charged.{entered_charged, fewer_charged, none_included, relisted_no_more}
use Rattle.invariants.proofs.Clauses.{Counted, WellFormed}
use Rattle.invariants.proofs.Insert.{insert_enters}
use Rattle.invariants.proofs.InsertAccepted.{tests}
use Rattle.invariants.proofs.InsertListing.{Enterable}
use Rattle.invariants.proofs.Legs.{Kept}
use Rattle.invariants.proofs.Phases as phases
use Rattle.invariants.proofs.QuoteKeeps as quote
use Rattle.invariants.proofs.Removal.{without_resting}
use Rattle.invariants.proofs.SweptHoldings.{Fewer}

-- ---- numbers

less_within : (n m : ℕ) (balance : ℤ) → m ≤ n → le_z (pos n) balance ≡ true → le_z (pos m) balance ≡ true
less_within n m (pos k) h e = le-leb m k (omega (arith, leb-true n k e))
less_within n m (negsuc k) h e = absurd (false≢true e)

-- ---- what an account keeps

-- an account within its balance before is so after
abbrev pub Keeps : Exchange → Exchange → ℕ → Type 0
Keeps x y a = WithinBalance x a → WithinBalance y a

keeps_both : (x y : Exchange) (a : ℕ) → charged y a ≤ charged x a → (holder_at y a).balance ≡ (holder_at x a).balance → Keeps x y a
keeps_both x y a h e w = rw e (less_within (charged x a) (charged y a) (holder_at x a).balance h w)

shaped_as : {x y : Exchange} → SameShape x y → Shaped x → Shaped y
unfolding Shaped
shaped_as s h = λ a l. let k : a < _ = rw s.accounts at l in s.wide a k ∙ h a k ∙ sym s.listings

-- ---- money paid

module _ (x : Exchange) (u : ℕ) (balance : ℤ) where
  paid_charged : (a n : ℕ) → charged_to (paid x u balance) a n ≡ charged_to x a n
  unfolding charged_to paid listing_at holding_at account_at
  paid_charged a zero = refl
  paid_charged a (suc c) =
      ap₂ (λ (s k : ℕ). s + charge (listing_at x c).contract * k) (paid_charged a c)
      (ap (charged_lots (listing_at x c) a) (kept_at (λ (k : Account). get_or k.holdings c no_holding) x.accounts u _ no_account refl a))

  module _ (there : u < length x.accounts) where
    -- the balance of the account that is paid, and of every other
    paid_balance : (P : ℕ → ℤ → Type 0) → P u balance → (a : ℕ) → (a ≢ u → P a (holder_at x a).balance) → P a (holder_at (paid x u balance) a).balance
    unfolding paid account_at
    paid_balance P here = at_set (λ (j : ℕ) (k : Account). P j k.balance) x.accounts u _ no_account there here

    -- the new balance is enough
    paid_within : le_z (pos (charged x u)) balance ≡ true → WithinBalance (paid x u balance) u
    unfolding paid
    paid_within h = rw (paid_charged u (length x.listings)) (paid_balance (λ a b. le_z (pos (charged x u)) b ≡ true) h u (λ n. absurd (n refl)))

    -- .. where the old one was
    paid_keeps : (WithinBalance x u → le_z (pos (charged x u)) balance ≡ true) → (a : ℕ) → Keeps x (paid x u balance) a
    unfolding paid
    paid_keeps more a w =
        rw (paid_charged a (length x.listings))
        (paid_balance (λ (a : ℕ) (b : ℤ). WithinBalance x a → le_z (pos (charged x a)) b ≡ true) more a (λ n e. e) w)

more_within : (n amount : ℕ) (balance : ℤ) → le_z (pos n) balance ≡ true → le_z (pos n) (balance +ℤ pos amount) ≡ true
more_within n amount (pos k) e = le-leb n (k + amount) (omega (arith, leb-true n k e))
more_within n amount (negsuc k) e = absurd (false≢true e)

pub deposit_within : (x : Exchange) (account amount : ℕ) → first_of (deposit_refusals x account amount) ≡ 0 → (a : ℕ) → Keeps x (last_of x (deposited x (place_of account) amount).stages) a
unfolding deposit_refusals deposited
deposit_within x account amount e =
    paid_keeps x (place_of account) _ (present account x.accounts (failed (deposit_refusals x account amount) (omega arith) e).0)
    (more_within (charged x (place_of account)) amount (holder_at x (place_of account)).balance)

module _ (x : Exchange) (account amount : ℕ) (e : first_of (withdraw_refusals x account amount) ≡ 0) where
  refusals : Failed (withdraw_refusals x account amount)
  unfolding withdraw_refusals
  refusals = failed (withdraw_refusals x account amount) (omega arith) e

  holder : place_of account < length x.accounts
  unfolding withdraw_refusals
  holder = present account x.accounts refusals.0

  enough : le_z (pos (charged x (place_of account))) ((holder_at x (place_of account)).balance -ℤ pos amount) ≡ true
  unfolding withdraw_refusals leaves_too_little
  enough = le_z_lt_z (pos (charged x (place_of account))) ((holder_at x (place_of account)).balance -ℤ pos amount) ∙ ap not refusals.1.1.0

  pub withdrawal_within : WithinBalance (last_of x (withdrawn x (place_of account) amount).stages) (place_of account)
  unfolding withdrawn
  withdrawal_within = paid_within x (place_of account) _ holder enough

  pub withdrawal_keeps : (a : ℕ) → Keeps x (last_of x (withdrawn x (place_of account) amount).stages) a
  unfolding withdrawn
  withdrawal_keeps = paid_keeps x (place_of account) _ holder (λ w. enough)

-- ---- orders go

module _ (x : Exchange) (c : ℕ) (there : c < length x.listings) (a : ℕ) where
  -- a listing with the same terms and fewer lots
  fewer_keeps : (m : Listing) → m.contract ≡ (listing_at x c).contract → Fewer m.buys (listing_at x c).buys → Fewer m.sells (listing_at x c).sells → Keeps x (with_listing x c m) a
  unfolding book_trades all_of
  fewer_keeps m same f g =
      keeps_both x (with_listing x c m) a
      (relisted_no_more x c m [] (with_listing x c m) (record { there = there; listings = refl; accounts = refl; here = refl; charge_same = ap charge same }) a
      (fewer_charged (listing_at x c) m a x.accounts c f g))
      refl

  without_keeps : (test : Order → Bool) → Keeps x (with_listing x c (listing_without test (listing_at x c))) a
  without_keeps test =
      fewer_keeps (listing_without test (listing_at x c)) refl (λ close b. without_resting test close b (listing_at x c).buys) (λ close b. without_resting test close b (listing_at x c).sells)

  pub removal_keeps : (test : Order → Bool) (number : ℕ) → Keeps x (last_of x (removed x c test number).stages) a
  unfolding removed
  removal_keeps test number = without_keeps test

-- ---- an order is entered

own_open : (b close : Bool) → (b && eqb (mark close) 0) ≡ true → (b ≡ true) × (close ≡ false)
own_open true false e = (refl, refl)
own_open true true e = absurd (false≢true e)
own_open false close e = absurd (false≢true e)

module _ {x : Exchange} {number quote next : ℕ} {o : NewOrder} (entry : Enterable x number quote next o) (shaped : Shaped x) (paid_for : money_refused x o ≡ false) where
  abbrev left : Exchange
  left = exchange_after x o (entered_of x number quote o) next

  same_balance : (a : ℕ) → (holder_at left a).balance ≡ (holder_at x a).balance
  unfolding exchange_after
  same_balance = booked_balance x.accounts (entered_of x number quote o).trades

  abbrev account : ℕ
  account = place_of o.account

  abbrev place : ℕ
  place = place_of o.contract

  -- it was tested with all its lots included
  tested : o.close ≡ false → le_z (pos (included_to x account place o.sell o.lots (length x.listings))) (holder_at x account).balance ≡ true
  unfolding Shaped
  tested e = sym (open_passes x o e entry.passes.account (rw (shaped account entry.passes.account) entry.passes.contract)) ∙ ap not paid_for

  pub open_within : o.close ≡ false → WithinBalance left account
  open_within e =
      rw (same_balance account)
      (less_within (included_to x account place o.sell o.lots (length x.listings)) (charged left account) (holder_at x account).balance
      (rw (eq-eqb account account refl, ap mark e) at (entered_charged entry account entry.passes.account))
      (tested e))

  pub entered_within : (a : ℕ) → a < length x.accounts → Keeps x left a
  entered_within a l =
      by_test (eqb account a && eqb (mark o.close) 0)
      (λ e. λ w. let q = own_open (eqb account a) o.close e in subst (WithinBalance left) (eqb-true account a q.0) (open_within q.1))
      (λ e. keeps_both x left a
      (rw (← none_included x a place o.sell (length x.listings)) (rw e at (entered_charged entry a l)))
      (same_balance a))

pub insert_within : (x : Exchange) → WellFormed x → Shaped x → (o : NewOrder) → first_of (insert_refusals x o) ≡ 0 →
    (o.close ≡ false → WithinBalance (last_of x (inserted x o).stages) (place_of o.account))
    × ((a : ℕ) → a < length x.accounts → Keeps x (last_of x (inserted x o).stages) a)
unfolding inserted insert_refusals order_refusals
insert_within x k shaped o e =
    let entry = insert_enters x o e k in
    let paid_for = (tests x o e).1.1.1.1.1.1.1.0 in
    (open_within entry shaped paid_for, entered_within entry shaped paid_for)

-- ---- a change of a contract's state: the match of an auction

module _ (x : Exchange) (k : WellFormed x) (c : ℕ) (there : c < length x.listings) (phase a : ℕ) (l : a < length x.accounts) where
  abbrev bound : ℕ → ℕ
  bound b = charged_lots (listing_at x c) b (holding_at x.accounts b c)

  now_bounded : Kept (length x.accounts) bound c x.accounts (listing_at x c).buys (listing_at x c).sells
  unfolding charged_lots
  now_bounded b h =
      let q = phases.kept_now x k c there b h in
      record { buy_opens_lem = omega arith; sell_opens_lem = omega arith; buy_closes_lem = q.buy_closes_lem; sell_closes_lem = q.sell_closes_lem }

  abbrev matched : Listing
  matched = listing_matched (listing_at x c) phase (match_of x c)

  lots_matched : charged_lots matched a (holding_at (book_trades x.accounts (match_of x c).trades) a c) ≤ bound a
  unfolding charged_lots listing_matched
  lots_matched = let q = ((phases.match_ok x k c there).holdings bound now_bounded).kept a l in omega (arith, q.buy_opens_lem, q.sell_opens_lem)

  matched_keeps : Keeps x (exchange_matched x c phase (match_of x c)) a
  unfolding exchange_matched listing_matched
  matched_keeps =
      keeps_both x (exchange_matched x c phase (match_of x c)) a
      (relisted_no_more x c matched (match_of x c).trades (exchange_matched x c phase (match_of x c))
      (record { there = there; listings = refl; accounts = refl; here = (phases.match_ok x k c there).here; charge_same = refl }) a lots_matched)
      (booked_balance x.accounts (match_of x c).trades a)

pub phase_within : (x : Exchange) → WellFormed x → (contract phase : ℕ) → first_of ((1 when not (phase_known phase)) ∷ phase_refusals x contract phase) ≡ 0 →
    (a : ℕ) → a < length x.accounts → Keeps x (last_of x (phase_changed x (place_of contract) phase).stages) a
unfolding phase_changed
phase_within x k contract phase e = matched_keeps x k (place_of contract) (phases.passes x contract phase e k).0 phase

-- ---- a quote: the old one goes, the buy is entered, then the sell

module _ (x : Exchange) (k : WellFormed x) (shaped : Shaped x) (q : Offered) (e : first_of (quote_refusals x q) ≡ 0) where
  abbrev empty : Exchange
  empty = without_quote x q

  abbrev buys : Exchange
  buys = with_buy x q

  empty_shaped : Shaped empty
  unfolding without_quote
  empty_shaped = shaped_as (listing_replaced x (place_of q.contract) _) shaped

  buys_shaped : Shaped buys
  unfolding with_buy
  buys_shaped = shaped_as (entered_shape empty (buy_of q) _ _) empty_shaped

  -- of either order, what its list of refusals says of the money
  paid_for : (y : Exchange) (o : NewOrder) → Failed (order_refusals y o) → money_refused y o ≡ false
  unfolding order_refusals
  paid_for y o f = f.1.1.1.1.0

  abbrev here : place_of q.account < length x.accounts
  here = quote.holder x k q e

  abbrev listed : place_of q.contract < length x.listings
  listed = quote.listed x k q e

  abbrev maker : (account_at x.accounts (place_of q.account)).maker ≡ 1
  maker = quote.maker x k q e

  abbrev codes : Failed (order_refusals empty (buy_of q)) × Failed (order_refusals buys (sell_of q))
  codes = quote.codes x k q e

  buy_keeps : (a : ℕ) → a < length empty.accounts → Keeps empty buys a
  unfolding with_buy
  buy_keeps = entered_within (quote.buy_enters x k q here listed maker codes.0) empty_shaped (paid_for empty (buy_of q) codes.0)

  sell_keeps : ((a : ℕ) → a < length buys.accounts → Keeps buys (with_sell x q) a) × WithinBalance (with_sell x q) (place_of q.account)
  unfolding with_sell half
  sell_keeps =
      let entry = quote.sell_enters x k q here listed maker codes.0 codes.1 in
      let money = paid_for buys (sell_of q) codes.1 in
      (entered_within entry buys_shaped money, open_within entry buys_shaped money refl)

  pub quote_within : WithinBalance (last_of x (quoted x q).stages) (place_of q.account) × ((a : ℕ) → a < length x.accounts → Keeps x (last_of x (quoted x q).stages) a)
  unfolding quoted without_quote
  quote_within = (
    sell_keeps.1,
    λ a l w. sell_keeps.0 a (rw (quote.buy_accounts x k q here listed maker codes.0) l)
        (buy_keeps a (rw (quote.gone_accounts x k q here listed) l) (without_keeps x (place_of q.contract) listed a _ w)),
  )

-- ---- a change of a resting order

module _ (x : Exchange) (k : WellFormed x) (shaped : Shaped x) (c : Asked) (e : first_of (change_refusals x c) ≡ 0) (n : Counted x) where
  abbrev there : place_of c.contract < length x.listings
  there = change.there x k c e

  gone_shaped : Shaped (gone x c)
  unfolding gone
  gone_shaped = shaped_as (listing_replaced x (place_of c.contract) _) shaped

  gone_within : (a : ℕ) → Keeps x (gone x c) a
  unfolding gone
  gone_within a = without_keeps x (place_of c.contract) there a (has_number c.number)

  module _ (lost : loses_place x c ≡ true) where
    lost_within : (not (eqb (old_order x c).close 1) ≡ true → WithinBalance (last_of x (place_lost x c).stages) (place_of c.account))
        × ((a : ℕ) → a < length x.accounts → Keeps x (last_of x (place_lost x c).stages) a)
    unfolding place_lost reentered gone arriving
    lost_within =
        let entry = change.reenters x k c e lost n in
        let money = (change.reentry_passed x k c e lost).1.0 in
        (λ o. open_within entry gone_shaped money (not-true _ o), λ a l w. entered_within entry gone_shaped money a l (gone_within a w))

  pub change_opened : loses_place x c ≡ true → not (eqb (old_order x c).close 1) ≡ true → WithinBalance (last_of x (changed x c).stages) (place_of c.account)
  change_opened lost o =
      changed_either x c (λ ts f. WithinBalance (last_of x f.stages) (place_of c.account))
      (λ q. absurd (eqb-false c.lots 0 (change.some x k c e lost) q))
      (λ q. (lost_within q).0 o)
      (λ q r. absurd (true≢false (sym lost ∙ q)))
      (λ q r s. absurd (true≢false (sym lost ∙ r)))

  pub change_within : (a : ℕ) → a < length x.accounts → Keeps x (last_of x (changed x c).stages) a
  unfolding cancelled unchanged place_kept
  change_within a l =
      changed_either x c (λ ts f. Keeps x (last_of x f.stages) a)
      (λ q. removal_keeps x (place_of c.contract) there a (has_number c.number) c.number)
      (λ q. (lost_within q).1 a l)
      (λ q r w. w)
      (λ q r s. fewer_keeps x (place_of c.contract) there a _ refl (λ close b. change.less_resting x k c e q r close b false) (λ close b. change.less_resting x k c e q r close b true))
