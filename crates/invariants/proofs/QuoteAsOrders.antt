-- A QUOTE IS ITS ORDERS ONE AFTER THE OTHER (document 02, ticket 7): marks aside, a quote that passes 24 gets the code, the lots and the state
-- of these commands: cancel what is left of the old quote (no, one or two orders), insert the buy, insert the sell; and it is refused with
-- the first code that any of them gets. Assumes nothing.
use lib.Seq.{set-set}
use Rattle.laws.specs.Logic.{Bool, true, false, List, [], ◌∷◌, ◌++◌, map, append-nil, ◌≡◌, refl, sym, ap, ◌∙◌}
use Rattle.laws.specs.Numbers.{ℕ, ◌+◌, ◌<◌, ◌≤◌, arith, eqb-true, eqb-false, eqb, ltb, length, length-set, get_or-set_same, set-get_or}
use Rattle.laws.specs.Choice.{pick, all_of, all_of_append, both_true}
use Rattle.laws.specs.Sums.{sum_of_append, sum_of_at}
use Rattle.rules.specs.Answers.{cancel_refusals, first_of, insert_refusals, listing_of, order_refusals, pull_refusals, removal_refused, resting_order, takes_orders}
use Rattle.rules.specs.Bounds.{continuous}
use Rattle.rules.specs.Exchange.{Exchange, Listing, absent, account_at, listing_at, no_listing, place_of}
use Rattle.rules.specs.Kinds.{code_of, decide, kind_of, last_of, step}
use Rattle.rules.specs.Matching.{Entered, traded_lots}
use Rattle.rules.specs.Quote.{Offered, buy_of, half, offered, quote_refusals, quoted, sell_entered, sell_of, with_buy, with_sell, without_quote}
use Rattle.rules.specs.Step.{answer_of, cancelled, entered_of, exchange_after, has_number, inserted, listing_after, listing_without, removed, with_listing}
use Rattle.rules.specs.WellFormed.{all_numbers, is_quote_of, number_of, quotes, well_formed_contents}
use Rattle.rules.specs.declared.Answer.{Answer}
use Rattle.rules.specs.declared.{Command.Command, NewOrder.NewOrder, Order.Order}
use Rattle.rules.specs.declared.Command.TheVariants.{Insert, Cancel, Quote}
use Rattle.theory.proofs.Holdings.{length_book_trades}
use Rattle.theory.proofs.WithoutMarks.{after_unmarked, entered_unmarked, plain_entered, refusals_unmarked, without_marks}
use Rattle.theory.proofs.Refusals.{first_append, present}
use Rattle.invariants.proofs.Clauses.{WellFormed, well_formed}
use Rattle.invariants.proofs.Numbers.{all_uses, once_count, uses, uses_in}
use Rattle.invariants.proofs.Removal.{removed_keeps}
use Rattle.invariants.proofs.Singly.{first_satisfies, first_used, only, only_append, only_count, others_left, own_found, satisfies, twice, used_found, without_append, without_none}

-- ---- commands one after the other: the state that they leave, and the first code that is none of them all

unfoldable pub step_all : Exchange → List Command → Exchange
step_all x [] = x
step_all x (d ∷ ds) = step_all (step x d) ds

unfoldable pub first_code : Exchange → List Command → ℕ
first_code x [] = 0
first_code x (d ∷ ds) = pick (eqb (code_of x d) 0) (first_code (step x d) ds) (code_of x d)

-- ---- the commands

-- what is left of the old quote, buys first
unfoldable pub quote_left : Exchange → Offered → List Order
quote_left x q = only (is_quote_of (place_of q.account)) ((listing_at x (place_of q.contract)).buys ++ (listing_at x (place_of q.contract)).sells)

abbrev pub cancel_of : Offered → Order → Command
cancel_of q o = Cancel q.account q.contract false o.number

abbrev pub inserts_of : Offered → List Command
inserts_of q = Insert (buy_of q) ∷ Insert (sell_of q) ∷ []

abbrev pub orders_of : Exchange → Offered → List Command
orders_of x q = map (cancel_of q) (quote_left x q) ++ inserts_of q

-- the states in which the buy and the sell are inserted, and what an insert is answered
abbrev pub before_buy : Exchange → Offered → Exchange
before_buy x q = step_all x (map (cancel_of q) (quote_left x q))

abbrev pub before_sell : Exchange → Offered → Exchange
before_sell x q = step (before_buy x q) (Insert (buy_of q))

abbrev pub answered : Exchange → NewOrder → Answer
answered x o = (decide x (Insert o)).answer

-- "The C line gives the buy's number; its lots are summed over both."
abbrev pub summed : Answer → Answer → Answer
summed first second = answer_of 0 first.number (first.traded + second.traded) (first.lots + second.lots)

-- a quote that passes 24
pub record Passes24 (x : Exchange) (q : Offered) : Type 0 where
  pub account : absent q.account x.accounts ≡ false
  pub contract : absent q.contract x.listings ≡ false
  pub open' : eqb (listing_at x (place_of q.contract)).contract.phase continuous ≡ true
  pub maker : (account_at x.accounts (place_of q.account)).maker ≡ 1
  pub below : ltb q.buy q.sell ≡ true

-- A QUOTE AND ITS ORDERS: the same code, and where it is 0 the same answer and the same state, marks aside
pub record AsOrders (x : Exchange) (account contract lots buy sell : ℕ) : Type 0 where
  pub code : code_of x (Quote account contract lots buy sell) ≡ first_code x (orders_of x (offered account contract lots buy sell))
  pub answer : code_of x (Quote account contract lots buy sell) ≡ 0 → (decide x (Quote account contract lots buy sell)).answer
      ≡ summed (answered (before_buy x (offered account contract lots buy sell)) (buy_of (offered account contract lots buy sell)))
      (answered (before_sell x (offered account contract lots buy sell)) (sell_of (offered account contract lots buy sell)))
  pub state : code_of x (Quote account contract lots buy sell) ≡ 0 →
      without_marks (step x (Quote account contract lots buy sell)) ≡ without_marks (step_all x (orders_of x (offered account contract lots buy sell)))

-- an accepted command does what its kind does
accepted_step : (x : Exchange) (d : Command) → code_of x d ≡ 0 → step x d ≡ last_of x (kind_of x d).effect.stages
unfolding step decide
accepted_step x d e = rw e refl

-- ---- the cancels

append_none : (os ps : List Order) → os ++ ps ≡ [] → (os ≡ []) × (ps ≡ [])
append_none [] ps e = (refl, e)
append_none (o ∷ os) ps e = let z : ◌≡◌ {A = ℕ} 0 1 = cc in absurd (omega arith)

module _ (x : Exchange) (w : WellFormed x) (q : Offered) (p : Passes24 x q) where
  abbrev place : ℕ
  place = place_of q.contract

  abbrev account : ℕ
  account = place_of q.account

  abbrev both : List Order
  both = (listing_at x place).buys ++ (listing_at x place).sells

  there : place < length x.listings
  there = present q.contract x.listings p.contract

  used_once_lem : (n : ℕ) → uses number_of n both ≤ 1
  unfolding uses uses_in listing_at
  used_once_lem n =
      omega (
        arith,
        sum_of_append (λ o. pick (eqb n o.number) 1 0) (listing_at x place).buys (listing_at x place).sells,
        once_count (all_numbers x.listings) w.once n,
        all_uses number_of n x.listings,
        sum_of_at (uses_in number_of n) x.listings place no_listing there,
      )

  -- no, one or two orders
  pub at_most_two : length (quote_left x q) ≤ 2
  unfolding quote_left quotes
  at_most_two =
      omega (
        arith,
        only_count (is_quote_of account) both,
        sum_of_append (λ o. pick (is_quote_of account o) 1 0) (listing_at x place).buys (listing_at x place).sells,
        (w.marks place there false).single account (present q.account x.accounts p.account),
        (w.marks place there true).single account (present q.account x.accounts p.account),
      )

  -- none is left: the state is as it is
  none_left : quote_left x q ≡ [] → without_quote x q ≡ x
  unfolding quote_left without_quote listing_at
  none_left e =
      let k = append_none (only (is_quote_of account) (listing_at x place).buys) _ (sym (only_append (is_quote_of account) (listing_at x place).buys (listing_at x place).sells) ∙ e) in
      rw (without_none (is_quote_of account) (listing_at x place).buys k.0, without_none (is_quote_of account) (listing_at x place).sells k.1, set-get_or x.listings place no_listing) refl

  -- the first that is left
  module _ (o : Order) (os : List Order) (e : quote_left x q ≡ o ∷ os) where
    abbrev rest : Listing
    rest = listing_without (has_number o.number) (listing_at x place)

    abbrev after : Exchange
    after = with_listing x place rest

    its_own : all_of (satisfies (is_quote_of account) o.number) both ≡ true
    unfolding quote_left
    its_own = first_satisfies (is_quote_of account) o os both e (used_once_lem o.number)

    cancel_code : code_of x (cancel_of q o) ≡ 0
    unfolding code_of kind_of cancel_refusals pull_refusals first_of resting_order removal_refused quote_left
    cancel_code =
        rw (
          p.account,
          p.contract,
          p.open',
          used_found (is_quote_of account) o.number both (first_used (is_quote_of account) o os both e),
          own_found (is_quote_of account) o.number account (λ r h. (both_true (eqb r.account account) (eqb r.quote 1) h).0) both its_own,
        ) refl

    cancel_step : step x (cancel_of q o) ≡ after
    cancel_step = accepted_step x (cancel_of q o) cancel_code ∙ (unfold kind_of cancelled removed in refl)

    after_keeps : WellFormed after
    unfolding removed
    after_keeps = removed_keeps (has_number o.number) x place there o.number w

    after_listing : listing_at after place ≡ rest
    unfolding listing_at
    after_listing = get_or-set_same x.listings place rest no_listing there

    after_left : quote_left after q ≡ os
    unfolding quote_left
    after_left =
        rw (after_listing, ← without_append (has_number o.number) (listing_at x place).buys (listing_at x place).sells)
        (others_left (is_quote_of account) o os both e (used_once_lem o.number))

    after_same : without_quote after q ≡ without_quote x q
    unfolding without_quote
    after_same =
        let k = both_true (all_of (satisfies (is_quote_of account) o.number) (listing_at x place).buys) _ (rw (all_of_append (satisfies (is_quote_of account) o.number) (listing_at x place).buys (listing_at x place).sells) at its_own) in
        rw (after_listing, set-set x.listings place rest (listing_without (is_quote_of account) rest), twice (is_quote_of account) o.number (listing_at x place).buys k.0, twice (is_quote_of account) o.number (listing_at x place).sells k.1) refl

    after_passes : Passes24 after q
    after_passes =
        record {
          account = p.account;
          contract = unfold absent in rw (length-set x.listings place rest) p.contract;
          open' = rw after_listing p.open';
          maker = p.maker;
          below = p.below;
        }

-- the cancels are all accepted, and leave the state without the old quote
cancels : (q : Offered) (os : List Order) (x : Exchange) → WellFormed x → Passes24 x q → quote_left x q ≡ os → (ds : List Command) →
    (first_code x (map (cancel_of q) os ++ ds) ≡ first_code (without_quote x q) ds) × (step_all x (map (cancel_of q) os ++ ds) ≡ step_all (without_quote x q) ds)
unfolding first_code step_all
cancels q [] x w p e ds = (ap (λ (y : Exchange). first_code y ds) (sym (none_left x w q p e)), ap (λ (y : Exchange). step_all y ds) (sym (none_left x w q p e)))
cancels q (o ∷ os) x w p e ds =
    let ih = cancels q os (after x w q p o os e) (after_keeps x w q p o os e) (after_passes x w q p o os e) (after_left x w q p o os e) ds in
    let same = after_same x w q p o os e in (
      rw (cancel_code x w q p o os e, cancel_step x w q p o os e) (ih.0 ∙ ap (λ (y : Exchange). first_code y ds) same),
      ap (λ (y : Exchange). step_all y (map (cancel_of q) os ++ ds)) (cancel_step x w q p o os e) ∙ ih.1 ∙ ap (λ (y : Exchange). step_all y ds) same,
    )

-- ---- the inserts

abbrev inserted_to : Exchange → ℕ → NewOrder → Exchange
inserted_to x quote o = exchange_after x o (entered_of x x.next quote o) (x.next + 1)

insert_step : (x : Exchange) (o : NewOrder) → code_of x (Insert o) ≡ 0 → step x (Insert o) ≡ inserted_to x 0 o
insert_step x o e = accepted_step x (Insert o) e ∙ (unfold kind_of inserted in refl)

abbrev answer_for : Exchange → NewOrder → Answer
answer_for x o = answer_of 0 x.next (traded_lots (entered_of x x.next 0 o).trades) (entered_of x x.next 0 o).rested

insert_answer : (x : Exchange) (o : NewOrder) → code_of x (Insert o) ≡ 0 → (decide x (Insert o)).answer ≡ answer_for x o
unfolding kind_of inserted decide
insert_answer x o e = rw e refl

-- marked or not, it is entered alike, marks aside
same_entered : (x : Exchange) (number quote : ℕ) (o : NewOrder) → plain_entered (entered_of x number quote o) ≡ plain_entered (entered_of x number 0 o)
same_entered x number quote o = sym (entered_unmarked x o number quote) ∙ entered_unmarked x o number 0

-- on two states alike but for marks
module _ (x y : Exchange) (e : without_marks x ≡ without_marks y) (o : NewOrder) where
  same_refusals : order_refusals x o ≡ order_refusals y o
  same_refusals = sym (refusals_unmarked x o) ∙ ap (λ (z : Exchange). order_refusals z o) e ∙ refusals_unmarked y o

  same_results : (number quote : ℕ) → plain_entered (entered_of x number quote o) ≡ plain_entered (entered_of y number 0 o)
  same_results number quote = sym (entered_unmarked x o number quote) ∙ ap (λ (z : Exchange). entered_of z number 0 o) e ∙ entered_unmarked y o number 0

  same_after : (number quote next : ℕ) → without_marks (exchange_after x o (entered_of x number quote o) next) ≡ without_marks (exchange_after y o (entered_of y number 0 o) next)
  same_after number quote next =
      after_unmarked x o number quote next ∙ ap (λ (z : Exchange). exchange_after z o (entered_of z number 0 o) next) e
      ∙ sym (after_unmarked y o number 0 next)

module _ (x : Exchange) (w : WellFormed x) (account contract lots buy sell : ℕ) (p : Passes24 x (offered account contract lots buy sell)) where
  abbrev q : Offered
  q = offered account contract lots buy sell

  abbrev gone : Exchange
  gone = without_quote x q

  abbrev spot : ℕ
  spot = place_of contract

  -- the state that the insert of the buy leaves, without its mark
  abbrev bought : Exchange
  bought = inserted_to gone 0 (buy_of q)

  bought_alike : without_marks (with_buy x q) ≡ without_marks bought
  unfolding with_buy
  bought_alike = same_after gone gone refl (buy_of q) gone.next 1 (gone.next + 1)

  gone_there : spot < length gone.listings
  unfolding without_quote
  gone_there = rw (length-set x.listings spot _) (present contract x.listings p.contract)

  gone_contract : absent contract gone.listings ≡ false
  unfolding absent without_quote
  gone_contract = rw (length-set x.listings spot _) p.contract

  gone_open : eqb (listing_at gone spot).contract.phase continuous ≡ true
  unfolding without_quote listing_at
  gone_open = rw (get_or-set_same x.listings spot (listing_without (is_quote_of (place_of account)) (listing_at x spot)) no_listing (present contract x.listings p.contract)) p.open'

  buy_code : code_of gone (Insert (buy_of q)) ≡ first_of (order_refusals gone (buy_of q))
  unfolding half listing_of without_quote code_of kind_of insert_refusals first_of takes_orders
  buy_code = rw (p.account, gone_contract, gone_open) refl

  bought_account : absent account bought.accounts ≡ false
  unfolding absent exchange_after without_quote
  bought_account = rw (length_book_trades x.accounts (entered_of gone gone.next 0 (buy_of q)).trades) p.account

  bought_contract : absent contract bought.listings ≡ false
  unfolding absent exchange_after half
  bought_contract = rw (length-set gone.listings spot (listing_after (listing_of gone (buy_of q)) false (entered_of gone gone.next 0 (buy_of q)))) gone_contract

  bought_open : eqb (listing_at bought spot).contract.phase continuous ≡ true
  unfolding exchange_after half listing_at listing_after listing_of
  bought_open =
      rw (get_or-set_same gone.listings spot (listing_after (listing_of gone (buy_of q)) false (entered_of gone gone.next 0 (buy_of q))) no_listing gone_there) gone_open

  sell_code : code_of bought (Insert (sell_of q)) ≡ first_of (order_refusals (with_buy x q) (sell_of q))
  unfolding half listing_of code_of kind_of insert_refusals first_of takes_orders
  sell_code = (rw (bought_account, bought_contract, bought_open) refl) ∙ ap first_of (sym (same_refusals (with_buy x q) bought bought_alike (sell_of q)))

  -- ---- the code

  quote_code : code_of x (Quote account contract lots buy sell) ≡ first_of (order_refusals gone (buy_of q) ++ order_refusals (with_buy x q) (sell_of q))
  unfolding code_of kind_of quote_refusals first_of
  quote_code = rw (p.account, p.contract, p.open', p.maker, p.below) refl

  none_or_it : (n : ℕ) → pick (eqb n 0) 0 n ≡ n
  none_or_it n = by_zero (eqb n 0) refl
    where
      by_zero : (b : Bool) → eqb n 0 ≡ b → pick b 0 n ≡ n
      by_zero true e = sym (eqb-true n 0 e)
      by_zero false e = refl

  inserts_code : first_code gone (inserts_of q) ≡ pick (eqb (first_of (order_refusals gone (buy_of q))) 0) (first_of (order_refusals (with_buy x q) (sell_of q))) (first_of (order_refusals gone (buy_of q)))
  unfolding first_code
  inserts_code = rw buy_code (by_buy_code (eqb (first_of (order_refusals gone (buy_of q))) 0) refl)
    where
      by_buy_code : (b : Bool) → eqb (first_of (order_refusals gone (buy_of q))) 0 ≡ b →
          pick b (first_code (step gone (Insert (buy_of q))) (Insert (sell_of q) ∷ [])) (first_of (order_refusals gone (buy_of q)))
          ≡ pick b (first_of (order_refusals (with_buy x q) (sell_of q))) (first_of (order_refusals gone (buy_of q)))
      by_buy_code true e =
          ap (λ (y : Exchange). first_code y (Insert (sell_of q) ∷ [])) (insert_step gone (buy_of q) (buy_code ∙ eqb-true _ 0 e))
          ∙ none_or_it (code_of bought (Insert (sell_of q))) ∙ sell_code
      by_buy_code false e = refl

  -- ---- the two inserts, where both are accepted

  both_accepted : code_of x (Quote account contract lots buy sell) ≡ 0 → (code_of gone (Insert (buy_of q)) ≡ 0) × (code_of bought (Insert (sell_of q)) ≡ 0)
  unfolding order_refusals
  both_accepted e =
      let k = first_zero (first_of (order_refusals gone (buy_of q))) (first_of (order_refusals (with_buy x q) (sell_of q)))
      (sym (first_append (order_refusals gone (buy_of q)) (order_refusals (with_buy x q) (sell_of q)) (omega arith)) ∙ sym quote_code ∙ e) in
      (buy_code ∙ k.0, sell_code ∙ k.1)
    where
      first_zero : (m n : ℕ) → pick (eqb m 0) n m ≡ 0 → (m ≡ 0) × (n ≡ 0)
      first_zero m n h = by_zero (eqb m 0) refl h
        where
          by_zero : (b : Bool) → eqb m 0 ≡ b → pick b n m ≡ 0 → (m ≡ 0) × (n ≡ 0)
          by_zero true f h = (eqb-true m 0 f, h)
          by_zero false f h = absurd (eqb-false m 0 f h)

  inserts_state : code_of x (Quote account contract lots buy sell) ≡ 0 → step_all gone (inserts_of q) ≡ inserted_to bought 0 (sell_of q)
  unfolding step_all
  inserts_state e =
      ap (λ (y : Exchange). step y (Insert (sell_of q))) (insert_step gone (buy_of q) (both_accepted e).0) ∙ insert_step bought (sell_of q) (both_accepted e).1

  same_next : (with_buy x q).next ≡ bought.next
  unfolding with_buy exchange_after
  same_next = refl

  sold_alike : without_marks (with_sell x q) ≡ without_marks (inserted_to bought 0 (sell_of q))
  unfolding with_sell
  sold_alike =
      ap (λ (n : ℕ). without_marks (exchange_after (with_buy x q) (sell_of q) (entered_of (with_buy x q) n 1 (sell_of q)) (n + 1))) same_next
      ∙ same_after (with_buy x q) bought bought_alike (sell_of q) bought.next 1 (bought.next + 1)

  -- ---- the theorem

  before_buy_lem : before_buy x q ≡ gone
  before_buy_lem =
      ap (step_all x) (sym (append-nil (map (cancel_of q) (quote_left x q)))) ∙ (cancels q (quote_left x q) x w p refl []).1 ∙ (unfold step_all in refl)

  before_sell_lem : code_of x (Quote account contract lots buy sell) ≡ 0 → before_sell x q ≡ bought
  before_sell_lem e = ap (λ (y : Exchange). step y (Insert (buy_of q))) before_buy_lem ∙ insert_step gone (buy_of q) (both_accepted e).0

  -- by the trades and the rested lots alone
  abbrev told : Entered → Entered → Answer
  told d e = answer_of 0 gone.next (traded_lots d.trades + traded_lots e.trades) (d.rested + e.rested)

  same_code : code_of x (Quote account contract lots buy sell) ≡ first_code x (orders_of x q)
  unfolding order_refusals
  same_code =
      quote_code ∙ first_append (order_refusals gone (buy_of q)) (order_refusals (with_buy x q) (sell_of q)) (omega arith) ∙ sym inserts_code
      ∙ sym (cancels q (quote_left x q) x w p refl (inserts_of q)).0

  module _ (e : code_of x (Quote account contract lots buy sell) ≡ 0) where
    quote_step : step x (Quote account contract lots buy sell) ≡ with_sell x q
    unfolding kind_of quoted
    quote_step = accepted_step x (Quote account contract lots buy sell) e

    same_state : without_marks (step x (Quote account contract lots buy sell)) ≡ without_marks (step_all x (orders_of x q))
    same_state =
        ap without_marks quote_step ∙ sold_alike ∙ ap without_marks (sym (inserts_state e) ∙ sym (cancels q (quote_left x q) x w p refl (inserts_of q)).1)

    same_answer : (decide x (Quote account contract lots buy sell)).answer ≡ summed (answered (before_buy x q) (buy_of q)) (answered (before_sell x q) (sell_of q))
    unfolding kind_of quoted without_quote decide
    same_answer =
        rw e refl ∙ ap (λ (d : Entered). told d (plain_entered (sell_entered x q))) (same_entered gone gone.next 1 (buy_of q))
        ∙ ap (told (entered_of gone gone.next 0 (buy_of q)))
        (ap (λ (n : ℕ). plain_entered (entered_of (with_buy x q) n 1 (sell_of q))) same_next ∙ same_results (with_buy x q) bought bought_alike (sell_of q) bought.next 1)
        ∙ sym (ap (λ (a : Answer). summed a (answered (before_sell x q) (sell_of q))) (ap (λ (y : Exchange). answered y (buy_of q)) before_buy_lem ∙ insert_answer gone (buy_of q) (both_accepted e).0)
        ∙ ap (summed (answer_for gone (buy_of q))) (ap (λ (y : Exchange). answered y (sell_of q)) (before_sell_lem e) ∙ insert_answer bought (sell_of q) (both_accepted e).1))

pub quote_as_orders : (x : Exchange) → well_formed_contents x ≡ true → (account contract lots buy sell : ℕ) → Passes24 x (offered account contract lots buy sell) →
    AsOrders x account contract lots buy sell
quote_as_orders x h account contract lots buy sell p = search (same_code, well_formed, same_answer, same_state) depth 12
