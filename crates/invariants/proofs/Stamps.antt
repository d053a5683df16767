-- Which orders may rest after a command, and with which time stamps: those that rested before with their numbers and time stamps, and those
-- that it enters. What each kind enters stands in `EachKind`. Where every time stamp is the order's number, price and time stamp are price
-- and number. Assumes nothing.
use Rattle.laws.specs.Logic.{Bool, true, false, ◌&&◌, ◌||◌, false≢true, List, [], ◌∷◌, ◌≡◌, refl, sym, ◌∙◌}
use Rattle.laws.specs.Numbers.{ℕ, zero, suc, ◌+◌, ◌≤◌, le_refl, arith, eqb-true, eq-eqb, eqb, ltb, length, get_or}
use Rattle.laws.specs.Choice.{all_of, all_of_imp, both_true, true_both, true_either, either_true, for_either}
use Rattle.laws.specs.Tabulate.{tabulate}
use Rattle.rules.specs.Answers.{numbers_used_up, stamps_used_up, taker_of}
use Rattle.rules.specs.Auction.{match_of}
use Rattle.rules.specs.Change.{Asked, arriving, changed, gone, place_kept, place_lost, reentered, unchanged}
use Rattle.rules.specs.Exchange.{Exchange, Listing, listing_at, no_listing, own, place_of, worse}
use Rattle.rules.specs.Kinds.{last_of}
use Rattle.rules.specs.Matching.{remainder}
use Rattle.rules.specs.Quote.{Offered, buy_of, quoted, sell_of, with_buy, with_sell, without_quote}
use Rattle.rules.specs.Settlement.{settled, settled_listing}
use Rattle.rules.specs.Step.{cancelled, entered_of, exchange_after, exchange_matched, has_number, listing_without, removed, with_listing}
use Rattle.rules.specs.WellFormed.{ahead, is_quote_of}
use Rattle.rules.specs.declared.{NewOrder.NewOrder, Order.Order}
use Rattle.theory.proofs.AuctionTaken.{KeptWithFewer}
use Rattle.theory.proofs.Changes.{changed_either}
use Rattle.invariants.proofs.AllResting.{entered_resting, lessened_resting, matched_resting, without_resting}

-- ---- which orders there may be after a step

-- an order with this number and this time stamp rests in the queue
unfoldable pub rests_in : List Order → ℕ → ℕ → Bool
rests_in [] number stamp = false
rests_in (o ∷ os) number stamp = eqb o.number number && eqb o.stamp stamp || rests_in os number stamp

-- the order number and the time stamp that an order arrives with, and a test for one of those given
infix 20 ◌stamped◌
pub data Stamped : Type 0 where
  ◌stamped◌ : ℕ → ℕ → Stamped

unfoldable pub among : List Stamped → ℕ → ℕ → Bool
among [] number stamp = false
among ((n stamped s) ∷ gs) number stamp = eqb number n && eqb stamp s || among gs number stamp

-- it rested before in its queue, or has a number and a time stamp that the command gives
abbrev pub follows : Exchange → List Stamped → ℕ → Bool → Order → Bool
follows x new c sell o = rests_in (own sell (listing_at x c)) o.number o.stamp || among new o.number o.stamp

abbrev pub Follow : Exchange → List Stamped → Exchange → Type 0
Follow x new y = (c : ℕ) (sell : Bool) → all_of (follows x new c sell) (own sell (listing_at y c)) ≡ true

-- .. and the next time stamp does not fall
abbrev pub Onward : Exchange → List Stamped → Exchange → Type 0
Onward x new y = Follow x new y × (x.nextstamp ≤ y.nextstamp)

among_first : (n s : ℕ) (gs : List Stamped) → among ((n stamped s) ∷ gs) n s ≡ true
unfolding among
among_first n s gs = rw (eq-eqb n n refl, eq-eqb s s refl) refl

among_later : (g : Stamped) (n s : ℕ) (gs : List Stamped) → among gs n s ≡ true → among (g ∷ gs) n s ≡ true
unfolding among
among_later (m stamped t) n s gs h = either_true (eqb n m && eqb s t) (among gs n s) h

-- ---- those that rested before

all_rest : (queue : List Order) → all_of (λ o. rests_in queue o.number o.stamp) queue ≡ true
unfolding all_of rests_in
all_rest [] = refl
all_rest (o ∷ os) =
    true_both (eqb o.number o.number && eqb o.stamp o.stamp || rests_in os o.number o.stamp) _
    (true_either (eqb o.number o.number && eqb o.stamp o.stamp) _
    (true_both (eqb o.number o.number) (eqb o.stamp o.stamp) (eq-eqb o.number o.number refl) (eq-eqb o.stamp o.stamp refl)))
    (all_of_imp (λ p. rests_in os p.number p.stamp) (λ p. rests_in (o ∷ os) p.number p.stamp) os
    (λ p h. either_true (eqb o.number p.number && eqb o.stamp p.stamp) (rests_in os p.number p.stamp) h) (all_rest os))

module _ (x : Exchange) (new : List Stamped) where
  pub same_follow : Follow x new x
  same_follow c sell =
      all_of_imp (λ o. rests_in (own sell (listing_at x c)) o.number o.stamp) (follows x new c sell) (own sell (listing_at x c))
      (λ o h. true_either (rests_in (own sell (listing_at x c)) o.number o.stamp) (among new o.number o.stamp) h) (all_rest (own sell (listing_at x c)))

  -- neither number nor time stamp goes by the lots
  follows_lots : (c : ℕ) (sell : Bool) → KeptWithFewer (follows x new c sell)
  follows_lots c sell o n low high h = h

  pub without_follow : (d : ℕ) (test : Order → Bool) → Follow x new (with_listing x d (listing_without test (listing_at x d)))
  without_follow d test = without_resting (follows x new) follows_lots x same_follow d test

  -- an order entered, in a state whose orders follow
  entered_follow : (y : Exchange) → Follow x new y → (number quote : ℕ) → among new number y.nextstamp ≡ true → (o : NewOrder) (next : ℕ) → Follow x new (exchange_after y o (entered_of y number quote o) next)
  unfolding taker_of remainder
  entered_follow y h number quote given o next =
      entered_resting (follows x new) follows_lots y h number quote o
      (λ price lots. either_true (rests_in (own o.sell (listing_at x (place_of o.contract))) number y.nextstamp) (among new number y.nextstamp) given) next

  pub match_follow : (d phase : ℕ) → Follow x new (exchange_matched x d phase (match_of x d))
  match_follow d phase = matched_resting (follows x new) follows_lots x same_follow d phase

  -- a change
  module _ (k : Asked) where
    gone_follow : Follow x new (gone x k)
    unfolding gone
    gone_follow = without_follow (place_of k.contract) (has_number k.number)

    gone_stamps : (gone x k).nextstamp ≡ x.nextstamp
    unfolding gone
    gone_stamps = refl

    kept_follow : Follow x new (last_of x (place_kept x k).stages)
    kept_follow = lessened_resting (follows x new) follows_lots x same_follow k (λ sell o. refl)

-- ---- what an insert, a change and a quote enter

pub insert_onward : (x : Exchange) (o : NewOrder) → Onward x ((x.next stamped x.nextstamp) ∷ []) (exchange_after x o (entered_of x x.next 0 o) (x.next + 1))
unfolding exchange_after
insert_onward x o = (entered_follow x new x (same_follow x new) x.next 0 (among_first x.next x.nextstamp []) o (x.next + 1), omega arith)
  where
    new : List Stamped
    new = (x.next stamped x.nextstamp) ∷ []

pub change_onward : (x : Exchange) (k : Asked) → Onward x ((k.number stamped x.nextstamp) ∷ []) (last_of x (changed x k).stages)
unfolding cancelled removed place_lost unchanged reentered place_kept exchange_after gone
change_onward x k =
    changed_either x k (λ ts e. Onward x new (last_of x e.stages))
    (λ e. (without_follow x new (place_of k.contract) (has_number k.number), le_refl x.nextstamp))
    (λ e. (entered_follow x new (gone x k) (gone_follow x new k) k.number 0 (rw (gone_stamps x new k) (among_first k.number x.nextstamp [])) (arriving x k) x.next, omega arith))
    (λ e f. (same_follow x new, le_refl x.nextstamp))
    (λ e f g. (kept_follow x new k, le_refl x.nextstamp))
  where
    new : List Stamped
    new = (k.number stamped x.nextstamp) ∷ []

-- a quote: the old one gone, the buy entered, the sell entered
pub quote_onward : (x : Exchange) (q : Offered) → Onward x ((x.next stamped x.nextstamp) ∷ (x.next + 1 stamped x.nextstamp + 1) ∷ []) (last_of x (quoted x q).stages)
unfolding quoted with_sell with_buy without_quote exchange_after
quote_onward x q = (sell_follow, omega arith)
  where
    new : List Stamped
    new = (x.next stamped x.nextstamp) ∷ (x.next + 1 stamped x.nextstamp + 1) ∷ []

    buy_follow : Follow x new (with_buy x q)
    buy_follow =
        entered_follow x new (without_quote x q) (without_follow x new (place_of q.contract) (is_quote_of (place_of q.account))) x.next 1
        (among_first x.next x.nextstamp _) (buy_of q) (x.next + 1)

    sell_follow : Follow x new (with_sell x q)
    sell_follow =
        entered_follow x new (with_buy x q) buy_follow (x.next + 1) 1
        (among_later (x.next stamped x.nextstamp) (x.next + 1) (x.nextstamp + 1) _ (among_first (x.next + 1) (x.nextstamp + 1) [])) (sell_of q) (x.next + 1 + 1)

-- ---- where every time stamp is the order's number

abbrev pub stamp_is_number : Order → Bool
stamp_is_number o = eqb o.stamp o.number

pub record StampsAsNumbers (x : Exchange) : Type 0 where
  pub next : x.nextstamp ≡ x.next
  pub orders : (c : ℕ) (sell : Bool) → all_of stamp_is_number (own sell (listing_at x c)) ≡ true

rests_stamped : (queue : List Order) (number stamp : ℕ) → all_of stamp_is_number queue ≡ true → rests_in queue number stamp ≡ true → eqb stamp number ≡ true
unfolding all_of rests_in
rests_stamped [] number stamp h e = absurd (false≢true e)
rests_stamped (o ∷ os) number stamp h e = by_number_and_stamp (eqb o.number number && eqb o.stamp stamp) refl (rests_stamped os number stamp q.1) e
  where
    q : (stamp_is_number o ≡ true) × (all_of stamp_is_number os ≡ true)
    q = both_true (stamp_is_number o) (all_of stamp_is_number os) h

    by_number_and_stamp : (b : Bool) → (eqb o.number number && eqb o.stamp stamp) ≡ b → (rests_in os number stamp ≡ true → eqb stamp number ≡ true) → (b || rests_in os number stamp) ≡ true →
        eqb stamp number ≡ true
    by_number_and_stamp true f ih e =
        let p = both_true (eqb o.number number) (eqb o.stamp stamp) f in
        eq-eqb stamp number (sym (eqb-true o.stamp stamp p.1) ∙ eqb-true o.stamp o.number q.0 ∙ eqb-true o.number number p.0)
    by_number_and_stamp false f ih e = ih e

-- each number given is its time stamp
abbrev pub Alike : List Stamped → Type 0
Alike [] = Unit {0}
Alike ((n stamped s) ∷ gs) = (s ≡ n) × Alike gs

among_alike : (gs : List Stamped) → Alike gs → (number stamp : ℕ) → among gs number stamp ≡ true → eqb stamp number ≡ true
unfolding among
among_alike [] a number stamp e = absurd (false≢true e)
among_alike ((n stamped s) ∷ gs) a number stamp e = by_number_and_stamp (eqb number n && eqb stamp s) refl (among_alike gs a.1 number stamp) e
  where
    by_number_and_stamp : (b : Bool) → (eqb number n && eqb stamp s) ≡ b → (among gs number stamp ≡ true → eqb stamp number ≡ true) → (b || among gs number stamp) ≡ true → eqb stamp number ≡ true
    by_number_and_stamp true f ih e =
        let p = both_true (eqb number n) (eqb stamp s) f in
        eq-eqb stamp number (eqb-true stamp s p.1 ∙ a.0 ∙ sym (eqb-true number n p.0))
    by_number_and_stamp false f ih e = ih e

follow_stamped : (x y : Exchange) → StampsAsNumbers x → (new : List Stamped) → Alike new → Follow x new y → (c : ℕ) (sell : Bool) → all_of stamp_is_number (own sell (listing_at y c)) ≡ true
follow_stamped x y h new alike f c sell =
    all_of_imp (follows x new c sell) stamp_is_number (own sell (listing_at y c)) (λ o e. by_resting o (rests_in (own sell (listing_at x c)) o.number o.stamp) refl e) (f c sell)
  where
    by_resting : (o : Order) (b : Bool) → rests_in (own sell (listing_at x c)) o.number o.stamp ≡ b → (b || among new o.number o.stamp) ≡ true → stamp_is_number o ≡ true
    by_resting o true r e = rests_stamped (own sell (listing_at x c)) o.number o.stamp (h.orders c sell) r
    by_resting o false r e = among_alike new alike o.number o.stamp e

-- a settlement leaves no order
settled_none : (n : ℕ) (f : ℕ → Listing) (c : ℕ) (sell : Bool) → ((i : ℕ) → own sell (f i) ≡ []) → own sell (get_or (tabulate n f) c no_listing) ≡ []
unfolding tabulate
settled_none zero f c true h = refl
settled_none zero f c false h = refl
settled_none (suc n) f zero sell h = h zero
settled_none (suc n) f (suc c) sell h = settled_none n (λ i. f (suc i)) c sell (λ i. h (suc i))

pub settled_stamped : (x : Exchange) → StampsAsNumbers (settled x)
unfolding settled settled_listing listing_at all_of
settled_stamped x =
    record {
      next = refl;
      orders = λ c sell. rw (settled_none (length x.listings) (settled_listing x) c sell (λ i.
          (for_either (λ s. own s (settled_listing x i) ≡ []) refl refl sell))) refl;
    }

-- where each order enters with one number for both, it stays so
pub entered_stamped : (x y : Exchange) → StampsAsNumbers x → (new : List Stamped) → (y.nextstamp ≡ y.next) × Alike new → Follow x new y → StampsAsNumbers y
entered_stamped x y h new alike f = record { next = alike.0; orders = follow_stamped x y h new alike.1 f }

-- there price and time stamp are price and number, and 10 falls where it did
pub ahead_by_number : (sell : Bool) (o p : Order) → stamp_is_number o ≡ true → stamp_is_number p ≡ true →
    ahead sell o p ≡ (worse sell p.price o.price || eqb o.price p.price && ltb o.number p.number)
unfolding ahead
ahead_by_number sell o p e f = rw (eqb-true o.stamp o.number e, eqb-true p.stamp p.number f) refl

pub used_up_by_number : (x : Exchange) → StampsAsNumbers x → (numbers_used_up x || stamps_used_up x) ≡ numbers_used_up x
used_up_by_number x h = rw h.next (same (numbers_used_up x))
  where
    same : (b : Bool) → (b || b) ≡ b
    same true = refl
    same false = refl
