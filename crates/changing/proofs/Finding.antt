-- The order with a number in one queue: found there, taken out and put back, and its lots written. Assumes nothing.
use mathlib.Core.Bool.{true, false, false≢true}
use mathlib.Core.List.{List, [], ◌∷◌, ◌++◌}
use mathlib.Core.Path.{◌≡◌, refl, sym, ap, ◌∙◌}
use Prim.Native.Nat.{ℕ, zero, suc, ◌-◌, ◌<◌, ◌≤◌, max}
use native.Mathlib.Nat.{eq-or-lt_of_le, le_of_suc-le-suc}
use mathlib.Core.Logic.{⊎_elim}
use native.Mathlib.Omega.{arith}
use lib.ListN.{length, get_or, set}
use Rattle.areas.specs.Lists.{insert_at, remove_at}
use Rattle.areas.proofs.Lists.{length_remove_at}
use Rattle.rules.specs.Answers.{no_such_order, numbered}
use Rattle.rules.specs.Change.{lessened, unmarked}
use Rattle.rules.specs.Exchange.{no_order}
use Rattle.rules.specs.Matching.{with_lots}
use Rattle.rules.specs.Memory.{first_word, put_queue, queue_in}
use Rattle.std.proofs.Common.{None, Some}
use Rattle.book.specs.Places.{FoundIs, index_of}
use Rattle.book.specs.declared.orders.Found.{Found}
use Rattle.rules.specs.Step.{has_number}
use Rattle.rules.specs.WellFormed.{listed, numbers, used_once}
use Rattle.rules.specs.declared.Order.{Order}
use Rattle.theory.proofs.Codecs.{length_queue, put_queue_lem, put_queue_put_queue, queue_put}
use Rattle.theory.proofs.Queue.{once_append}
use Rattle.book.proofs.Places.{first_ind, first_here, first_within, index_apart, index_not_in, numbered_append_found, numbered_append_none, numbered_found, numbered_none}
use Rattle.changing.specs.Resting.{RestingIs, put_back_in}

-- ---- the order found, on one side or the other

module _ (number : ℕ) (bought sold : List Order) where
  pub among_buys : {f : Found} → FoundIs number bought (Some f) → RestingIs number bought sold (record { order = f.order; place = f.place; sell = false })
  unfolding no_such_order
  among_buys {f} is =
      let l : index_of number bought < length bought = omega (arith, is.0, is.1) in
      let its : get_or bought (index_of number bought) no_order ≡ f.order = rw (← is.1) (sym is.2) in
      record {
        order = numbered_append_found number bought sold l ∙ ap (λ (p : Order). p ∷ []) its;
        sell = sym (rw (numbered_found number bought l));
        place = is.1;
        within = is.0;
      }

  module _ (missing : FoundIs number bought None) where
    pub among_sells : {f : Found} → FoundIs number sold (Some f) → RestingIs number bought sold (record { order = f.order; place = f.place; sell = true })
    unfolding no_such_order
    among_sells {f} is =
        let l : index_of number sold < length sold = omega (arith, is.0, is.1) in
        let its : get_or sold (index_of number sold) no_order ≡ f.order = rw (← is.1) (sym is.2) in
        record {
          order = numbered_append_none number bought sold missing ∙ numbered_found number sold l ∙ ap (λ (p : Order). p ∷ []) its;
          sell = sym (rw (numbered_none number bought missing));
          place = is.1;
          within = is.0;
        }

    pub nowhere : FoundIs number sold None → numbered number (bought ++ sold) ≡ []
    nowhere none = numbered_append_none number bought sold missing ∙ numbered_none number sold none

-- the other way round: where no order has the number, the search ends past the last
pub missing_of : (number : ℕ) (os : List Order) → no_such_order (numbered number os) ≡ true → index_of number os ≡ length os
unfolding no_such_order
missing_of number os h =
    ⊎_elim (λ e. e) (λ l. absurd (false≢true (rw (numbered_found number os l) at h))) (eq-or-lt_of_le (first_within (has_number number) os))

-- ---- taken out and put back

put_in_place : {A : Type 0} (i : ℕ) (os : List A) (d : A) → i < length os → insert_at i (get_or os i d) (remove_at i os) ≡ os
unfolding insert_at remove_at
put_in_place i [] d h = absurd (omega arith)
put_in_place zero (o ∷ os) d h = refl
put_in_place {A = A} (suc i) (o ∷ os) d h = ap (λ (l : List A). o ∷ l) (put_in_place i os d (le_of_suc-le-suc h))

-- area₁ is the area without the order at place i of contract c's queue, area₂ that with it put back
pub restored : (area : List ℕ) (c n i : ℕ) (o : Order) → i < n → first_word c n ≤ length area → get_or (queue_in area c n) i no_order ≡ o
    → {area₁ area₂ : List ℕ} {count : ℕ} → area₁ ≡ put_queue area c n (remove_at i (queue_in area c n)) → count ≡ n - 1 → area₂ ≡ put_back_in area₁ c count i o → area₂ ≡ area
restored area c n i o h room is e₁ ec e₂ =
    let q : List Order = queue_in area c n in
    let l : length (remove_at i q) ≡ n - 1 = length_remove_at i q (rw (length_queue area c n) h) ∙ rw (length_queue area c n) in
    let read : queue_in (put_queue area c n (remove_at i q)) c (n - 1) ≡ remove_at i q = rw (← l) (queue_put area c n (remove_at i q) (omega arith)) in
    let back : insert_at i o (remove_at i q) ≡ q = rw (← is) (put_in_place i q no_order (rw (length_queue area c n) h)) in
    let more : max n (n - 1) ≡ n = omega arith in
    e₂ ∙ rw (e₁, ec, read, back, put_queue_put_queue area c n (remove_at i q) (n - 1) q (omega (arith, l)) (omega arith), more, put_queue_lem area c n room)

-- ---- fewer lots

module _ (number lots : ℕ) where
  pub lessened_none : (os : List Order) → index_of number os ≡ length os → lessened number lots os ≡ os
  unfolding lessened
  lessened_none =
      first_ind (has_number number) (λ os i. i ≡ length os → lessened number lots os ≡ os) (λ h. refl) (λ o os e h. absurd (omega arith))
      (λ o os i e ih h. rw e (ap (λ (l : List Order). o ∷ l) (ih (omega arith))))

  -- used once, it is no later order's
  only : (o : Order) (os : List Order) → has_number number o ≡ true → used_once (numbers (o ∷ os)) ≡ true → index_of number os ≡ length os
  unfolding listed
  only o os e u = index_not_in number os (index_apart number (o ∷ []) (numbers os) u (rw (first_here (has_number number) o [] e) (omega arith)))

  later_once : (o : Order) (os : List Order) → used_once (numbers (o ∷ os)) ≡ true → used_once (numbers os) ≡ true
  unfolding listed
  later_once o os u = (once_append (numbers (o ∷ [])) (numbers os) u).1

  pub lessened_one : (os : List Order) → used_once (numbers os) ≡ true → index_of number os < length os
      → lessened number lots os ≡ set os (index_of number os) (unmarked (with_lots (get_or os (index_of number os) no_order) lots))
  unfolding lessened
  lessened_one =
      first_ind (has_number number) (λ os i. used_once (numbers os) ≡ true → i < length os → lessened number lots os ≡ set os i (unmarked (with_lots (get_or os i no_order) lots))) (λ u h. absurd (omega arith))
      (λ o os e u h. rw e (ap (λ (l : List Order). unmarked (with_lots o lots) ∷ l) (lessened_none os (only o os e u))))
      (λ o os i e ih u h. rw e (ap (λ (l : List Order). o ∷ l) (ih (later_once o os u) (le_of_suc-le-suc h))))
