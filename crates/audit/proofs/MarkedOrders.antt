-- The marked orders of a queue met in turn: those of each account are counted, and the first that may not stand decides. Assumes nothing.
use Rattle.laws.specs.Logic.{Bool, true, false, List, ◌≡◌, refl, sym, ap, subst, ◌∙◌}
use Rattle.laws.specs.Numbers.{ℕ, ◌+◌, ◌<◌, ◌≤◌, arith, eqb-true, eqb-false, eq-eqb, ne_eqb, le-leb, lt-leb, leb-true, leb-false, eqb, leb, length, get_or, set, take, replicate}
use Rattle.laws.specs.Numbers.{length-replicate, length-set, length-take-le, get_or-take, get_or-replicate, take_all, get_or-set_same, get_or-set_other}
use Rattle.laws.specs.Choice.{pick, all, all_of, all_none, all_more, all_stop, all_true, all_of_all, all_of_at, all_of_stop, both_false, false_both, true_both}
use Rattle.laws.specs.Sums.{sum_of, sum_of_more, sum_of_take}
use Rattle.rules.specs.Exchange.{Listing, account_at, no_account, no_order, own}
use Rattle.rules.specs.WellFormed.{is_quote_of, mark_allowed, order_in_range, queue_quoted, quotes}
use Rattle.rules.specs.declared.{Account.Account, Order.Order}
use Rattle.invariants.proofs.Clauses.{order_ok}
use Rattle.audit.specs.Parts.{Markable, listing_in_range}
use Rattle.audit.proofs.Clauses.{listing_tested}

-- what a listing in range says of its orders
pub orders_markable : (accounts next nextstamp : ℕ) (l : Listing) → listing_in_range accounts next nextstamp l ≡ true →
    (sell : Bool) (i : ℕ) → i < length (own sell l) → Markable accounts (get_or (own sell l) i no_order)
orders_markable accounts next nextstamp l h sell i b =
    let k = order_ok accounts next nextstamp l.contract (get_or (own sell l) i no_order) (all_of_at (order_in_range accounts next nextstamp l.contract) (own sell l) i no_order ((listing_tested accounts next nextstamp l h).orders sell) b) in
    record { account = k.account; quote = k.quote }

-- the orders before place i may stand, and `seen` tells the accounts that have a marked one
pub record Met (accounts : List Account) (queue : List Order) (i : ℕ) (seen : List Bool) : Type 0 where
  pub room : length seen ≡ 32
  pub allowed : all (λ j. mark_allowed accounts (get_or queue j no_order)) i ≡ true
  pub counts : (a : ℕ) → a < length accounts → get_or seen a false ≡ leb 1 (quotes a (take i queue))
  pub single : (a : ℕ) → a < length accounts → quotes a (take i queue) ≤ 1

module _ (accounts : List Account) (few : length accounts ≤ 32) (queue : List Order) where
  pub met_none : Met accounts queue 0 (replicate 32 false)
  unfolding quotes sum_of
  met_none =
      record {
        room = length-replicate {A = Bool} 32 false;
        allowed = all_none _;
        counts = λ a l. get_or-replicate {A = Bool} 32 a false false (omega arith);
        single = λ a l. omega arith;
      }

  -- the queue passes, or does not
  pub all_met : {i : ℕ} {seen : List Bool} → Met accounts queue i seen → i ≡ length queue → true ≡ queue_quoted accounts queue
  unfolding queue_quoted
  all_met {i} m e =
      sym (true_both (all_of (mark_allowed accounts) queue) _
      (all_of_all (mark_allowed accounts) queue no_order ∙ rw (← e) m.allowed)
      (all_true (λ a. leb (quotes a queue) 1) (length accounts) (λ a l. le-leb _ _ (rw (take_all i queue (omega arith)) at (m.single a l)))))

  module _ {i : ℕ} {seen : List Bool} (m : Met accounts queue i seen) (there : i < length queue) {o : Order} (it : get_or queue i no_order ≡ o) where
    quotes_more : (a : ℕ) → quotes a (take (i + 1) queue) ≡ quotes a (take i queue) + pick (is_quote_of a o) 1 0
    unfolding quotes
    quotes_more a = sum_of_more (λ o. pick (is_quote_of a o) 1 0) queue i no_order there ∙ rw it

    -- an order without a mark
    pub met_unmarked : o.quote ≡ 0 → Met accounts queue (i + 1) seen
    unfolding mark_allowed
    met_unmarked none =
        record {
          room = m.room;
          allowed = all_more _ i m.allowed (rw (it, none) refl);
          counts = λ a l. m.counts a l ∙ rw (same a) refl;
          single = λ a l. rw (same a) (m.single a l);
        }
      where
        same : (a : ℕ) → quotes a (take (i + 1) queue) ≡ quotes a (take i queue)
        same a = quotes_more a ∙ rw (none, both_false (eqb o.account a) false refl) (omega arith)

    -- one that may not stand
    not_allowed : mark_allowed accounts o ≡ false → false ≡ queue_quoted accounts queue
    unfolding queue_quoted
    not_allowed e = sym (false_both (all_of (mark_allowed accounts) queue) _ (all_of_stop (mark_allowed accounts) queue i no_order there (rw it e)))

-- a marked order is met: it stands at place i, and its account at `place`
pub record MarkMet (accounts : List Account) (queue : List Order) (i : ℕ) (seen : List Bool) (o : Order) (place : ℕ) : Type 0 where
  pub few : length accounts ≤ 32
  pub met : Met accounts queue i seen
  pub there : i < length queue
  pub it : get_or queue i no_order ≡ o
  pub whose : place ≡ o.account
  pub may : Markable (length accounts) o
  pub some : o.quote ≡ 0 → ⊥

-- among the n accounts in use of those that lie there
module _ (l : List Account) (n : ℕ) (room : length l ≡ 32) (high : n ≤ 32) where
  in_use : length (take n l) ≡ n
  in_use = length-take-le n l (omega arith)

  pub few_accounts : length (take n l) ≤ 32
  few_accounts = omega (arith, in_use)

  pub maker_read : {a : ℕ} → a < length (take n l) → (account_at (take n l) a).maker ≡ (get_or l a no_account).maker
  unfolding account_at
  maker_read {a} h = ap (λ (v : Account). v.maker) (get_or-take n l a no_account (omega (arith, in_use)))

  -- the order at place i has a mark
  pub mark_met : (queue : List Order) {i : ℕ} {seen : List Bool} {o : Order}
      → ((i : ℕ) → i < length queue → Markable n (get_or queue i no_order)) → i < length queue → o ≡ get_or queue i no_order
      → Met (take n l) queue i seen → (o.quote ≡ 0 → ⊥) → MarkMet (take n l) queue i seen o o.account
  mark_met queue {i} {seen} {o} markable h e m some =
      let may : Markable n o = subst (λ (o : Order). Markable n o) (sym e) (markable i h) in
      record {
        few = few_accounts;
        met = m;
        there = h;
        it = sym e;
        whose = refl;
        may = record { account = omega (arith, may.account, in_use); quote = may.quote };
        some = some;
      }

module _ {accounts : List Account} {queue : List Order} {i : ℕ} {seen : List Bool} {o : Order} {place : ℕ} (g : MarkMet accounts queue i seen o place) where
  marked : o.quote ≡ 1
  marked = omega (arith, g.may.quote, g.some)

  pub met_no_maker : ((account_at accounts place).maker ≡ 1 → ⊥) → false ≡ queue_quoted accounts queue
  unfolding mark_allowed
  met_no_maker h = not_allowed accounts g.few queue g.met g.there g.it (rw (marked, ← g.whose, ne_eqb _ _ h) refl)

  pub met_close : (o.close ≡ 0 → ⊥) → false ≡ queue_quoted accounts queue
  unfolding mark_allowed
  met_close h = not_allowed accounts g.few queue g.met g.there g.it (rw (marked, ne_eqb _ _ h) (both_false (eqb (account_at accounts o.account).maker 1) false refl))

  one_more : quotes place (take (i + 1) queue) ≡ quotes place (take i queue) + 1
  one_more = quotes_more accounts g.few queue g.met g.there g.it place ∙ rw (marked, eq-eqb o.account place (sym g.whose)) refl

  none_more : (a : ℕ) → (a ≡ place → ⊥) → quotes a (take (i + 1) queue) ≡ quotes a (take i queue)
  none_more a other = quotes_more accounts g.few queue g.met g.there g.it a ∙ rw (ne_eqb o.account a (λ e. other (sym e ∙ sym g.whose))) (omega arith)

  here : place < length accounts
  here = omega (arith, g.may.account)

  -- one of an account that has one
  pub met_again : get_or seen place false ≡ true → false ≡ queue_quoted accounts queue
  unfolding queue_quoted quotes
  met_again h =
      let two : 1 < quotes place queue = omega (arith, leb-true 1 _ (sym (g.met.counts place here) ∙ h), one_more, sum_of_take (λ o. pick (is_quote_of place o) 1 0) (i + 1) queue) in
      sym (both_false (all_of (mark_allowed accounts) queue) (all (λ a. leb (quotes a queue) 1) (length accounts))
      (all_stop (λ a. leb (quotes a queue) 1) place (length accounts) here (lt-leb _ _ two)))

  pub met_marked : (account_at accounts place).maker ≡ 1 → o.close ≡ 0 → get_or seen place false ≡ false → Met accounts queue (i + 1) (set seen place true)
  unfolding mark_allowed
  met_marked maker opens first =
      record {
        room = length-set seen place true ∙ g.met.room;
        allowed = all_more _ i g.met.allowed (rw (g.it, marked, ← g.whose, maker, opens) refl);
        counts = λ a l. (by_place a (eqb a place) refl l).0;
        single = λ a l. (by_place a (eqb a place) refl l).1;
      }
    where
      none : quotes place (take i queue) ≡ 0
      none = omega (arith, leb-false 1 _ (sym (g.met.counts place here) ∙ first))

      by_place : (a : ℕ) (b : Bool) → eqb a place ≡ b → a < length accounts → (get_or (set seen place true) a false ≡ leb 1 (quotes a (take (i + 1) queue))) × (quotes a (take (i + 1) queue) ≤ 1)
      by_place a true e l = rw (eqb-true a place e, one_more, none) (get_or-set_same seen place true false (omega (arith, g.met.room)), omega arith)
      by_place a false e l =
          let other : a ≡ place → ⊥ = eqb-false a place e in
          (get_or-set_other seen place a true false other ∙ g.met.counts a l ∙ rw (none_more a other) refl, rw (none_more a other) (g.met.single a l))
