-- A queue's resting lots summed by account in one pass. Assumes nothing.
use Rattle.laws.specs.Logic.{Bool, true, false, ◌&&◌, List, ◌≡◌, refl, sym, ap, subst, ◌∙◌}
use Rattle.laws.specs.Numbers.{ℕ, ◌+◌, ◌*◌, ◌<◌, ◌≤◌, arith, eqb-true, eqb-false, eq-eqb, ne_eqb, eqb, length, get_or, set, take, replicate, length-replicate}
use Rattle.laws.specs.Numbers.{length-set, get_or-replicate, take_all, get_or-set_same, get_or-set_other}
use Rattle.laws.specs.Choice.{pick, all_of_at, false_both, both_false, true_both}
use Rattle.laws.specs.Sums.{sum_of, sum_of_more}
use Rattle.rules.specs.Bounds.{max_accounts, max_lots}
use Rattle.rules.specs.Exchange.{Listing, lots_where, no_order, own, resting}
use Rattle.rules.specs.WellFormed.{held_in_range, holding_in_range, order_in_range}
use Rattle.rules.specs.declared.{Holding.Holding, Order.Order}
use Rattle.invariants.proofs.Clauses.{order_ok}
use Rattle.audit.specs.Parts.{Summable, Summed, listing_in_range}
use Rattle.audit.proofs.Clauses.{listing_tested}

-- what a listing in range says of its orders
pub orders_summable : (accounts next nextstamp : ℕ) (l : Listing) → accounts ≤ max_accounts → listing_in_range accounts next nextstamp l ≡ true →
    (sell : Bool) (i : ℕ) → i < length (own sell l) → Summable (get_or (own sell l) i no_order)
orders_summable accounts next nextstamp l few h sell i b =
    let k = order_ok accounts next nextstamp l.contract (get_or (own sell l) i no_order) (all_of_at (order_in_range accounts next nextstamp l.contract) (own sell l) i no_order ((listing_tested accounts next nextstamp l h).orders sell) b) in
    record { account = omega (arith, k.account); close = k.close; lots = k.lots_high }

-- the order met at place i, with its account's place
pub record Met (queue : List Order) (i : ℕ) (o : Order) : Type 0 where
  pub it : get_or queue i no_order ≡ o
  pub there : i < length queue
  pub summable : Summable o
  pub place : 2 * o.account + o.close < 2 * max_accounts

pub met : {queue : List Order} {i : ℕ} {o : Order} → ((i : ℕ) → i < length queue → Summable (get_or queue i no_order)) → i < length queue
    → o ≡ get_or queue i no_order → Met queue i o
met {queue} {i} {o} summables l e =
    let s : Summable o = subst (λ (o : Order). Summable o) (sym e) (summables i l) in
    record { it = sym e; there = l; summable = s; place = omega (arith, s.account, s.close) }

-- `lots` has the resting lots of the first i orders by account, the opens of each before its closes
pub record Summing (queue : List Order) (i : ℕ) (lots : List ℕ) : Type 0 where
  pub room : length lots ≡ 2 * max_accounts
  pub small : (k : ℕ) → k < 2 * max_accounts → get_or lots k 0 ≤ max_lots * i
  pub sums : (a close : ℕ) → a < max_accounts → close ≤ 1 → get_or lots (2 * a + close) 0 ≡ resting close a (take i queue)

pub summing_none : (queue : List Order) → Summing queue 0 (replicate (2 * max_accounts) 0)
unfolding resting lots_where sum_of
summing_none queue =
    record {
      room = length-replicate {A = ℕ} (2 * max_accounts) 0;
      small = λ k l. omega (arith, get_or-replicate {A = ℕ} (2 * max_accounts) k 0 0 l);
      sums = λ a close l m. get_or-replicate {A = ℕ} (2 * max_accounts) (2 * a + close) 0 0 (omega arith);
    }

pub summing_all : {queue : List Order} {i : ℕ} {lots : List ℕ} → Summing queue i lots → i ≡ length queue → Summed queue lots
summing_all {queue} {i} m e = record { sums = λ a close l h. m.sums a close l h ∙ ap (resting close a) (take_all i queue (omega arith)) }

-- a holding tested by sums of its queues' lots
pub held_same : (l : Listing) (a : ℕ) (h : Holding) {bought sold : List ℕ} → Summed l.buys bought → Summed l.sells sold → a < max_accounts
    → held_in_range h l.contract.limit (get_or bought (2 * a) 0) (get_or bought (2 * a + 1) 0) (get_or sold (2 * a) 0) (get_or sold (2 * a + 1) 0) ≡ holding_in_range l a h
unfolding held_in_range holding_in_range
held_same l a h {bought} {sold} b s few =
    let z : 2 * a ≡ 2 * a + 0 = omega arith in
    let buyopens : get_or bought (2 * a) 0 ≡ resting 0 a l.buys = ap (λ (k : ℕ). get_or bought k 0) z ∙ b.sums a 0 few (omega arith) in
    let sellopens : get_or sold (2 * a) 0 ≡ resting 0 a l.sells = ap (λ (k : ℕ). get_or sold k 0) z ∙ s.sums a 0 few (omega arith) in
    rw (buyopens, b.sums a 1 few (omega arith), sellopens, s.sums a 1 few (omega arith)) refl

-- the next order, with its lots at its account's place
module _ {queue : List Order} {i : ℕ} {lots : List ℕ} (m : Summing queue i lots) (there : i < length queue) {o : Order} (it : get_or queue i no_order ≡ o) (s : Summable o) {at : ℕ} (p : at ≡ 2 * o.account + o.close) where
  resting_more : (close a : ℕ) → resting close a (take (i + 1) queue) ≡ resting close a (take i queue) + pick (eqb o.account a && eqb o.close close) o.lots 0
  unfolding resting lots_where
  resting_more close a = sum_of_more (λ o. pick (eqb o.account a && eqb o.close close) o.lots 0) queue i no_order there ∙ rw it

  inside : at < 2 * max_accounts
  inside = omega (arith, s.account, s.close)

  same_place : (a close : ℕ) → close ≤ 1 → 2 * a + close ≡ at → (o.account ≡ a) × (o.close ≡ close)
  same_place a close h e = (omega (arith, s.close), omega (arith, s.close))

  other_place : (a close : ℕ) → (2 * a + close ≡ at → ⊥) → (b : Bool) → eqb o.account a ≡ b → (eqb o.account a && eqb o.close close) ≡ false
  other_place a close other true e = both_false (eqb o.account a) (eqb o.close close) (ne_eqb o.close close (λ (q : o.close ≡ close). other (omega (arith, p, q, eqb-true o.account a e))))
  other_place a close other false e = false_both (eqb o.account a) (eqb o.close close) e

  pub summing_more : Summing queue (i + 1) (set lots at (get_or lots at 0 + o.lots))
  summing_more =
      record {
        room = length-set lots at _ ∙ m.room;
        small = λ k l. small k (eqb k at) refl l;
        sums = λ a close l h. sums a close (eqb (2 * a + close) at) refl l h;
      }
    where
      small : (k : ℕ) (b : Bool) → eqb k at ≡ b → k < 2 * max_accounts → get_or (set lots at (get_or lots at 0 + o.lots)) k 0 ≤ max_lots * (i + 1)
      small k true e l = rw (eqb-true k at e, get_or-set_same lots at (get_or lots at 0 + o.lots) 0 (omega (arith, m.room, inside))) (omega (arith, m.small at inside, s.lots))
      small k false e l = rw (get_or-set_other lots at k (get_or lots at 0 + o.lots) 0 (eqb-false k at e)) (omega (arith, m.small k l))

      sums : (a close : ℕ) (b : Bool) → eqb (2 * a + close) at ≡ b → a < max_accounts → close ≤ 1 → get_or (set lots at (get_or lots at 0 + o.lots)) (2 * a + close) 0 ≡ resting close a (take (i + 1) queue)
      sums a close true e l h =
          let q : 2 * a + close ≡ at = eqb-true _ _ e in
          let k = same_place a close h q in
          let before : get_or lots at 0 ≡ resting close a (take i queue) = ap (λ (n : ℕ). get_or lots n 0) (sym q) ∙ m.sums a close l h in
          let here : get_or (set lots at (get_or lots at 0 + o.lots)) (2 * a + close) 0 ≡ get_or lots at 0 + o.lots = ap (λ (n : ℕ). get_or (set lots at (get_or lots at 0 + o.lots)) n 0) q ∙ get_or-set_same lots at _ 0 (omega (arith, m.room, inside)) in
          here ∙ ap (λ (n : ℕ). n + o.lots) before
          ∙ sym (resting_more close a ∙ ap (λ (t : Bool). resting close a (take i queue) + pick t o.lots 0) (true_both (eqb o.account a) (eqb o.close close) (eq-eqb _ _ k.0) (eq-eqb _ _ k.1)))
      sums a close false e l h =
          let other : 2 * a + close ≡ at → ⊥ = eqb-false _ _ e in
          let none : resting close a (take i queue) + 0 ≡ resting close a (take i queue) = omega arith in
          get_or-set_other lots at _ _ 0 other ∙ m.sums a close l h
          ∙ sym (resting_more close a ∙ ap (λ (t : Bool). resting close a (take i queue) + pick t o.lots 0) (other_place a close other (eqb o.account a) refl) ∙ none)
